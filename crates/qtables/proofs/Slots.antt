-- Entries in slots under the keys of an index, and both after a look-up, a new entry, a write and a removal.
use Rattle.qtables.proofs.Common.{◌≡◌, ◌≢◌, inl, inr, ℕ, zero, suc, ◌+◌, ◌<◌, true, false, cond, not, eqb, List, []}
use Rattle.qtables.proofs.Common.{◌∷◌, ◌++◌, length, refl, sym, ap, ◌∙◌, arith, length-append, subst, option_map}
use Rattle.qtables.proofs.Common.{is_some, AllByRecursion, ne_eqb, eq-eqb, eqb-true, eqb-false, cases_eq, sum_by-set}
use Rattle.qtables.proofs.Common.{entry_at, with_record, without_entry, IsRising}
use Rattle.std.specs.Prelude.{Option, None, Some, slice_get, slice_index_or, filter_map, count_by}
use Rattle.slab.specs.Slab.{Slab, get, slab_len, ContainsKey, Updates, with_value}
use Rattle.slab.proofs.SlabLemmas.{ContainsKey-within, Updates-with_value}
use Rattle.qtables.specs.Slots.{entries_at, Holds, IsIndexed}

no_more : (n id k : ℕ) (ix : List (ℕ × ℕ)) → n ≡ id → AllByRecursion (λ p. n < p.0) ix
    → AllByRecursion (λ p. p.0 ≡ id → p.1 ≡ k) ix
no_more n id k [] same all = tt
no_more n id k (p ∷ ix) same all = let lt : n < p.0 = all.0 in (λ e. absurd (omega arith), no_more n id k ix same all.1)

-- a number occurs once, with one key
only_key : (ix : List (ℕ × ℕ)) (id k : ℕ) → IsRising ix → entry_at ix id ≡ Some k
    → AllByRecursion (λ p. p.0 ≡ id → p.1 ≡ k) ix
only_key [] id k up there = tt
only_key (p ∷ ix) id k up there =
    elim (eqb p.0 id) as (λ b. eqb p.0 id ≡ b → cond b (Some p.1) (entry_at ix id) ≡ Some k → (p.0 ≡ id → p.1 ≡ k)
    × AllByRecursion (λ p. p.0 ≡ id → p.1 ≡ k) ix) [
      | true ↦ λ e t. let key : p.1 ≡ k = cc in
          let same : p.0 ≡ id = eqb-true p.0 id e in
          (λ _. key, no_more p.0 id k ix same up.0)
      | false ↦ λ e t. (λ same. absurd (eqb-false p.0 id e same), only_key ix id k up.1 t)
    ] refl there

all_push : (P : ℕ → Type 0) (ix : List (ℕ × ℕ)) (n k : ℕ) → P n → AllByRecursion (λ p. P p.0) ix
    → AllByRecursion (λ p. P p.0) (ix ++ (n, k) ∷ [])
all_push P [] n k here all = (here, tt)
all_push P (p ∷ ix) n k here all = (all.0, all_push P ix n k here all.1)

rising_push : (ix : List (ℕ × ℕ)) (n k : ℕ) → IsRising ix → AllByRecursion (λ p. p.0 < n) ix
    → IsRising (ix ++ (n, k) ∷ [])
rising_push [] n k up below = (tt, tt)
rising_push (p ∷ ix) n k up below = (all_push (λ m. p.0 < m) ix n k below.0 up.0, rising_push ix n k up.1 below.1)

all_without : (P : ℕ → Type 0) (ix : List (ℕ × ℕ)) (id : ℕ) → AllByRecursion (λ p. P p.0) ix
    → AllByRecursion (λ p. P p.0) (without_entry ix id)
all_without P [] id all = tt
all_without P (p ∷ ix) id all =
    elim (eqb p.0 id)
    as (λ b. AllByRecursion (λ q. P q.0) (cond (not b) (p ∷ without_entry ix id) (without_entry ix id))) [
      | true ↦ all_without P ix id all.1
      | false ↦ (all.0, all_without P ix id all.1)
    ]

rising_without : (ix : List (ℕ × ℕ)) (id : ℕ) → IsRising ix → IsRising (without_entry ix id)
rising_without [] id up = tt
rising_without (p ∷ ix) id up =
    elim (eqb p.0 id) as (λ b. IsRising (cond (not b) (p ∷ without_entry ix id) (without_entry ix id))) [
      | true ↦ rising_without ix id up.1
      | false ↦ (all_without (λ m. p.0 < m) ix id up.0, rising_without ix id up.1)
    ]

counts_one : {X : Type 0} (o : Option X) → is_some o ≡ true → cond {A = ℕ} (is_some o) 1 0 ≡ 1
counts_one o there = rw there refl

module _ {R : Type 0} where
  -- each place of an index has its entry
  abbrev pub AllHeld : Slab (ℕ × R) → List (ℕ × ℕ) → Type 0
  AllHeld s ix = AllByRecursion (Holds s) ix

  -- there are as many entries as places in the index
  pub length-entries_at : (s : Slab (ℕ × R)) (ix : List (ℕ × ℕ)) → AllHeld s ix → length (entries_at s ix) ≡ length ix
  length-entries_at s [] all = refl
  length-entries_at s (p ∷ ix) all = rw all.0.1 (ap suc (length-entries_at s ix all.1))

  -- the entry of a place
  pub slice_get-entries_at : (s : Slab (ℕ × R)) (ix : List (ℕ × ℕ)) (i : ℕ) (p : ℕ × ℕ) → AllHeld s ix
      → slice_get ix i ≡ Some p → slice_get (entries_at s ix) i ≡ get s p.1
  slice_get-entries_at s [] i p all there = absurd (cc)
  slice_get-entries_at s (q ∷ ix) zero p all there = let same : q ≡ p = cc in rw (all.0.1, ← same) (sym all.0.1)
  slice_get-entries_at s (q ∷ ix) (suc i) p all there = rw all.0.1 (slice_get-entries_at s ix i p all.1 there)

  -- a statement that holds for all numbers of the index holds for the numbers of the entries
  pub all_entries : (P : ℕ → Type 0) (s : Slab (ℕ × R)) (ix : List (ℕ × ℕ)) → AllHeld s ix
      → AllByRecursion (λ p. P p.0) ix → AllByRecursion (λ e. P e.0) (entries_at s ix)
  all_entries P s [] all h = tt
  all_entries P s (p ∷ ix) all h = rw all.0.1 (h.0, all_entries P s ix all.1 h.1)

  -- a statement that holds for all numbers of the entries holds for the numbers of the index
  pub all_places : (P : ℕ → Type 0) (s : Slab (ℕ × R)) (ix : List (ℕ × ℕ)) → AllHeld s ix
      → AllByRecursion (λ e. P e.0) (entries_at s ix) → AllByRecursion (λ p. P p.0) ix
  all_places P s [] all h = tt
  all_places P s (p ∷ ix) all h = let split = rw all.0.1 at h in (split.0, all_places P s ix all.1 split.1)

  -- the entries rise if the index does
  pub IsRising-entries_at : (s : Slab (ℕ × R)) (ix : List (ℕ × ℕ)) → AllHeld s ix → IsRising ix
      → IsRising (entries_at s ix)
  IsRising-entries_at s [] all up = tt
  IsRising-entries_at s (p ∷ ix) all up =
      rw all.0.1 (all_entries (λ n. p.0 < n) s ix all.1 up.0, IsRising-entries_at s ix all.1 up.1)

  -- a number that isn't in the index has no entry
  pub entry_at_none : (s : Slab (ℕ × R)) (ix : List (ℕ × ℕ)) (id : ℕ) → AllHeld s ix → entry_at ix id ≡ None
      → entry_at (entries_at s ix) id ≡ None
  entry_at_none s [] id all absent = refl
  entry_at_none s (p ∷ ix) id all absent =
      rw all.0.1 (
      elim (eqb p.0 id) as (λ b. cond b (Some p.1) (entry_at ix id) ≡ None
      → cond b (Some all.0.0) (entry_at (entries_at s ix) id) ≡ None) [
        | true ↦ λ a. absurd (cc)
        | false ↦ λ a. entry_at_none s ix id all.1 a
      ] absent
      )

  -- the slot under the key of a number has the number's entry
  pub entry_at_key : (s : Slab (ℕ × R)) (ix : List (ℕ × ℕ)) (id k : ℕ) → AllHeld s ix → entry_at ix id ≡ Some k
      → (r : R) × (get s k ≡ Some (id, r)) × (entry_at (entries_at s ix) id ≡ Some r)
  entry_at_key s [] id k all there = absurd (cc)
  entry_at_key s (p ∷ ix) id k all there =
      rw all.0.1 (
      elim (eqb p.0 id) as (λ b. eqb p.0 id ≡ b → cond b (Some p.1) (entry_at ix id) ≡ Some k
      → (r : R) × (get s k ≡ Some (id, r)) × (cond b (Some all.0.0) (entry_at (entries_at s ix) id) ≡ Some r)) [
        | true ↦ λ e t. let number : p.0 ≡ id = eqb-true p.0 id e in
            let key : p.1 ≡ k = cc in
            (all.0.0, rw (number, key) at all.0.1, refl)
        | false ↦ λ e t. entry_at_key s ix id k all.1 t
      ] refl there
      )

  same_number : (o : Option (ℕ × R)) (a b : ℕ) (x y : R) → o ≡ Some (a, x) → o ≡ Some (b, y) → a ≡ b
  same_number o a b x y e f =
      let number = option_map (λ (z : ℕ × R). z.0) in
      let first : number o ≡ Some a = ap number e in
      let second : number o ≡ Some b = ap number f in
      cc

  -- another number has another key
  key_differs : (s : Slab (ℕ × R)) (p : ℕ × ℕ) (id k : ℕ) (r : R) → Holds s p → get s k ≡ Some (id, r) → p.0 ≢ id
      → p.1 ≢ k
  key_differs s p id k r held there differs same =
      differs (same_number (get s k) p.0 id held.0 r (rw same at held.1) there)

  module _ (s t : Slab (ℕ × R)) (id k : ℕ) (r : R) (there : get s k ≡ Some (id, r)) where
    -- a write of the record of a number
    written : (w : R) → Updates s t k (Some (id, w)) → (ix : List (ℕ × ℕ)) → AllHeld s ix
        → AllByRecursion (λ p. p.0 ≡ id → p.1 ≡ k) ix → (entries_at t ix ≡ with_record (entries_at s ix) id w)
        × AllHeld t ix
    written w up [] all only = (refl, tt)
    written w up (p ∷ ix) all only =
        let rest = written w up ix all.1 only.1 in
        elim (cases_eq p.0 id) [
          | inl same ↦
              let here : get t p.1 ≡ Some (p.0, w) = ap (get t) (only.0 same) ∙ up.changed
              ∙ ap (λ n. Some (n, w)) (sym same) in
              (rw (all.0.1, here, eq-eqb p.0 id same) (ap (λ es. (p.0, w) ∷ es) rest.0), ((w, here), rest.1))
          | inr differs ↦
              let here : get t p.1 ≡ Some (p.0, all.0.0) = up.others p.1 (key_differs s p id k r all.0 there differs)
              ∙ all.0.1 in (
                rw (all.0.1, here, ne_eqb p.0 id differs) (ap (λ es. (p.0, all.0.0) ∷ es) rest.0),
                (
                  (all.0.0, here),
                  rest.1,
                ),
              )
        ]

    -- a removal of the entry of a number
    removed : Updates s t k None → (ix : List (ℕ × ℕ)) → AllHeld s ix
        → (entries_at t (without_entry ix id) ≡ without_entry (entries_at s ix) id) × AllHeld t (without_entry ix id)
    removed up [] all = (refl, tt)
    removed up (p ∷ ix) all =
        let rest = removed up ix all.1 in
        elim (cases_eq p.0 id) [
          | inl same ↦ rw (all.0.1, eq-eqb p.0 id same) rest
          | inr differs ↦
              let here : get t p.1 ≡ Some (p.0, all.0.0) = up.others p.1 (key_differs s p id k r all.0 there differs)
              ∙ all.0.1 in
              rw (all.0.1, ne_eqb p.0 id differs, here) (
                ap (λ es. (p.0, all.0.0) ∷ es) rest.0,
                ((all.0.0, refl), rest.1),
              )
        ]

  -- a new entry under a key that was free
  added : (s t : Slab (ℕ × R)) (n k : ℕ) (r : R) → get s k ≡ None → Updates s t k (Some (n, r)) → (ix : List (ℕ × ℕ))
      → AllHeld s ix → (entries_at t (ix ++ (n, k) ∷ []) ≡ entries_at s ix ++ (n, r) ∷ [])
      × AllHeld t (ix ++ (n, k) ∷ [])
  added s t n k r free up [] all = (rw up.changed, ((r, up.changed), tt))
  added s t n k r free up (p ∷ ix) all =
      let rest = added s t n k r free up ix all.1 in
      let differs : p.1 ≢ k = λ same. absurd_entry (sym all.0.1 ∙ ap (get s) same ∙ free) in
      let here : get t p.1 ≡ Some (p.0, all.0.0) = up.others p.1 differs ∙ all.0.1 in
      (rw (all.0.1, here) (ap (λ es. (p.0, all.0.0) ∷ es) rest.0), ((all.0.0, here), rest.1))
    where
      absurd_entry : {A X : Type 0} {x : X} → Some x ≡ None → A
      absurd_entry e = absurd (cc)

  -- after a call reserved room, the table is the same, because the slots are
  pub IsIndexed-same : (s t : Slab (ℕ × R)) (ix : List (ℕ × ℕ)) → t.slots ≡ s.slots → IsIndexed s ix → IsIndexed t ix
  IsIndexed-same s t ix same was =
      record {
        rising = was.rising;
        held =
            subst (λ (xs : List (Option (ℕ × R))). AllByRecursion
            (λ p. (r : R) × (slice_index_or xs p.1 None ≡ Some (p.0, r))) ix) (sym same) was.held;
        all = ap (count_by is_some) same ∙ was.all;
      }

  pub entries_at-same : (s t : Slab (ℕ × R)) (ix : List (ℕ × ℕ)) → t.slots ≡ s.slots → entries_at t ix ≡ entries_at s ix
  entries_at-same s t ix same =
      ap (λ (xs : List (Option (ℕ × R))). filter_map (λ (p : ℕ × ℕ). slice_index_or xs p.1 None) ix) same

  -- removing a number that isn't there changes nothing
  pub without_none : (es : List (ℕ × R)) (id : ℕ) → entry_at es id ≡ None → without_entry es id ≡ es
  without_none [] id absent = refl
  without_none (e ∷ es) id absent =
      elim (eqb e.0 id) as (λ b. cond b (Some e.1) (entry_at es id) ≡ None
      → cond (not b) (e ∷ without_entry es id) (without_entry es id) ≡ e ∷ es) [
        | true ↦ λ a. absurd (cc)
        | false ↦ λ a. ap (λ l. e ∷ l) (without_none es id a)
      ] absent

  -- a key that the index has is in use
  pub key_in_use : (s : Slab (ℕ × R)) (ix : List (ℕ × ℕ)) (id k : ℕ) → AllHeld s ix → entry_at ix id ≡ Some k
      → ContainsKey s k
  key_in_use s ix id k all there = rw (entry_at_key s ix id k all there).1 refl

  -- the entry under the key of a number is the number's entry
  pub entry_known : (s : Slab (ℕ × R)) (ix : List (ℕ × ℕ)) (id k : ℕ) (e : ℕ × R) → AllHeld s ix
      → entry_at ix id ≡ Some k → get s k ≡ Some e → (e.0 ≡ id) × (entry_at (entries_at s ix) id ≡ Some e.1)
  entry_known s ix id k e all there found =
      let at = entry_at_key s ix id k all there in
      (same_number (get s k) e.0 id e.1 at.0 found at.1, at.2 ∙ ap (option_map (λ (z : ℕ × R). z.1)) (sym at.1 ∙ found))

  -- the key at a place of the index holds the entry of the number there
  pub held_at : (s : Slab (ℕ × R)) (ix : List (ℕ × ℕ)) (i : ℕ) (p : ℕ × ℕ) → AllHeld s ix → slice_get ix i ≡ Some p
      → Holds s p
  held_at s [] i p all there = absurd (cc)
  held_at s (q ∷ ix) zero p all there = let same : q ≡ p = cc in rw (← same) all.0
  held_at s (q ∷ ix) (suc i) p all there = held_at s ix i p all.1 there

  -- a new entry at the end
  pub created : (s t : Slab (ℕ × R)) (ix : List (ℕ × ℕ)) (n k : ℕ) (r : R) → IsIndexed s ix
      → AllByRecursion (λ e. e.0 < n) (entries_at s ix) → get s k ≡ None → Updates s t k (Some (n, r))
      → slab_len t ≡ slab_len s + 1 → (entries_at t (ix ++ (n, k) ∷ []) ≡ entries_at s ix ++ (n, r) ∷ [])
      × IsIndexed t (ix ++ (n, k) ∷ [])
  created s t ix n k r was below free up more =
      let both = added s t n k r free up ix was.held in (
        both.0,
        record {
          rising = rising_push ix n k was.rising (all_places (λ m. m < n) s ix was.held below);
          held = both.1;
          all = omega (arith, more, was.all, length-append ix ((n, k) ∷ []));
        },
      )

  -- the entry of a number is removed
  pub taken : (s t : Slab (ℕ × R)) (ix left : List (ℕ × ℕ)) (id k : ℕ) → IsIndexed s ix → entry_at ix id ≡ Some k
      → Updates s t k None → slab_len t + 1 ≡ slab_len s → left ≡ without_entry ix id → length left + 1 ≡ length ix
      → (entries_at t left ≡ without_entry (entries_at s ix) id) × IsIndexed t left
  taken s t ix left id k was there up fewer is short =
      let at = entry_at_key s ix id k was.held there in
      let both = removed s t id k at.0 at.1 up ix was.held in (
        rw is both.0,
        record {
          rising = rw is (rising_without ix id was.rising);
          held = rw is both.1;
          all = omega (arith, fewer, was.all, short);
        },
      )

  -- the record of a number is written
  pub lent : (s : Slab (ℕ × R)) (ix : List (ℕ × ℕ)) (id k : ℕ) (e : ℕ × R) → IsIndexed s ix → entry_at ix id ≡ Some k
      → get s k ≡ Some e → (w : R) → (entries_at (with_value s k (e.0, w)) ix ≡ with_record (entries_at s ix) id w)
      × IsIndexed (with_value s k (e.0, w)) ix
  lent s ix id k e was there found w =
      let at = entry_at_key s ix id k was.held there in
      let number = (entry_known s ix id k e was.held there found).0 in
      let used : ContainsKey s k = key_in_use s ix id k was.held there in
      let within = ContainsKey-within s k used in
      let up = Updates-with_value s k (id, w) used in
      let both =
      written s (with_value s k (id, w)) id k at.0 at.1 w up ix was.held (only_key ix id k was.rising there) in
      let one = counts_one (get s k) used in
      let count = sum_by-set (λ o. cond (is_some o) 1 0) s.slots k (Some (id, w)) None within in
      rw number (both.0, record { rising = was.rising; held = both.1; all = omega (arith, one, count, was.all) })
