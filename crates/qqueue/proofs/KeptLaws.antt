-- The items under the keys of a queue's rings.
use Rattle.qqueue.proofs.Common.{◌≡◌, ◌≢◌, ℕ, suc, ◌<◌, List, [], ◌∷◌, length, Bool, true, false, eqb, refl, ap, sym}
use Rattle.qqueue.proofs.Common.{subst, ◌∙◌, arith, zero-add, AllByRecursion, eq-eqb, eqb-true, true≢false, Slab}
use Rattle.qqueue.proofs.Common.{slab_len, all_more, Item, Node, is_pulse, places_of, is_on, keys_on, item_of, first_of}
use Rattle.qqueue.proofs.Common.{AreRings}
use Rattle.std.specs.Prelude.{Option, None, Some, not, ◌&&◌}
use Rattle.qqueue.proofs.PlaceLaws.{all_places, at_places, In, all_in, length-places_from}
use Rattle.qqueue.proofs.RingLaws.{all_keys}

-- ---- the kind and the level of an item

pub on_true : (pulse : Bool) (level : ℕ) (p : Item × ℕ) → is_on pulse level p ≡ true → (is_pulse p.0.what ≡ pulse)
    × (p.0.priority ≡ level)
on_true true level p on =
    elim (is_pulse p.0.what) as (λ b. (b && eqb p.0.priority level) ≡ true → (b ≡ true) × (p.0.priority ≡ level)) [
      | true ↦ λ e. (refl, eqb-true p.0.priority level e)
      | false ↦ λ e. absurd (true≢false (sym e))
    ] on
on_true false level p on =
    elim (is_pulse p.0.what) as (λ b. (not b && eqb p.0.priority level) ≡ true → (b ≡ false) × (p.0.priority ≡ level)) [
      | true ↦ λ e. absurd (true≢false (sym e))
      | false ↦ λ e. (refl, eqb-true p.0.priority level e)
    ] on

pub on_from : (pulse : Bool) (level : ℕ) (p : Item × ℕ) → is_pulse p.0.what ≡ pulse → p.0.priority ≡ level
    → is_on pulse level p ≡ true
on_from true level p kind same = rw (kind, eq-eqb p.0.priority level same) refl
on_from false level p kind same = rw (kind, eq-eqb p.0.priority level same) refl

-- ---- the items under the keys

-- under the key is an item of this kind and level
abbrev pub IsOf : Slab Node → Bool → ℕ → ℕ → Type 0
IsOf s pulse level k = (item : Item) × (item_of s k ≡ Some item) × (is_pulse item.what ≡ pulse)
    × (item.priority ≡ level)

-- each place's item is under its key
pub held : (s : Slab Node) → AllByRecursion (λ p. item_of s p.1 ≡ Some p.0) (places_of s)
held s =
    all_places (λ p. item_of s p.1 ≡ Some p.0) 0 s.slots
    (λ k item e. subst (λ i. item_of s i ≡ Some item) (sym (zero-add k)) e)

-- each item under a key has a place
pub placed : (s : Slab Node) (k : ℕ) (item : Item) → item_of s k ≡ Some item → In (item, k) (places_of s)
placed s k item there =
    subst (λ i. In (item, i) (places_of s)) (zero-add k)
    (at_places (λ p. In p (places_of s)) 0 s.slots k item (all_in (places_of s)) there)

pub at_place : (P : Item × ℕ → Type 0) (s : Slab Node) (k : ℕ) (item : Item) → AllByRecursion P (places_of s)
    → item_of s k ≡ Some item → P (item, k)
at_place P s k item all there = subst (λ i. P (item, i)) (zero-add k) (at_places P 0 s.slots k item all there)

pub keys_used : (s : Slab Node) (pulse : Bool) (level : ℕ)
    → AllByRecursion (IsOf s pulse level) (keys_on pulse level (places_of s))
keys_used s pulse level =
    all_keys (IsOf s pulse level) pulse level (places_of s)
    (all_more (λ p. item_of s p.1 ≡ Some p.0) (λ p. is_on pulse level p ≡ true → IsOf s pulse level p.1) (places_of s)
    (held s)
    (λ p there on. let which = on_true pulse level p on in (p.0, there, which.0, which.1)))

-- keys of items of different kinds or levels differ
pub used_apart : (s : Slab Node) (pulse other : Bool) (level other_level k m : ℕ) → IsOf s pulse level k
    → IsOf s other other_level m → ((pulse ≡ other) → (level ≡ other_level) → ⊥) → k ≢ m
used_apart s pulse other level other_level k m at_k at_m apart same =
    let both : Some at_k.0 ≡ Some at_m.0 = sym at_k.1 ∙ ap (item_of s) same ∙ at_m.1 in
    let one : at_k.0 ≡ at_m.0 = cc in
    apart (sym at_k.2 ∙ ap (λ (i : Item). is_pulse i.what) one ∙ at_m.2)
    (sym at_k.3 ∙ ap (λ (i : Item). i.priority) one ∙ at_m.3)

-- a key without an item differs from the keys of items
pub used_not_free : (s : Slab Node) (pulse : Bool) (level k free : ℕ) → item_of s free ≡ None → IsOf s pulse level k
    → k ≢ free
used_not_free s pulse level k free none at_k same =
    let both : Some at_k.0 ≡ None = sym at_k.1 ∙ ap (item_of s) same ∙ none in absurd (cc)

-- if some level has a first key, there is a node
pub some_node : (first : Bool → ℕ → Option ℕ) (s : Slab Node) → AreRings first s → (pulse : Bool) (level key : ℕ)
    → first pulse level ≡ Some key → 0 < slab_len s
some_node first s rings pulse level key begins = by_places (places_of s) refl
  where
    by_places : (places : List (Item × ℕ)) → places_of s ≡ places → 0 < slab_len s
    by_places [] is =
        let none : Some key ≡ None = sym begins ∙ (rings pulse level).0
        ∙ ap (λ l. first_of (keys_on pulse level l)) is in absurd (cc)
    by_places (p ∷ places) is =
        let long : length (places_of s) ≡ suc (length places) = ap length is in
        omega (arith, long, length-places_from 0 s.slots)
