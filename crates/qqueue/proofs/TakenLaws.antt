-- The invariant of a queue's lists when one item is removed.
use Rattle.qqueue.proofs.Common.{◌≡◌, ◌≢◌, ℕ, ◌+◌, List, [], ◌∷◌, ◌++◌, Bool, true, cond, refl, ap, sym, subst, ◌∙◌}
use Rattle.qqueue.proofs.Common.{inl, inr, zero-add, append-nil, AllByRecursion, option_map, cases_eq, cases_Bool}
use Rattle.qqueue.proofs.Common.{true≢false, Slab, get, Updates, all_more, Item, Node, is_pulse, without_item}
use Rattle.qqueue.proofs.Common.{put_place, places_of, items_at, pulses_of, Rises, is_on, keys_on, item_of, after_of}
use Rattle.qqueue.proofs.Common.{before_of, Linked, Ring, first_of, Relinked, SameLinks, ClosedUp, AreRings}
use Rattle.std.specs.Prelude.{Option, None, Some, is_some, IsSome}
use Rattle.qqueue.proofs.PlaceLaws.{places_put, places_same, only_place, rises_but_put, without_put, all_places}
use Rattle.qqueue.proofs.PlaceLaws.{pulses_put}
use Rattle.qqueue.proofs.RingLaws.{Apart, apart_turn, last_from, last_all, all_split, all_join, ring_turn, ring_away}
use Rattle.qqueue.proofs.RingLaws.{ring_but_first, Stands, matches, keys_put, keys_put_other, keys_apart}
use Rattle.qqueue.proofs.KeptLaws.{on_true, on_from, IsOf, held, placed, at_place, keys_used, used_apart}

-- a node is removed from the slab
module _ (first : Bool → ℕ → Option ℕ) (s removed : Slab Node) (key : ℕ) (node : Node) (own : Bool) where
  pub record IsRemoved : Type 0 where
    pub kind : is_pulse node.item.what ≡ own
    pub up : Rises (places_of s)
    pub rings : AreRings first s
    pub there : get s key ≡ Some node
    pub gone : Updates s removed key None

  -- the ring that begins at the removed node, its other keys, and the node's links
  pub record Turned (rest : List ℕ) : Type 0 where
    pub ring : Ring s (key ∷ rest)
    pub apart : Apart (key ∷ rest)
    pub used : AllByRecursion (IsOf s own node.item.priority) rest
    pub links : Stands rest key node.before node.after

  -- the place of the node in its ring, before and after the removal
  pub record MatchesAt : Type 0 where
    pub front : List ℕ
    pub back : List ℕ
    pub before : keys_on own node.item.priority (places_of s) ≡ front ++ key ∷ back
    pub after : keys_on own node.item.priority (places_of removed) ≡ front ++ back
    pub turn : Turned (back ++ front)

  module _ (h : IsRemoved) where
    pub was : item_of s key ≡ Some node.item
    was = ap (option_map (λ n. n.item)) h.there

    free : item_of removed key ≡ None
    free = ap (option_map (λ n. n.item)) h.gone.changed

    items : (x : ℕ) → x ≢ key → item_of removed x ≡ item_of s x
    items x differs = ap (option_map (λ n. n.item)) (h.gone.others x differs)

    -- all other items have other numbers
    apart : (k : ℕ) (other : Item) → item_of removed k ≡ Some other → other.number ≢ node.item.number
    apart k other left same =
        elim (cases_eq k key) [
          | inl here ↦ let both : Some other ≡ None = sym left ∙ ap (item_of removed) here ∙ free in absurd (cc)
          | inr elsewhere ↦
              elsewhere (at_place (λ q. q.0.number ≡ node.item.number → q.1 ≡ key) s k other
              (only_place (node.item, key) (places_of s) h.up (placed s key node.item was))
              (sym (items k elsewhere) ∙ left) same)
        ]

    pub removed_put : places_of s ≡ put_place (node.item, key) (places_of removed)
    removed_put =
        places_put 0 removed.slots s.slots key node.item (λ j ne. sym (items j ne)) free was apart
        ∙ ap (λ i. put_place (node.item, i) (places_of removed)) (zero-add key)

    pub removed_rises : Rises (places_of removed)
    removed_rises = rises_but_put (node.item, key) (places_of removed) (subst Rises removed_put h.up)

    pub removed_items : items_at (places_of removed) ≡ without_item node.item.number (items_at (places_of s))
    removed_items =
        sym (ap (λ l. without_item node.item.number (items_at l)) removed_put
        ∙ without_put (node.item, key) (places_of removed)
        (all_places (λ q. q.0.number ≢ node.item.number) 0 removed.slots apart))

    turned : (front back : List ℕ) → keys_on own node.item.priority (places_of s) ≡ front ++ key ∷ back
        → Turned (back ++ front)
    turned front back is =
        let level = node.item.priority in
        let ring : Ring s (key ∷ (back ++ front)) =
        ring_turn s front (key ∷ back) (subst (Ring s) is (h.rings own level).1) in
        let used =
        all_split (IsOf s own level) front (key ∷ back)
        (subst (AllByRecursion (IsOf s own level)) is (keys_used s own level)) in
        let after : after_of s key ≡ Some node.after = ap (option_map (λ n. n.after)) h.there in
        let before : before_of s key ≡ Some node.before = ap (option_map (λ n. n.before)) h.there in
        record {
          ring = ring;
          apart = apart_turn front (key ∷ back) (subst Apart is (keys_apart s own level (places_of s) h.up (held s)));
          used = all_join (IsOf s own level) back front used.1.1 used.0;
          links = matches s key node.before node.after (back ++ front) ring after before;
        }

    pub matches_at : MatchesAt
    matches_at =
        let level = node.item.priority in
        let on : is_on own level (node.item, key) ≡ true = on_from own level (node.item, key) h.kind refl in
        let found = keys_put own level (node.item, key) (places_of removed) on in
        let before : keys_on own level (places_of s) ≡ found.0 ++ key ∷ found.1 = ap (keys_on own level) removed_put
        ∙ found.3 in
        record {
          front = found.0;
          back = found.1;
          before = before;
          after = found.2;
          turn = turned found.0 found.1 before;
        }

    neighbours_of : (rest : List ℕ) → Turned rest → node.after ≢ key → IsOf s own node.item.priority node.after
        × IsOf s own node.item.priority node.before × (node.before ≢ key)
    neighbours_of [] t among = absurd (among (t.links.alone refl))
    neighbours_of (c ∷ rest) t among =
        let level = node.item.priority in
        let l = t.links.among c rest refl in (
          subst (IsOf s own level) (sym l.0) t.used.0,
          subst (IsOf s own level) (sym l.1) (last_all (IsOf s own level) c rest t.used.0 t.used.1),
          λ e. last_all (λ k. k ≢ key) c rest t.apart.0.0 t.apart.0.1 (sym l.1 ∙ e),
        )

    -- a node that isn't the only one of its ring has neighbours of its kind and level
    pub neighbours : node.after ≢ key → IsOf s own node.item.priority node.after
        × IsOf s own node.item.priority node.before × (node.before ≢ key)
    neighbours among = neighbours_of (matches_at.back ++ matches_at.front) matches_at.turn among

    -- the neighbours are still there
    pub neighbours_there : node.after ≢ key → IsSome (item_of removed node.before) × IsSome (item_of removed node.after)
    neighbours_there among =
        let near = neighbours among in
        (ap is_some (items node.before near.2 ∙ near.1.1), ap is_some (items node.after among ∙ near.0.1))

-- the ring of the removed node is closed
module _ (first after_first : Bool → ℕ → Option ℕ) (s removed t : Slab Node) (key : ℕ) (node : Node) (own : Bool)
    (h : IsRemoved first s removed key node own) where
  pub record IsClosed : Type 0 where
    pub closed : ClosedUp (first own) (after_first own) removed t key node
    pub others : (pulse : Bool) (level : ℕ) → ((own ≡ pulse) → (node.item.priority ≡ level) → ⊥)
        → after_first pulse level ≡ first pulse level

  module _ (done : IsClosed) where
    same_places : places_of t ≡ places_of removed
    same_places = places_same 0 removed.slots t.slots done.closed.items

    pub taken_rises : Rises (places_of t)
    taken_rises = subst Rises (sym same_places) (removed_rises first s removed key node own h)

    pub taken_places : places_of s ≡ put_place (node.item, key) (places_of t)
    taken_places = removed_put first s removed key node own h ∙ ap (put_place (node.item, key)) (sym same_places)

    pub taken_items : items_at (places_of t) ≡ without_item node.item.number (items_at (places_of s))
    taken_items = ap items_at same_places ∙ removed_items first s removed key node own h

    pub taken_pulses : pulses_of (items_at (places_of s)) ≡ pulses_of (items_at (places_of t)) + cond
        (is_pulse node.item.what) 1 0
    taken_pulses =
        ap (λ l. pulses_of (items_at l)) (removed_put first s removed key node own h)
        ∙ subst (λ l. pulses_of (items_at (put_place (node.item, key) (places_of removed))) ≡ pulses_of
        (items_at l) + cond (is_pulse node.item.what) 1 0) (sym same_places)
        (pulses_put (node.item, key) (places_of removed))

    relinked : (u v : ℕ) → Relinked removed t u v key → Relinked s t u v key
    relinked u v changed = record {
      after = λ x xu xk. changed.after x xu xk ∙ ap (option_map (λ n. n.after)) (h.gone.others x xk);
      before = λ x xv xk. changed.before x xv xk ∙ ap (option_map (λ n. n.before)) (h.gone.others x xk);
    }

    relinked_same : SameLinks removed t → Relinked s t key key key
    relinked_same same = record {
      after = λ x xk _. same.after x ∙ ap (option_map (λ n. n.after)) (h.gone.others x xk);
      before = λ x xk _. same.before x ∙ ap (option_map (λ n. n.before)) (h.gone.others x xk);
    }

    abbrev IsRing : Bool → ℕ → List ℕ → Type 0
    IsRing pulse level keys = (after_first pulse level ≡ first_of keys) × Ring t keys

    -- the first key of the node's ring after the removal
    begins : (front back : List ℕ) → first own node.item.priority ≡ first_of (front ++ key ∷ back)
        → Apart (key ∷ (back ++ front)) → (c : ℕ) (rest : List ℕ) → back ++ front ≡ c ∷ rest → node.after ≡ c
        → node.after ≢ key
        → after_first own node.item.priority ≡ first_of (front ++ back)
    begins [] back at_first apart c rest is next among =
        let tail : back ≡ c ∷ rest = sym (append-nil back) ∙ is in
        done.closed.from_first among at_first ∙ ap (λ x. Some x) next ∙ sym (ap first_of tail)
    begins (x ∷ front) back at_first apart c rest is next among =
        let differs : x ≢ key = (all_split (λ k. k ≢ key) back (x ∷ front) apart.0).1.0 in
        done.closed.from_other among (λ e. let same : Some x ≡ Some key = sym at_first ∙ e in differs (cc)) ∙ at_first

    own_ring : (front back : List ℕ) → first own node.item.priority ≡ first_of (front ++ key ∷ back) → (rest : List ℕ)
        → back ++ front ≡ rest → Turned first s removed key node own rest
        → IsRing own node.item.priority (front ++ back)
    own_ring [] [] at_first [] is turn = ((done.closed.alone (turn.links.alone refl)).0, tt)
    own_ring [] (x ∷ back) at_first [] is turn = absurd (cc)
    own_ring (x ∷ front) [] at_first [] is turn = absurd (cc)
    own_ring (x ∷ front) (y ∷ back) at_first [] is turn = absurd (cc)
    own_ring front back at_first (c ∷ rest) is turn =
        let l = turn.links.among c rest refl in
        let among : node.after ≢ key = λ e. turn.apart.0.0 (sym l.0 ∙ e) in
        let j = done.closed.closed among in
        let changed : Relinked s t (last_from c rest) c key =
        subst (λ v. Relinked s t (last_from c rest) v key) l.0
        (subst (λ u. Relinked s t u node.after key) l.1 (relinked node.before node.after j.1)) in
        let linked : Linked t (last_from c rest) c =
        subst (λ v. Linked t (last_from c rest) v) l.0 (subst (λ u. Linked t u node.after) l.1 j.0) in
        let ring : Ring t (c ∷ rest) = ring_but_first s t key c rest turn.ring turn.apart changed linked in (
          begins front back at_first (subst (λ k. Apart (key ∷ k)) (sym is) turn.apart) c rest is l.0 among,
          ring_turn t
              back front (subst (Ring t) (sym is) ring),
        )

    ring_of_own : IsRing own node.item.priority (keys_on own node.item.priority (places_of t))
    ring_of_own =
        let level = node.item.priority in
        let at_own = matches_at first s removed key node own h in
        let now : keys_on own level (places_of t) ≡ at_own.front ++ at_own.back = ap (keys_on own level) same_places
        ∙ at_own.after in
        subst (IsRing own level) (sym now)
        (own_ring at_own.front at_own.back ((h.rings own level).0 ∙ ap first_of at_own.before)
        (at_own.back ++ at_own.front) refl at_own.turn)

    other_ring : (pulse : Bool) (level : ℕ) → ((own ≡ pulse) → (node.item.priority ≡ level) → ⊥)
        → Ring t (keys_on pulse level (places_of s))
    other_ring pulse level differs =
        let keys = keys_on pulse level (places_of s) in
        let not_key : (k : ℕ) → IsOf s pulse level k → k ≢ key =
        λ k at_k. used_apart s pulse own level node.item.priority k key at_k (
          node.item,
          was first s removed key node own h,
          h.kind,
          refl,
        ) (λ p l. differs (sym p) (sym l)) in
        elim (cases_eq node.after key) [
          | inl alone ↦
              ring_away s t key key key (relinked_same (done.closed.alone alone).1) keys
              (all_more (IsOf s pulse level) (λ k. (k ≢ key) × (k ≢ key) × (k ≢ key)) keys (keys_used s pulse level)
              (λ k at_k. let ne = not_key k at_k in (ne, ne, ne)))
              (h.rings pulse level).1
          | inr among ↦
              let near = neighbours first s removed key node own h among in
              ring_away s t node.before node.after key (relinked node.before node.after (done.closed.closed among).1)
              keys
              (all_more (IsOf s pulse level) (λ k. (k ≢ node.before) × (k ≢ node.after) × (k ≢ key)) keys
              (keys_used s pulse level)
              (λ k at_k. (
                used_apart s pulse own level node.item.priority k node.before at_k near.1
                    (λ p l. differs (sym p) (sym l)),
                used_apart s pulse own level node.item.priority k node.after at_k near.0
                    (λ p l. differs (sym p) (sym l)),
                not_key k at_k,
              )))
              (h.rings pulse level).1
        ]

    pub taken_rings : AreRings after_first t
    taken_rings pulse level =
        elim (cases_Bool (is_on pulse level (node.item, key))) [
          | inl on ↦
              let which = on_true pulse level (node.item, key) on in
              subst (λ b. IsRing b level (keys_on b level (places_of t))) (sym h.kind ∙ which.0)
              (subst (λ l. IsRing own l (keys_on own l (places_of t))) which.1 ring_of_own)
          | inr off ↦
              let differs : (own ≡ pulse) → (node.item.priority ≡ level) → ⊥ =
              λ p l. true≢false (sym (on_from pulse level (node.item, key) (h.kind ∙ p) l) ∙ off) in
              let now : keys_on pulse level (places_of s) ≡ keys_on pulse level (places_of t) =
              ap (keys_on pulse level) (removed_put first s removed key node own h)
              ∙ keys_put_other pulse level (node.item, key) (places_of removed) off
              ∙ sym (ap (keys_on pulse level) same_places) in
              subst (IsRing pulse level) now (
                done.others pulse level differs ∙ (h.rings pulse level).0,
                other_ring pulse level differs,
              )
        ]
