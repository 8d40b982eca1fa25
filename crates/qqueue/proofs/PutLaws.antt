-- The invariant of a queue's lists when one item is added.
use Rattle.qqueue.proofs.Common.{◌≡◌, ◌≢◌, ℕ, List, [], ◌∷◌, ◌++◌, Bool, refl, ap, sym, subst, ◌∙◌, inl, inr, zero-add}
use Rattle.qqueue.proofs.Common.{AllByRecursion, cases_Bool, true≢false, Slab, all_more, Item, Node, is_pulse}
use Rattle.qqueue.proofs.Common.{put_place, places_after, places_of, Rises, is_on, keys_on, item_of, after_of}
use Rattle.qqueue.proofs.Common.{before_of, Linked, Ring, first_of, Relinked, SameLinks, Joined, AreRings}
use Rattle.std.specs.Prelude.{Option, None, Some, unwrap_or, is_some, IsSome}
use Rattle.qqueue.proofs.PlaceLaws.{places_put, rises_put}
use Rattle.qqueue.proofs.RingLaws.{Apart, apart_turn, last_from, last_all, path_end, all_split, all_join, ring_turn}
use Rattle.qqueue.proofs.RingLaws.{ring_away, ring_between, keys_put_after, keys_put_other, keys_apart}
use Rattle.qqueue.proofs.KeptLaws.{on_true, on_from, IsOf, held, at_place, keys_used, used_apart, used_not_free}

-- ---- the place of the new item

module _ (first : Bool → ℕ → Option ℕ) (s : Slab Node) (item : Item) (own : Bool) (next : Option ℕ) where
  -- next is the first key of the item's kind and level with a greater number
  pub record Awaits : Type 0 where
    pub kind : is_pulse item.what ≡ own
    pub up : Rises (places_of s)
    pub rings : AreRings first s
    pub next_is : next ≡ first_of (keys_on own item.priority (places_after item.number (places_of s)))

  pub awaits : is_pulse item.what ≡ own → Rises (places_of s) → AreRings first s
      → next ≡ first_of (keys_on (is_pulse item.what) item.priority (places_after item.number (places_of s))) → Awaits
  awaits kind up rings is = record {
    kind = kind;
    up = up;
    rings = rings;
    next_is = subst (λ b. next ≡ first_of (keys_on b item.priority (places_after item.number (places_of s)))) kind is;
  }

  -- the keys before the new key and after it
  pub record Split (key : ℕ) : Type 0 where
    pub front : List ℕ
    pub back : List ℕ
    pub was : keys_on own item.priority (places_of s) ≡ front ++ back
    pub put : keys_on own item.priority (put_place (item, key) (places_of s)) ≡ front ++ key ∷ back
    pub next_is : next ≡ first_of back

  -- the ring from next on, or from its head if there is no next
  pub record Opened (front back : List ℕ) (head : ℕ) : Type 0 where
    pub rest : List ℕ
    pub turned : back ++ front ≡ unwrap_or next head ∷ rest
    pub ring : Ring s (unwrap_or next head ∷ rest)
    pub apart : Apart (unwrap_or next head ∷ rest)
    pub used : AllByRecursion (IsOf s own item.priority) (unwrap_or next head ∷ rest)

  turn : (front back : List ℕ) (head : ℕ) → first_of (front ++ back) ≡ Some head → next ≡ first_of back
      → (rest : List ℕ) × (back ++ front ≡ unwrap_or next head ∷ rest)
  turn [] [] head begins is = absurd (cc)
  turn [] (c ∷ back) head begins is = (back ++ [], ap (λ x. x ∷ (back ++ [])) (sym (ap (λ n. unwrap_or n head) is)))
  turn (x ∷ front) [] head begins is = let same : x ≡ head = cc in
      (front, ap (λ y. y ∷ front) (same ∙ sym (ap (λ n. unwrap_or n head) is)))
  turn (x ∷ front) (c ∷ back) head begins is =
      (back ++ x ∷ front, ap (λ y. y ∷ (back ++ x ∷ front)) (sym (ap (λ n. unwrap_or n head) is)))

  module _ (a : Awaits) where
    pub split : (key : ℕ) → Split key
    split key =
        let found =
        keys_put_after own item.priority (item, key) (places_of s) a.up
        (on_from own item.priority (item, key) a.kind refl) in
        record {
          front = found.0;
          back = keys_on own item.priority (places_after item.number (places_of s));
          was = found.1;
          put = found.2;
          next_is = a.next_is;
        }

    pub opened : (key : ℕ) (parts : Split key) (head : ℕ) → first own item.priority ≡ Some head
        → Opened parts.front parts.back head
    opened key parts head begins =
        let level = item.priority in
        let mine = keys_on own level (places_of s) in
        let turned =
        turn parts.front parts.back head (ap first_of (sym parts.was) ∙ sym (a.rings own level).0 ∙ begins)
        parts.next_is in
        let used =
        all_split (IsOf s own level) parts.front parts.back
        (subst (AllByRecursion (IsOf s own level)) parts.was (keys_used s own level)) in
        record {
          rest = turned.0;
          turned = turned.1;
          ring =
              subst (Ring s) turned.1
              (ring_turn s parts.front parts.back (subst (Ring s) parts.was (a.rings own level).1));
          apart =
              subst Apart turned.1
              (apart_turn parts.front parts.back
              (subst Apart parts.was (keys_apart s own level (places_of s) a.up (held s))));
          used =
              subst (AllByRecursion (IsOf s own level)) turned.1
              (all_join (IsOf s own level) parts.back parts.front used.1 used.0);
        }

    -- the requirements of joining a node to its ring
    module _ (added : Slab Node) (key : ℕ) (free : item_of s key ≡ None)
        (items : (x : ℕ) → x ≢ key → item_of added x ≡ item_of s x) where
      used_there : (x : ℕ) → IsOf s own item.priority x → IsSome (item_of added x) × (x ≢ key)
      used_there x at_x =
          let ne = used_not_free s own item.priority x key free at_x in (ap is_some (items x ne ∙ at_x.1), ne)

      pub next_there : (head : ℕ) → first own item.priority ≡ Some head → IsSome (item_of added (unwrap_or next head))
          × (unwrap_or next head ≢ key)
      next_there head begins = used_there (unwrap_or next head) (opened key (split key) head begins).used.0

      pub prior_there : ((x : ℕ) → x ≢ key → before_of added x ≡ before_of s x) → (head prior : ℕ)
          → first own item.priority ≡ Some head → before_of added (unwrap_or next head) ≡ Some prior
          → IsSome (item_of added prior) × (prior ≢ key)
      prior_there before head prior begins is =
          let c = unwrap_or next head in
          let o = opened key (split key) head begins in
          let last : before_of added c ≡ Some (last_from c o.rest) = before c (next_there head begins).1
          ∙ path_end s c o.rest c o.ring in
          let same : last_from c o.rest ≡ prior = cc in
          used_there prior
          (subst (IsOf s own item.priority) same (last_all (IsOf s own item.priority) c o.rest o.used.0 o.used.1))

-- ---- one more item

module _ (first after_first : Bool → ℕ → Option ℕ) (s added t : Slab Node) (item : Item) (key : ℕ) (own : Bool)
    (next : Option ℕ) where
  pub record IsPut : Type 0 where
    pub awaits : Awaits first s item own next
    pub apart : AllByRecursion (λ place. place.0.number ≢ item.number) (places_of s)
    pub free : item_of s key ≡ None
    pub there : item_of added key ≡ Some item
    pub alone : Linked added key key
    pub items : (x : ℕ) → x ≢ key → item_of added x ≡ item_of s x
    pub after : (x : ℕ) → x ≢ key → after_of added x ≡ after_of s x
    pub before : (x : ℕ) → x ≢ key → before_of added x ≡ before_of s x
    pub joined : Joined (first own) (after_first own) added t item.priority key next
    pub others : (pulse : Bool) (level : ℕ) → ((own ≡ pulse) → (item.priority ≡ level) → ⊥)
        → after_first pulse level ≡ first pulse level

  module _ (h : IsPut) where
    pub put_places : places_of t ≡ put_place (item, key) (places_of s)
    put_places =
        places_put 0 s.slots t.slots key item (λ j ne. h.joined.items j ∙ h.items j ne) h.free
        (h.joined.items key ∙ h.there)
        (λ j other e. at_place (λ p. p.0.number ≢ item.number) s j other h.apart e)
        ∙ ap (λ i. put_place (item, i) (places_of s)) (zero-add key)

    pub put_rises : Rises (places_of t)
    put_rises = subst Rises (sym put_places) (rises_put (item, key) (places_of s) h.awaits.up h.apart)

    relinked : (u v : ℕ) → Relinked added t u v key → Relinked s t u v key
    relinked u v changed = record {
      after = λ x xu xk. changed.after x xu xk ∙ h.after x xk;
      before = λ x xv xk. changed.before x xv xk ∙ h.before x xk;
    }

    relinked_same : SameLinks added t → Relinked s t key key key
    relinked_same same = record {
      after = λ x xk _. same.after x ∙ h.after x xk;
      before = λ x xk _. same.before x ∙ h.before x xk;
    }

    parts : Split first s item own next key
    parts = split first s item own next h.awaits key

    not_key : (keys : List ℕ) → AllByRecursion (IsOf s own item.priority) keys → AllByRecursion (λ k. k ≢ key) keys
    not_key keys used =
        all_more (IsOf s own item.priority) (λ k. k ≢ key) keys used
        (λ k at_k. used_not_free s own item.priority k key h.free at_k)

    -- the links of the new node, and the links that changed
    record Between (c : ℕ) (rest : List ℕ) : Type 0 where
      linked : Linked t (last_from c rest) key
      closed : Linked t key c
      changed : Relinked s t (last_from c rest) c key

    between : (head : ℕ) → first own item.priority ≡ Some head
        → (o : Opened first s item own next parts.front parts.back head) → Between (unwrap_or next head) o.rest
    between head begins o =
        let c = unwrap_or next head in
        let last = last_from c o.rest in
        let not_c : c ≢ key = used_not_free s own item.priority c key h.free o.used.0 in
        let j = h.joined.among head last begins (h.before c not_c ∙ path_end s c o.rest c o.ring) in
        record { linked = j.0; closed = j.1; changed = relinked last c j.2 }

    -- the first key of the ring after the change
    begins_at : (front back : List ℕ) → first own item.priority ≡ first_of (front ++ back) → next ≡ first_of back
        → Apart (front ++ back) → after_first own item.priority ≡ first_of (front ++ key ∷ back)
    begins_at [] [] begins is apart = (h.joined.alone begins).0
    begins_at [] (c ∷ back) begins is apart = h.joined.in_front c begins is
    begins_at (x ∷ front) [] begins is apart =
        h.joined.behind x begins (λ e. let none : None ≡ Some x = sym is ∙ e in absurd (cc))
    begins_at (x ∷ front) (c ∷ back) begins is apart =
        let differs : c ≢ x = (all_split (λ k. k ≢ x) front (c ∷ back) apart.0).1.0 in
        h.joined.behind x begins (λ e. let both : Some c ≡ Some x = sym is ∙ e in differs (cc))

    ring_alone : (front back : List ℕ) → first_of (front ++ back) ≡ None → first own item.priority ≡ None
        → Ring t (front ++ key ∷ back)
    ring_alone [] [] none begins =
        let j = h.joined.alone begins in
        (j.1.after key ∙ h.alone.0, j.1.before key ∙ h.alone.1)
    ring_alone [] (c ∷ back) none begins = absurd (cc)
    ring_alone (x ∷ front) back none begins = absurd (cc)

    own_ring : (begun : Option ℕ) → first own item.priority ≡ begun → Ring t (parts.front ++ key ∷ parts.back)
    own_ring None begins =
        ring_alone parts.front parts.back (ap first_of (sym parts.was) ∙ sym (h.awaits.rings own item.priority).0
        ∙ begins) begins
    own_ring (Some head) begins =
        let o = opened first s item own next h.awaits key parts head begins in
        let b = between head begins o in
        let c = unwrap_or next head in
        ring_between s t key c o.rest parts.front parts.back o.turned o.ring o.apart
        (not_key (c ∷ o.rest) o.used) b.changed b.linked b.closed

    other_ring : (pulse : Bool) (level : ℕ) → ((own ≡ pulse) → (item.priority ≡ level) → ⊥) → (begun : Option ℕ)
        → first own item.priority ≡ begun → Ring t (keys_on pulse level (places_of s))
    other_ring pulse level differs None begins =
        let j = h.joined.alone begins in
        ring_away s t key key key (relinked_same j.1) (keys_on pulse level (places_of s))
        (all_more (IsOf s pulse level) (λ k. (k ≢ key) × (k ≢ key) × (k ≢ key)) (keys_on pulse level (places_of s))
        (keys_used s pulse level)
        (λ k at_k. let ne = used_not_free s pulse level k key h.free at_k in (ne, ne, ne)))
        (h.awaits.rings pulse level).1
    other_ring pulse level differs (Some head) begins =
        let o = opened first s item own next h.awaits key parts head begins in
        let b = between head begins o in
        let c = unwrap_or next head in
        let last = last_from c o.rest in
        ring_away s t last c key b.changed (keys_on pulse level (places_of s))
        (all_more (IsOf s pulse level) (λ k. (k ≢ last) × (k ≢ c) × (k ≢ key)) (keys_on pulse level (places_of s))
        (keys_used s pulse level)
        (λ k at_k. (
          used_apart s pulse own level item.priority k last at_k
              (last_all (IsOf s own item.priority) c o.rest o.used.0 o.used.1) (λ p l. differs (sym p) (sym l)),
          used_apart s pulse own level item.priority k c at_k o.used.0 (λ p l. differs (sym p) (sym l)),
          used_not_free s pulse level k key h.free at_k,
        )))
        (h.awaits.rings pulse level).1

    abbrev IsRing : Bool → ℕ → List ℕ → Type 0
    IsRing pulse level keys = (after_first pulse level ≡ first_of keys) × Ring t keys

    ring_of_own : IsRing own item.priority (keys_on own item.priority (places_of t))
    ring_of_own =
        let level = item.priority in
        let apart = subst Apart parts.was (keys_apart s own level (places_of s) h.awaits.up (held s)) in
        subst (IsRing own level) (sym (ap (keys_on own level) put_places ∙ parts.put)) (
          begins_at parts.front parts.back ((h.awaits.rings own level).0 ∙ ap first_of parts.was) parts.next_is
              apart,
          own_ring (first own level) refl,
        )

    pub put_rings : AreRings after_first t
    put_rings pulse level =
        elim (cases_Bool (is_on pulse level (item, key))) [
          | inl on ↦
              let which = on_true pulse level (item, key) on in
              subst (λ b. IsRing b level (keys_on b level (places_of t))) (sym h.awaits.kind ∙ which.0)
              (subst (λ l. IsRing own l (keys_on own l (places_of t))) which.1 ring_of_own)
          | inr off ↦
              let differs : (own ≡ pulse) → (item.priority ≡ level) → ⊥ =
              λ p l. true≢false (sym (on_from pulse level (item, key) (h.awaits.kind ∙ p) l) ∙ off) in
              let now : keys_on pulse level (places_of t) ≡ keys_on pulse level (places_of s) =
              ap (keys_on pulse level) put_places ∙ keys_put_other pulse level (item, key) (places_of s) off in
              subst (IsRing pulse level) (sym now) (
                h.others pulse level differs ∙ (h.awaits.rings pulse level).0,
                other_ring pulse level differs (first own item.priority) refl,
              )
        ]
