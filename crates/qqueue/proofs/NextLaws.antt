-- A walk along a ring to the first node of a greater number.
use Rattle.qqueue.proofs.Common.{◌≡◌, ℕ, ◌<◌, ◌≤◌, List, [], ◌∷◌, ◌++◌, map, Bool, true, false, cond, refl, ap, sym}
use Rattle.qqueue.proofs.Common.{subst, ◌∙◌, arith, append_assoc, AllByRecursion, option_map, lt-ltb, le-ltb}
use Rattle.qqueue.proofs.Common.{map-append, Slab, get, all_every, all_filter, filter_same, filter_twice, Item, Node}
use Rattle.qqueue.proofs.Common.{is_pulse, places_after, places_of, Rises, is_on, keys_on, item_of, after_of, before_of}
use Rattle.qqueue.proofs.Common.{Ring, first_of}
use Rattle.std.specs.Prelude.{Option, None, Some, is_some, IsSome, unwrap_or, filter, nat_lt, ◌&&◌}
use Rattle.qqueue.proofs.RingLaws.{all_split, last_from, path_end, ring_turn}
use Rattle.qqueue.proofs.KeptLaws.{held}

-- ---- filters

and_either : (a b : Bool) → (a && b) ≡ (b && a)
and_either true true = refl
and_either true false = refl
and_either false true = refl
and_either false false = refl

-- the order of two filters makes no difference
filter_either : {X : Type 0} (p q : X → Bool) (xs : List X) → filter p (filter q xs) ≡ filter q (filter p xs)
filter_either p q xs =
    filter_twice q p xs
    ∙ filter_same (λ x. q x && p x) (λ x. p x && q x) xs
    (all_every (λ x. (q x && p x) ≡ (p x && q x)) xs (λ x. and_either (q x) (p x)))
    ∙ sym (filter_twice p q xs)

rises_filter : (p : Item × ℕ → Bool) (places : List (Item × ℕ)) → Rises places → Rises (filter p places)
rises_filter p [] up = tt
rises_filter p (x ∷ places) up =
    elim (p x) as (λ b. Rises (cond b (x ∷ filter p places) (filter p places))) [
      | true ↦ (all_filter (λ y. x.0.number < y.0.number) p places up.0, rises_filter p places up.1)
      | false ↦ rises_filter p places up.1
    ]

rises_at : (front : List (Item × ℕ)) (x y : Item × ℕ) (back : List (Item × ℕ)) → Rises (front ++ x ∷ y ∷ back)
    → x.0.number < y.0.number
rises_at [] x y back up = up.0.0
rises_at (z ∷ front) x y back up = rises_at front x y back up.1

-- the last of these places, with the places before it
last_place : (p : Item × ℕ) (places : List (Item × ℕ)) → (front : List (Item × ℕ)) × (here : Item)
    × (p ∷ places ≡ front ++ (here, last_from p.1 (map (λ (q : Item × ℕ). q.1) places)) ∷ [])
last_place p [] = ([], p.0, refl)
last_place p (q ∷ places) = let r = last_place q places in (p ∷ r.0, r.1, ap (λ l. p ∷ l) r.2)

-- if the last number isn't greater, none is
none_behind : (number : ℕ) (front : List (Item × ℕ)) (p : Item × ℕ) → Rises (front ++ p ∷ []) → p.0.number ≤ number
    → places_after number (front ++ p ∷ []) ≡ []
none_behind number [] p up less = rw (le-ltb number p.0.number less) refl
none_behind number (x ∷ front) p up less =
    let before : x.0.number < p.0.number = (all_split (λ y. x.0.number < y.0.number) front (p ∷ []) up.0).1.0 in
    let below : x.0.number ≤ number = omega arith in
    rw (le-ltb number x.0.number below) (none_behind number front p up.1 less)

-- if the last number is greater, some number is
some_behind : (number : ℕ) (front : List (Item × ℕ)) (p : Item × ℕ) → number < p.0.number
    → first_of (map (λ (q : Item × ℕ). q.1) (places_after number (front ++ p ∷ []))) ≡ None → ⊥
some_behind number [] p less none =
    let one : first_of (map (λ (q : Item × ℕ). q.1) (places_after number (p ∷ []))) ≡ Some p.1 =
    rw (lt-ltb number p.0.number less) refl in
    let both : Some p.1 ≡ None = sym one ∙ none in
    absurd (cc)
some_behind number (x ∷ front) p less none =
    elim (nat_lt number x.0.number)
    as (λ b.
    first_of
    (map (λ (q : Item × ℕ). q.1)
    (cond b (x ∷ places_after number (front ++ p ∷ [])) (places_after number (front ++ p ∷ [])))) ≡ None → ⊥) [
      | true ↦ λ e. let both : Some x.1 ≡ None = e in absurd (cc)
      | false ↦ λ e. some_behind number front p less e
    ] none

-- ---- the node after a node of a ring

after_other : (s : Slab Node) (xs : List ℕ) (key c : ℕ) (ys : List ℕ) → Ring s (xs ++ key ∷ c ∷ ys)
    → after_of s key ≡ Some c
after_other s xs key c ys ring = let turned = ring_turn s xs (key ∷ c ∷ ys) ring in turned.0.0

-- ---- the walk

-- the number of the item under a key
abbrev pub number_at : Slab Node → ℕ → ℕ
number_at s key = unwrap_or (option_map (λ (item : Item). item.number) (item_of s key)) 0

module _ (s : Slab Node) (item : Item) where
  -- the places of the item's kind and level
  abbrev mine : List (Item × ℕ)
  mine = filter (is_on (is_pulse item.what) item.priority) (places_of s)

  -- the walk has reached this key, and no number before it is greater
  pub record IsAt (key : ℕ) : Type 0 where
    pub here : Item
    pub front : List (Item × ℕ)
    pub back : List (Item × ℕ)
    pub whole : mine ≡ front ++ (here, key) ∷ back
    pub left : places_after item.number mine ≡ places_after item.number ((here, key) ∷ back)

  pub at_first : (first : ℕ) → first_of (keys_on (is_pulse item.what) item.priority (places_of s)) ≡ Some first
      → IsAt first
  at_first first begins = from mine refl begins
    where
      from : (places : List (Item × ℕ)) → mine ≡ places → first_of (map (λ (p : Item × ℕ). p.1) places) ≡ Some first
          → IsAt first
      from [] is begins = absurd (cc)
      from (p ∷ places) is begins =
          let same : p.1 ≡ first = cc in
          let whole : mine ≡ (p.0, first) ∷ places = is ∙ ap (λ k. (p.0, k) ∷ places) same in
          record { here = p.0; front = []; back = places; whole = whole; left = ap (places_after item.number) whole }

  -- the item under a key of the ring, given the places before it and after it
  held_there : (front back : List (Item × ℕ)) (here : Item) (key : ℕ) → mine ≡ front ++ (here, key) ∷ back
      → item_of s key ≡ Some here
  held_there front back here key whole =
      let all = all_filter (λ p. item_of s p.1 ≡ Some p.0) (is_on (is_pulse item.what) item.priority) (places_of s)
      (held s) in
      (all_split (λ p. item_of s p.1 ≡ Some p.0) front ((here, key) ∷ back)
      (subst (AllByRecursion (λ p. item_of s p.1 ≡ Some p.0)) whole all)).1.0

  is_there : (here : Item) (key : ℕ) → item_of s key ≡ Some here → IsSome (get s key)
  is_there here key same = of_node (get s key) same
    where
      of_node : (node : Option Node) → option_map (λ n. n.item) node ≡ Some here → is_some node ≡ true
      of_node None same = absurd (cc)
      of_node (Some n) same = refl

  number_there : (here : Item) (key : ℕ) (node : Node) → item_of s key ≡ Some here → get s key ≡ Some node
      → node.item.number ≡ here.number
  number_there here key node same there =
      let both : Some node.item ≡ Some here = sym (ap (option_map (λ n. n.item)) there) ∙ same in
      let one : node.item ≡ here = cc in
      ap (λ (i : Item). i.number) one

  pub here_held : (key : ℕ) (a : IsAt key) → item_of s key ≡ Some a.here
  here_held key a = held_there a.front a.back a.here key a.whole

  pub there_at : (key : ℕ) → IsAt key → IsSome (get s key)
  there_at key a = is_there a.here key (here_held key a)

  pub number_held : (key : ℕ) (a : IsAt key) → number_at s key ≡ a.here.number
  number_held key a = ap (λ o. unwrap_or (option_map (λ (i : Item). i.number) o) 0) (here_held key a)

  -- the number of the node that is read is the number that the walk has reached
  pub node_number : (key : ℕ) (node : Node) (a : IsAt key) → get s key ≡ Some node → node.item.number ≡ a.here.number
  node_number key node a there = number_there a.here key node (here_held key a) there

  keys_after : keys_on (is_pulse item.what) item.priority (places_after item.number (places_of s))
      ≡ map (λ (p : Item × ℕ). p.1) (places_after item.number mine)
  keys_after =
      ap (map (λ (p : Item × ℕ). p.1))
      (filter_either (is_on (is_pulse item.what) item.priority) (λ (p : Item × ℕ). nat_lt item.number p.0.number)
      (places_of s))

  -- if the number is greater, the walk has found the first node with a greater number
  pub found_greater : (key : ℕ) (node : Node) (a : IsAt key) → get s key ≡ Some node → item.number < node.item.number
      → Some key ≡ first_of (keys_on (is_pulse item.what) item.priority (places_after item.number (places_of s)))
  found_greater key node a there less =
      let more : item.number < a.here.number = omega (arith, node_number key node a there) in
      let on : first_of (map (λ (p : Item × ℕ). p.1) (places_after item.number ((a.here, key) ∷ a.back))) ≡ Some key =
      rw (lt-ltb item.number a.here.number more) refl in
      sym (ap first_of (keys_after ∙ ap (map (λ (p : Item × ℕ). p.1)) a.left) ∙ on)

  -- an empty ring has no greater number
  pub none_greater : first_of (keys_on (is_pulse item.what) item.priority (places_of s)) ≡ None
      → None ≡ first_of (keys_on (is_pulse item.what) item.priority (places_after item.number (places_of s)))
  none_greater none = sym (ap first_of keys_after ∙ of_none mine none)
    where
      of_none : (places : List (Item × ℕ)) → first_of (map (λ (p : Item × ℕ). p.1) places) ≡ None
          → first_of (map (λ (p : Item × ℕ). p.1) (places_after item.number places)) ≡ None
      of_none [] is = refl
      of_none (p ∷ places) is = absurd (cc)

  -- the key is the last of the ring
  pub record IsLast (key : ℕ) : Type 0 where
    pub here : Item
    pub front : List (Item × ℕ)
    pub whole : mine ≡ front ++ (here, key) ∷ []

  pub there_last : (key : ℕ) → IsLast key → IsSome (get s key)
  there_last key a = is_there a.here key (held_there a.front [] a.here key a.whole)

  last_number : (key : ℕ) (node : Node) (a : IsLast key) → get s key ≡ Some node → node.item.number ≡ a.here.number
  last_number key node a there = number_there a.here key node (held_there a.front [] a.here key a.whole) there

  -- the key before the first key is the last
  pub at_last : (first key : ℕ) → first_of (keys_on (is_pulse item.what) item.priority (places_of s)) ≡ Some first
      → Ring s (keys_on (is_pulse item.what) item.priority (places_of s)) → before_of s first ≡ Some key → IsLast key
  at_last first key begins ring before = from mine refl begins ring
    where
      from : (places : List (Item × ℕ)) → mine ≡ places → first_of (map (λ (p : Item × ℕ). p.1) places) ≡ Some first
          → Ring s (map (λ (p : Item × ℕ). p.1) places) → IsLast key
      from [] is begins ring = absurd (cc)
      from (p ∷ places) is begins ring =
          let same : p.1 ≡ first = cc in
          let end = last_place p places in
          let prior : before_of s p.1 ≡ Some (last_from p.1 (map (λ (q : Item × ℕ). q.1) places)) =
          path_end s p.1 (map (λ (q : Item × ℕ). q.1) places) p.1 ring in
          let both : Some (last_from p.1 (map (λ (q : Item × ℕ). q.1) places)) ≡ Some key = sym prior
          ∙ ap (before_of s) same ∙ before in
          let one : last_from p.1 (map (λ (q : Item × ℕ). q.1) places) ≡ key = cc in
          record { here = end.1; front = end.0; whole = is ∙ end.2 ∙ ap (λ k. end.0 ++ (end.1, k) ∷ []) one }

  -- if the last number isn't greater, none is
  pub last_none : (key : ℕ) (node : Node) → Rises (places_of s) → IsLast key → get s key ≡ Some node
      → node.item.number ≤ item.number
      → None ≡ first_of (keys_on (is_pulse item.what) item.priority (places_after item.number (places_of s)))
  last_none key node up a there less =
      let below : a.here.number ≤ item.number = omega (arith, last_number key node a there) in
      let rises = subst Rises a.whole (rises_filter (is_on (is_pulse item.what) item.priority) (places_of s) up) in
      let none : places_after item.number mine ≡ [] = ap (places_after item.number) a.whole
      ∙ none_behind item.number a.front (a.here, key) rises below in
      sym (ap first_of (keys_after ∙ ap (map (λ (p : Item × ℕ). p.1)) none))

  -- if the last number is greater, some number is
  pub last_some : (key : ℕ) (node : Node) → IsLast key → get s key ≡ Some node → item.number < node.item.number
      → None ≡ first_of (keys_on (is_pulse item.what) item.priority (places_after item.number (places_of s))) → ⊥
  last_some key node a there less none =
      let above : item.number < a.here.number = omega (arith, last_number key node a there) in
      some_behind item.number a.front (a.here, key) above
      (sym (none ∙ ap first_of
      (keys_after ∙ ap (λ l. map (λ (p : Item × ℕ). p.1) (places_after item.number l)) a.whole)))

  -- one step: if the last number is greater, the walk goes to a key with a greater number than before
  module _ (up : Rises (places_of s)) (ring : Ring s (keys_on (is_pulse item.what) item.priority (places_of s))) where
    to_next : (key next : ℕ) (a : IsAt key)
        → (None ≡ first_of (keys_on (is_pulse item.what) item.priority (places_after item.number (places_of s))) → ⊥)
        → a.here.number ≤ item.number → after_of s key ≡ Some next → (b : IsAt next) × (a.here.number < b.here.number)
    to_next key next a greater more after = by_back a.back (a.whole) (a.left ∙ none_here)
      where
        none_here : places_after item.number ((a.here, key) ∷ a.back) ≡ places_after item.number a.back
        none_here = rw (le-ltb item.number a.here.number more) refl

        by_back : (back : List (Item × ℕ)) → mine ≡ a.front ++ (a.here, key) ∷ back
            → places_after item.number mine ≡ places_after item.number back → (b : IsAt next)
            × (a.here.number < b.here.number)
        by_back [] whole left =
            absurd (greater (sym (ap first_of (keys_after ∙ ap (map (λ (p : Item × ℕ). p.1)) left))))
        by_back (q ∷ back) whole left =
            let front = map (λ (p : Item × ℕ). p.1) a.front in
            let behind = map (λ (p : Item × ℕ). p.1) back in
            let keys : keys_on (is_pulse item.what) item.priority (places_of s) ≡ front ++ key ∷ q.1 ∷ behind =
            ap (map (λ (p : Item × ℕ). p.1)) whole
            ∙ map-append (λ (p : Item × ℕ). p.1) a.front ((a.here, key) ∷ q ∷ back) in
            let other = after_other s front key q.1 behind (subst (Ring s) keys ring) in
            let same : q.1 ≡ next = cc in
            let less : a.here.number < q.0.number =
            rises_at a.front (a.here, key) q back
            (subst Rises whole (rises_filter (is_on (is_pulse item.what) item.priority) (places_of s) up)) in
            let at_next : IsAt next = record {
              here = q.0;
              front = a.front ++ (a.here, key) ∷ [];
              back = back;
              whole = whole ∙ sym (append_assoc a.front ((a.here, key) ∷ []) (q ∷ back))
                  ∙ ap (λ k. (a.front ++ (a.here, key) ∷ []) ++ (q.0, k) ∷ back) same;
              left = left ∙ ap (λ k. places_after item.number ((q.0, k) ∷ back)) same;
            } in
            (at_next, less)

    pub step : (last key next : ℕ) (end node : Node) (a : IsAt key) → IsLast last → get s last ≡ Some end
        → item.number < end.item.number → get s key ≡ Some node → node.item.number ≤ item.number
        → after_of s key ≡ Some next → (b : IsAt next) × (a.here.number < b.here.number)
    step last key next end node a is_last at_end greater there more after =
        to_next key next a (last_some last end is_last at_end greater)
        (omega (arith, node_number key node a there)) after
