-- The best item is the first item of the greatest level.
use Rattle.qqueue.proofs.Common.{◌≡◌, ◌≢◌, ℕ, ◌<◌, ◌≤◌, ◌⊎◌, List, [], ◌∷◌, map, Bool, true, false, cond, refl, ap, sym}
use Rattle.qqueue.proofs.Common.{subst, ◌∙◌, inl, inr, arith, AllByRecursion, cases_Bool, cases_eq, cases_lt, lt-ltb}
use Rattle.qqueue.proofs.Common.{le-ltb, true≢false, nat_tests, Slab, all_more, Item, Kind, Node, is_pulse, may_take}
use Rattle.qqueue.proofs.Common.{first_of_two, best_of, comes_before, IsForemost, places_of, items_at, Rises, is_on}
use Rattle.qqueue.proofs.Common.{item_of, item_at, first_of, AreRings}
use Rattle.std.specs.Prelude.{Option, None, Some, filter, nat_lt, ◌==◌, ◌&&◌, ◌||◌, IfSome}
use Rattle.qqueue.specs.declared.item.Kind.TheVariants.{Any, PulseOnly}
use Rattle.qqueue.proofs.OrderLaws.{before-from, before-transitive, best-at, best-may, may-none}
use Rattle.qqueue.proofs.PlaceLaws.{In, all_in, all_at, all_items, only_place}
use Rattle.qqueue.proofs.KeptLaws.{on_true, on_from, held}

before_cases : (a b : Item) → comes_before a b ≡ true → (b.priority < a.priority)
    ⊎ ((a.priority ≡ b.priority) × (a.number < b.number))
before_cases a b before = grind (arith, nat_tests)

before_turned : (a b : Item) → a.number ≢ b.number → comes_before a b ≡ false → comes_before b a ≡ true
before_turned a b differs not_before = grind (arith, nat_tests)

-- the item is x or is received after it
abbrev pub IsBehind : Item → Item → Type 0
IsBehind x item = (item ≡ x) ⊎ (comes_before x item ≡ true)

-- an item that may be taken and comes before all others that may be taken is the best
best_is : (kind : Kind) (x : Item) (k : ℕ) (places : List (Item × ℕ)) → Rises places → In (x, k) places
    → may_take kind x ≡ true → AllByRecursion (λ p. may_take kind p.0 ≡ true → IsBehind x p.0) places
    → best_of kind (items_at places) ≡ Some x
best_is kind x k [] up within may all = absurd within
best_is kind x k (q ∷ places) up within may all =
    elim within [
      | inl same ↦
          let first : q.0 ≡ x = ap (λ z. z.0) same in
          subst (λ y. cond (may_take kind y) (Some (first_of_two y (best_of kind (items_at places))))
          (best_of kind (items_at places)) ≡ Some x) (sym first)
          (rw may (ap (λ y. Some y) (no_later (best_of kind (items_at places)) refl)))
      | inr later ↦
          let rest : best_of kind (items_at places) ≡ Some x = best_is kind x k places up.1 later may all.1 in
          let less : q.0.number < x.number = all_at (λ r. q.0.number < r.0.number) (x, k) places up.0 later in
          elim (cases_Bool (may_take kind q.0)) [
            | inl may_first ↦ rw (may_first, rest) (ap (λ y. Some y) (below (all.0 may_first) less))
            | inr not_may ↦ rw not_may rest
          ]
    ]
  where
    behind_best : (z : Item) → best_of kind (items_at places) ≡ Some z → IsBehind x z
    behind_best z best =
        best-at (λ w. may_take kind w ≡ true → IsBehind x w) kind (items_at places) z
        (all_items (λ w. may_take kind w ≡ true → IsBehind x w) places all.1) best
        (best-may kind (items_at places) z best)

    no_greater : (z : Item) → IsBehind x z → z.priority ≤ x.priority
    no_greater z behind = elim behind [
      | inl same ↦ let equal : z.priority ≡ x.priority = ap (λ w. w.priority) same in omega arith
      | inr before ↦ elim (before_cases x z before) [
        | inl less ↦ omega arith
        | inr equal ↦
            let e : x.priority ≡ z.priority = equal.0 in omega arith
      ]
    ]

    no_later : (best : Option Item) → best_of kind (items_at places) ≡ best
        → first_of_two x (best_of kind (items_at places)) ≡ x
    no_later None is = rw is refl
    no_later (Some z) is = rw (is, le-ltb x.priority z.priority (no_greater z (behind_best z is))) refl

    below : IsBehind x q.0 → q.0.number < x.number → first_of_two q.0 (Some x) ≡ x
    below behind less = elim behind [
      | inl same ↦ let equal : q.0.number ≡ x.number = ap (λ w. w.number) same in absurd (omega arith)
      | inr before ↦ elim (before_cases x q.0 before) [
        | inl greater ↦ rw (lt-ltb q.0.priority x.priority greater) refl
        | inr equal ↦ let later : x.number < q.0.number = equal.1 in absurd (omega arith)
      ]
    ]

-- under key k is the first item that passes the filter: it passes, and all others that pass have greater
-- numbers
record Front (f : Item × ℕ → Bool) (places : List (Item × ℕ)) (k : ℕ) : Type 0 where
  item : Item
  there : In (item, k) places
  passes : f (item, k) ≡ true
  all : AllByRecursion (λ p. f p ≡ true → (p.0 ≡ item) ⊎ (item.number < p.0.number)) places

front_of : (f : Item × ℕ → Bool) (places : List (Item × ℕ)) (k : ℕ) → Rises places
    → first_of (map (λ p. p.1) (filter f places)) ≡ Some k → Front f places k
front_of f [] k up first = absurd (cc)
front_of f (p ∷ places) k up first =
    elim (f p) as (λ b. f p ≡ b
    → first_of (map (λ (q : Item × ℕ). q.1) (cond b (p ∷ filter f places) (filter f places))) ≡ Some k
    → Front f (p ∷ places) k) [
      | true ↦ λ on is.
          let same : p.1 ≡ k = cc in
          let whole : p ≡ (p.0, k) = ap (λ i. (p.0, i)) same in
          record {
            item = p.0;
            there = inl whole;
            passes = subst (λ q. f q ≡ true) whole on;
            all = (
              λ _. inl refl,
              all_more (λ q. p.0.number < q.0.number) (λ q. f q ≡ true → (q.0 ≡ p.0) ⊎ (p.0.number < q.0.number))
                  places up.0 (λ q less _. inr less),
            );
          }
      | false ↦ λ off is.
          let r = front_of f places k up.1 is in
          record {
            item = r.item;
            there = inr r.there;
            passes = r.passes;
            all = (λ on. absurd (true≢false (sym on ∙ off)), r.all);
          }
    ] refl first

none_of_filter : (f : Item × ℕ → Bool) (places : List (Item × ℕ)) → first_of (map (λ p. p.1) (filter f places)) ≡ None
    → AllByRecursion (λ p. f p ≡ false) places
none_of_filter f [] none = tt
none_of_filter f (p ∷ places) none =
    elim (f p) as (λ b. f p ≡ b
    → first_of (map (λ (q : Item × ℕ). q.1) (cond b (p ∷ filter f places) (filter f places))) ≡ None
    → AllByRecursion (λ q. f q ≡ false) (p ∷ places)) [
      | true ↦ λ on is. absurd (cc)
      | false ↦ λ off is. (off, none_of_filter f places is)
    ] refl none

module _ (first : Bool → ℕ → Option ℕ) (s : Slab Node) (up : Rises (places_of s)) (rings : AreRings first s) where
  -- under the found key is an item of this kind that comes before all others of the kind
  pub record IsTop (pulse : Bool) (found : ℕ × ℕ) : Type 0 where
    pub item : Item
    pub there : item_of s found.1 ≡ Some item
    pub place : In (item, found.1) (places_of s)
    pub kind : is_pulse item.what ≡ pulse
    pub level : item.priority ≡ found.0
    pub all : AllByRecursion (λ p. is_pulse p.0.what ≡ pulse → IsBehind item p.0) (places_of s)

  pub top : (pulse : Bool) (found : ℕ × ℕ) → IsForemost (first pulse) found → IsTop pulse found
  top pulse found foremost =
      let places = places_of s in
      let front = front_of (is_on pulse found.0) places found.1 up (sym (rings pulse found.0).0 ∙ foremost.0) in
      let which = on_true pulse found.0 (front.item, found.1) front.passes in
      record {
        item = front.item;
        there = all_at (λ p. item_of s p.1 ≡ Some p.0) (front.item, found.1) places (held s) front.there;
        place = front.there;
        kind = which.0;
        level = which.1;
        all = all_more (λ p. In p places) (λ p. is_pulse p.0.what ≡ pulse → IsBehind front.item p.0) places
            (all_in places) (λ p within kind.
            elim (cases_lt found.0 p.0.priority) [
              | inl above ↦
                  let none =
                  none_of_filter (is_on pulse p.0.priority) places
                  (sym (rings pulse p.0.priority).0 ∙ foremost.1 p.0.priority above) in
                  absurd
                  (true≢false (sym (on_from pulse p.0.priority p kind refl)
                  ∙ all_at (λ q. is_on pulse p.0.priority q ≡ false) p places none within))
              | inr below ↦ elim (cases_eq p.0.priority found.0) [
                | inl same ↦
                    elim (all_at (λ q. is_on pulse found.0 q ≡ true → (q.0 ≡ front.item)
                    ⊎ (front.item.number < q.0.number)) p places front.all within (on_from pulse found.0 p kind same)) [
                      | inl equal ↦ inl equal
                      | inr later ↦ inr (before-from front.item p.0 (inr (which.1 ∙ sym same, later)))
                    ]
                | inr differs ↦
                    let level : front.item.priority ≡ found.0 = which.1 in
                    let less : p.0.priority < front.item.priority = omega arith in
                    inr (before-from front.item p.0 (inl less))
              ]
            ]);
      }

  pub no_top : (pulse : Bool) → ((level : ℕ) → first pulse level ≡ None)
      → AllByRecursion (λ p. is_pulse p.0.what ≡ pulse → ⊥) (places_of s)
  no_top pulse none =
      let places = places_of s in
      all_more (λ p. In p places) (λ p. is_pulse p.0.what ≡ pulse → ⊥) places (all_in places) (λ p within kind.
      let out =
      none_of_filter (is_on pulse p.0.priority) places (sym (rings pulse p.0.priority).0 ∙ none p.0.priority) in
      true≢false (sym (on_from pulse p.0.priority p kind refl)
      ∙ all_at (λ q. is_on pulse p.0.priority q ≡ false) p places out within))

  -- the foremost pulse is the best item for a ReceivePulse
  pub best_pulse : (found : ℕ × ℕ) → IsForemost (first true) found
      → item_at s (Some found.1) ≡ best_of PulseOnly (items_at (places_of s))
  best_pulse found foremost =
      let t = top true found foremost in
      t.there ∙ sym (best_is PulseOnly t.item found.1 (places_of s) up t.place t.kind t.all)

  pub no_pulse : ((level : ℕ) → first true level ≡ None) → None ≡ best_of PulseOnly (items_at (places_of s))
  no_pulse none =
      sym (may-none PulseOnly (items_at (places_of s)) (all_items (λ w. is_pulse w.what ≡ false) (places_of s)
      (all_more (λ p. is_pulse p.0.what ≡ true → ⊥) (λ p. is_pulse p.0.what ≡ false) (places_of s) (no_top true none)
      (λ p out. elim (cases_Bool (is_pulse p.0.what)) [ inl is ↦ absurd (out is) | inr not ↦ not ]))))

  -- if x comes before all other pulses and all other messages, it comes before all other items
  both : (x : Item) (places : List (Item × ℕ)) → AllByRecursion (λ p. is_pulse p.0.what ≡ true → IsBehind x p.0) places
      → AllByRecursion (λ p. is_pulse p.0.what ≡ false → IsBehind x p.0) places
      → AllByRecursion (λ p. true ≡ true → IsBehind x p.0) places
  both x [] pulses messages = tt
  both x (p ∷ places) pulses messages = (
    λ _. elim (cases_Bool (is_pulse p.0.what)) [ inl is ↦ pulses.0 is | inr not ↦ messages.0 not ],
    both x places
        pulses.1 messages.1,
  )

  all_none : (x : Item) (pulse : Bool) → AllByRecursion (λ p. is_pulse p.0.what ≡ pulse → ⊥) (places_of s)
      → AllByRecursion (λ p. is_pulse p.0.what ≡ pulse → IsBehind x p.0) (places_of s)
  all_none x pulse none =
      all_more (λ p. is_pulse p.0.what ≡ pulse → ⊥) (λ p. is_pulse p.0.what ≡ pulse → IsBehind x p.0)
      (places_of s) none (λ p out kind. absurd (out kind))

  all_behind : (x y : Item) (pulse : Bool) → comes_before x y ≡ true
      → AllByRecursion (λ p. is_pulse p.0.what ≡ pulse → IsBehind y p.0) (places_of s)
      → AllByRecursion (λ p. is_pulse p.0.what ≡ pulse → IsBehind x p.0) (places_of s)
  all_behind x y pulse before all =
      all_more (λ p. is_pulse p.0.what ≡ pulse → IsBehind y p.0) (λ p. is_pulse p.0.what ≡ pulse → IsBehind x p.0)
      (places_of s) all (λ p behind kind. elim (behind kind) [
        | inl same ↦ inr (subst (λ w. comes_before x w ≡ true) (sym same) before)
        | inr later ↦ inr (before-transitive x y p.0 before later)
      ])

  pub best_message_alone : (message : ℕ × ℕ) → IsForemost (first false) message
      → ((level : ℕ) → first true level ≡ None) → item_at s (Some message.1) ≡ best_of Any (items_at (places_of s))
  best_message_alone message foremost none =
      let t = top false message foremost in
      t.there
      ∙ sym (best_is Any t.item message.1 (places_of s) up t.place refl
      (both t.item (places_of s) (all_none t.item true (no_top true none)) t.all))

  pub best_pulse_alone : (pulse : ℕ × ℕ) → IsForemost (first true) pulse → ((level : ℕ) → first false level ≡ None)
      → item_at s (Some pulse.1) ≡ best_of Any (items_at (places_of s))
  best_pulse_alone pulse foremost none =
      let t = top true pulse foremost in
      t.there
      ∙ sym (best_is Any t.item pulse.1 (places_of s) up t.place refl
      (both t.item (places_of s) t.all (all_none t.item false (no_top false none))))

  pub best_none : ((level : ℕ) → first false level ≡ None) → ((level : ℕ) → first true level ≡ None)
      → None ≡ best_of Any (items_at (places_of s))
  best_none no_messages no_pulses = empty (places_of s) (no_top false no_messages) (no_top true no_pulses)
    where
      empty : (places : List (Item × ℕ)) → AllByRecursion (λ p. is_pulse p.0.what ≡ false → ⊥) places
          → AllByRecursion (λ p. is_pulse p.0.what ≡ true → ⊥) places → None ≡ best_of Any (items_at places)
      empty [] messages pulses = refl
      empty (p ∷ places) messages pulses =
          elim (cases_Bool (is_pulse p.0.what)) [ inl is ↦ absurd (pulses.0 is) | inr not ↦ absurd (messages.0 not) ]

  -- the earlier of the foremost message and the foremost pulse is the best of all items
  pub best_of_two : (message pulse : ℕ × ℕ) (chosen : ℕ) → IsForemost (first false) message
      → IsForemost (first true) pulse
      → IfSome (item_of s message.1)
      (λ m. IfSome (item_of s pulse.1)
      (λ p. chosen ≡ cond (nat_lt pulse.0 message.0 || ((message.0 == pulse.0) && nat_lt m.number p.number)) message.1
      pulse.1))
      → item_at s (Some chosen) ≡ best_of Any (items_at (places_of s))
  best_of_two message pulse chosen is_message is_pulse_top choice =
      let m = top false message is_message in
      let p = top true pulse is_pulse_top in
      let x = m.item in
      let y = p.item in
      let known : chosen ≡ cond (nat_lt pulse.0 message.0 || ((message.0 == pulse.0) && nat_lt x.number y.number))
      message.1 pulse.1 = rw (m.there, p.there) at choice in
      let by_order : chosen ≡ cond (comes_before x y) message.1 pulse.1 = rw (m.level, p.level) known in
      let differs : x.number ≢ y.number = λ same.
      let key : message.1 ≡ pulse.1 = all_at (λ q. q.0.number ≡ y.number → q.1 ≡ pulse.1) (x, message.1) (places_of s)
      (only_place (y, pulse.1) (places_of s) up p.place) m.place same in
      let items : Some x ≡ Some y = sym m.there ∙ ap (item_of s) key ∙ p.there in
      let one : x ≡ y = cc in
      true≢false (sym p.kind ∙ sym (ap (λ (i : Item). is_pulse i.what) one) ∙ m.kind) in
      elim (cases_Bool (comes_before x y)) [
        | inl before ↦
            let is : chosen ≡ message.1 = rw before at by_order in
            ap (item_of s) is ∙ m.there
            ∙ sym (best_is Any x message.1 (places_of s) up m.place refl
            (both x (places_of s) (all_behind x y true before p.all) m.all))
        | inr not ↦
            let is : chosen ≡ pulse.1 = rw not at by_order in
            let before : comes_before y x ≡ true = before_turned x y differs not in
            ap (item_of s) is ∙ p.there
            ∙ sym (best_is Any y pulse.1 (places_of s) up p.place refl
            (both y (places_of s) p.all (all_behind y x false before m.all)))
      ]
