-- An item that comes before another is received first.
use Rattle.qrules_laws.proofs.Common.{AllByRecursion, Completion, Event, FirstGoesFirst, HasPriority, IsPending, Item}
use Rattle.qrules_laws.proofs.Common.{Kind, List, Member, ReceiveRequest, SentItem, Some, TakesBeside, TakesBest, Trace}
use Rattle.qrules_laws.proofs.Common.{[], all_more, ap, arith, before_earlier, best_first, best_of, comes_before, cond}
use Rattle.qrules_laws.proofs.Common.{eqb, false, is_destroyed, is_gone, item_at, item_below, item_earlier, item_made}
use Rattle.qrules_laws.proofs.Common.{item_of, item_priority, length, made_all, made_by, made_on, map, may_take}
use Rattle.qrules_laws.proofs.Common.{none-some, not, now, number_received, option_map, pending_all, pending_is}
use Rattle.qrules_laws.proofs.Common.{pending_items, priority_before, refl, same_Some, staying, subst, sym, takeable}
use Rattle.qrules_laws.proofs.Common.{takeable_priorities, takeable_rises, true, ℕ, ◌++◌, ◌+◌, ◌∙◌, ◌∷◌, ◌≡◌, ◌≢◌, ◌≤◌}
use Rattle.qrules_laws.proofs.Common.{filter, items, option_to_list}
use Rattle.std.specs.Prelude.{Option}
use Rattle.qrules.proofs.Words.Past.{item_among, items_by_now, priority_of_made}
use Rattle.std.proofs.lemmas.Bool.{false_from_ne_true}
use Rattle.std.proofs.lemmas.Bool.Decides.{nat_tests}
use Rattle.std.proofs.lemmas.List.Elements.{recursion_from_All}
use Rattle.qqueue.proofs.OrderLaws.{best-at, best_is_first}
use Rattle.qrules.specs.Lawful.{IsLawful}
use Rattle.qqueue.proofs.RingLaws.{all_split}
use Rattle.qrules.proofs.Traces.Past.Best.{some_number}

-- ---- an item that was made for a channel is among its items

item_in : (P : SentItem → Type 0) (roster : List Member) (past : Trace) (i : ℕ) (m : SentItem)
    → item_at roster past i ≡ Some m → AllByRecursion P (items roster past) → P m
item_in P roster [] i m at all = absurd (none-some m at)
item_in P roster (e ∷ past) i m at all =
    grind (
      arith,
      all_split P (items roster past) (option_to_list (item_of roster e past)) all,
      item_in P roster past i m,
    )

-- a statement that holds for all queued items of a channel holds for each of its items that isn't gone
each_staying : (P : Item → Type 0) (past : Trace) (h : ℕ) (ms : List SentItem)
    → AllByRecursion P
    (map (now past) (filter (λ item. not (is_gone past item)) (map (λ m. m.item) (filter (λ m. eqb m.channel h) ms))))
    → AllByRecursion (λ m. m.channel ≡ h → is_gone past m.item ≡ false → P (now past m.item)) ms
each_staying P past h [] all = tt
each_staying P past h (m ∷ ms) all = grind (arith, nat_tests, each_staying P past h ms)

-- an earlier item is the same in a longer history
item_later : (roster : List Member) (past later : Trace) (i : ℕ) (m : SentItem) → item_at roster past i ≡ Some m
    → item_at roster (later ++ past) i ≡ Some m
item_later roster past [] i m at = at
item_later roster past (e ∷ later) i m at =
    let before = item_later roster past later i m at in
    item_earlier roster e (later ++ past) i (item_below roster (later ++ past) i m before) ∙ before

-- ---- two items

module _ (roster : List Member) (past : Trace) (e : Event) (h : ℕ) (kind : Kind) (b : Item)
    (best : best_of kind (takeable roster past e h) ≡ Some b) where
  -- the channel isn't destroyed before the event, if the best item was made before it
  standing : b.number ≤ length past → is_destroyed past h ≡ false
  standing below = false_from_ne_true _ (λ closed.
      let none : takeable roster past e h ≡ made_on h (item_of roster e past) = rw closed refl in
      let number : b.number ≡ length past + 1 =
      best-at (λ (v : Item). v.number ≡ length past + 1) kind (made_on h (item_of roster e past)) b
      (made_all (λ v. v.number ≡ length past + 1) h (item_of roster e past)
      (λ m is on. (made_by roster e past m is).number))
      (ap (best_of kind) (sym none) ∙ best) in
      absurd (omega (arith, number, below)))

  -- an item that was made for the channel and isn't gone comes after the best item
  behind_one : (i : ℕ) (first : Item) → item_at roster past i ≡ Some (record { item = first; channel = h })
      → is_gone past first ≡ false → is_destroyed past h ≡ false
      → may_take kind first ≡ true → now past first ≢ b → comes_before b (now past first) ≡ true
  behind_one i first at stays open_still may other =
      let P = λ (v : Item). may_take kind v ≡ true → v ≢ b → comes_before b v ≡ true in
      let behind =
      recursion_from_All P (takeable roster past e h)
      (best_is_first kind (takeable roster past e h) b (takeable_rises roster e past h) best).first in
      let waiting = (all_split P (pending_items roster past h) (made_on h (item_of roster e past)) behind).0 in
      let as_now =
      subst (AllByRecursion P)
      (pending_is roster past h ∙ ap (λ d. cond d [] (map (now past) (staying roster past h))) open_still) waiting in
      item_in _ roster past i _ at (each_staying P past h (items roster past) as_now) refl stays
      (grind (arith, may)) other

priority_told : (o : Option SentItem) (p : ℕ) → option_map (λ (m : SentItem). m.item.priority) o ≡ Some p
    → priority_of_made o ≡ p
priority_told o p e = grind arith

-- if a call may take x and takes y, which comes after x, x is gone
gone_first : (roster : List Member) (past later : Trace) (e : Event) (h : ℕ) (x y : Item) (z : Completion)
    → IsPending roster past h x → IsPending roster past h y → comes_before x y ≡ true
    → HasPriority roster (later ++ past) x → HasPriority roster (later ++ past) y
    → TakesBest roster (later ++ past) e z y.number → TakesBeside (e ∷ later ++ past) z y.number h x
    → is_gone (later ++ past) x ≡ true
gone_first roster past later e h x y z px py before has_x has_y b t =
    let L = later ++ past in
    let same : b.request ≡ t.request = same_Some b.request t.request (sym b.call ∙ t.call) in
    let best =
    subst (λ c. option_map (λ (item : Item). item.number) (best_of t.request.kind (takeable roster L e c))
    ≡ Some y.number) t.channel
    (subst (λ (r : ReceiveRequest). option_map (λ (item : Item). item.number)
    (best_of r.kind (takeable roster L e r.channel)) ≡ Some y.number) same b.best) in
    let w = some_number (best_of t.request.kind (takeable roster L e h)) y.number best in
    let at : item_at roster L x.number ≡ Some (record { item = px.first; channel = h }) =
    item_later roster past later x.number _ px.made in
    let y_at : item_at roster L y.number ≡ Some (record { item = py.first; channel = h }) =
    item_later roster past later y.number _ py.made in
    let number : px.first.number ≡ x.number = (item_made roster L x.number _ at).makes_it.number in
    let below : y.number ≤ length L = item_below roster L y.number _ y_at in
    let w_priority : w.0.priority ≡ y.priority =
    sym (best-at (λ (v : Item). priority_before roster L e v.number ≡ v.priority) t.request.kind
    (takeable roster L e h) w.0 (takeable_priorities roster L e h) w.1)
    ∙ ap (priority_before roster L e) w.2 ∙ before_earlier roster e L y.number below
    ∙ priority_told (item_among (items_by_now L (items roster L)) y.number) y.priority has_y in
    let v = now L px.first in
    let v_priority : v.priority ≡ x.priority = sym (item_priority roster L x.number _ at)
    ∙ priority_told (item_among (items_by_now L (items roster L)) x.number) x.priority has_x in
    elim (is_gone L x) as (λ d. is_gone L x ≡ d → d ≡ true) [
      | true ↦ λ _. refl
      | false ↦ λ stays.
          let open_still = standing roster L e h t.request.kind w.0 w.1 (omega (arith, w.2, below)) in
          let after =
          behind_one roster L e h t.request.kind w.0 w.1 x.number px.first at
          (grind (arith, number, px.what, stays)) open_still (grind (arith, px.what, t.may))
          (λ one. grind (arith, nat_tests, one, w.2, w_priority, number, v_priority, before)) in
          grind (arith, nat_tests, after, w.2, w_priority, number, v_priority, before)
    ] refl

pub first_goes_first : FirstGoesFirst
first_goes_first past roster after e r l later is h =
    let L = later ++ past in
    subst (λ t. AllByRecursion
    (λ x. AllByRecursion (λ y. comes_before x y ≡ true → HasPriority roster t x → HasPriority roster t y
    → AllByRecursion (λ z. TakesBeside (e ∷ t) z y.number h x → is_gone t x ≡ true) e.completions)
    (pending_items roster past h)) (pending_items roster past h)) (sym is)
    (all_more _ _ (pending_items roster past h) (pending_all roster past h) (λ x px.
    all_more _ _ (pending_items roster past h) (pending_all roster past h) (λ y py first has_x has_y.
    all_more (λ z. (i : ℕ) → number_received z ≡ Some i → TakesBest roster L e z i) _ e.completions
    (best_first roster (e ∷ L) r (subst (λ t. IsLawful roster (e ∷ t)) is l)).1 (λ z best t.
    gone_first roster past later e h x y z px py first has_x has_y (best y.number t.item) t))))
