-- An item's place falls by one for each item before it that is gone.
use Rattle.qrules_laws.proofs.Common.{AllByRecursion, Bool, Event, Item, List, Member, Stands, Trace, [], ap, arith}
use Rattle.qrules_laws.proofs.Common.{comes_before, cond, false, false_from_ne_true, is_destroyed, is_gone, is_pulse}
use Rattle.qrules_laws.proofs.Common.{is_received, item_below, item_of, items_more, items_on, made_by, made_on, map}
use Rattle.qrules_laws.proofs.Common.{now, or_parts, pending_is, pending_items, refl, sent_by, standing_is, matches_all}
use Rattle.qrules_laws.proofs.Common.{staying, stays_gone, subst, sum_by-append, sym, true, true≢false, worth_newest}
use Rattle.qrules_laws.proofs.Common.{worth_set, ℕ, ◌+◌, ◌∙◌, ◌∷◌, ◌≡◌, ◌≤◌, ◌++◌, None, Some, not, count_by, filter}
use Rattle.std.proofs.lemmas.List.{map-append}
use Rattle.std.proofs.lemmas.List.Elements.{filter-append}
use Rattle.std.proofs.lemmas.Bool.Decides.{nat_tests}
use Rattle.qrules.proofs.Words.Lawful as old
use Rattle.qrules_laws.specs.Pending as laws
use Rattle.qrules_laws.proofs.Lists.{count_cons, fewer_left}

-- ---- counts

-- some items of L stay and the others go. If an item that stays counts afterwards only if it counted before,
-- the count falls by the items that go.
all_fall : (S P : Item → Type 0) (before g gone : Item → Bool) (n k : Item → Item) (L : List Item) → AllByRecursion S L
    → AllByRecursion P (map n (filter (λ y. not (gone y)) L))
    → ((y : Item) → S y → (g (n y) ≡ g y) × (gone y ≡ true → g y ≡ true)
    × (P (n y) → g y ≡ false → before (k y) ≡ true → before (n y) ≡ true))
    → count_by before (map k (filter (λ y. not (g y)) L)) + count_by before
    (filter g (map n (filter (λ y. not (gone y)) L))) ≤ count_by before (map n (filter (λ y. not (gone y)) L))
all_fall S P before g gone n k [] s p put = omega arith
all_fall S P before g gone n k (y ∷ L) s p put = let w = put y s.0 in
    grind (arith, w.0, w.1, w.2, count_cons before, all_fall S P before g gone n k L s.1)

-- ---- with the definitions of the proofs

module _ (roster : List Member) (past : Trace) (e : Event) (l : old.IsLawful roster past) (h : ℕ) (x : Item) where
  abbrev P : Item → Type 0
  P y = comes_before (laws.as_set_by e past y) x ≡ true → comes_before y x ≡ true

  -- an item that stays comes before x only if it did before the event
  stays_behind : (y : Item) → Stands roster past h y → P (now past y) → is_gone (e ∷ past) y ≡ false
      → comes_before (now (e ∷ past) y) x ≡ true → comes_before (now past y) x ≡ true
  stays_behind y at put stays first =
      let going : is_gone past y ≡ false =
      false_from_ne_true _ (λ gone. true≢false (sym (stays_gone past e.thread e.call e.completions y gone) ∙ stays)) in
      elim (is_pulse y.what) as (λ b. is_pulse y.what ≡ b → comes_before (now past y) x ≡ true) [
        | true ↦ λ pulse. grind (arith, pulse, first)
        | false ↦ λ message.
            let s = sent_by roster past h y l (standing_is roster past h y at going) message in
            grind (
              arith,
              going,
              put,
              first,
              s.sent,
              worth_set e past y s.sender (item_below roster past y.number _ at) message
                  (or_parts (is_received past y.number) _ going).0 s.sent,
            )
      ] refl

  none_made : laws.PutsNoneBefore roster past e h x
      → laws.place x
      (map (now (e ∷ past)) (filter (λ y. not (is_gone (e ∷ past) y)) (made_on h (item_of roster e past)))) ≡ 0
  none_made none =
      elim (item_of roster e past)
      as (λ o. item_of roster e past ≡ o
      → laws.place x (map (now (e ∷ past)) (filter (λ y. not (is_gone (e ∷ past) y)) (made_on h o))) ≡ 0) [
        | None ↦ λ is. refl
        | Some m ↦ λ is. grind (
          arith,
          nat_tests,
          none.made m is,
          worth_newest e past m.item (made_by roster e past m is).number,
        )
      ] refl

  falls : laws.PutsNoneBefore roster past e h x
      → laws.place x (pending_items roster (e ∷ past) h) + laws.place x
      (filter (is_gone (e ∷ past)) (pending_items roster past h)) ≤ laws.place x (pending_items roster past h)
  falls none =
      elim (is_destroyed (e ∷ past) h)
      as (λ b. is_destroyed (e ∷ past) h ≡ b
      → laws.place x (pending_items roster (e ∷ past) h) + laws.place x
      (filter (is_gone (e ∷ past)) (pending_items roster past h)) ≤ laws.place x (pending_items roster past h)) [
        | true ↦ λ closed.
            let nothing : pending_items roster (e ∷ past) h ≡ [] = rw closed refl in
            rw nothing
            (omega (arith, fewer_left (λ y. comes_before y x) (is_gone (e ∷ past)) (pending_items roster past h)))
        | false ↦ λ going.
            let L : List Item = items_on roster past h in
            let M : List Item = made_on h (item_of roster e past) in
            let left : List Item → List Item = filter (λ y. not (is_gone (e ∷ past) y)) in
            let was : pending_items roster past h ≡ map (now past) (staying roster past h) = pending_is roster past h
            ∙ ap (λ b. cond b [] (map (now past) (staying roster past h))) (or_parts _ (is_destroyed past h) going).1 in
            let is : pending_items roster (e ∷ past) h ≡ map (now (e ∷ past)) (left L) ++ map (now (e ∷ past))
            (left M) =
            pending_is roster (e ∷ past) h
            ∙ ap (λ b. cond b [] (map (now (e ∷ past)) (staying roster (e ∷ past) h))) going
            ∙ ap (λ l. map (now (e ∷ past)) (left l)) (items_more roster e past h)
            ∙ ap (map (now (e ∷ past))) (filter-append (λ y. not (is_gone (e ∷ past) y)) L M)
            ∙ map-append (now (e ∷ past)) (left L) (left M) in
            let count : laws.place x (pending_items roster (e ∷ past) h) ≡ laws.place x
            (map (now (e ∷ past)) (left L)) + 0 =
            ap (laws.place x) is ∙ sum_by-append (λ y. cond (comes_before y x) 1 0) (map (now (e ∷ past)) (left L))
            (map (now (e ∷ past)) (left M))
            ∙ ap (λ n. laws.place x (map (now (e ∷ past)) (left L)) + n) (none_made none) in
            let less = all_fall (Stands roster past h) P (λ y. comes_before y x) (is_gone (e ∷ past)) (is_gone past)
            (now past) (now (e ∷ past)) L (matches_all roster past h) (subst (AllByRecursion P) was none.set)
            (λ y at. (refl, stays_gone past e.thread e.call e.completions y, stays_behind y at)) in
            rw (count, was) (omega (arith, less))
      ] refl

pub places_fall : laws.PlacesFall
places_fall roster past e r l h x none = falls roster past e l.0 h x none
