-- No item is received twice, none before it was made, and no call completes twice.
use Rattle.qrules.proofs.Common.{◌≡◌, ◌≢◌, ◌∙◌, ℕ, ◌+◌, ◌≤◌, List, [], ◌∷◌, ◌++◌, length, map, refl, ap, sym, subst}
use Rattle.qrules.proofs.Common.{arith, eqb, true, false, inl, inr, option_or, filter_map-append, same_Some}
use Rattle.qrules.proofs.Common.{option_and_then_some, AllDifferent, ReceivedOnce, items, number_received, InEachEvent}
use Rattle.qrules.proofs.Common.{completions_of, AllByRecursion, filter_map, cons_option, map-append, Member, IsRoster}
use Rattle.qrules.proofs.Common.{completion_to, Answers, Outcome, item_among, SentItem, Event, Trace, Call, Completion}
use Rattle.qrules.proofs.Common.{all_append, all_map, all_more, Option, None, Some, is_some}
use Rattle.std.proofs.lemmas.Bool.{or_parts, ne_eqb, eqb-false, true≢false}
use Rattle.qrules.proofs.Basics.{Facts, threads_of, facts_of, IsLawful, completes, is_ended, is_received}
use Rattle.qrules.proofs.Basics.{copied_count_among, copied_count_of, completion_names, laws_of, not_ended, other_below}
use Rattle.qrules.proofs.Basics.{IsPending, item_at, item_below, item_earlier, item_found, item_newest, call_laws}
use Rattle.qrules.proofs.Basics.{open_thread}
use Rattle.qrules.proofs.Traces.Past.Receipts.{best_pending, completion_receives, receipt_beyond}
use Rattle.qrules.proofs.Traces.Properties.Different.{IsNoneOf, different_append, different_kept, calls_as}
use Rattle.qrules.proofs.Traces.Properties.Receipts.{TakesPending, TakesMade, receives_it}
use Rattle.qrules.proofs.Traces.Properties.Events.{each_received, made_now}

eqb_flip : (n m : ℕ) → eqb n m ≡ false → eqb m n ≡ false
eqb_flip n m e = ne_eqb m n (λ same. eqb-false n m e (sym same))

-- ---- no call completes twice

-- completions of one event that go to two threads are of different calls
pub different_calls : (roster : List Member) (past : Trace) (t : ℕ) (c : Call) (X : List Completion)
    → Outcome true (facts_of roster past) t c X → (u v : ℕ) (y z : Completion) → u ≢ v
    → completion_to (facts_of roster past) t c u ≡ Some y → completion_to (facts_of roster past) t c v ≡ Some z
    → eqb y.call z.call ≡ false
different_calls roster past t c X a u v y z apart yis zis =
    let f = facts_of roster past in
    let laws = laws_of (facts_of roster past) t c X a in
    elim (completion_names f t c u y laws yis) as (λ _. eqb y.call z.call ≡ false) [
      | inl h ↦ elim (completion_names f t c v z laws zis) as (λ _. eqb y.call z.call ≡ false) [
        | inl k ↦ absurd (apart (h.thread ∙ sym k.thread))
        | inr k ↦ let below : z.call ≤ length past = other_below roster past v z k.names in
            ne_eqb y.call z.call (λ same. omega (arith, h.names.call))
      ]
      | inr h ↦ elim (completion_names f t c v z laws zis) as (λ _. eqb y.call z.call ≡ false) [
        | inl k ↦ let below : y.call ≤ length past = other_below roster past u y h.names in
            ne_eqb y.call z.call (λ same. omega (arith, k.names.call))
        | inr k ↦ ne_eqb y.call z.call (λ same.
            apart (open_thread roster past u v h.names.waiting k.names.waiting h.names.is k.names.is
            (sym h.names.call ∙ same ∙ k.names.call)))
      ]
    ]

-- the completions of one event are of different calls
event_calls : (roster : List Member) (past : Trace) (t : ℕ) (c : Call) (X : List Completion) → IsRoster roster
    → Answers (facts_of roster past) t c X → AllDifferent (map (λ x. x.call) X)
event_calls roster past t c X r a = elim a [
  | inl a ↦ rw (a.by_row, calls_as (filter_map (completion_to (facts_of roster past) t c) (threads_of roster)))
      (different_kept (λ x. Some x.call) (completion_to (facts_of roster past) t c) roster r (λ u v i j less eu ev.
      option_and_then_some (λ (x : Completion). Some x.call) (completion_to (facts_of roster past) t c u) i eu
      (λ y yis yi.
      option_and_then_some (λ (x : Completion). Some x.call) (completion_to (facts_of roster past) t c v) j ev
      (λ z zis zj.
      subst (λ n. eqb n j ≡ false) (same_Some y.call i yi) (subst (λ n. eqb y.call n ≡ false) (same_Some z.call j zj)
      (different_calls roster past t c X a u v y z (λ same. omega arith) yis zis))))))
  | inr a ↦ rw (a.only) (tt, tt)
]

none_ends : (X : List Completion) (i : ℕ) → completes X i ≡ false → IsNoneOf i (map (λ x. x.call) X)
none_ends [] i e = tt
none_ends (x ∷ X) i e = let p = or_parts _ _ e in (eqb_flip x.call i p.0, none_ends X i p.1)

-- a call that hasn't completed isn't among the completed calls
unended : (past : Trace) (i : ℕ) → is_ended past i ≡ false → IsNoneOf i (map (λ x. x.call) (completions_of past))
unended [] i e = tt
unended (e ∷ past) i is =
    let p = or_parts (completes e.completions i) (is_ended past i) is in
    rw (map-append (λ (x : Completion). x.call) e.completions (completions_of past))
    (all_append (λ m. eqb i m ≡ false) (map (λ x. x.call) e.completions) (map (λ x. x.call) (completions_of past))
    (none_ends e.completions i p.0) (unended past i p.1))

pub each_call : (roster : List Member) (past : Trace) → IsRoster roster → IsLawful roster past
    → AllDifferent (map (λ x. x.call) (completions_of past))
each_call roster [] r l = tt
each_call roster (e ∷ past) r l =
    rw (map-append (λ (x : Completion). x.call) e.completions (completions_of past))
    (different_append (map (λ x. x.call) e.completions) (map (λ x. x.call) (completions_of past))
    (event_calls roster past e.thread e.call e.completions r l.1.1)
    (each_call roster past r l.0)
    (all_map (λ i. IsNoneOf i (map (λ x. x.call) (completions_of past))) (λ x. x.call) e.completions
    (all_more (λ x. is_ended past x.call ≡ false) (λ x. IsNoneOf x.call (map (λ x. x.call) (completions_of past)))
    e.completions
    (not_ended roster past e.thread e.call e.completions l.0 l.1.1) (λ x is. unended past x.call is))))

-- ---- no item is received twice

-- an item that the caller takes was queued
pending_taken : (roster : List Member) (past : Trace) (t : ℕ) (c : Call) (u : ℕ) (y : Completion) (i : ℕ)
    (k : TakesPending (facts_of roster past) t c u y i) → IsPending roster past k.request.channel k.item
pending_taken roster past t c u y i k = best_pending roster past k.request.channel k.request.kind k.item k.best

-- the item that a call makes has its number
made_number : (f : Facts) (t : ℕ) (c : Call) (u : ℕ) (y : Completion) (i : ℕ) → TakesMade f t c u y i → i ≡ f.number
made_number f t c u y i k = sym k.number ∙ ((call_laws c).makes_one f t k.made k.is_made).number

all_kept : {Y Z : Type 0} (P : Z → Type 0) (k : Y → Option Z) (xs : List Y)
    → AllByRecursion (λ x. (z : Z) → k x ≡ Some z → P z) xs → AllByRecursion P (filter_map k xs)
all_kept P k [] a = tt
all_kept {Y} {Z} P k (x ∷ xs) a =
    elim (k x) as (λ o. k x ≡ o → AllByRecursion P (cons_option o (filter_map k xs))) [
      | None ↦ λ e. all_kept P k xs a.1
      | Some z ↦ λ e. (a.0 z e, all_kept P k xs a.1)
    ] refl

-- an item that an event receives wasn't received before
untaken_yet : (roster : List Member) (past : Trace) (t : ℕ) (c : Call) (X : List Completion) → IsLawful roster past
    → Answers (facts_of roster past) t c X
    → AllByRecursion (λ i. is_received past i ≡ false) (filter_map number_received X)
untaken_yet roster past t c X l a =
    all_kept (λ i. is_received past i ≡ false) number_received X
    (each_received (λ x i. is_received past i ≡ false) roster past t c X a (λ u y i _ k.
    elim k as (λ _. is_received past i ≡ false) [
      | inl k ↦ let b = pending_taken roster past t c u y i k in
          subst (λ j. is_received past j ≡ false) k.number (or_parts _ _ b.stays).0
      | inr k ↦ subst (λ j. is_received past j ≡ false) (sym (made_number (facts_of roster past) t c u y i k))
          (ap is_some (receipt_beyond roster past (length past + 1) l (omega arith)))
    ]))

-- the completions of one event receive different items, because there is at most one receipt
event_items : (roster : List Member) (past : Trace) (t : ℕ) (c : Call) (X : List Completion) → IsRoster roster
    → Answers (facts_of roster past) t c X → AllDifferent (filter_map number_received X)
event_items roster past t c X r a = elim a [
  | inl a ↦
      rw (a.by_row) (different_kept number_received (completion_to (facts_of roster past) t c) roster r
      (λ u v i j less eu ev.
      let f = facts_of roster past in
      let laws = laws_of (facts_of roster past) t c X a in
      option_and_then_some number_received (completion_to (facts_of roster past) t c u) i eu (λ y yis yi.
      option_and_then_some number_received (completion_to (facts_of roster past) t c v) j ev (λ z zis zj.
      let first = completion_receives f t c u y (receives_it y i yi).0 laws yis (receives_it y i yi).1 in
      let second = completion_receives f t c v z (receives_it z j zj).0 laws zis (receives_it z j zj).1 in
      let one : u ≡ v = sym first.by
      ∙ ap (λ q. q.by) (same_Some first.receipt second.receipt (sym first.is ∙ second.is)) ∙ second.by in
      absurd (omega arith)))))
  | inr a ↦ rw (a.only) tt
]

none_received : (X : List Completion) (i : ℕ) → is_some (copied_count_among X i) ≡ false
    → IsNoneOf i (filter_map number_received X)
none_received [] i e = tt
none_received (x ∷ X) i e = grind (arith, none_received X)

-- an item that hasn't been received isn't among the received items
untaken : (past : Trace) (i : ℕ) → is_received past i ≡ false
    → IsNoneOf i (filter_map number_received (completions_of past))
untaken [] i e = tt
untaken (e ∷ past) i is =
    elim (copied_count_among e.completions i)
    as (λ o. copied_count_among e.completions i ≡ o → is_some (option_or o (copied_count_of past i)) ≡ false
    → IsNoneOf i (filter_map number_received (e.completions ++ completions_of past))) [
      | None ↦ λ none s. rw (filter_map-append number_received e.completions (completions_of past))
          (all_append (λ m. eqb i m ≡ false) (filter_map number_received e.completions)
          (filter_map number_received (completions_of past)) (none_received e.completions i (ap is_some none))
          (untaken past i s))
      | Some copied ↦ λ some s. absurd (true≢false s)
    ] refl is

pub each_item : (roster : List Member) (past : Trace) → IsRoster roster → IsLawful roster past
    → AllDifferent (filter_map number_received (completions_of past))
each_item roster [] r l = tt
each_item roster (e ∷ past) r l =
    rw (filter_map-append number_received e.completions (completions_of past))
    (different_append (filter_map number_received e.completions) (filter_map number_received (completions_of past))
    (event_items roster past e.thread e.call e.completions r l.1.1)
    (each_item roster past r l.0)
    (all_more (λ i. is_received past i ≡ false) (λ i. IsNoneOf i (filter_map number_received (completions_of past)))
    (filter_map number_received e.completions)
    (untaken_yet roster past e.thread e.call e.completions l.0 l.1.1) (λ i is. untaken past i is)))

-- ---- no item is received before it was made

-- an item that was made is among all items
is_made_at : (roster : List Member) (past : Trace) (i : ℕ) (m : SentItem) → item_at roster past i ≡ Some m
    → is_some (item_among (items roster past) i) ≡ true
is_made_at roster past i m is = ap is_some (item_found roster past i m is)

-- an item that an event receives has been made by then
early : (roster : List Member) (past : Trace) (e : Event) → Answers (facts_of roster past) e.thread e.call e.completions
    → AllByRecursion (λ i. is_some (item_among (items roster (e ∷ past)) i) ≡ true)
    (filter_map number_received e.completions)
early roster past e a =
    let Made = λ (i : ℕ). is_some (item_among (items roster (e ∷ past)) i) ≡ true in
    all_kept Made number_received e.completions
    (each_received (λ x i. Made i) roster past e.thread e.call e.completions a (λ u y i o k.
    elim k as (λ _. Made i) [
      | inl k ↦
          let b = pending_taken roster past e.thread e.call u y i k in
          let before : SentItem = record { item = b.first; channel = k.request.channel } in
          subst Made k.number
          (is_made_at roster (e ∷ past) k.item.number before
          (item_earlier roster e past k.item.number (item_below roster past k.item.number before b.made) ∙ b.made))
      | inr k ↦
          subst Made (sym (made_number (facts_of roster past) e.thread e.call u y i k))
          (is_made_at roster (e ∷ past) (length past + 1) k.made
          (item_newest roster e past ∙ made_now roster e past k.made o k.is_made))
    ]))

none_early : (roster : List Member) (past : Trace) → IsLawful roster past
    → InEachEvent (λ past e. AllByRecursion (λ i. is_some (item_among (items roster (e ∷ past)) i) ≡ true)
    (filter_map number_received e.completions)) past
none_early roster [] l = tt
none_early roster (e ∷ past) l = (none_early roster past l.0, early roster past e l.1.1)

pub received_once : (roster : List Member) (past : Trace) → IsRoster roster → IsLawful roster past
    → ReceivedOnce roster past
received_once roster past r l =
    record {
      each_item = each_item roster past r l;
      none_early = none_early roster past l;
      each_call =
          each_call roster past r l;
    }
