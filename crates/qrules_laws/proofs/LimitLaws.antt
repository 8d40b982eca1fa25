-- No more than 1,024 pulses are queued on a channel.
use Rattle.qrules_laws.proofs.Common.{Call, Facts, Item, List, None, Option, Passes, PriorityChange, Received, SentItem}
use Rattle.qrules_laws.proofs.Common.{Some, [], append-nil, arith, closes, cond, facts_of, false, inl, inr}
use Rattle.qrules_laws.proofs.Common.{is_cancelled, is_pulse, items_with_priority_set, made_on, makes, mover}
use Rattle.qrules_laws.proofs.Common.{mover_what, names, nat_tests, not, passes_of, past_follows, pending_after}
use Rattle.qrules_laws.proofs.Common.{pulses_among, receipt_of, refl, row_of, refusal_if_full, sets, sum_by-append}
use Rattle.qrules_laws.proofs.Common.{true, uncancelled_items, unreceived_items, ℕ, ◌++◌, ◌+◌, ◌∙◌, ◌∷◌, ◌≡◌, ◌≤◌}
use Rattle.qrules_laws.specs.Pending as laws
use Rattle.qrules_laws.proofs.Lists.{count_cons, fewer_left}

-- ---- counts

fewer_out : (o : Option Received) (h : ℕ) (items : List Item)
    → pulses_among (unreceived_items o h items) ≤ pulses_among items
fewer_out o h items = grind (arith, fewer_left (λ (y : Item). is_pulse y.what))

-- setting a priority doesn't change the number of pulses
same_moved : (f : Facts) (h : ℕ) (s : Option PriorityChange) (items : List Item)
    → pulses_among (items_with_priority_set f h s items) ≡ pulses_among items
same_moved f h None items = refl
same_moved f h (Some s) [] = refl
same_moved f h (Some s) (x ∷ items) =
    grind (
      arith,
      count_cons (λ (y : Item). is_pulse y.what) (mover f h s x) (items_with_priority_set f h (Some s) items),
      count_cons (λ (y : Item). is_pulse y.what) x items,
      mover_what f h s x,
      same_moved f h (Some s) items,
    )

-- one more item adds one to the count if it is a pulse
more : (items : List Item) (x : Item) → pulses_among (items ++ x ∷ []) ≡ pulses_among items + cond (is_pulse x.what) 1 0
more items x = sum_by-append (λ (y : Item). cond (is_pulse y.what) 1 0) items (x ∷ []) ∙ omega arith

-- ---- after a call

-- an accepted call that makes a pulse finds room on its channel
finds_room : (f : Facts) (t : ℕ) (c : Call) (m : SentItem) → (row_of f t c).refusal ≡ None → makes f t c ≡ Some m
    → is_pulse m.item.what ≡ true → refusal_if_full f m.channel ≡ None
finds_room f t c m r is pulse = grind arith

limited : (f : Facts) (t : ℕ) (c : Call) (h : ℕ) → Passes f t c → pulses_among (f.pending h) ≤ 1024
    → pulses_among (f.pending h ++ made_on h (makes f t c)) ≤ 1024
limited f t c h p few =
    elim (makes f t c) as (λ o. makes f t c ≡ o → pulses_among (f.pending h ++ made_on h o) ≤ 1024) [
      | None ↦ λ is. rw append-nil few
      | Some m ↦ λ is. grind (arith, nat_tests, append-nil, more, finds_room f t c m p.row is)
    ] refl

limited_after : (f : Facts) (t : ℕ) (c : Call) (h : ℕ) → Passes f t c → pulses_among (f.pending h) ≤ 1024
    → pulses_among (pending_after f t c h) ≤ 1024
limited_after f t c h p few =
    let M = made_on h (makes f t c) in
    let L = uncancelled_items f t c h (f.pending h ++ M) in
    let out = unreceived_items (receipt_of f t c) h L in
    elim (names (closes c) h) as (λ b. pulses_among (cond b [] (items_with_priority_set f h (sets c) out)) ≤ 1024) [
      | true ↦ omega arith
      | false ↦ omega (
        arith,
        limited f t c h p few,
        fewer_left (λ (y : Item). is_pulse y.what) (λ item. not (is_cancelled f t c h item.number)) (f.pending h ++ M),
        fewer_out (receipt_of f t c) h L,
        same_moved f h (sets c) out,
      )
    ]

pub pulses_are_limited : laws.PulsesAreLimited
pulses_are_limited roster [] r l h = omega arith
pulses_are_limited roster (e ∷ past) r l h =
    let few = pulses_are_limited roster past r l.0 h in
    elim (l.1.1) [
      | inl a ↦ rw ((past_follows true roster past e.thread e.call e.completions r l.0 l.1.0 a).pending h)
          (limited_after (facts_of roster past) e.thread e.call h
          (passes_of (facts_of roster past) e.thread e.call e.completions a) few)
      | inr a ↦ rw ((past_follows false roster past e.thread e.call e.completions r l.0 l.1.0 a).pending h) few
    ]
