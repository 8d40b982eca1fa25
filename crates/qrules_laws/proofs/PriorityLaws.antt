-- A queued message has the current priority of its sender.
use Rattle.qrules_laws.proofs.Common.{Call, Completion, Facts, IsLawful, Item, List, Member, None, OpenCall, Outcome}
use Rattle.qrules_laws.proofs.Common.{SentItem, Some, Stands, TakesOne, Trace, [], ap, arith, current_priority, eqb}
use Rattle.qrules_laws.proofs.Common.{eqb-true, facts_of, false, false_from_ne_true, inl, inr, is_accepted_by}
use Rattle.qrules_laws.proofs.Common.{is_for_receipt, is_gone, is_pulse, is_received, is_refused_by, item_accepted}
use Rattle.qrules_laws.proofs.Common.{item_at, item_below, item_newest, item_of, laws_of, length, makes, none-some}
use Rattle.qrules_laws.proofs.Common.{or_parts, outcome_of, passes_of, pending_each, priority_of_thread, priority_taken}
use Rattle.qrules_laws.proofs.Common.{receipt_of, refl, refused_sets_none, same_Some, sender_of, sent_by, sets}
use Rattle.qrules_laws.proofs.Common.{standing_is, stays_gone, sym, takes_one, thread_of_send, true, true≢false}
use Rattle.qrules_laws.proofs.Common.{worth_newest, worth_set, worth_stays, ℕ, ◌+◌, ◌∙◌, ◌∷◌, ◌≡◌, ◌≤◌}
use Rattle.std.proofs.lemmas.Bool.Decides.{nat_tests}
use Rattle.qrules_laws.specs.Pending as laws
use Rattle.qrules.proofs.Traces.Past.Priorities.{priority_accepted, priority_refused}

-- a thread that receives no item takes no priority
none_taken : (f : Facts) (t : ℕ) (c : Call) (X : List Completion) (u : ℕ) → Outcome true f t c X
    → ((y : Completion) (i : ℕ) → TakesOne f t c u y i → ⊥) → priority_taken f (receipt_of f t c) u ≡ None
none_taken f t c X u a never = elim (receipt_of f t c) as (λ o. receipt_of f t c ≡ o → priority_taken f o u ≡ None) [
  | None ↦ λ is. refl
  | Some r ↦ λ is. let k = (laws_of f t c X a).receives r is in
      grind (
        arith,
        nat_tests,
        never k.given r.item,
        takes_one f t c r.by k.given (record { number = r.item; copied = r.kept.copied })
            (passes_of f t c X a).row k.is_given k.mark,
      )
] refl

-- a thread whose message hasn't been received receives no item
sender_takes_none : (f : Facts) (t : ℕ) (c : Call) (u : ℕ) (o : OpenCall) → f.open_call t ≡ None
    → f.open_call u ≡ Some o → is_for_receipt o ≡ true → (y : Completion) (i : ℕ) → TakesOne f t c u y i → ⊥
sender_takes_none f t c u o idle is unread y i k = elim k [
  | inl p ↦ none-some o (sym idle ∙ ap f.open_call (sym p.caller) ∙ is)
  | inr m ↦ let same : o ≡ m.waiting = same_Some o m.waiting (sym is ∙ m.is_open) in
      grind (arith, same, unread, m.waits)
]

-- a message has its sender's priority when it is sent
sent_as : (f : Facts) (u : ℕ) (c : Call) (t : ℕ) (m : SentItem) → thread_of_send u c ≡ Some t → makes f u c ≡ Some m
    → (u ≡ t) × (m.item.priority ≡ f.priority u) × (sets c ≡ None)
sent_as f u c t m s e = grind arith

-- a message that isn't gone has its sender's current priority
is_senders : (roster : List Member) (past : Trace) → IsLawful roster past → (h : ℕ) (item : Item) (t : ℕ)
    → Stands roster past h item → is_gone past item ≡ false → is_pulse item.what ≡ false
    → sender_of past item.number ≡ Some t
    → current_priority past item ≡ priority_of_thread roster past t
is_senders roster [] l h item t at stays message sent = absurd (none-some t sent)
is_senders roster (e ∷ past) l h item t at stays message sent =
    let f = facts_of roster past in
    elim (eqb item.number (length past + 1))
    as (λ b. eqb item.number (length past + 1) ≡ b
    → current_priority (e ∷ past) item ≡ priority_of_thread roster (e ∷ past) t) [
      | true ↦ λ same.
          let number : item.number ≡ length past + 1 = eqb-true _ _ same in
          let here : item_of roster e past ≡ Some (record { item = item; channel = h }) =
          sym (item_newest roster e past) ∙ ap (item_at roster (e ∷ past)) (sym number) ∙ at in
          let k = item_accepted roster e past _ here in
          let a : Outcome true f e.thread e.call e.completions = outcome_of roster e past l.1.1 k.0 in
          let s = sent_as f e.thread e.call t _ (rw (same, k.0) at sent) k.1 in
          let taken : priority_taken f (receipt_of f e.thread e.call) e.thread ≡ None =
          none_taken f e.thread e.call e.completions e.thread a (λ y i x. elim x [
            | inl p ↦ none-some _ (sym p.makes_none ∙ k.1)
            | inr m ↦ none-some m.waiting (sym (passes_of f e.thread e.call e.completions a).idle ∙ m.is_open)
          ]) in
          grind (
            arith,
            s,
            taken,
            priority_accepted roster past e.thread e.call e.completions e.thread l.0 l.1.0 a,
            worth_newest e past item number,
          )
      | false ↦ λ other.
          let was : item_at roster past item.number ≡ Some (record { item = item; channel = h }) = rw other at at in
          let by : sender_of past item.number ≡ Some t = rw other at sent in
          let going : is_gone past item ≡ false =
          false_from_ne_true _
          (λ gone. true≢false (sym (stays_gone past e.thread e.call e.completions item gone) ∙ stays)) in
          let below : item.number ≤ length past = item_below roster past item.number _ was in
          let earlier : current_priority past item ≡ priority_of_thread roster past t =
          is_senders roster past l.0 h item t was going message by in
          let s = sent_by roster past h item l.0 (standing_is roster past h item was going) message in
          let sender : s.sender ≡ t = same_Some s.sender t (sym s.sent ∙ by) in
          elim (l.1.1) as (λ _. current_priority (e ∷ past) item ≡ priority_of_thread roster (e ∷ past) t) [
            | inl a ↦
                let taken : priority_taken f (receipt_of f e.thread e.call) t ≡ None =
                none_taken f e.thread e.call e.completions t a
                (sender_takes_none f e.thread e.call t s.waiting (passes_of f e.thread e.call e.completions a).idle
                (ap (λ v. f.open_call v) (sym sender) ∙ s.is_open) s.unread) in
                grind (
                  arith,
                  worth_set e past item t below message (or_parts (is_received past item.number) _ going).0 by,
                  is_accepted_by roster e past a,
                  earlier,
                  taken,
                  priority_accepted roster past e.thread e.call e.completions t l.0 l.1.0 a,
                )
            | inr a ↦ grind (
              arith,
              worth_stays e past item below (refused_sets_none e past item.number (is_refused_by roster e past a)),
              earlier,
              priority_refused roster past e.thread e.call e.completions t a,
            )
          ]
    ] refl

pub pending_follows_its_sender : laws.PendingFollowsItsSender
pending_follows_its_sender roster past r l h =
    pending_each (λ item. is_pulse item.what ≡ false → (t : ℕ) → sender_of past item.number ≡ Some t
    → item.priority ≡ priority_of_thread roster past t) roster past h
    (λ item at stays message t sent. is_senders roster past l h item t at stays message sent)
