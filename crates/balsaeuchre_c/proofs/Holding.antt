-- A message that an event receives is held after it, and `Info` returns its data.
use Rattle.balsaeuchre_c.proofs.Common.{AllByRecursion, Answers, Bool, Call, Completion, ConnectDetach, Delivers, Facts}
use Rattle.balsaeuchre_c.proofs.Common.{IsLawful, IsRoster, Item, Kind, List, Member, None, OpenCall, Option, Outcome}
use Rattle.balsaeuchre_c.proofs.Common.{Pulse, Send, SentItem, Some, Trace, Unblock, all_filter_map, ap, arith, best_of}
use Rattle.balsaeuchre_c.proofs.Common.{call_laws, completion_to, copied_count_of, delivery_meets, detach_ends}
use Rattle.balsaeuchre_c.proofs.Common.{ended_below, ends_other, ends_own, eq-eqb, eqb, facts_of, false, filled}
use Rattle.balsaeuchre_c.proofs.Common.{completes, info_of, info_of_open, inl, inr, is_ended, is_for_answer}
use Rattle.balsaeuchre_c.proofs.Common.{is_pulse, is_some, is_unblocked, item_in, kept, kept_number, laws_of, length}
use Rattle.balsaeuchre_c.proofs.Common.{makes, member_at, ne_eqb, none-some, number_of, open_call, open_from}
use Rattle.balsaeuchre_c.proofs.Common.{open_known, open_parts, passes_of, priority_of_item, pulse_same}
use Rattle.balsaeuchre_c.proofs.Common.{receipt_completion, receipt_for_answer, receive_takes, refl, row_of, sender}
use Rattle.balsaeuchre_c.proofs.Common.{sender_sends, sent_same, sent_way, some_of, subst, sym, threads_of, true}
use Rattle.balsaeuchre_c.proofs.Common.{unblocked_same, with_event, with_receipt, ℕ, ◌+◌, ◌∙◌, ◌≡◌}
use Rattle.qmodel.specs.declared.call.Info.{Info as Told}
use Rattle.qrules.proofs.Traces.Past.Receipts.{accepted_receipts, best_pending, completion_receives}
use Rattle.qrules.proofs.Traces.Properties.Messages.{item_waits, pending_going}
use Rattle.qrules.proofs.Traces.Properties.Receipts.{completion_of}
use Rattle.qrules.proofs.Traces.Properties.Rows.Telling.{Tells, told_meets, unblock_ends}
use Rattle.qrules.proofs.Traces.TraceLaws.Held.{held_sender}
use Rattle.std.specs.Option.{option_and_then}
use Rattle.qrules.proofs.Words.Made.{pulse_over}
use Rattle.qrules.specs.Rules.Unblock as unblock
use Rattle.qmodel.specs.declared.call.Mark.TheVariants as mark

-- ---- a receipt whose result is a message

-- such a completion takes the message with this number
abbrev TakesMessage : Item → ℕ → Type 0
TakesMessage x i = (is_pulse x.what ≡ false) × (x.number ≡ i)

message_taken : (x : Item) (sent : List ℕ) (u m : ℕ) (buffer : List ℕ) (y : Completion) (i copied : ℕ)
    → receipt_completion x sent u m buffer ≡ y → y.mark ≡ mark.Message i copied → TakesMessage x i
message_taken x sent u m buffer y i copied e is = grind arith

-- the caller takes the best queued item, and completes no other call
record TakesBest (f : Facts) (t : ℕ) (c : Call) (i : ℕ) : Type 0 where
  pub channel : ℕ
  pub kind : Kind
  pub best_item : Item
  pub best : best_of kind (f.pending channel) ≡ Some best_item
  pub takes : TakesMessage best_item i
  pub alone : (u : ℕ) → (row_of f t c).others u ≡ None

own_message : (f : Facts) (t : ℕ) (c : Call) (y : Completion) (i copied : ℕ) → (row_of f t c).own ≡ Some y
    → y.mark ≡ mark.Message i copied → TakesBest f t c i
own_message f t c y i copied e m = grind (arith, receive_takes f t, message_taken)

-- another thread takes the item that the call makes
record TakesMade (f : Facts) (t : ℕ) (c : Call) (i : ℕ) : Type 0 where
  pub made : SentItem
  pub is_made : makes f t c ≡ Some made
  pub takes : TakesMessage made.item i

met_message : (f : Facts) (t : ℕ) (c : Call) (o : Option ℕ) (x : Item) (sent : List ℕ) (u : ℕ) (y : Completion)
    (i copied : ℕ) → Delivers f o x sent u y
    → ((h : ℕ) → o ≡ Some h → makes f t c ≡ Some (record { item = x; channel = h }))
    → y.mark ≡ mark.Message i copied → TakesMade f t c i
met_message f t c o x sent u y i copied s made m = grind (arith, message_taken)

told_message : (f : Facts) (t : ℕ) (c : Call) (o : Option SentItem) (u : ℕ) (y : Completion) (i copied : ℕ)
    → makes f t c ≡ o → Tells f o u y → y.mark ≡ mark.Message i copied → TakesMade f t c i
told_message f t c o u y i copied made k m = grind (arith, message_taken)

ends_message : (f : Facts) (t : ℕ) (c : Call) (u : ℕ) (y : Completion) (i copied : ℕ) → (row_of f t c).refusal ≡ None
    → (row_of f t c).others u ≡ Some y → y.mark ≡ mark.Message i copied → TakesMade f t c i
ends_message f t (Unblock thread) u y i copied r e m =
    grind (
      arith,
      unblock_ends f thread u y (unblock.unblock_pulse f thread) (sym (unblocked_same f t thread u) ∙ e),
      told_message,
    )
ends_message f t (ConnectDetach coid) u y i copied r e m = grind (arith, detach_ends, told_message, told_meets)
ends_message f t (Send coid sent reply_buffer) u y i copied r e m =
    grind (
      arith,
      met_message f t (Send coid sent reply_buffer),
      delivery_meets,
      sent_same f t coid sent reply_buffer u r,
      sent_way,
    )
ends_message f t (Pulse coid level code value) u y i copied r e m =
    told_message f t (Pulse coid level code value) (pulse_over f coid level code value) u y i copied refl
    (told_meets f (pulse_over f coid level code value) u y
    (sym (pulse_same f (pulse_over f coid level code value) u) ∙ e)) m
ends_message f t c u y i copied r e m = grind arith

-- ---- the data that `Info` returns for it

-- for an open Send with a receipt it returns data with the count of the receipt
pub record IsToldOf (told : Option Told) (copied : ℕ) : Type 0 where
  pub info : Told
  pub is : told ≡ Some info
  pub count : info.msglen ≡ copied

call_told : (m : Member) (priority copied : ℕ) (unblocked : Bool) (count : Option ℕ) (o : OpenCall)
    → count ≡ Some copied → is_for_answer o ≡ true
    → IsToldOf (info_of_open m (Some (with_receipt priority unblocked count o))) copied
call_told m priority copied unblocked count o is answer = grind arith

held_told : (roster : List Member) (past : Trace) (i copied : ℕ) → IsRoster roster → IsLawful roster past
    → is_ended past i ≡ false → copied_count_of past i ≡ Some copied
    → IsToldOf (info_of (facts_of roster past) (sender (facts_of roster past) i)) copied
held_told roster past i copied rises l going count =
    let f = facts_of roster past in
    let h = held_sender roster past rises l i (rw (count, going) refl) in
    let s = sender_sends (λ u. open_call roster past u) i (threads_of roster) h.thread h.is_sender in
    let k = open_parts roster past h.thread s.waiting s.is in
    let m = some_of (member_at roster h.thread) (open_known roster past h.thread s.waiting l s.is) in
    let n = number_of k.block in
    let answer =
    sym (receipt_for_answer (priority_of_item roster past n) (is_unblocked roster past n) (copied_count_of past n)
    (filled past k.block)) ∙ ap is_for_answer (sym k.same) ∙ s.answer in
    let told =
    call_told m.0 _ copied _ (copied_count_of past n) (filled past k.block)
    (ap (copied_count_of past) (sym k.number ∙ s.number) ∙ count) answer in
    let same : info_of f (sender f i) ≡ info_of_open m.0 (Some (kept roster past k.block)) =
    ap (info_of f) h.is_sender ∙ ap (option_and_then (λ x. info_of_open x (f.open_call h.thread))) m.1
    ∙ ap (info_of_open m.0) (s.is ∙ ap Some k.same) in
    record { info = told.info; is = same ∙ told.is; count = told.count }

-- after the event `Info` returns the data of each message that the event receives, with the count that the
-- receiver got
abbrev pub IsHeldAfter : List Member → Trace → Completion → Type 0
IsHeldAfter roster past x = (i copied : ℕ) → x.mark ≡ mark.Message i copied
    → IsToldOf (info_of (facts_of roster past) (sender (facts_of roster past) i)) copied

-- ---- the message's Send isn't completed in the event that receives it

module _ (roster : List Member) (past : Trace) (t : ℕ) (c : Call) (X : List Completion) (rises : IsRoster roster)
    (l : IsLawful roster past) (member : is_some (member_at roster t) ≡ true)
    (a : Outcome true (facts_of roster past) t c X) where
  -- the facts before
  abbrev f : Facts
  f = facts_of roster past

  best_going : (i : ℕ) → TakesBest f t c i → is_ended (with_event t c X past) i ≡ false
  best_going i k =
      let place = best_pending roster past k.channel k.kind k.best_item k.best in
      let going : is_ended past k.best_item.number ≡ false =
      pending_going roster past k.channel k.best_item place k.takes.0 in
      let w = item_waits roster past k.best_item.number _ l place.made (ap is_pulse place.what ∙ k.takes.0) going in
      let unended : is_ended past (number_of w.block) ≡ false =
      subst (λ j. is_ended past j ≡ false) (sym w.number) going in
      let is_open = open_from roster past w.thread w.block w.is unended in
      let other : eqb w.thread t ≡ false =
      ne_eqb w.thread t
      (λ same. none-some _ (sym (passes_of f t c X a).idle ∙ ap (open_call roster past) (sym same) ∙ is_open)) in
      let kept : completes X (number_of w.block) ≡ false =
      ap (completes X) (sym (kept_number roster past w.block))
      ∙ ends_other roster past t c X w.thread _ l a other is_open ∙ ap is_some (k.alone w.thread) in
      subst (λ j. is_ended (with_event t c X past) j ≡ false) (w.number ∙ k.takes.1) (rw (kept, unended) refl)

  made_going : (i : ℕ) → TakesMade f t c i → is_ended (with_event t c X past) i ≡ false
  made_going i k =
      let none : completes X (length past + 1) ≡ false = ends_own roster past t c X member a
      ∙ ap is_some ((laws_of f t c X a).sends k.made k.is_made k.takes.0) in
      subst (λ j. is_ended (with_event t c X past) j ≡ false)
      (sym ((call_laws c).makes_one f t k.made k.is_made).number ∙ k.takes.1)
      (rw (none, ended_below roster past (length past + 1) l (omega arith)) refl)

  -- so `Info` returns its data after the event, with the count that the receiver got
  told_after : (v : ℕ) (y : Completion) → completion_to f t c v ≡ Some y → IsHeldAfter roster (with_event t c X past) y
  told_after v y given i copied m =
      let r = completion_receives f t c v y (record { number = i; copied = copied }) (laws_of f t c X a) given
      (ap item_in m) in
      let going : is_ended (with_event t c X past) i ≡ false = elim (completion_of f t c v y given) [
        | inl own ↦ best_going i (own_message f t c y i copied own.1 m)
        | inr other ↦ made_going i (ends_message f t c v y i copied (passes_of f t c X a).row other.1 m)
      ] in
      held_told roster (with_event t c X past) i copied rises (
        l,
        (member, inl a),
      ) going (rw (accepted_receipts roster past t c X i l member a, r.is, eq-eqb r.receipt.item i (sym r.item))
      (ap Some (sym r.copied)))

pub received_told : (roster : List Member) (past : Trace) (t : ℕ) (c : Call) (X : List Completion) → IsRoster roster
    → IsLawful roster past → is_some (member_at roster t) ≡ true
    → Answers (facts_of roster past) t c X → AllByRecursion (IsHeldAfter roster (with_event t c X past)) X
received_told roster past t c X rises l member answers = elim answers [
  | inl a ↦ subst (AllByRecursion (IsHeldAfter roster (with_event t c X past))) (sym a.by_row)
      (all_filter_map (IsHeldAfter roster (with_event t c X past)) (completion_to (facts_of roster past) t c)
      (threads_of roster) (told_after roster past t c X rises l member a))
  | inr a ↦ subst (AllByRecursion (IsHeldAfter roster (with_event t c X past))) (sym a.only) (
    (λ i copied m. absurd (none-some _ (ap item_in m))),
    tt,
  )
]
