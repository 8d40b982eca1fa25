-- The lengths of the buffers that completions return.
use Rattle.qrules.proofs.Basics.{answer_same, sent_same, asks, makes, unblocks, writes, reply_finish, message_item}
use Rattle.qrules.proofs.Basics.{receipt_of, Finish, ends_sender, Received, buffer_after_write, Facts, message, sender}
use Rattle.qrules.proofs.Basics.{threads_of, route, number_of, after_receipt, after_unblock, after_write}
use Rattle.qrules.proofs.Basics.{open_call_after, unless, with_writes, open_call, filled, with_receipt, Passes}
use Rattle.qrules.proofs.Basics.{block_asked, open_parts, Delivers, delivery_meets, receive_takes, facts_of, IsLawful}
use Rattle.qrules.proofs.Basics.{completion_names, laws_of, passes_of}
use Rattle.qrules.proofs.Common.{◌≡◌, ℕ, ◌≤◌, List, [], ◌∷◌, length, refl, ap, sym, subst, ◌∙◌, cond, Bool, true, false}
use Rattle.qrules.proofs.Common.{eqb, arith, inl, inr, buffer_of_open, with_buffer, AllByRecursion, none-some}
use Rattle.qrules.proofs.Common.{same_Some, laid_count, lay_over, is_pulse, Item, Any, completion_to, row_of}
use Rattle.qrules.proofs.Common.{refusal_unless_held, receipt_completion, SentItem, Event, Trace, Call, Completion}
use Rattle.qrules.proofs.Common.{Mark, OpenCall, IsRoster, Member, call_at, all_filter_map, all_more, eqb_same}
use Rattle.qrules.proofs.Common.{Transfer, buffer_in, channel_of, Option, None, Some, is_some}
use Rattle.std.proofs.lemmas.Bool.{ne_eqb, true≢false}
use Rattle.qmodel.specs.Buffers.{buffer_of}
use Rattle.qmodel.specs.declared.call.Call.TheVariants.{Send, Receive, Reply, Read}
use Rattle.qbase.proofs.Lengths.{lay_length}
use Rattle.qrules.proofs.Traces.TraceLaws.Blocked.{some_receipt}
use Rattle.qrules.proofs.Traces.Past.OpenCalls.{open_accepted, open_refused}
use Rattle.qmodel.specs.declared.call.Mark.TheVariants as mark

taking_length : (item : Item) (message : List ℕ) (u m : ℕ) (buffer : List ℕ)
    → length (receipt_completion item message u m buffer).buffer ≡ length buffer
taking_length item message u m buffer =
    elim (is_pulse item.what)
    as (λ b. length (cond {A = Mark × List ℕ} b (mark.Pulse item.number item.priority item.what, buffer) (
      mark.Message item.number (laid_count buffer 0 message),
      lay_over buffer 0 message,
    )).1 ≡ length buffer) [
      | true ↦ refl
      | false ↦ lay_length buffer 0 message
    ]

-- ---- the call's own completion

own_length : (f : Facts) (t : ℕ) (c : Call) (y : Completion) → (row_of f t c).own ≡ Some y
    → length y.buffer ≡ length (buffer_of c)
own_length f t (Receive chid buffer) y e = let k = receive_takes f t chid Any buffer y e in
    ap (λ x. length x.buffer) (sym k.completion) ∙ taking_length k.item _ t f.number buffer
own_length f t (Read rcvid offset buffer) y e = ap (λ x. length x.buffer) (sym (same_Some _ y e))
    ∙ lay_length buffer 0 _
own_length f t c y e = grind arith

-- ---- another thread's completion

met_length : (f : Facts) (o : Option ℕ) (item : Item) (message : List ℕ) (u : ℕ) (y : Completion)
    → Delivers f o item message u y → length y.buffer ≡ length (buffer_of_open (f.open_call u))
met_length f o item message u y k = ap (λ x. length x.buffer) (sym k.completion)
    ∙ taking_length item message u k.receive.number k.receive.buffer
    ∙ ap (λ x. length (buffer_of_open x)) (sym k.is_open)

answered_length : (f : Facts) (t rcvid : ℕ) (finish : Finish) (u : ℕ) (y : Completion)
    → ((b : List ℕ) → length (finish b).1 ≡ length b) → refusal_unless_held f t rcvid ≡ None
    → ends_sender f finish (sender f rcvid) u ≡ Some y → length y.buffer ≡ length (buffer_of_open (f.open_call u))
answered_length f t rcvid finish u y keeps r e = grind arith

ends_length : (f : Facts) (t : ℕ) (c : Call) (u : ℕ) (y : Completion) → Passes f t c → (row_of f t c).others u ≡ Some y
    → length y.buffer ≡ length (buffer_of_open (f.open_call u))
ends_length f t (Send coid message reply_buffer) u y p e =
    met_length f (route f t coid) (message_item f t) message u y
    (delivery_meets f (route f t coid) (message_item f t) message u y
    (sym (sent_same f t coid message reply_buffer u p.row) ∙ e))
ends_length f t (Reply rcvid status bytes) u y p e =
    answered_length f t rcvid (reply_finish status bytes) u y (λ b. lay_length b 0 bytes) p.row
    (sym (answer_same f (reply_finish status bytes) (sender f rcvid) u) ∙ e)
ends_length f t c u y p e = grind arith

-- ---- the completions of an event

-- the buffer that thread u gets back if its call completes in call c of thread t: the buffer of that call, or
-- of u's open call
abbrev pub buffer_brought : List Member → Trace → ℕ → Call → ℕ → List ℕ
buffer_brought roster past t c u = cond (eqb u t) (buffer_of c) (buffer_of_open (open_call roster past u))

pub completions_keep_length : (roster : List Member) (past : Trace) (e : Event) → IsRoster roster
    → IsLawful roster (e ∷ past)
    → AllByRecursion (λ x. length x.buffer ≡ length (buffer_brought roster past e.thread e.call x.thread)) e.completions
completions_keep_length roster past e r l =
    let f = facts_of roster past in
    let P = λ (x : Completion). length x.buffer ≡ length (buffer_brought roster past e.thread e.call x.thread) in
    elim (l.1.1) [
      | inl a ↦ subst (AllByRecursion P) (sym a.by_row)
          (all_filter_map P (completion_to f e.thread e.call) (threads_of roster) (λ v y is.
          elim (completion_names f e.thread e.call v y (laws_of f e.thread e.call e.completions a) is) [
            | inl own ↦ rw (own.names.thread, eqb_same e.thread) (own_length f e.thread e.call y own.is)
            | inr other ↦ rw (other.names.thread, other.thread)
                (ends_length f e.thread e.call v y (passes_of f e.thread e.call e.completions a) other.is)
          ]))
      | inr a ↦ subst (AllByRecursion P) (sym a.only) (rw (eqb_same e.thread) refl, tt)
    ]

-- ---- the open call of a thread afterwards

asked_length : (n t h : ℕ) (c : Call) → is_some (asks n t h c) ≡ true
    → length (buffer_of_open (asks n t h c)) ≡ length (buffer_of c)
asked_length n t h c e = grind arith

written_length : (at : ℕ) (bytes : List ℕ) (w : OpenCall)
    → length (buffer_in (with_buffer (λ b. lay_over b at bytes) w)) ≡ length (buffer_in w)
written_length at bytes w = grind (arith, lay_length)

receipt_length : (r : Option Received) (u : ℕ) (o : Option OpenCall)
    → length (buffer_of_open (after_receipt r u o)) ≡ length (buffer_of_open o)
receipt_length r u o = grind arith

write_length : (f : Facts) (w : Option Transfer) (u : ℕ) (o : Option OpenCall)
    → length (buffer_of_open (after_write f w u o)) ≡ length (buffer_of_open o)
write_length f w u o = grind (arith, written_length)

unblock_length : (m : Option SentItem) (w : Option ℕ) (u : ℕ) (o : Option OpenCall)
    → length (buffer_of_open (after_unblock m w u o)) ≡ length (buffer_of_open o)
unblock_length m w u o = grind arith

left_open : (b : Bool) (o : Option OpenCall) (x : OpenCall) → unless b o ≡ Some x → o ≡ Some x
left_open true o x e = absurd (none-some x e)
left_open false o x e = e

-- the buffer of a thread's open call after an accepted call
after_length : (f : Facts) (t : ℕ) (c : Call) (u : ℕ) (x : OpenCall) → open_call_after f t c u ≡ Some x
    → length (buffer_in x) ≡ length (cond (eqb u t) (buffer_of c) (buffer_of_open (f.open_call u)))
after_length f t c u x e =
    let R = row_of f t c in
    let mine = after_receipt (receipt_of f t c) u (asks f.number t (channel_of (makes f t c)) c) in
    let written = after_write f (writes c) u (f.open_call u) in
    let received = after_receipt (receipt_of f t c) u written in
    let others = after_unblock (makes f t c) (unblocks c) u received in
    elim (eqb u t) as (λ b. cond b (unless (is_some R.own) mine) (unless (is_some (R.others u)) others) ≡ Some x
    → length (buffer_in x) ≡ length (cond b (buffer_of c) (buffer_of_open (f.open_call u)))) [
      | true ↦ λ is.
          let left = left_open (is_some R.own) mine x is in
          let asked : is_some (asks f.number t (channel_of (makes f t c)) c) ≡ true =
          sym (some_receipt (receipt_of f t c) u (asks f.number t (channel_of (makes f t c)) c)) ∙ ap is_some left in
          ap (λ o. length (buffer_of_open o)) (sym left)
          ∙ receipt_length (receipt_of f t c) u (asks f.number t (channel_of (makes f t c)) c)
          ∙ asked_length f.number t (channel_of (makes f t c)) c asked
      | false ↦ λ is.
          let left = left_open (is_some (R.others u)) others x is in
          ap (λ o. length (buffer_of_open o)) (sym left) ∙ unblock_length (makes f t c) (unblocks c) u received
          ∙ receipt_length (receipt_of f t c) u written ∙ write_length f (writes c) u (f.open_call u)
    ] e

open_keeps_length : (roster : List Member) (past : Trace) (e : Event) → IsLawful roster (e ∷ past)
    → is_some (open_call roster past e.thread) ≡ false
    → (u : ℕ) (x : OpenCall) → open_call roster (e ∷ past) u ≡ Some x
    → length (buffer_in x) ≡ length (buffer_brought roster past e.thread e.call u)
open_keeps_length roster past e l idle u x is = elim (l.1.1) [
  | inl a ↦ after_length (facts_of roster past) e.thread e.call u x
      (sym (open_accepted roster past e.thread e.call e.completions u l.0 l.1.0 a) ∙ is)
  | inr a ↦
      let before : open_call roster past u ≡ Some x = sym (open_refused roster past e.thread e.call e.completions u a)
      ∙ is in
      let other : eqb u e.thread ≡ false =
      ne_eqb u e.thread
      (λ s. true≢false (sym (ap is_some before) ∙ ap (λ v. is_some (open_call roster past v)) s ∙ idle)) in
      rw (other, before) refl
]

-- ---- an open call

over_length : (w : Option Transfer) (i : ℕ) (b : List ℕ) → length (buffer_after_write w i b) ≡ length b
over_length w i b = grind (arith, lay_length)

pub writes_length : (past : Trace) (i : ℕ) (b : List ℕ) → length (with_writes past i b) ≡ length b
writes_length [] i b = refl
writes_length (e ∷ past) i b = grind (arith, over_length, writes_length past)

filled_length : (past : Trace) (i : ℕ) (w : OpenCall)
    → length (buffer_in (with_buffer (with_writes past i) w)) ≡ length (buffer_in w)
filled_length past i w = grind (arith, writes_length)

kept_length : (priority : ℕ) (unblocked : Bool) (r : Option ℕ) (o : OpenCall)
    → length (buffer_in (with_receipt priority unblocked r o)) ≡ length (buffer_in o)
kept_length priority unblocked r o = grind arith

-- the buffer of an open call is as long as the buffer that its call passed
pub open_calls_keep_length : (roster : List Member) (past : Trace) (u : ℕ) (o : OpenCall)
    → open_call roster past u ≡ Some o → (c : Call) × (call_at past (number_of o) ≡ Some c)
    × (length (buffer_in o) ≡ length (buffer_of c))
open_calls_keep_length roster past u o is =
    let k = open_parts roster past u o is in
    let a = block_asked roster past u k.block k.is in
    let asked : length (buffer_in k.block) ≡ length (buffer_of a.call) =
    ap (λ x. length (buffer_of_open x)) (sym a.asks_it)
    ∙ asked_length (number_of k.block) u a.channel a.call (ap is_some a.asks_it) in (
      a.call,
      ap (call_at past) k.number ∙ a.is,
      ap (λ x. length (buffer_in x)) k.same ∙ kept_length _ _ _ (filled past k.block)
          ∙ filled_length past (number_of k.block) k.block ∙ asked,
    )

-- ---- upper bounds of lengths

-- a thread's passed buffer has enough room for its completion, and for its open call afterwards
pub completion_fits : (roster : List Member) (past : Trace) (e : Event) → IsRoster roster → IsLawful roster (e ∷ past)
    → AllByRecursion (λ x. length x.buffer ≤ length (buffer_brought roster past e.thread e.call x.thread)) e.completions
completion_fits roster past e r l =
    all_more _ _ e.completions (completions_keep_length roster past e r l) (λ x same. omega (arith, same))

pub after_fits : (roster : List Member) (past : Trace) (e : Event) → IsLawful roster (e ∷ past)
    → is_some (open_call roster past e.thread) ≡ false
    → (u : ℕ) → length (buffer_of_open (open_call roster (e ∷ past) u))
    ≤ length (buffer_brought roster past e.thread e.call u)
after_fits roster past e l idle u =
    elim (open_call roster (e ∷ past) u)
    as (λ o. open_call roster (e ∷ past) u ≡ o
    → length (buffer_of_open o) ≤ length (buffer_brought roster past e.thread e.call u)) [
      | None ↦ λ is. omega arith
      | Some o ↦ λ is. let same = open_keeps_length roster past e l idle u o is in omega (arith, same)
    ] refl
