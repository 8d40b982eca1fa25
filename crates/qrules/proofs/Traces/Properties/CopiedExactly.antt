-- Every buffer and every count is as the copying requires.
use Rattle.qrules.proofs.Basics.{answer_same, pulse_same, sent_same, unblocked_same, writes, error_finish, reply_finish}
use Rattle.qrules.proofs.Basics.{message_item, Finish, Facts, message, sender, threads_of, route, number_of}
use Rattle.qrules.proofs.Basics.{reply_buffer, message_same, reply_buffer_same, facts_of, IsLawful, open_call, refuses}
use Rattle.qrules.proofs.Basics.{passes_of, refused, item_below, Passes, call_earlier, call_newest, open_below}
use Rattle.qrules.proofs.Basics.{sender_sends, ReceiveTakes, receive_takes, IsCancelledCall, IsHeldFor, SenderEnds}
use Rattle.qrules.proofs.Basics.{answering, has_sender, held_for, sender_ends, Delivers, delivery_meets, detach_ends}
use Rattle.qrules.proofs.Common.{◌≡◌, ◌∙◌, ℕ, ◌+◌, ◌≤◌, List, [], ◌∷◌, length, refl, ap, sym, subst, cond, arith, Bool}
use Rattle.qrules.proofs.Common.{true, false, inl, inr, message_in, reply_buffer_in, buffer_at, message_at}
use Rattle.qrules.proofs.Common.{CopiedExactly, IsCopied, AllByRecursion, int_eq, same_Some, Errno, Intr, Badf}
use Rattle.qrules.proofs.Common.{is_pulse, Item, Kind, Any, laid_count, Member, completion_to, Answers, row_of}
use Rattle.qrules.proofs.Common.{effect_of, refusal_unless_held, is_over, receipt_completion, SentItem, Event, Trace}
use Rattle.qrules.proofs.Common.{Call, Completion, OpenCall, all_filter_map, buffer_in, ℤ, pos, Option, None, Some}
use Rattle.std.specs.Option.{option_and_then, option_map_or}
use Rattle.std.proofs.lemmas.Bool.{true≢false}
use Rattle.qmodel.specs.Buffers.{buffer_of}
use Rattle.qmodel.specs.declared.call.Call.TheVariants.{Send, Receive, Reply, Error, Read, Write, Pulse, Unblock}
use Rattle.qmodel.specs.declared.call.Call.TheVariants.{ConnectDetach}
use Rattle.qrules.proofs.Traces.Past.Receipts.{best_pending}
use Rattle.qrules.proofs.Traces.Past.Writes.{writes_beyond}
use Rattle.qrules.proofs.Traces.Properties.Messages.{buffer_by, message_sent, open_buffer, open_message}
use Rattle.qrules.proofs.Traces.Properties.Messages.{pending_message}
use Rattle.qrules.proofs.Traces.Properties.Receipts.{completion_of}
use Rattle.qrules.proofs.Traces.Properties.Rows.Telling.{Tells, told_meets, unblock_ends}
use Rattle.qrules.proofs.Traces.Calls.Pulse.{sent_is_pulse}
use Rattle.qrules.proofs.Traces.Calls.Unblock.{is_cancelled}
use Rattle.qmodel.specs.declared.open_call.OpenCall.TheVariants.{Receive as InReceive, Send as InSend}
use Rattle.qrules.specs.Rules.Connections as connect_detach
use Rattle.qrules.specs.Rules.Unblock as unblock
use Rattle.qrules.proofs.Words.Made.{pulse_over}
use Rattle.qrules.proofs.Traces.Calls.ConnectDetach as detaching
use Rattle.qrules.proofs.Traces.Calls.Unblock as unblocking

abbrev event : ℕ → Call → List Completion → Event
event t c X = record { thread = t; call = c; completions = X }

-- ---- buffers and messages of the newest event and of earlier ones

buffer_newest : (e : Event) (past : Trace)
    → buffer_at (e ∷ past) (length past + 1) ≡ buffer_by (e ∷ past) (length past + 1) e.call
buffer_newest e past = ap (λ c. option_map_or (buffer_by (e ∷ past) (length past + 1)) c []) (call_newest e past)

message_newest : (e : Event) (past : Trace) → message_at (e ∷ past) (length past + 1) ≡ message_sent e.call
message_newest e past = ap (λ c. option_map_or message_sent c []) (call_newest e past)

message_earlier : (e : Event) (past : Trace) (i : ℕ) → i ≤ length past → message_at (e ∷ past) i ≡ message_at past i
message_earlier e past i l = ap (λ c. option_map_or message_sent c []) (call_earlier e past i l)

buffer_earlier : (e : Event) (past : Trace) (i : ℕ) → i ≤ length past → writes e.call ≡ None
    → buffer_at (e ∷ past) i ≡ buffer_at past i
buffer_earlier e past i l none = grind arith

-- the buffer of an open call is its buffer so far
buffer_open : (roster : List Member) (e : Event) (past : Trace) (u : ℕ) (o : OpenCall) → writes e.call ≡ None
    → open_call roster past u ≡ Some o → buffer_at (e ∷ past) (number_of o) ≡ buffer_in o
buffer_open roster e past u o none is = buffer_earlier e past (number_of o) (open_below roster past u o is) none
    ∙ open_buffer roster past u o is

-- ---- a held message

-- the open call of the thread that sent the held message
held_call_is : (f : Facts) (t rcvid : ℕ) (s : ℕ) (is : sender f rcvid ≡ Some s) (h : IsHeldFor f t (f.open_call s))
    → option_and_then f.open_call (sender f rcvid) ≡ Some (InSend h.send)
held_call_is f t rcvid s is h = ap (option_and_then f.open_call) is ∙ h.is_open

held_number : (f : Facts) (t rcvid : ℕ) (s : ℕ) (is : sender f rcvid ≡ Some s) (h : IsHeldFor f t (f.open_call s))
    → h.send.number ≡ rcvid
held_number f t rcvid s is h =
    let k = sender_sends f.open_call rcvid (threads_of f.roster) s is in
    sym (ap number_of (same_Some k.waiting (InSend h.send) (sym k.is ∙ h.is_open))) ∙ k.number

-- the message is the message of the call of its number; its buffer is that call's buffer so far
held_message : (roster : List Member) (past : Trace) (t rcvid : ℕ)
    → refusal_unless_held (facts_of roster past) t rcvid ≡ None
    → message (facts_of roster past) rcvid ≡ message_at past rcvid
held_message roster past t rcvid passed =
    let f = facts_of roster past in
    let s = has_sender f t rcvid passed in
    let h = held_for f t rcvid s.0 passed s.1 in
    message_same f rcvid ∙ ap message_in (held_call_is f t rcvid s.0 s.1 h)
    ∙ sym (open_message roster past s.0 (InSend h.send) h.is_open)
    ∙ ap (message_at past) (held_number f t rcvid s.0 s.1 h)

held_buffer : (roster : List Member) (past : Trace) (t rcvid : ℕ)
    → refusal_unless_held (facts_of roster past) t rcvid ≡ None
    → reply_buffer (facts_of roster past) rcvid ≡ buffer_at past rcvid
held_buffer roster past t rcvid passed =
    let f = facts_of roster past in
    let s = has_sender f t rcvid passed in
    let h = held_for f t rcvid s.0 passed s.1 in
    reply_buffer_same f rcvid ∙ ap reply_buffer_in (held_call_is f t rcvid s.0 s.1 h)
    ∙ sym (open_buffer roster past s.0 (InSend h.send) h.is_open)
    ∙ ap (buffer_at past) (held_number f t rcvid s.0 s.1 h)

-- ---- the forms of a completion

-- a message is copied over the buffer, and a pulse doesn't change it
taking_copied : (past : Trace) (e : Event) (m u : ℕ) (item : Item) (buffer bytes : List ℕ) (y : Completion)
    → buffer_at (e ∷ past) m ≡ buffer → (is_pulse item.what ≡ false → message_at (e ∷ past) item.number ≡ bytes)
    → receipt_completion item bytes u m buffer ≡ y → IsCopied past e y y.mark
taking_copied past e m u item buffer bytes y b s is = grind arith

-- the bytes of a Reply are copied over the buffer
replied_copied : (past : Trace) (e : Event) (m u : ℕ) (status : ℤ) (bytes buffer : List ℕ) (y : Completion)
    → (effect_of e.call).replies ≡ Some (status, bytes) → buffer_at (e ∷ past) m ≡ buffer
    → answering m u (reply_finish status bytes) buffer ≡ y
    → IsCopied past e y y.mark
replied_copied past e m u status bytes buffer y says b is = subst (λ (x : Completion). IsCopied past e x x.mark) is (
  bytes,
  says,
  (rw b refl, rw b refl),
)

-- an Error doesn't change the buffer
errored_copied : (past : Trace) (e : Event) (m u : ℕ) (code : ℤ) (buffer : List ℕ) (y : Completion)
    → (effect_of e.call).replies ≡ cond (int_eq code (pos 0)) (Some (pos 0, [])) None → buffer_at (e ∷ past) m ≡ buffer
    → answering m u (error_finish code) buffer ≡ y
    → IsCopied past e y y.mark
errored_copied past e m u code buffer y says b is = grind arith

-- a completion that returns the call's own buffer
plain_copied : (past : Trace) (e : Event) (y x : Completion) → x ≡ y → IsCopied past e x x.mark
    → IsCopied past e y y.mark
plain_copied past e y x is h = subst (λ (z : Completion). IsCopied past e z z.mark) is h

-- ---- each completion of an accepted call

-- the receipt of the best item
best_copied : (roster : List Member) (past : Trace) (t : ℕ) (c : Call) (X : List Completion) (y : Completion)
    (chid : ℕ) (kind : Kind) (buffer : List ℕ) → IsLawful roster past
    → buffer_at (event t c X ∷ past) (length past + 1) ≡ buffer
    → ReceiveTakes (facts_of roster past) t chid kind buffer y → IsCopied past (event t c X) y y.mark
best_copied roster past t c X y chid kind buffer l brought r =
    let b = best_pending roster past chid kind r.item r.best in
    let v = event t c X in
    taking_copied past v (length past + 1) t r.item buffer (message (facts_of roster past) r.item.number) y brought
    (λ sent. message_earlier v past r.item.number (item_below roster past r.item.number _ b.made)
    ∙ sym (pending_message roster past chid r.item l b sent))
    r.completion

own_copied : (roster : List Member) (past : Trace) (t : ℕ) (c : Call) (X : List Completion) (y : Completion)
    → IsLawful roster past → Passes (facts_of roster past) t c → (row_of (facts_of roster past) t c).own ≡ Some y
    → IsCopied past (event t c X) y y.mark
own_copied roster past t (Read rcvid offset buffer) X y l p e =
    plain_copied past (event t (Read rcvid offset buffer) X) y _ (same_Some _ y e)
    (rw (held_message roster past t rcvid p.row) (refl, refl))
own_copied roster past t (Write rcvid offset bytes) X y l p e =
    plain_copied past (event t (Write rcvid offset bytes) X) y _ (same_Some _ y e) (
      refl,
      ap (λ b. laid_count b offset bytes) (held_buffer roster past t rcvid p.row),
    )
own_copied roster past t (Receive chid buffer) X y l p e =
    best_copied roster past t (Receive chid buffer) X y chid Any buffer l
    (buffer_newest (event t (Receive chid buffer) X) past) (receive_takes (facts_of roster past) t chid Any buffer y e)
own_copied roster past t c X y l p e = grind arith

-- the buffer of the Send that gets the reply
answered_buffer : (roster : List Member) (past : Trace) (v : Event) (t rcvid : ℕ) (finish : Finish) (u : ℕ)
    (y : Completion) → writes v.call ≡ None → (r : SenderEnds (facts_of roster past) t rcvid finish u y)
    → buffer_at (v ∷ past) rcvid ≡ r.held.send.reply_buffer
answered_buffer roster past v t rcvid finish u y none r =
    subst (λ i. buffer_at (v ∷ past) i ≡ r.held.send.reply_buffer) r.number
    (buffer_open roster v past u (InSend r.held.send) none r.held.is_open)

-- the receipt of an item by the newest receiver
met_copied : (roster : List Member) (past : Trace) (t : ℕ) (c : Call) (X : List Completion) (u : ℕ) (y : Completion)
    (o : Option ℕ) (item : Item) (sent : List ℕ) → writes c ≡ None
    → (is_pulse item.what ≡ false → message_at (event t c X ∷ past) item.number ≡ sent)
    → Delivers (facts_of roster past) o item sent u y → IsCopied past (event t c X) y y.mark
met_copied roster past t c X u y o item sent none message s =
    taking_copied past (event t c X) s.receive.number u item s.receive.buffer sent y
    (buffer_open roster (event t c X) past u (InReceive s.receive) none s.is_open) message s.completion

-- a cancelled call returns its buffer in its current state
cancel_copied : (roster : List Member) (past : Trace) (t : ℕ) (c : Call) (X : List Completion) (u : ℕ) (y : Completion)
    (is_cancelled : OpenCall → Bool) (errno : Errno) → writes c ≡ None
    → IsCancelledCall is_cancelled errno u (open_call roster past u) y
    → IsCopied past (event t c X) y y.mark
cancel_copied roster past t c X u y is_cancelled errno none k = grind (arith, buffer_open)

-- the receipt of a pulse by the newest receiver
told_now : (roster : List Member) (past : Trace) (t : ℕ) (c : Call) (X : List Completion) (u : ℕ) (y : Completion)
    (o : Option SentItem) → writes c ≡ None → ((m : SentItem) → o ≡ Some m → is_pulse m.item.what ≡ true)
    → Tells (facts_of roster past) o u y → IsCopied past (event t c X) y y.mark
told_now roster past t c X u y o none pulse k =
    met_copied roster past t c X u y (Some k.made.channel) k.made.item [] none
    (λ message. absurd (true≢false (sym (pulse k.made k.is_due) ∙ message))) k.delivers

ends_copied : (roster : List Member) (past : Trace) (t : ℕ) (c : Call) (X : List Completion) (u : ℕ) (y : Completion)
    → Passes (facts_of roster past) t c → (row_of (facts_of roster past) t c).others u ≡ Some y
    → IsCopied past (event t c X) y y.mark
ends_copied roster past t (Unblock thread) X u y p e =
    elim (unblock_ends (facts_of roster past) thread u y (unblock.unblock_pulse (facts_of roster past) thread)
    (sym (unblocked_same (facts_of roster past) t thread u) ∙ e)) [
      | inl cancel ↦ cancel_copied roster past t (Unblock thread) X u y
          (is_cancelled (facts_of roster past) thread u) Intr refl cancel
      | inr k ↦ told_now roster past t (Unblock thread) X u y (unblock.unblock_pulse (facts_of roster past) thread) refl
          (λ m is. unblocking.due_is_pulse (facts_of roster past) thread m is) k
    ]
ends_copied roster past t (ConnectDetach coid) X u y p e =
    elim (detach_ends (facts_of roster past) coid (connect_detach.disconnect_pulse (facts_of roster past) t coid) u y
    e) [
      | inl cancel ↦ cancel_copied roster past t (ConnectDetach coid) X u y (is_over coid) Badf refl cancel
      | inr s ↦ told_now roster past t (ConnectDetach coid) X u y
          (connect_detach.disconnect_pulse (facts_of roster past) t coid) refl
          (λ m is. detaching.due_is_pulse (facts_of roster past) t coid m is)
          (told_meets (facts_of roster past) (connect_detach.disconnect_pulse (facts_of roster past) t coid) u y s)
    ]
ends_copied roster past t (Send coid sent reply_buffer) X u y p e =
    met_copied roster past t (Send coid sent reply_buffer) X u y (route (facts_of roster past) t coid)
    (message_item (facts_of roster past) t) sent refl
    (λ message. message_newest (event t (Send coid sent reply_buffer) X) past)
    (delivery_meets (facts_of roster past) (route (facts_of roster past) t coid)
    (message_item (facts_of roster past) t) sent u y
    (sym (sent_same (facts_of roster past) t coid sent reply_buffer u p.row) ∙ e))
ends_copied roster past t (Pulse coid level code value) X u y p e =
    let o = pulse_over (facts_of roster past) coid level code value in
    told_now roster past t (Pulse coid level code value) X u y o refl
    (λ m is. sent_is_pulse (facts_of roster past) coid level code value m is)
    (told_meets (facts_of roster past) o u y (sym (pulse_same (facts_of roster past) o u) ∙ e))
ends_copied roster past t (Reply rcvid status bytes) X u y p e =
    let r = sender_ends (facts_of roster past) t rcvid (reply_finish status bytes) u y p.row
    (sym (answer_same (facts_of roster past) (reply_finish status bytes) (sender (facts_of roster past) rcvid) u)
    ∙ e) in
    let v = event t (Reply rcvid status bytes) X in
    replied_copied past v rcvid u status bytes r.held.send.reply_buffer y refl
    (answered_buffer roster past v t rcvid (reply_finish status bytes) u y refl r) r.completion
ends_copied roster past t (Error rcvid code) X u y p e =
    let r =
    sender_ends (facts_of roster past) t rcvid (error_finish code) u y p.row
    (sym (answer_same (facts_of roster past) (error_finish code) (sender (facts_of roster past) rcvid) u) ∙ e) in
    let v = event t (Error rcvid code) X in
    errored_copied past v rcvid u code r.held.send.reply_buffer y refl
    (answered_buffer roster past v t rcvid (error_finish code) u y refl r) r.completion
ends_copied roster past t c X u y p e = grind (arith, buffer_open)

completion_copied : (roster : List Member) (past : Trace) (t : ℕ) (c : Call) (X : List Completion) (u : ℕ)
    (y : Completion) → IsLawful roster past → Passes (facts_of roster past) t c
    → completion_to (facts_of roster past) t c u ≡ Some y → IsCopied past (event t c X) y y.mark
completion_copied roster past t c X u y l p e = elim (completion_of (facts_of roster past) t c u y e) [
  | inl h ↦ own_copied roster past t c X y l p h.1
  | inr h ↦ ends_copied roster past t c X u y p h.1
]

-- ---- each event

-- a call that fails has the buffer that it passed, because nothing was written over it
refused_buffer : (roster : List Member) (past : Trace) (t : ℕ) (c : Call) (X : List Completion) → IsLawful roster past
    → refuses X (length past + 1) ≡ true → buffer_of c ≡ buffer_at (event t c X ∷ past) (length past + 1)
refused_buffer roster past t c X l r = grind (arith, writes_beyond)

all_copied : (roster : List Member) (past : Trace) (t : ℕ) (c : Call) (X : List Completion) → IsLawful roster past
    → Answers (facts_of roster past) t c X
    → AllByRecursion (λ x. IsCopied past (event t c X) x x.mark) X
all_copied roster past t c X l a = elim a [
  | inl a ↦ subst (AllByRecursion (λ x. IsCopied past (event t c X) x x.mark)) (sym a.by_row)
      (all_filter_map (λ x. IsCopied past (event t c X) x x.mark) (completion_to (facts_of roster past) t c)
      (threads_of roster)
      (λ u y e. completion_copied roster past t c X u y l (passes_of (facts_of roster past) t c X a) e))
  | inr a ↦ subst (AllByRecursion (λ x. IsCopied past (event t c X) x x.mark)) (sym a.only) (
    refused_buffer roster past t c X l (refused roster past t c X a),
    tt,
  )
]

pub copied_exactly : (roster : List Member) (past : Trace) → IsLawful roster past → CopiedExactly past
copied_exactly roster [] l = tt
copied_exactly roster (e ∷ past) l =
    (copied_exactly roster past l.0, all_copied roster past e.thread e.call e.completions l.0 l.1.1)
