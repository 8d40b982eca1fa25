-- A completion that is a reply to a message: the thread that gets it, by each call's row.
use Rattle.qrules.proofs.Basics.{answer_same, unblocked_same, error_finish, reply_finish, message_item, Finish}
use Rattle.qrules.proofs.Basics.{ends_sender, item_sent_over, Facts, is_for_answer, message, sender, threads_of, asks}
use Rattle.qrules.proofs.Basics.{makes, thread_of_send, IsHeldFor, SenderEnds, answering, finished_held, has_sender}
use Rattle.qrules.proofs.Basics.{held_for, sender_ends, sender_sends, Passes, given_is, Delivers, has_way, leads_over}
use Rattle.qrules.proofs.Basics.{detach_ends}
use Rattle.qrules.proofs.Common.{arith, ◌≡◌, ◌∙◌, ℕ, List, [], cond, ap, refl, sym, subst, true, false, inl, inr}
use Rattle.qrules.proofs.Common.{delivery_of, is_answer, int_eq, none-some, same_Some, completion_to, row_of, effect_of}
use Rattle.qrules.proofs.Common.{Item, Connection, error_mark, refusal_unless_held, SentItem, Call, Completion}
use Rattle.qrules.proofs.Common.{OpenCall, eqb_same, ℤ, pos, Option, None, Some}
use Rattle.std.proofs.lemmas.Bool.{true≢false}
use Rattle.qmodel.specs.declared.call.Call.TheVariants.{Send, Reply, Error, Unblock, ConnectDetach}
use Rattle.qmodel.specs.declared.open_call.OpenCall.TheVariants.{Receive as InReceive, Send as InSend}
use Rattle.qrules.proofs.Traces.Properties.Receipts.{completion_of}
use Rattle.qrules.proofs.Traces.Properties.Rows.Telling.{told_meets, unblock_ends}
use Rattle.qmodel.specs.declared.call.Mark.TheVariants as mark
use Rattle.qrules.specs.Rules.Connections as connect_detach
use Rattle.qrules.specs.Rules.Unblock as unblock

-- ---- replies

-- the call names the message of the completion; thread u sent it, and the caller holds it
pub record AnswersHeld (f : Facts) (t : ℕ) (c : Call) (u : ℕ) (y : Completion) : Type 0 where
  pub named : (effect_of c).answers ≡ Some y.call
  pub is_sender : sender f y.call ≡ Some u
  pub held : IsHeldFor f t (f.open_call u)
  pub number : held.send.number ≡ y.call
  pub thread : y.thread ≡ u

no_answer : {P : Type 0} (x y : Completion) → x ≡ y → is_answer x.mark ≡ false → is_answer y.mark ≡ true → P
no_answer x y same none e = absurd (true≢false (sym e ∙ ap (λ z. is_answer z.mark) (sym same) ∙ none))

-- the result of a receipt isn't a reply
given_no_answer : (item : Item) (message buffer : List ℕ) → is_answer (delivery_of item message buffer).0 ≡ false
given_no_answer item message buffer = given_is is_answer false (λ i n. refl) item message buffer refl

met_no_answer : {P : Type 0} (f : Facts) (o : Option ℕ) (item : Item) (sent : List ℕ) (u : ℕ) (y : Completion)
    → Delivers f o item sent u y → is_answer y.mark ≡ true → P
met_no_answer f o item sent u y s is = no_answer _ y s.completion (given_no_answer item sent s.receive.buffer) is

own_answers : (f : Facts) (t : ℕ) (c : Call) (u : ℕ) (y : Completion) → (row_of f t c).own ≡ Some y
    → is_answer y.mark ≡ true → AnswersHeld f t c u y
own_answers f t c u y e is = grind arith

-- the Send that a call completes is the Send that it names
answers_by : (f : Facts) (t : ℕ) (c : Call) (rcvid : ℕ) (finish : Finish) (u : ℕ) (y : Completion)
    → (effect_of c).answers ≡ Some rcvid → SenderEnds f t rcvid finish u y → AnswersHeld f t c u y
answers_by f t c rcvid finish u y named r =
    let call : rcvid ≡ y.call = ap (λ x. x.call) r.completion in
    record {
      named = named ∙ ap (λ i. Some i) call;
      is_sender = subst (λ i. sender f i ≡ Some u) call r.is_sender;
      held = r.held;
      number = r.number ∙ call;
      thread = sym (ap (λ x. x.thread) r.completion);
    }

ends_answers : (f : Facts) (t : ℕ) (c : Call) (u : ℕ) (y : Completion) → Passes f t c
    → (row_of f t c).others u ≡ Some y → is_answer y.mark ≡ true → AnswersHeld f t c u y
ends_answers f t (Reply rcvid status bytes) u y p e is =
    answers_by f t (Reply rcvid status bytes) rcvid (reply_finish status bytes) u y refl
    (sender_ends f t rcvid (reply_finish status bytes) u y p.row
    (sym (answer_same f (reply_finish status bytes) (sender f rcvid) u) ∙ e))
ends_answers f t (Error rcvid code) u y p e is =
    answers_by f t (Error rcvid code) rcvid (error_finish code) u y refl
    (sender_ends f t rcvid (error_finish code) u y p.row (sym (answer_same f (error_finish code) (sender f rcvid) u)
    ∙ e))
ends_answers f t (Unblock thread) u y p e is =
    elim (unblock_ends f thread u y (unblock.unblock_pulse f thread) (sym (unblocked_same f t thread u) ∙ e)) [
      | inl cancel ↦ no_answer _ y cancel.completion refl is
      | inr k ↦ met_no_answer f (Some k.made.channel) k.made.item [] u y k.delivers is
    ]
ends_answers f t (ConnectDetach coid) u y p e is =
    elim (detach_ends f coid (connect_detach.disconnect_pulse f t coid) u y e) [
      | inl cancel ↦ no_answer _ y cancel.completion refl is
      | inr s ↦ let k = told_meets f (connect_detach.disconnect_pulse f t coid) u y s in
          met_no_answer f (Some k.made.channel) k.made.item [] u y k.delivers is
    ]
ends_answers f t c u y p e is = grind arith

-- each completion that is a reply meets AnswersHeld
pub answers_held : (f : Facts) (t : ℕ) (c : Call) (u : ℕ) (y : Completion) → Passes f t c
    → completion_to f t c u ≡ Some y → is_answer y.mark ≡ true → AnswersHeld f t c u y
answers_held f t c u y p e is = elim (completion_of f t c u y e) [
  | inl h ↦ own_answers f t c u y h.1 is
  | inr h ↦ ends_answers f t c u y p h.1 is
]

-- an accepted call that replies to message i completes the open call of its sender with the reply
pub record AnswersOne (f : Facts) (t : ℕ) (c : Call) (i : ℕ) : Type 0 where
  pub thread : ℕ
  pub is_sender : sender f i ≡ Some thread
  pub waiting : OpenCall
  pub is_open : f.open_call thread ≡ Some waiting
  pub given : Completion
  pub is : (row_of f t c).others thread ≡ Some given
  pub call : given.call ≡ i
  pub answers : is_answer given.mark ≡ true

-- if the call completes the sender's call with this reply, it meets AnswersOne
ends_one : (f : Facts) (t : ℕ) (c : Call) (rcvid : ℕ) (finish : Finish) (i : ℕ) → refusal_unless_held f t rcvid ≡ None
    → ((u : ℕ) → (row_of f t c).others u ≡ ends_sender f finish (sender f rcvid) u)
    → ((buffer : List ℕ) → is_answer (finish buffer).0 ≡ true) → rcvid ≡ i → AnswersOne f t c i
ends_one f t c rcvid finish i passed ends marks same =
    let s = has_sender f t rcvid passed in
    let h = held_for f t rcvid s.0 passed s.1 in
    let k = sender_sends f.open_call rcvid (threads_of f.roster) s.0 s.1 in
    let at : ends_sender f finish (sender f rcvid) s.0
    ≡ Some (answering h.send.number s.0 finish h.send.reply_buffer) =
    rw (s.1, eqb_same s.0) (finished_held f t finish s.0 (f.open_call s.0) h) in
    grind arith

-- the result of an Error is a reply
error_answers : (code : ℤ) → is_answer (error_mark code) ≡ true
error_answers code =
    elim (int_eq code (pos 0))
    as (λ b. is_answer (cond b (mark.Replied (pos 0) 0) (mark.Errored code)) ≡ true) [ true ↦ refl | false ↦ refl ]

pub answers_one : (f : Facts) (t : ℕ) (c : Call) (i : ℕ) → Passes f t c → (effect_of c).answers ≡ Some i
    → AnswersOne f t c i
answers_one f t (Reply rcvid status bytes) i p e =
    ends_one f t (Reply rcvid status bytes) rcvid (reply_finish status bytes) i p.row
    (λ u. answer_same f (reply_finish status bytes) (sender f rcvid) u) (λ buffer. refl) (same_Some rcvid i e)
answers_one f t (Error rcvid code) i p e =
    ends_one f t (Error rcvid code) rcvid (error_finish code) i p.row
    (λ u. answer_same f (error_finish code) (sender f rcvid) u) (λ buffer. error_answers code) (same_Some rcvid i e)
answers_one f t c i p e = absurd (none-some i e)

-- ---- calls that wait for a reply

-- a call that waits for a reply is a Send over a connection that leads to its item's channel
pub record SendsOver (f : Facts) (t : ℕ) (c : Call) (coid : ℕ) : Type 0 where
  pub connection : Connection
  pub is_connection : f.connection coid ≡ Some connection
  pub made : SentItem
  pub is_made : makes f t c ≡ Some made
  pub channel : made.channel ≡ connection.channel

-- the connection of an open Send; 0 for a receive
abbrev pub over : OpenCall → ℕ
over (InSend s) = s.connection
over (InReceive r) = 0

send_over : (f : Facts) (t coid : ℕ) (message reply_buffer : List ℕ) → Passes f t (Send coid message reply_buffer)
    → SendsOver f t (Send coid message reply_buffer) coid
send_over f t coid message reply_buffer p =
    let h = has_way f t coid p.row in
    let l = leads_over f t (f.connection coid) h.0 h.1 in
    record {
      connection = l.connection;
      is_connection = l.is;
      made = record { item = message_item f t; channel = l.connection.channel };
      is_made = ap (λ o. item_sent_over o (message_item f t)) l.is;
      channel = refl;
    }

pub sends_over : (f : Facts) (t h : ℕ) (c : Call) (b : OpenCall) → Passes f t c → asks f.number t h c ≡ Some b
    → is_for_answer b ≡ true → SendsOver f t c (over b)
sends_over f t h c b p e w = grind (arith, send_over)

-- its thread is the caller
pub sends_by : (n t h : ℕ) (c : Call) (b : OpenCall) → asks n t h c ≡ Some b → is_for_answer b ≡ true
    → thread_of_send t c ≡ Some t
sends_by n t h c b e w = grind arith
