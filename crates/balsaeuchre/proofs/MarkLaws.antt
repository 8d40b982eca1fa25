-- The result of each completion fits the call that it completes.
use Rattle.qrules.proofs.Traces.Rows.{answer_same, pulse_same, sent_same, unblocked_same}
use Rattle.std.proofs.Common.{◌≡◌, ◌∙◌, ◌+◌, ℕ, List, [], ◌∷◌, length, refl, ap, sym, subst, cond, Bool, true, false}
use Rattle.std.proofs.Common.{inl, inr, int_eq}
use Rattle.std.specs.Prelude.{ℤ, pos, Result, Err, Option, None, Some, option_map}
use Rattle.std.specs.List.{AllByRecursion}
use Rattle.std.proofs.lemmas.Bool.{true≢false}
use Rattle.std.proofs.lemmas.Option.{none-some, same_Some}
use Rattle.qbase.specs.Copying.{laid_count, lay_over}
use Rattle.qbase.specs.declared.errno.Errno.{Errno}
use Rattle.qbase.specs.declared.errno.Errno.TheVariants.{NoMemory, Srch}
use Rattle.qbase.proofs.Lists.{all_filter_map, all_more}
use Rattle.qqueue.specs.Best.{is_pulse, may_take}
use Rattle.qqueue.specs.declared.item.Item.{Item}
use Rattle.qqueue.specs.declared.item.Kind.{Kind}
use Rattle.qqueue.specs.declared.item.Kind.TheVariants.{Any, PulseOnly}
use Rattle.qqueue.proofs.OrderLaws.{best-may}
use Rattle.qrules.proofs.Words.Outcome.{completion_to, row_of}
use Rattle.qrules.proofs.Words.Items.{refusal_completion, info_completion, message_item, Finish}
use Rattle.qrules.specs.Rules.Connections as connect_detach
use Rattle.qrules.proofs.Traces.Parts.{error_finish, reply_finish}
use Rattle.qrules.specs.Records.{error_mark, with_buffer}
use Rattle.qrules.specs.Rules.Held.{info_of}
use Rattle.qrules.proofs.Words.Made.{pulse_over}
use Rattle.qrules.specs.Rules.Unblock as unblock
use Rattle.qrules.specs.Delivery.{is_on, delivery_of}
use Rattle.qrules.proofs.Words.Effects.{asks}
use Rattle.qrules.proofs.Words.Facts.{number_of, Facts, message, route, sender, threads_of}
use Rattle.qrules.proofs.Words.Lawful.{facts_of}
use Rattle.qrules.proofs.Words.Past.{filled, with_receipt}
use Rattle.qmodel.specs.Trace.{Trace}
use Rattle.qmodel.specs.declared.call.Call.{Call}
use Rattle.qmodel.specs.declared.call.Call.TheVariants.{Send, Receive, Reply, Error, Info, ReceivePulse, Pulse}
use Rattle.qmodel.specs.declared.call.Call.TheVariants.{ChannelDestroy, Shutdown, Unblock, ConnectDetach}
use Rattle.qmodel.specs.declared.call.Completion.{Completion}
use Rattle.qmodel.specs.declared.call.Info.{Info as Told}
use Rattle.qmodel.specs.declared.call.Mark.{Mark}
use Rattle.qmodel.specs.declared.call.Mark.TheVariants as mark
use Rattle.qmodel.specs.declared.open_call.OpenCall.{OpenCall}
use Rattle.qmodel.specs.declared.open_call.OpenCall.TheVariants.{Receive as InReceive, Send as InSend}
use Rattle.qrules.proofs.Traces.Calls.Cancelling.{cancel_parts}
use Rattle.qrules.proofs.Traces.Calls.ConnectDetach.{detach_ends}
use Rattle.qrules.proofs.Traces.Calls.Held.{SenderEnds, sender_ends}
use Rattle.qrules.proofs.Traces.Past.Ends.{completion_names, laws_of, passes_of}
use Rattle.qrules.proofs.Traces.Past.Laws.{Passes}
use Rattle.qrules.proofs.Traces.Past.Numbers.{block_asked, block_below, call_earlier, call_newest}
use Rattle.qrules.proofs.Traces.Past.Open.{open_parts}
use Rattle.qrules.proofs.Traces.Properties.Rows.Delivering.{Delivers, delivery_meets}
use Rattle.qrules.proofs.Traces.Properties.Rows.Receiving.{receive_takes}
use Rattle.qrules.proofs.Traces.Properties.Rows.Telling.{told_meets, unblock_ends}
use Rattle.qrules.specs.Trace.{call_at}
use Rattle.balsaeuchre_calls.specs.Errors.{failure}
use Rattle.balsaeuchre_calls.specs.declared.error.CallError.{CallError}
use Rattle.balsaeuchre_calls.specs.declared.error.CallError.TheVariants.{Unexpected}
use Rattle.balsaeuchre.specs.Fitting.{fits, reading_of, CompletionsFit, FittingIsExpected, NeverUnexpected}

-- the receive of this kind
abbrev receive_call : Kind → ℕ → List ℕ → Call
receive_call Any chid buffer = Receive chid buffer
receive_call PulseOnly chid buffer = ReceivePulse chid

abbrev call_in : OpenCall → Call
call_in (InSend s) = Send s.connection s.message s.reply_buffer
call_in (InReceive r) = receive_call r.kind r.channel r.buffer

-- ---- the completion of the event's own call

taking_fits : (taken : Item) (bytes buffer : List ℕ) (kind : Kind) (chid : ℕ) (b : List ℕ) → may_take kind taken ≡ true
    → fits (receive_call kind chid b) (delivery_of taken bytes buffer).0 ≡ true
taking_fits taken bytes buffer Any chid b may =
    elim (is_pulse taken.what)
    as (λ p. fits (Receive chid b)
    (cond {A = Mark × List ℕ} p (mark.Pulse taken.number taken.priority taken.what, buffer) (
      mark.Message taken.number (laid_count buffer 0 bytes),
      lay_over buffer 0 bytes,
    )).0 ≡ true) [ true ↦ refl | false ↦ refl ]
taking_fits taken bytes buffer PulseOnly chid b may = rw may refl

own_fits : (f : Facts) (t : ℕ) (c : Call) (y : Completion) → (row_of f t c).own ≡ Some y → fits c y.mark ≡ true
own_fits f t (Send coid message reply_buffer) y e = absurd (none-some y e)
own_fits f t (Receive chid buffer) y e = let k = receive_takes f t chid Any buffer y e in
    ap (λ x. fits (Receive chid buffer) x.mark) (sym k.completion) ∙ taking_fits k.item _ buffer Any chid buffer refl
own_fits f t (ReceivePulse chid) y e = let k = receive_takes f t chid PulseOnly [] y e in
    ap (λ x. fits (ReceivePulse chid) x.mark) (sym k.completion)
    ∙ taking_fits k.item _ [] PulseOnly chid [] (best-may PulseOnly (f.pending chid) k.item k.best)
own_fits f t (Info rcvid) y e = told (info_of f (sender f rcvid)) e where
  told : (o : Option Told) → option_map (info_completion f.number t) o ≡ Some y → fits (Info rcvid) y.mark ≡ true
  told None e = absurd (none-some y e)
  told (Some info) e = ap (λ x. fits (Info rcvid) x.mark) (sym (same_Some _ y e))
own_fits f t c y e = ap (λ x. fits c x.mark) (sym (same_Some _ y e))

-- ---- the completion of another thread's call

-- the completion fits the call in which thread u is blocked
abbrev FitsOpen : Facts → ℕ → Completion → Type 0
FitsOpen f u y = (o : OpenCall) → f.open_call u ≡ Some o → fits (call_in o) y.mark ≡ true

met_fits : (f : Facts) (o : Option ℕ) (taken : Item) (bytes : List ℕ) (u : ℕ) (y : Completion)
    → Delivers f o taken bytes u y → FitsOpen f u y
met_fits f o taken bytes u y k w is =
    ap (λ x. fits (call_in w) x.mark) (sym k.completion)
    ∙ ap (λ v. fits (call_in v) (delivery_of taken bytes k.receive.buffer).0) (same_Some _ _ (sym is ∙ k.is_open))
    ∙ taking_fits taken bytes k.receive.buffer k.receive.kind k.receive.channel k.receive.buffer k.may

failed_fits : (w : OpenCall) (m : Mark) (errno : _) → mark.Failed errno ≡ m → fits (call_in w) m ≡ true
failed_fits w m errno e = ap (fits (call_in w)) (sym e)

answered_fits : (f : Facts) (t rcvid : ℕ) (finish : Finish) (u : ℕ) (y : Completion)
    → ((coid : ℕ) (m b : List ℕ) → fits (Send coid m b) (finish b).0 ≡ true) → SenderEnds f t rcvid finish u y
    → FitsOpen f u y
answered_fits f t rcvid finish u y any k w is =
    ap (λ x. fits (call_in w) x.mark) (sym k.completion)
    ∙ ap (λ v. fits (call_in v) (finish k.held.send.reply_buffer).0) (same_Some _ _ (sym is ∙ k.held.is_open))
    ∙ any k.held.send.connection k.held.send.message k.held.send.reply_buffer

error_fits : (code : ℤ) (coid : ℕ) (m b : List ℕ) → fits (Send coid m b) (error_mark code) ≡ true
error_fits code coid m b =
    elim (int_eq code (pos 0))
    as (λ z. fits (Send coid m b) (cond z (mark.Replied (pos 0) 0) (mark.Errored code)) ≡ true) [
      | true ↦ refl
      | false ↦
          refl
    ]

ends_fits : (f : Facts) (t : ℕ) (c : Call) (u : ℕ) (y : Completion) → Passes f t c → (row_of f t c).others u ≡ Some y
    → FitsOpen f u y
ends_fits f t (Send coid message reply_buffer) u y p e =
    met_fits f (route f t coid) (message_item f t) message u y
    (delivery_meets f (route f t coid) (message_item f t) message u y
    (sym (sent_same f t coid message reply_buffer u p.row) ∙ e))
ends_fits f t (Reply rcvid status bytes) u y p e =
    answered_fits f t rcvid (reply_finish status bytes) u y (λ coid m b. refl)
    (sender_ends f t rcvid (reply_finish status bytes) u y p.row
    (sym (answer_same f (reply_finish status bytes) (sender f rcvid) u) ∙ e))
ends_fits f t (Error rcvid code) u y p e =
    answered_fits f t rcvid (error_finish code) u y (error_fits code)
    (sender_ends f t rcvid (error_finish code) u y p.row (sym (answer_same f (error_finish code) (sender f rcvid) u)
    ∙ e))
ends_fits f t (Pulse coid priority code value) u y p e =
    let k =
    told_meets f (pulse_over f coid priority code value) u y
    (sym (pulse_same f (pulse_over f coid priority code value) u) ∙ e) in
    met_fits f (Some k.made.channel) k.made.item [] u y k.delivers
ends_fits f t (ChannelDestroy chid) u y p e =
    λ w is. failed_fits w y.mark _ (ap (λ x. x.mark) (cancel_parts (is_on chid) Srch u (f.open_call u) y e).completion)
ends_fits f t Shutdown u y p e =
    λ w is. failed_fits w y.mark _
    (ap (λ x. x.mark) (cancel_parts (λ wait. true) Srch u (f.open_call u) y e).completion)
ends_fits f t (Unblock thread) u y p e =
    elim (unblock_ends f thread u y (unblock.unblock_pulse f thread) (sym (unblocked_same f t thread u) ∙ e)) [
      | inl cut ↦ λ w is. failed_fits w y.mark _ (ap (λ x. x.mark) cut.completion)
      | inr k ↦ met_fits f (Some k.made.channel) k.made.item [] u y k.delivers
    ]
ends_fits f t (ConnectDetach coid) u y p e =
    elim (detach_ends f coid (connect_detach.disconnect_pulse f t coid) u y e) [
      | inl cut ↦ λ w is. failed_fits w y.mark _ (ap (λ x. x.mark) cut.completion)
      | inr s ↦ let k = told_meets f (connect_detach.disconnect_pulse f t coid) u y s in
          met_fits f (Some k.made.channel) k.made.item [] u y k.delivers
    ]
ends_fits f t c u y p e = absurd (none-some y e)

-- ---- the open call, and the call that opened it

asked_fits : (n t h : ℕ) (c : Call) (b : OpenCall) (m : Mark) → asks n t h c ≡ Some b → fits c m ≡ fits (call_in b) m
asked_fits n t h (Send coid message reply_buffer) b m e = ap (λ o. fits (call_in o) m) (same_Some _ b e)
asked_fits n t h (Receive chid buffer) b m e = ap (λ o. fits (call_in o) m) (same_Some _ b e)
asked_fits n t h (ReceivePulse chid) b m e = ap (λ o. fits (call_in o) m) (same_Some _ b e)
asked_fits n t h c b m e = absurd (none-some b e)

filled_fits : (change : List ℕ → List ℕ) (o : OpenCall) (m : Mark)
    → fits (call_in o) m ≡ fits (call_in (with_buffer change o)) m
filled_fits change (InSend s) m = refl
filled_fits change (InReceive r) m = refl

received_fits : (priority : ℕ) (unblocked : Bool) (copied : Option ℕ) (o : OpenCall) (m : Mark)
    → fits (call_in o) m ≡ fits (call_in (with_receipt priority unblocked copied o)) m
received_fits priority unblocked None o m = refl
received_fits priority unblocked (Some copied) (InSend s) m = refl
received_fits priority unblocked (Some copied) (InReceive r) m = refl

-- a completion fits the call with its number, if it fits call i and has the number i
of_call : (past : Trace) (x : Completion) (i : ℕ) (c : Call) → x.call ≡ i → call_at past i ≡ Some c
    → fits c x.mark ≡ true → option_map (λ c. fits c x.mark) (call_at past x.call) ≡ Some true
of_call past x i c at is fit = ap (option_map (λ c. fits c x.mark)) (ap (call_at past) at ∙ is) ∙ ap Some fit

pub completions_fit : CompletionsFit
completions_fit roster past e r l =
    let f = facts_of roster past in
    let P = λ (x : Completion). option_map (λ c. fits c x.mark) (call_at (e ∷ past) x.call) ≡ Some true in
    elim (l.1.1) [
      | inl a ↦ subst (AllByRecursion P) (sym a.by_row)
          (all_filter_map P (completion_to f e.thread e.call) (threads_of roster) (λ v y is.
          elim (completion_names f e.thread e.call v y (laws_of f e.thread e.call e.completions a) is) [
            | inl own ↦ of_call (e ∷ past) y (length past + 1) e.call own.names.call (call_newest e past)
                (own_fits f e.thread e.call y own.is)
            | inr other ↦
                let k = open_parts roster past v other.names.waiting other.names.is in
                let asked = block_asked roster past v k.block k.is in
                of_call (e ∷ past) y (number_of k.block) asked.call (other.names.call ∙ k.number)
                (call_earlier e past (number_of k.block) (block_below roster past v k.block k.is) ∙ asked.is)
                (asked_fits (number_of k.block) v asked.channel asked.call k.block y.mark asked.asks_it
                ∙ filled_fits _ k.block y.mark ∙ received_fits _ _ _ (filled past k.block) y.mark
                ∙ ap (λ o. fits (call_in o) y.mark) (sym k.same)
                ∙ ends_fits f e.thread e.call v y
                (passes_of f e.thread e.call e.completions a) other.is other.names.waiting other.names.is)
          ]))
      | inr a ↦ subst (AllByRecursion P) (sym a.only) (
        of_call (e ∷ past) (refusal_completion f e.thread e.call a.error) (length past + 1) e.call refl
            (call_newest e past) refl,
        tt,
      )
    ]

-- ---- values that are read from a completion

-- true if the value is the error `Unexpected`
abbrev is_unexpected : {A : Type 0} → Result A CallError → Bool
is_unexpected (Err Unexpected) = true
is_unexpected other = false

failed : (A : Type 0) (waited : Bool) (errno : Errno) → is_unexpected {A = A} (Err (failure waited errno)) ≡ false
failed A true NoMemory = refl
failed A true errno = refl
failed A false NoMemory = refl
failed A false errno = refl

expected : (c : Call) (waited : Bool) (m : Mark) (buffer : List ℕ) → fits c m ≡ true
    → is_unexpected ((reading_of c).1 waited m buffer) ≡ false
expected Shutdown waited mark.Ok buffer fit = refl
expected c waited (mark.Failed errno) buffer fit = failed (reading_of c).0 waited errno
expected c waited m buffer fit = search

pub fitting_is_expected : FittingIsExpected
fitting_is_expected c m buffer fit waited is = true≢false (ap is_unexpected (sym is) ∙ expected c waited m buffer fit)

pub never_unexpected : NeverUnexpected
never_unexpected roster past e r l = all_more _ _ e.completions (completions_fit roster past e r l) (λ x fit c at.
    fitting_is_expected c x.mark x.buffer (same_Some _ true (ap (option_map (λ c. fits c x.mark)) (sym at) ∙ fit)))
