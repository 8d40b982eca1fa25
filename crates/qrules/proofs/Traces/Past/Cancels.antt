-- The queued messages whose Sends a call completes.
use Rattle.qrules.proofs.Common.{arith, ◌≡◌, ℕ, List, refl, ap, sym, subst, ◌∙◌, true, false, eqb, is_for_receipt}
use Rattle.qrules.proofs.Common.{is_unread_send, any_never, any_only, filter_whole, none_of, none-some, is_pulse, Item}
use Rattle.qrules.proofs.Common.{Member, Outcome, row_of, is_on, Trace, Call, Completion, OpenCall, Option, None, Some}
use Rattle.qrules.proofs.Common.{is_some, not, ◌&&◌}
use Rattle.std.proofs.lemmas.Bool.{eq-eqb, ne_eqb, true≢false, or_parts, false_from_ne_true}
use Rattle.qrules.proofs.Basics.{Facts, threads_of, number_of, is_for_answer, facts_of, IsLawful, with_event}
use Rattle.qrules.proofs.Basics.{completes, is_ended, is_received, open_call, priority_of_item, copied_count_of}
use Rattle.qrules.proofs.Basics.{sender_of, filled, with_receipt, is_cancelled, uncancelled_items, ends_other}
use Rattle.qrules.proofs.Basics.{open_known, passes_of, IsPending, item_at, item_message, IsSettled, is_settled}
use Rattle.qrules.proofs.Basics.{block_fresh, filled_answer, filled_settled, open_from, open_parts, open_thread}
use Rattle.qrules.proofs.Basics.{is_unblocked, buffer_on, buffer_number, known}
use Rattle.qrules.proofs.Traces.Properties.Messages.{item_waits, pending_going}
use Rattle.qrules.proofs.Traces.Properties.Sends.{block_sender, block_on}

-- ---- a Send whose message hasn't been received

-- the message of a Send that isn't settled hasn't been received
receipt_from : (o : OpenCall) → is_for_answer o ≡ true → is_settled o ≡ false → is_for_receipt o ≡ true
receipt_from o e settled = grind arith

settled_read : (o : OpenCall) → is_settled o ≡ true → is_for_receipt o ≡ false
settled_read o e = grind arith

-- an open call that is settled isn't such a Send
not_unread : (h i : ℕ) (o : Option OpenCall) → IsSettled o → is_unread_send h i o ≡ false
not_unread h i o s = grind (arith, settled_read)

-- there is an open call of number i
pub record HasNumber (i : ℕ) (o : Option OpenCall) : Type 0 where
  pub waiting : OpenCall
  pub is : o ≡ Some waiting
  pub number : (number_of waiting) ≡ i

unread_number : (h i : ℕ) (o : Option OpenCall) → is_unread_send h i o ≡ true → HasNumber i o
unread_number h i o e = grind arith

-- ---- a call that completes no Send whose message hasn't been received cancels none

-- no call of another thread that the call completes is such a Send
abbrev pub EndsSettled : Facts → ℕ → Call → Type 0
EndsSettled f t c = (u : ℕ) (y : Completion) → (row_of f t c).others u ≡ Some y → IsSettled (f.open_call u)

none_is_cancelled : (f : Facts) (t : ℕ) (c : Call) → EndsSettled f t c → (h i : ℕ) → is_cancelled f t c h i ≡ false
none_is_cancelled f t c settled h i =
    any_never _ (threads_of f.roster) (λ s. grind (arith, settled s, not_unread h i (f.open_call s)))

pub none_cancelled : (f : Facts) (t : ℕ) (c : Call) → EndsSettled f t c → (h : ℕ) (items : List Item)
    → uncancelled_items f t c h items ≡ items
none_cancelled f t c settled h items = grind (arith, filter_whole, none_is_cancelled f t c settled h)

-- ---- the Send of a queued message

-- the Send is open on the item's channel, and its message hasn't been received
pub record IsSentBy (roster : List Member) (past : Trace) (h i : ℕ) : Type 0 where
  pub sender : ℕ
  pub waiting : OpenCall
  pub sent : sender_of past i ≡ Some sender
  pub is_open : open_call roster past sender ≡ Some waiting
  pub number : (number_of waiting) ≡ i
  pub unread : is_for_receipt waiting ≡ true
  pub on : is_on h waiting ≡ true

pub sent_by : (roster : List Member) (past : Trace) (h : ℕ) (item : Item) → IsLawful roster past
    → IsPending roster past h item → is_pulse item.what ≡ false → IsSentBy roster past h item.number
sent_by roster past h item l p message =
    let going : is_ended past item.number ≡ false = pending_going roster past h item p message in
    let w = item_waits roster past item.number (record { item = p.first; channel = h }) l p.made
    (ap is_pulse p.what ∙ message) going in
    let unread : is_received past item.number ≡ false = (or_parts _ _ p.stays).0 in
    let none : copied_count_of past (number_of w.block) ≡ None =
    none_of (copied_count_of past (number_of w.block))
    (subst (λ i. is_received past i ≡ false) (sym w.number) unread) in
    let answer : is_for_answer (filled past w.block) ≡ true = filled_answer past w.block ∙ w.answer in
    let is_open : open_call roster past w.thread ≡ Some (filled past w.block) =
    open_from roster past w.thread w.block w.is (subst (λ i. is_ended past i ≡ false) (sym w.number) going)
    ∙ ap (λ r. Some (with_receipt (priority_of_item roster past (number_of w.block))
    (is_unblocked roster past (number_of w.block)) r (filled past w.block))) none in
    record {
      sender = w.thread;
      waiting = filled past w.block;
      sent =
          subst (λ i. sender_of past i ≡ Some w.thread) w.number
          (block_sender roster past w.thread w.block w.is w.answer);
      is_open = is_open;
      number = buffer_number _ w.block ∙ w.number;
      unread =
          receipt_from (filled past w.block) answer
          (filled_settled past w.block ∙ block_fresh roster past w.thread w.block w.is ∙ ap not w.answer);
      on = buffer_on h _ w.block
          ∙ block_on roster past w.thread w.block (record { item = p.first; channel = h }) w.is w.answer
          (ap (item_at roster past) w.number ∙ p.made);
    }

-- ---- the calls that an accepted call completes

-- no other thread's open call is the Send of that number
pub unread_elsewhere : (roster : List Member) (past : Trace) (h i s : ℕ) (waiting : OpenCall) (v : ℕ)
    → open_call roster past s ≡ Some waiting → (number_of waiting) ≡ i → eqb v s ≡ false
    → is_unread_send h i (open_call roster past v) ≡ false
unread_elsewhere roster past h i s waiting v is number differs = grind (arith, unread_number, open_thread)

-- the Send of a queued message completes exactly if it is cancelled
ends_sent : (roster : List Member) (past : Trace) (t : ℕ) (c : Call) (X : List Completion) (h : ℕ) (item : Item)
    → IsLawful roster past → Outcome true (facts_of roster past) t c X → IsPending roster past h item
    → is_pulse item.what ≡ false
    → completes X item.number ≡ is_cancelled (facts_of roster past) t c h item.number
ends_sent roster past t c X h item l a p message =
    let f = facts_of roster past in
    let s = sent_by roster past h item l p message in
    let other : eqb s.sender t ≡ false =
    ne_eqb s.sender t
    (λ same. none-some s.waiting (sym (passes_of f t c X a).idle ∙ ap (open_call roster past) (sym same)
    ∙ s.is_open)) in
    let ended : completes X (number_of s.waiting) ≡ is_some ((row_of f t c).others s.sender) =
    ends_other roster past t c X s.sender s.waiting l a other s.is_open in
    let number : eqb (number_of s.waiting) item.number ≡ true = eq-eqb _ _ s.number in
    let cancel : is_cancelled f t c h item.number ≡ is_some ((row_of f t c).others s.sender) =
    any_only (λ v. is_unread_send h item.number (f.open_call v) && is_some ((row_of f t c).others v))
    (threads_of roster) s.sender (known roster s.sender (open_known roster past s.sender s.waiting l s.is_open))
    (λ v differs.
    ap (λ b. b && is_some ((row_of f t c).others v))
    (unread_elsewhere roster past h item.number s.sender s.waiting v s.is_open s.number differs))
    ∙ rw (s.is_open, number, s.unread, s.on) refl in
    ap (completes X) (sym s.number) ∙ ended ∙ sym cancel

-- no open Send has the number of a pulse
pub pulse_unread : (roster : List Member) (past : Trace) (h : ℕ) (item : Item) (v : ℕ) → IsPending roster past h item
    → is_pulse item.what ≡ true
    → is_unread_send h item.number (open_call roster past v) ≡ false
pulse_unread roster past h item v p pulse = false_from_ne_true _ (λ e.
    let n = unread_number h item.number (open_call roster past v) e in
    let k = open_parts roster past v n.waiting n.is in
    let made = subst (λ i. item_at roster past i ≡ Some (record { item = p.first; channel = h }))
    (sym n.number ∙ k.number) p.made in
    true≢false (sym pulse ∙ sym (ap is_pulse p.what)
    ∙ item_message roster past v (record { item = p.first; channel = h }) k.block made k.is))

no_pulse_is_cancelled : (roster : List Member) (past : Trace) (t : ℕ) (c : Call) (h : ℕ) (item : Item)
    → IsPending roster past h item → is_pulse item.what ≡ true
    → is_cancelled (facts_of roster past) t c h item.number ≡ false
no_pulse_is_cancelled roster past t c h item p pulse =
    any_never _ (threads_of roster) (λ v. grind (arith, pulse_unread roster past h item v p pulse))

-- the event completes the Send of a queued item exactly if it cancels that Send
pub ended_is_cancelled : (roster : List Member) (past : Trace) (t : ℕ) (c : Call) (X : List Completion) (h : ℕ)
    (item : Item) → IsLawful roster past → Outcome true (facts_of roster past) t c X → IsPending roster past h item
    → (not (is_pulse item.what) && is_ended (with_event t c X past) item.number) ≡ is_cancelled
    (facts_of roster past) t c h item.number
ended_is_cancelled roster past t c X h item l a p =
    grind (
      arith,
      no_pulse_is_cancelled roster past t c h item p,
      pending_going roster past h item p,
      ends_sent roster past t c X h item l a p,
    )
