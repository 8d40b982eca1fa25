-- The open calls after one more event.
use Rattle.qrules.proofs.Common.{◌≡◌, ◌≢◌, ℕ, ◌+◌, ◌≤◌, List, ◌∷◌, length, refl, ap, sym, subst, ◌∙◌, cond, arith, Bool}
use Rattle.qrules.proofs.Common.{true, false, eqb, ◌⊎◌, inl, inr, option_map, option_to_list, option_or, and-false}
use Rattle.qrules.proofs.Common.{or-true, or-false, none-some, same_Some, is_pulse, Item, member_at, Member, Outcome}
use Rattle.qrules.proofs.Common.{row_of, SentItem, Event, Trace, is_thread, Call, Completion, OpenCall, eqb_same}
use Rattle.qrules.proofs.Common.{none_of, channel_of, Option, None, Some, is_some, not, ◌||◌}
use Rattle.std.proofs.lemmas.Bool.{cases_Bool, eqb-true, eqb-false, eq-eqb, ne_eqb, or_parts}
use Rattle.qrules.proofs.Basics.{receipt_of, sender_for, Received, buffer_after_write, Facts, sender, threads_of}
use Rattle.qrules.proofs.Basics.{number_of, facts_of, IsLawful, with_event, refuses, completes, is_ended}
use Rattle.qrules.proofs.Basics.{is_received, item_of, copied_count_of, priority_of_item, unless_ended, open_call}
use Rattle.qrules.proofs.Basics.{unblocked_among, block, with_receipt, filled, asks, makes, unblocks, writes}
use Rattle.qrules.proofs.Basics.{after_receipt, after_unblock, after_write, unless, open_call_after, sets_alone}
use Rattle.qrules.proofs.Basics.{IsReceived, call_laws, block_below, filled_answer, open_from, open_thread}
use Rattle.qrules.proofs.Basics.{receipt_for_answer, is_unblocked, kept, kept_number, open_is, laws_of, passes_of}
use Rattle.qrules.proofs.Basics.{accepted, refused, refused_ends, ended_below, ends_other, ends_own, block_known}
use Rattle.qrules.proofs.Basics.{item_at, item_answer, item_message, item_below, priority_earlier, priority_newest}
use Rattle.qrules.proofs.Basics.{send_parts, send_from, sender_sends, sender_found, refused_sets_none, sets_none, known}
use Rattle.qrules.proofs.Traces.Past.Receipts.{copied_by, accepted_receipts, refused_receipts, best_pending}
use Rattle.qrules.proofs.Traces.Past.Receipts.{best_priority, receipt_beyond}
use Rattle.qrules.proofs.Traces.Past.Unblocked.{fresh_unblocked, marks, marks_it, none_unblocked, unblocked_after}
use Rattle.qrules.proofs.Traces.Past.Unblocked.{unblocked_beyond, unblocked_by, unblocked_now}
use Rattle.qrules.proofs.Traces.Past.Writes.{changed, filled_accepted, filled_fresh, filled_refused, receipt_written}
use Rattle.qrules.proofs.Traces.Past.Writes.{written_sender}

-- ---- a receipt, and the thread that waits for the reply

-- the receipt is of item i, which wasn't received before, and thread u is its sender
pub record IsIts (r : Received) (u i priority : ℕ) (unblocked : Bool) (before : Option ℕ) : Type 0 where
  pub item : eqb r.item i ≡ true
  pub sender : is_thread r.sender u ≡ true
  pub first : before ≡ None
  pub priority_is : r.kept.priority ≡ priority
  pub unblocked_is : r.kept.unblocked ≡ unblocked

-- the receipt is of another item, and of another sender
pub record IsOthers (r : Received) (u i : ℕ) : Type 0 where
  pub item : eqb r.item i ≡ false
  pub sender : is_thread r.sender u ≡ false

-- the receipt of item i that thread u's call has is as the row's receipt leaves it, whether the item is
-- received in this event or before
kept_after : (o : Option Received) (u i priority : ℕ) (unblocked : Bool) (before : Option ℕ) (b : OpenCall)
    → ((r : Received) → o ≡ Some r → IsIts r u i priority unblocked before ⊎ IsOthers r u i)
    → Some (with_receipt priority unblocked (option_or (copied_by o i) before) b) ≡ after_receipt o u
    (Some (with_receipt priority unblocked before b))
kept_after o u i priority unblocked before b h = grind arith

-- thread u isn't the sender of a message that isn't its open call
not_sender : (f : Facts) (i u : ℕ) → ((o : OpenCall) → f.open_call u ≡ Some o → (number_of o) ≢ i)
    → is_thread (sender f i) u ≡ false
not_sender f i u h =
    elim (sender f i) as (λ o. sender f i ≡ o → is_thread o u ≡ false) [
      | None ↦ λ e. refl
      | Some s ↦ λ e.
          let k = sender_sends f.open_call i (threads_of f.roster) s e in
          ne_eqb u s (λ same. h k.waiting (ap f.open_call same ∙ k.is) k.number)
    ] refl

-- a message has a sender that waits for its reply, and a pulse has none
message_sender : (f : Facts) (item : Item) → is_pulse item.what ≡ false → sender_for f item ≡ sender f item.number
message_sender f item message = rw message refl

not_sender_for : (f : Facts) (item : Item) (u : ℕ) → is_thread (sender f item.number) u ≡ false
    → is_thread (sender_for f item) u ≡ false
not_sender_for f item u h =
    elim (is_pulse item.what)
    as (λ b. is_thread (cond b None (sender f item.number)) u ≡ false) [ true ↦ refl | false ↦ h ]

-- the row's receipt and the open call of another thread than the caller
other_holds : (roster : List Member) (past : Trace) (t : ℕ) (c : Call) (u : ℕ) (b : OpenCall) (r : Received)
    → IsLawful roster past → eqb u t ≡ false → block roster past u ≡ Some b → is_ended past (number_of b) ≡ false
    → IsReceived (facts_of roster past) t c r
    → IsIts r u (number_of b) (priority_of_item roster past (number_of b)) (is_unblocked roster past (number_of b))
    (copied_count_of past (number_of b)) ⊎ IsOthers r u (number_of b)
other_holds roster past t c u b r l other is going k =
    let f = facts_of roster past in
    let below : (number_of b) ≤ length past = block_below roster past u b is in
    let waits = open_from roster past u b is going in
    elim (k.source) [
      | inl new ↦
          let number : k.item.number ≡ length past + 1 = ((call_laws c).makes_one f t _ new.made).number in
          inr (record {
            item = ne_eqb _ _ (λ same. omega (arith, k.number));
            sender =
                elim (asks (length past + 1) t r.channel c)
                as (λ o. r.sender ≡ option_map (λ w. t) o → is_thread r.sender u ≡ false) [
                  | None ↦ λ e. rw e refl
                  | Some w ↦ λ e. rw e other
                ] new.sender_is;
          })
      | inr old ↦
          let place = best_pending roster past r.channel old.kind k.item old.best in
          elim (cases_Bool (eqb r.item (number_of b))) [
            | inl same ↦
                let number : k.item.number ≡ (number_of b) = k.number ∙ eqb-true _ _ same in
                let made =
                subst (λ i. item_at roster past i ≡ Some (record { item = place.first; channel = r.channel })) number
                place.made in
                let sends = send_from r.item (kept roster past b) (kept_number roster past b ∙ sym (eqb-true _ _ same))
                (receipt_for_answer _ _ _ (filled past b) ∙ filled_answer past b
                ∙ item_answer roster past u _ b made is) in
                let found : sender f r.item ≡ Some u =
                sender_found f.open_call r.item (threads_of roster) u
                (known roster u (block_known roster past u b l is)) (rw waits sends)
                (λ v e. let w = send_parts r.item (f.open_call v) e in
                open_thread roster past v u w.waiting _ w.is waits
                (w.number ∙ eqb-true _ _ same ∙ sym (kept_number roster past b))) in
                let message = sym (ap is_pulse place.what) ∙ item_message roster past u _ b made is in
                let untaken =
                none_of (copied_count_of past (number_of b))
                (subst (λ i. is_received past i ≡ false) number (or_parts _ _ place.stays).0) in
                inl (record {
                  item = same;
                  sender = rw (old.sender_is ∙ message_sender f k.item message ∙ ap (sender f) k.number ∙ found)
                      (eqb_same u);
                  first = untaken;
                  priority_is = sym k.priority ∙ sym (best_priority roster past r.channel old.kind k.item old.best)
                      ∙ ap (priority_of_item roster past) number;
                  unblocked_is = k.fresh ∙ sym (none_unblocked roster past (number_of b) untaken);
                })
            | inr differs ↦ inr (record {
              item = differs;
              sender =
                  rw (old.sender_is)
                  (not_sender_for f k.item u
                  (not_sender f k.item.number u
                  (λ o e n. eqb-false _ _ differs (sym (n ∙ k.number) ∙ ap number_of (same_Some o _ (sym e ∙ waits))
                  ∙ kept_number roster past b))));
            })
          ]
    ]

-- whether the call blocks doesn't depend on the channel
asks_same : (n t h k : ℕ) (c : Call) → option_map (λ o. t) (asks n t h c) ≡ option_map (λ o. t) (asks n t k c)
asks_same n t h k c = grind arith

-- the row's receipt and the call itself, if it blocks its thread
own_holds : (roster : List Member) (past : Trace) (t h : ℕ) (c : Call) (X : List Completion) (o : OpenCall)
    (r : Received) → IsLawful roster past → Outcome true (facts_of roster past) t c X
    → asks (length past + 1) t h c ≡ Some o → IsReceived (facts_of roster past) t c r
    → IsIts r t (length past + 1) (priority_of_item roster (with_event t c X past) (length past + 1)) false None
    ⊎ IsOthers r t (length past + 1)
own_holds roster past t h c X o r l a asked k =
    let f = facts_of roster past in
    elim (k.source) [
      | inl new ↦
          let number : k.item.number ≡ length past + 1 = ((call_laws c).makes_one f t _ new.made).number in
          let made : item_of roster (record { thread = t; call = c; completions = X }) past
          ≡ Some (record { item = k.item; channel = r.channel }) = rw (accepted roster past t c X a) (new.made) in
          inl (record {
            item = eq-eqb _ _ (sym k.number ∙ number);
            sender = rw (new.sender_is ∙ asks_same (length past + 1) t r.channel h c, asked) (eqb_same t);
            first = refl;
            priority_is = sym k.priority
                ∙ sym (priority_newest roster (record { thread = t; call = c; completions = X }) past _ made);
            unblocked_is = k.fresh;
          })
      | inr old ↦
          let below : k.item.number ≤ length past =
          item_below roster past k.item.number _ (best_pending roster past r.channel old.kind k.item old.best).made in
          inr (record {
            item = ne_eqb _ _ (λ same. omega (arith, k.number));
            sender =
                rw (old.sender_is)
                (not_sender_for f k.item t
                (not_sender f k.item.number t (λ w e n. none-some w (sym (passes_of f t c X a).idle ∙ e))));
          })
    ]

-- ---- after a call that fails

-- the newest blocking calls stay the same
newest_refused : (roster : List Member) (past : Trace) (t : ℕ) (c : Call) (X : List Completion) (u : ℕ)
    → refuses X (length past + 1) ≡ true → block roster (with_event t c X past) u ≡ block roster past u
newest_refused roster past t c X u r = rw (r, and-false (eqb t u)) refl

-- the open call in which an accepted call leaves its thread
abbrev asked_by : List Member → Trace → ℕ → Call → Option OpenCall
asked_by roster past t c = asks (length past + 1) t (channel_of (makes (facts_of roster past) t c)) c

newest_own : (roster : List Member) (past : Trace) (t : ℕ) (c : Call) (X : List Completion)
    → refuses X (length past + 1) ≡ false
    → block roster (with_event t c X past) t ≡ cond (is_some (asked_by roster past t c)) (asked_by roster past t c)
    (block roster past t)
newest_own roster past t c X r = rw (r, eqb_same t) refl

newest_other : (roster : List Member) (past : Trace) (t : ℕ) (c : Call) (X : List Completion) (u : ℕ) → eqb u t ≡ false
    → block roster (with_event t c X past) u ≡ block roster past u
newest_other roster past t c X u other = rw (ne_eqb t u (λ s. eqb-false u t other (sym s))) refl

pub open_refused : (roster : List Member) (past : Trace) (t : ℕ) (c : Call) (X : List Completion) (u : ℕ)
    → Outcome false (facts_of roster past) t c X → open_call roster (with_event t c X past) u ≡ open_call roster past u
open_refused roster past t c X u a =
    let now = kept roster (with_event t c X past) in
    open_is roster (with_event t c X past) u
    ∙ ap (λ o. option_map now (unless_ended (with_event t c X past) o))
    (newest_refused roster past t c X u (refused roster past t c X a)) ∙ (
    elim (block roster past u)
    as (λ o. block roster past u ≡ o
    → option_map now (unless_ended (with_event t c X past) o) ≡ option_map (kept roster past) (unless_ended past o)) [
      | None ↦ λ e. refl
      | Some b ↦ λ e.
          let below : (number_of b) ≤ length past = block_below roster past u b e in
          let priority : priority_of_item roster (with_event t c X past) (number_of b) ≡ priority_of_item roster past
          (number_of b) =
          priority_earlier roster (record { thread = t; call = c; completions = X }) past (number_of b) below
          (refused_sets_none (record { thread = t; call = c; completions = X }) past (number_of b)
          (ap not (refused roster past t c X a))) in
          let receipt : copied_count_of (with_event t c X past) (number_of b) ≡ copied_count_of past (number_of b) =
          rw (refused_receipts (facts_of roster past) t c X (number_of b) a) refl in
          let ended : is_ended (with_event t c X past) (number_of b) ≡ is_ended past (number_of b) =
          rw (refused_ends roster past t c X (number_of b) a (λ s. omega arith)) refl in
          let written : filled (with_event t c X past) b ≡ filled past b =
          filled_refused (record { thread = t; call = c; completions = X }) past b (refused roster past t c X a) in
          let unblocked : is_unblocked roster (with_event t c X past) (number_of b) ≡ is_unblocked roster past
          (number_of b) =
          unblocked_by roster (record { thread = t; call = c; completions = X }) past (number_of b)
          ∙ rw (refused roster past t c X a) (or-false (is_unblocked roster past (number_of b))) in
          let same : now b ≡ kept roster past b =
          ap (λ p. with_receipt p (is_unblocked roster (with_event t c X past) (number_of b))
          (copied_count_of (with_event t c X past) (number_of b)) (filled (with_event t c X past) b)) priority
          ∙ ap (λ x. with_receipt (priority_of_item roster past (number_of b)) x
          (copied_count_of (with_event t c X past) (number_of b)) (filled (with_event t c X past) b)) unblocked
          ∙ ap (λ r. with_receipt (priority_of_item roster past (number_of b))
          (is_unblocked roster past (number_of b)) r (filled (with_event t c X past) b)) receipt
          ∙ ap (with_receipt (priority_of_item roster past (number_of b)) (is_unblocked roster past (number_of b))
          (copied_count_of past (number_of b))) written in
          ap (λ d. option_map now (cond d None (Some b))) ended ∙ (
          elim (is_ended past (number_of b))
          as (λ d. option_map now (cond d None (Some b)) ≡ option_map (kept roster past)
          (cond d None (Some b))) [ true ↦ refl | false ↦ ap Some same ])
    ] refl) ∙ sym (open_is roster past u)

-- ---- after an accepted call

unless_none : (b : Bool) → unless b None ≡ None
unless_none b = grind arith

after_none : (r : Option Received) (u : ℕ) → after_receipt r u None ≡ None
after_none r u = grind arith

pub unblock_none : (m : Option SentItem) (w : Option ℕ) (u : ℕ) → after_unblock m w u None ≡ None
unblock_none m w u = grind arith

-- the open call of another thread, unless it completes
abbrev other_after : Facts → ℕ → Call → ℕ → Option OpenCall → Option OpenCall
other_after f t c u o =
    after_unblock (makes f t c) (unblocks c) u (after_receipt (receipt_of f t c) u (after_write f (writes c) u o))

other_none : (f : Facts) (t : ℕ) (c : Call) (u : ℕ) → other_after f t c u None ≡ None
other_none f t c u = grind arith

some_later : (x y : Option ℕ) → is_some y ≡ true → is_some (option_or x y) ≡ true
some_later x y e = grind arith

-- the priority only matters if the message has been received
receipt_priority : (p q : ℕ) (unblocked : Bool) (r : Option ℕ) (b : OpenCall)
    → ((copied : ℕ) → r ≡ Some copied → p ≡ q) → with_receipt p unblocked r b ≡ with_receipt q unblocked r b
receipt_priority p q unblocked r b same = grind arith

-- a message that has been received by now was received before, or the call receives it
received_before : (roster : List Member) (past : Trace) (t : ℕ) (c : Call) (i copied : ℕ)
    → option_or (copied_by (receipt_of (facts_of roster past) t c) i) (copied_count_of past i) ≡ Some copied
    → (is_received past i ≡ true) ⊎ (is_some (receipt_of (facts_of roster past) t c) ≡ true)
received_before roster past t c i copied is = grind arith

-- then no priority that is set changes the message's
held_priority : (roster : List Member) (past : Trace) (t : ℕ) (c : Call) (X : List Completion) (i : ℕ)
    → i ≤ length past → (is_received past i ≡ true) ⊎ (is_some (receipt_of (facts_of roster past) t c) ≡ true)
    → priority_of_item roster (with_event t c X past) i ≡ priority_of_item roster past i
held_priority roster past t c X i below received =
    let e : Event = record { thread = t; call = c; completions = X } in
    priority_earlier roster e past i below (grind (arith, sets_none e past i, sets_alone c))

-- the open call of another thread
open_other : (roster : List Member) (past : Trace) (t : ℕ) (c : Call) (X : List Completion) (u : ℕ)
    → IsLawful roster past → is_some (member_at roster t) ≡ true → Outcome true (facts_of roster past) t c X
    → eqb u t ≡ false
    → option_map (kept roster (with_event t c X past)) (unless_ended (with_event t c X past) (block roster past u))
    ≡ unless (is_some ((row_of (facts_of roster past) t c).others u))
    (other_after (facts_of roster past) t c u (open_call roster past u))
open_other roster past t c X u l member a other =
    let R = row_of (facts_of roster past) t c in
    let M = makes (facts_of roster past) t c in
    let nothing : unless (is_some (R.others u)) (other_after (facts_of roster past) t c u None) ≡ None =
    ap (unless (is_some (R.others u))) (other_none (facts_of roster past) t c u) ∙ unless_none (is_some (R.others u)) in
    (elim (block roster past u)
    as (λ o. block roster past u ≡ o
    → option_map (kept roster (with_event t c X past)) (unless_ended (with_event t c X past) o)
    ≡ unless (is_some (R.others u))
    (other_after (facts_of roster past) t c u (option_map (kept roster past) (unless_ended past o)))) [
      | None ↦ λ e. sym nothing
      | Some b ↦ λ e.
          elim (is_ended past (number_of b))
          as (λ d. is_ended past (number_of b) ≡ d
          → option_map (kept roster (with_event t c X past))
          (cond (completes X (number_of b) || d) None (Some b))
          ≡ unless (is_some (R.others u))
          (other_after (facts_of roster past) t c u (option_map (kept roster past) (cond d None (Some b))))) [
            | true ↦ λ gone. rw (or-true (completes X (number_of b))) (sym nothing)
            | false ↦ λ going.
                let below : (number_of b) ≤ length past = block_below roster past u b e in
                let ended : completes X (number_of b) ≡ is_some (R.others u) =
                ap (completes X) (sym (kept_number roster past b))
                ∙ ends_other roster past t c X u (kept roster past b) l a other (open_from roster past u b e going) in
                let receipt : copied_count_of (with_event t c X past) (number_of b) ≡ option_or
                (copied_by (receipt_of (facts_of roster past) t c) (number_of b))
                (copied_count_of past (number_of b)) =
                rw (accepted_receipts roster past t c X (number_of b) l member a) refl in
                let waits = open_from roster past u b e going in
                let old : Bool = is_unblocked roster past (number_of b) in
                let new : Bool = unblocked_among (option_to_list M) (number_of b) in
                let unblocked : is_unblocked roster (with_event t c X past) (number_of b) ≡ (old || new) =
                unblocked_by roster (record { thread = t; call = c; completions = X }) past (number_of b)
                ∙ rw (accepted roster past t c X a) refl in
                let marked : new ≡ marks M (unblocks c) u =
                ap (unblocked_among (option_to_list M)) (sym (kept_number roster past b))
                ∙ marks_it roster past t c u (kept roster past b) waits in
                let now : Some (kept roster (with_event t c X past) b) ≡ other_after (facts_of roster past) t c u
                (Some (kept roster past b)) =
                ap Some (receipt_priority (priority_of_item roster (with_event t c X past) (number_of b))
                (priority_of_item roster past (number_of b))
                (is_unblocked roster (with_event t c X past) (number_of b))
                (copied_count_of (with_event t c X past) (number_of b)) (filled (with_event t c X past) b)
                (λ copied some. held_priority roster past t c X (number_of b) below
                (received_before roster past t c (number_of b) copied (sym receipt ∙ some))))
                ∙ ap (λ x. Some (with_receipt (priority_of_item roster past (number_of b)) x
                (copied_count_of (with_event t c X past) (number_of b)) (filled (with_event t c X past) b))) unblocked
                ∙ ap (λ r. Some (with_receipt (priority_of_item roster past (number_of b)) (old || new) r
                (filled (with_event t c X past) b))) receipt
                ∙ ap (λ w. Some (with_receipt (priority_of_item roster past (number_of b)) (old || new)
                (option_or (copied_by (receipt_of (facts_of roster past) t c) (number_of b))
                (copied_count_of past (number_of b))) w))
                (filled_accepted (record { thread = t; call = c; completions = X }) past b
                (accepted roster past t c X a))
                ∙ unblocked_after M (unblocks c) u old new (priority_of_item roster past (number_of b))
                (option_or (copied_by (receipt_of (facts_of roster past) t c) (number_of b))
                (copied_count_of past (number_of b)))
                (changed (buffer_after_write (writes c) (number_of b)) (filled past b)) marked
                (λ is. some_later (copied_by (receipt_of (facts_of roster past) t c) (number_of b))
                (copied_count_of past (number_of b)) (unblocked_now roster past t c (number_of b) is).taken)
                ∙ ap (after_unblock M (unblocks c) u)
                (kept_after (receipt_of (facts_of roster past) t c) u (number_of b)
                (priority_of_item roster past (number_of b)) old (copied_count_of past (number_of b))
                (changed (buffer_after_write (writes c) (number_of b)) (filled past b))
                (λ r is. other_holds roster past t c u b r l other e going
                ((laws_of (facts_of roster past) t c X a).receives r is))
                ∙ ap (after_receipt (receipt_of (facts_of roster past) t c) u)
                (receipt_written (facts_of roster past) (writes c) u (number_of b)
                (priority_of_item roster past (number_of b)) old (copied_count_of past (number_of b)) (filled past b)
                (kept_number roster past b)
                (λ x is. written_sender roster past t c X u (kept roster past b) x a waits is
                ∙ ap (eqb x.rcvid) (kept_number roster past b)))) in
                rw (or-false (completes X (number_of b)), ended) (
                elim (is_some (R.others u))
                as (λ d. option_map (kept roster (with_event t c X past)) (cond d None (Some b)) ≡ unless d
                (other_after (facts_of roster past) t c u (Some (kept roster past b)))) [ true ↦ refl | false ↦ now ])
          ] refl
    ] refl)
    ∙ ap (λ o. unless (is_some ((row_of (facts_of roster past) t c).others u))
    (other_after (facts_of roster past) t c u o)) (sym (open_is roster past u))

-- a call that has completed stays completed
still : (roster : List Member) (e : Event) (past : Trace) (o : Option OpenCall)
    → option_map (kept roster past) (unless_ended past o) ≡ None
    → option_map (kept roster (e ∷ past)) (unless_ended (e ∷ past) o) ≡ None
still roster e past o h = grind arith

-- the open call of the caller: its own call
caller_after : (roster : List Member) (past : Trace) (t : ℕ) (c : Call) (X : List Completion) → IsLawful roster past
    → is_some (member_at roster t) ≡ true → Outcome true (facts_of roster past) t c X
    → option_map (kept roster (with_event t c X past))
    (unless_ended (with_event t c X past)
    (cond (is_some (asked_by roster past t c)) (asked_by roster past t c) (block roster past t)))
    ≡ unless (is_some (row_of (facts_of roster past) t c).own)
    (after_receipt (receipt_of (facts_of roster past) t c) t (asked_by roster past t c))
caller_after roster past t c X l member a =
    let R = row_of (facts_of roster past) t c in
    let n = length past + 1 in
    elim (asked_by roster past t c) as (λ z. asked_by roster past t c ≡ z
    → option_map (kept roster (with_event t c X past))
    (unless_ended (with_event t c X past) (cond (is_some z) z (block roster past t))) ≡ unless (is_some R.own)
    (after_receipt (receipt_of (facts_of roster past) t c) t z)) [
      | None ↦ λ e. still roster (record { thread = t; call = c; completions = X }) past (block roster past t)
          (sym (open_is roster past t) ∙ (passes_of (facts_of roster past) t c X a).idle)
          ∙ sym (ap (unless (is_some R.own)) (after_none (receipt_of (facts_of roster past) t c) t)
          ∙ unless_none (is_some R.own))
      | Some o ↦ λ e.
          let number : (number_of o) ≡ length past + 1 =
          ((call_laws c).asks_one (length past + 1) t (channel_of (makes (facts_of roster past) t c)) o e).number in
          let ended : is_ended (with_event t c X past) (number_of o) ≡ is_some R.own =
          ap (is_ended (with_event t c X past)) number
          ∙ rw (ends_own roster past t c X member a, ended_below roster past (length past + 1) l (omega arith))
          (or-false (is_some R.own)) in
          let receipt : copied_count_of (with_event t c X past) (length past + 1) ≡ option_or
          (copied_by (receipt_of (facts_of roster past) t c) (length past + 1)) None =
          rw (
            accepted_receipts roster past t c X (length past + 1) l member a,
            receipt_beyond roster past (length past + 1) l (omega arith),
          ) refl in
          let unblocked : is_unblocked roster (with_event t c X past) (length past + 1) ≡ false =
          unblocked_by roster (record { thread = t; call = c; completions = X }) past (length past + 1)
          ∙ rw (unblocked_beyond roster past (length past + 1) (omega arith), accepted roster past t c X a)
          (fresh_unblocked roster past t c) in
          let now : Some (kept roster (with_event t c X past) o) ≡ after_receipt
          (receipt_of (facts_of roster past) t c) t (Some o) =
          ap (λ w. Some (with_receipt (priority_of_item roster (with_event t c X past) (number_of o))
          (is_unblocked roster (with_event t c X past) (number_of o))
          (copied_count_of (with_event t c X past) (number_of o)) w))
          (filled_fresh roster past t (channel_of (makes (facts_of roster past) t c)) c X o l
          (accepted roster past t c X a) e number)
          ∙ ap (λ i. Some (with_receipt (priority_of_item roster (with_event t c X past) i)
          (is_unblocked roster (with_event t c X past) i) (copied_count_of (with_event t c X past) i) o)) number
          ∙ ap (λ x. Some (with_receipt (priority_of_item roster (with_event t c X past) (length past + 1)) x
          (copied_count_of (with_event t c X past) (length past + 1)) o)) unblocked
          ∙ ap (λ r. Some (with_receipt (priority_of_item roster (with_event t c X past) (length past + 1)) false r o))
          receipt
          ∙ kept_after (receipt_of (facts_of roster past) t c) t (length past + 1)
          (priority_of_item roster (with_event t c X past) (length past + 1)) false None o
          (λ r is. own_holds roster past t (channel_of (makes (facts_of roster past) t c)) c X o r l a e
          ((laws_of (facts_of roster past) t c X a).receives r is)) in
          rw ended (
          elim (is_some R.own) as (λ d. option_map (kept roster (with_event t c X past)) (cond d None (Some o))
          ≡ unless d (after_receipt (receipt_of (facts_of roster past) t c) t (Some o))) [ true ↦ refl | false ↦ now ])
    ] refl

after_own : (f : Facts) (t : ℕ) (c : Call)
    → open_call_after f t c t ≡ unless (is_some (row_of f t c).own)
    (after_receipt (receipt_of f t c) t (asks f.number t (channel_of (makes f t c)) c))
after_own f t c = rw (eqb_same t) refl

pub open_accepted : (roster : List Member) (past : Trace) (t : ℕ) (c : Call) (X : List Completion) (u : ℕ)
    → IsLawful roster past → is_some (member_at roster t) ≡ true → Outcome true (facts_of roster past) t c X
    → open_call roster (with_event t c X past) u ≡ open_call_after (facts_of roster past) t c u
open_accepted roster past t c X u l member a =
    let now =
    λ (o : Option OpenCall). option_map (kept roster (with_event t c X past))
    (unless_ended (with_event t c X past) o) in
    elim (cases_Bool (eqb u t)) [
      | inl e ↦ subst (λ v. open_call roster (with_event t c X past) v ≡ open_call_after (facts_of roster past) t c v)
          (sym (eqb-true u t e))
          (open_is roster (with_event t c X past) t
          ∙ ap now (newest_own roster past t c X (accepted roster past t c X a))
          ∙ caller_after roster past t c X l member a ∙ sym (after_own (facts_of roster past) t c))
      | inr e ↦ rw e (open_is roster (with_event t c X past) u ∙ ap now (newest_other roster past t c X u e)
          ∙ open_other roster past t c X u l member a e)
    ]
