-- The priorities of the threads after one more event: the priority that it sets, and the priority that a
-- receiver takes.
use Rattle.qrules.proofs.Common.{◌≡◌, ℕ, ◌+◌, List, ◌∷◌, length, refl, ap, sym, subst, ◌∙◌, cond, arith, true, false}
use Rattle.qrules.proofs.Common.{eqb, ◌⊎◌, inl, inr, option_map, option_or, filter_map, none-some, Item, member_at}
use Rattle.qrules.proofs.Common.{Member, completion_to, Outcome, SentItem, Event, Trace, Call, Completion, ReceivedItem}
use Rattle.qrules.proofs.Common.{Option, None, Some, is_some, not, option_and_then, unwrap_or}
use Rattle.qrules.proofs.Basics.{receipt_of, Received, item_in, priority_set_for, threads_of, facts_of, IsLawful}
use Rattle.qrules.proofs.Basics.{with_event, items_by_now, carried_priority, channel_at, first_among}
use Rattle.qrules.proofs.Basics.{priority_from_completion, item_of, items, item_among, priority_of_thread, refuses}
use Rattle.qrules.proofs.Basics.{current_priority, sets, priority_taken, priority_after, accepted, completion_names}
use Rattle.qrules.proofs.Basics.{laws_of, item_at, item_below, item_earlier, item_found, item_newest, item_priority}
use Rattle.qrules.proofs.Basics.{RowLaws, IsReceipt, IsReceived, call_laws, among_now, now, worth_beyond, known}
use Rattle.qrules.proofs.Traces.Past.Receipts.{among_none, among_one, best_pending, best_priority, completion_receives}
use Rattle.qrules.proofs.Traces.Past.Receipts.{given_known}

-- the received item is among the items that were made, and this is its current priority
record IsReceivedAt (roster : List Member) (past : Trace) (e : Event) (r : Received) (item : Item) : Type 0 where
  pub first : Item
  pub at : item_at roster (e ∷ past) r.item ≡ Some (record { item = first; channel = r.channel })
  pub is_worth : current_priority past first ≡ item.priority

received_at : (roster : List Member) (past : Trace) (t : ℕ) (c : Call) (X : List Completion) (r : Received)
    (k : IsReceived (facts_of roster past) t c r) → Outcome true (facts_of roster past) t c X
    → IsReceivedAt roster past (record { thread = t; call = c; completions = X }) r k.item
received_at roster past t c X r k a =
    let e : Event = record { thread = t; call = c; completions = X } in
    elim (k.source) [
      | inl new ↦
          let number : k.item.number ≡ length past + 1 =
          ((call_laws c).makes_one (facts_of roster past) t _ new.made).number in
          let made : item_of roster e past ≡ Some (record { item = k.item; channel = r.channel }) =
          rw (accepted roster past t c X a) (new.made) in
          record {
            first = k.item;
            at = subst (λ i. item_at roster (e ∷ past) i ≡ Some (record { item = k.item; channel = r.channel }))
                (sym number ∙ k.number) (item_newest roster e past ∙ made);
            is_worth = worth_beyond past k.item (omega (arith, number));
          }
      | inr old ↦
          let place = best_pending roster past r.channel old.kind k.item old.best in
          record {
            first = place.first;
            at = subst (λ i. item_at roster (e ∷ past) i ≡ Some (record { item = place.first; channel = r.channel }))
                k.number
                (item_earlier roster e past k.item.number (item_below roster past k.item.number _ place.made)
                ∙ place.made);
            is_worth = sym (item_priority roster past k.item.number _ place.made)
                ∙ best_priority roster past r.channel old.kind k.item old.best;
          }
    ]

-- a completion belongs to the thread that gets it
pub completion_thread : (roster : List Member) (past : Trace) (t : ℕ) (c : Call) (v : ℕ) (y : Completion)
    → RowLaws (facts_of roster past) t c → completion_to (facts_of roster past) t c v ≡ Some y → y.thread ≡ v
completion_thread roster past t c v y laws e = grind (arith, completion_names (facts_of roster past) t c v y laws e)

module _ (roster : List Member) (past : Trace) (t : ℕ) (c : Call) (X : List Completion) (u : ℕ)
    (l : IsLawful roster past) (member : is_some (member_at roster t) ≡ true)
    (a : Outcome true (facts_of roster past) t c X) where
  -- the priority that an item carries to its receiver
  abbrev carries : ℕ → Option ℕ
  carries i =
      carried_priority (channel_at roster past)
      (item_among (items_by_now past (items roster (with_event t c X past))) i)

  laws : RowLaws (facts_of roster past) t c
  laws = laws_of (facts_of roster past) t c X a

  carries_it : (r : Received) → (k : IsReceived (facts_of roster past) t c r)
      → cond (eqb r.by u) (carries r.item) None ≡ priority_taken (facts_of roster past) (Some r) u
  carries_it r k =
      let at = received_at roster past t c X r k a in
      ap (λ o. cond (eqb r.by u) (carried_priority (channel_at roster past) o) None) (
      among_now past (items roster (with_event t c X past)) r.item
      ∙ ap (option_map (λ (m : SentItem). record { item = now past m.item; channel = m.channel }))
      (item_found roster (with_event t c X past) r.item _ at.at))
      ∙ ap (λ p. priority_taken (facts_of roster past)
      (Some (record {
        item = r.item;
        channel = r.channel;
        by = r.by;
        sender = r.sender;
        kept = record { priority = p; copied = r.kept.copied; unblocked = r.kept.unblocked };
      })) u) (at.is_worth ∙ k.priority)

  -- a completion gives the priority that the row's receipt gives
  gives : (v : ℕ) (y : Completion) (q : ReceivedItem) → completion_to (facts_of roster past) t c v ≡ Some y
      → item_in y.mark ≡ Some q → priority_from_completion carries u y ≡ priority_taken (facts_of roster past)
      (receipt_of (facts_of roster past) t c) u
  gives v y q e m =
      let k : IsReceipt (receipt_of (facts_of roster past) t c) v q =
      completion_receives (facts_of roster past) t c v y q laws e m in
      ap (λ o. cond (eqb y.thread u) (option_and_then (λ r. carries r.number) o) None) m
      ∙ ap (λ w. cond (eqb w u) (carries q.number) None) (completion_thread roster past t c v y laws e ∙ sym k.by)
      ∙ ap (λ i. cond (eqb k.receipt.by u) (carries i) None) k.item
      ∙ carries_it k.receipt (laws.receives k.receipt k.is)
      ∙ ap (λ o. priority_taken (facts_of roster past) o u) (sym k.is)

  none_or_it : (v : ℕ) (y : Completion) → completion_to (facts_of roster past) t c v ≡ Some y
      → (priority_from_completion carries u y ≡ None)
      ⊎ (priority_from_completion carries u y ≡ priority_taken (facts_of roster past)
      (receipt_of (facts_of roster past) t c) u)
  none_or_it v y e = grind (arith, gives v y)

  given_accepted : first_among (priority_from_completion carries u) X ≡ priority_taken (facts_of roster past)
      (receipt_of (facts_of roster past) t c) u
  given_accepted = ap (first_among (priority_from_completion carries u)) (a.by_row)
      ∙ by (priority_taken (facts_of roster past) (receipt_of (facts_of roster past) t c) u) refl where
        by : (o : Option ℕ) → priority_taken (facts_of roster past) (receipt_of (facts_of roster past) t c) u ≡ o
            → first_among (priority_from_completion carries u)
            (filter_map (completion_to (facts_of roster past) t c) (threads_of roster)) ≡ o
        by None is = among_none (priority_from_completion carries u) (completion_to (facts_of roster past) t c)
            (threads_of roster) (λ v y e. elim (none_or_it v y e) [ inl h ↦ h | inr h ↦ h ∙ is ])
        by (Some p) is = from (receipt_of (facts_of roster past) t c) refl is where
          from : (o : Option Received) → (receipt_of (facts_of roster past) t c) ≡ o
              → priority_taken (facts_of roster past) o u ≡ Some p
              → first_among (priority_from_completion carries u)
              (filter_map (completion_to (facts_of roster past) t c) (threads_of roster)) ≡ Some p
          from None e none = absurd (none-some p none)
          from (Some r) e some =
              let k = laws.receives r e in
              among_one (priority_from_completion carries u) (completion_to (facts_of roster past) t c)
              (threads_of roster) p (λ v y e. elim (none_or_it v y e) [ inl h ↦ inl h | inr h ↦ inr (h ∙ is) ])
              r.by k.given (known roster r.by (given_known roster past t c r.by k.given l member laws k.is_given))
              k.is_given (gives r.by k.given _ k.is_given k.mark ∙ is)

  pub priority_accepted : priority_of_thread roster (with_event t c X past) u ≡ priority_after
      (facts_of roster past) t c u
  priority_accepted =
      ap (λ o. unwrap_or (option_or (cond (not (refuses X (length past + 1))) (priority_set_for (sets c) u) None) o)
      (priority_of_thread roster past u)) given_accepted
      ∙ ap (λ b. unwrap_or (option_or (cond (not b) (priority_set_for (sets c) u) None)
      (priority_taken (facts_of roster past) (receipt_of (facts_of roster past) t c) u))
      (priority_of_thread roster past u)) (accepted roster past t c X a)

-- a call that fails changes no priority
pub priority_refused : (roster : List Member) (past : Trace) (t : ℕ) (c : Call) (X : List Completion) (u : ℕ)
    → Outcome false (facts_of roster past) t c X
    → priority_of_thread roster (with_event t c X past) u ≡ priority_of_thread roster past u
priority_refused roster past t c X u a = grind arith
