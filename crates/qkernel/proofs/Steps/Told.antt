-- A pulse that is sent, if one is due: the threads and channels afterwards, and the call that completes.
use Rattle.qkernel.proofs.Common.{◌≡◌, ◌≢◌, ℕ, ◌+◌, ◌<◌, ◌≤◌, List, [], ◌++◌, length, refl, ap, sym, subst, ◌∙◌, cond}
use Rattle.qkernel.proofs.Common.{true, false, eqb, Option, None, Some, IfSome, is_some, unwrap_or, eqb_same, is_among}
use Rattle.qkernel.proofs.Common.{or_none, refusal_if_full_for, newest_receiver, ends_receiver, pulse_receipt, item_in}
use Rattle.qkernel.proofs.Common.{takes, after_receipt, priority_taken, unreceived_items, unless, ForAnItem, met_item}
use Rattle.qkernel.proofs.Common.{met_settled, IsSettled, IsLeft, IsMet, IsSentIfDue, completions_fewer, inserted_among}
use Rattle.qkernel.proofs.Common.{ended_thread, newest_receives, waits_among, AllByRecursion, filter_map, eqb-true}
use Rattle.qkernel.proofs.Common.{ne_eqb, true≢false, none-some, same_Some, option_or, is_pulse, Item, threads_of}
use Rattle.qkernel.proofs.Common.{SentItem, made_on, Completion, OpenCall, filter_map_same, rises, ids_of, channel_in}
use Rattle.qkernel.proofs.Common.{pending_in, thread_priority, members_of, with_completion_if, open_in, Channel, Thread}
use Rattle.qkernel.proofs.Common.{State, IsSound, facts_in}
use Rattle.std.proofs.lemmas.List.{append-nil}
use Rattle.qmodel.specs.declared.open_call.OpenCall.TheVariants.{Receive, Send}
use Rattle.qkernel.proofs.Steps.Delivering.{items_after, with_item}

-- the item that is due, with its channel
abbrev pub made_for : ℕ → Option Item → Option SentItem
made_for h None = None
made_for h (Some item) = Some (record { item = item; channel = h })

-- the threads and the channels afterwards, and the completion of the pulse's receiver
pub record IsTold (s : State) (t : ℕ) (o : Option SentItem) (mid : List Thread) (channels : List (ℕ × Channel))
    (met : Option Completion) : Type 0 where
  pub room : refusal_if_full_for (facts_in s) o ≡ None
  pub members : members_of mid ≡ members_of s.threads
  pub open_call : (u : ℕ) → open_in mid u ≡ unless (is_some (ends_receiver (facts_in s) o u)) (open_in s.threads u)
  pub idle : ends_receiver (facts_in s) o t ≡ None
  pub priority : (u : ℕ) → thread_priority mid u ≡ unwrap_or
      (priority_taken (facts_in s) (pulse_receipt (facts_in s) o) u) (thread_priority s.threads u)
  pub senderless : (u : ℕ) (call : Option OpenCall) → after_receipt (pulse_receipt (facts_in s) o) u call ≡ call
  pub ids : ids_of channels ≡ ids_of s.channels
  pub channel : (k : ℕ) → channel_in channels k ≡ channel_in s.channels k
  pub pending : (k : ℕ) → pending_in channels k ≡ unreceived_items (pulse_receipt (facts_in s) o) k
      (pending_in s.channels k ++ made_on k o)
  pub completions : (g : ℕ → Option Completion) → ((u : ℕ) (x : Completion) → g u ≡ Some x → x.thread ≡ u)
      → ((u : ℕ) → is_some (ends_receiver (facts_in s) o u) ≡ true → g u ≡ None)
      → with_completion_if met (filter_map g (threads_of (members_of s.threads))) ≡ filter_map
      (λ u. option_or (g u) (ends_receiver (facts_in s) o u)) (threads_of (members_of s.threads))
  pub few : (g : ℕ → Option Completion) → ((u : ℕ) → is_some (ends_receiver (facts_in s) o u) ≡ true → g u ≡ None)
      → is_some met ≡ true
      → length (filter_map g (threads_of (members_of s.threads))) + 1 ≤ length (threads_of (members_of s.threads))

-- ---- no pulse is due

untold : (s : State) (t : ℕ) → IsTold s t None s.threads s.channels None
untold s t = record {
  room = refl;
  members = refl;
  open_call = λ u. refl;
  idle = refl;
  priority = λ u. refl;
  senderless = λ u call. refl;
  ids = refl;
  channel = λ k. refl;
  pending = λ k. sym (append-nil _);
  completions = λ g own none. filter_map_same g (λ u. option_or (g u) None) (threads_of (members_of s.threads))
      (λ u. sym (or_none (g u)));
  few = λ g none e. absurd (true≢false (sym e));
}

-- ---- a pulse is due

-- the receipt of a pulse has the pulse's number and no bytes
told_mark : (item : Item) (r : ℕ) (o : Option OpenCall) (y : Completion) → is_pulse item.what ≡ true
    → takes item [] r o ≡ Some y → item_in y.mark ≡ Some (record { number = item.number; copied = 0 })
told_mark item r None y pulse e = absurd (none-some y e)
told_mark item r (Some (Send s)) y pulse e = absurd (none-some y e)
told_mark item r (Some (Receive x)) y pulse e = sym (ap (λ x. item_in x.mark) (same_Some _ y e)) ∙ rw pulse refl

module _ (s : State) (t h : ℕ) (item : Item) (sound : IsSound s) (free : open_in s.threads t ≡ None)
    (number : item.number ≡ s.made + 1) (mid : List Thread) (channels : List (ℕ × Channel)) where
  abbrev sent : Option SentItem
  sent = Some (record { item = item; channel = h })

  -- the pulse is queued
  told_left : IsLeft h item s.threads s.channels mid channels → IsTold s t sent mid channels None
  told_left left =
      let none : newest_receiver (facts_in s) h item ≡ None = left.nobody in
      record {
        room = rw (left.room) refl;
        members = ap members_of left.threads_are;
        open_call = λ u. ap (λ ts. open_in ts u) left.threads_are ∙ rw none refl;
        idle = rw none refl;
        priority = λ u. ap (λ ts. thread_priority ts u) left.threads_are ∙ rw none refl;
        senderless = λ u call. rw none refl;
        ids = left.sets.ids;
        channel = left.sets.channel;
        pending = λ k. left.sets.pending k ∙ rw none (with_item s h item sound number k);
        completions = λ g own nothing. filter_map_same g (λ u. option_or (g u) (ends_receiver (facts_in s) sent u))
            (threads_of (members_of s.threads)) (λ u. rw none (sym (or_none (g u))));
        few = λ g nothing e. absurd (true≢false (sym e));
      }

  -- a receiver takes the pulse
  module _ (y : Completion) (pulse : is_pulse item.what ≡ true)
      (met : IsMet h item s.threads s.channels mid channels y) where
    abbrev r : ℕ
    r = met.receiver

    newest_is_r : newest_receiver (facts_in s) h item ≡ Some r
    newest_is_r = met.newest

    apart : t ≢ r
    apart e = none-some y (sym (ap (takes item [] r) (ap (open_in s.threads) (sym e) ∙ free)) ∙ met.ended)

    there : is_among (threads_of (members_of s.threads)) r ≡ true
    there = let w = newest_receives s.threads h item r met.newest in waits_among h item w.0 s.threads r w.1

    told_is : (u : ℕ) → ends_receiver (facts_in s) sent u ≡ cond (eqb u r) (Some y) None
    told_is u =
        rw newest_is_r
        (elim (eqb u r) as (λ b. eqb u r ≡ b
        → cond b (takes item [] u (open_in s.threads u)) None ≡ cond b (Some y) None) [
          | true ↦ λ f. rw (eqb-true u r f) met.ended
          | false ↦ λ f. refl
        ] refl)

    told_r : is_some (ends_receiver (facts_in s) sent r) ≡ true
    told_r = rw (told_is r, eqb_same r) refl

    -- the receiver is no longer blocked
    waits_after : (u : ℕ) → open_in mid u ≡ unless (is_some (cond (eqb u r) (Some y) None)) (open_in s.threads u)
    waits_after u = met.wakes.open_call u
        ∙ (elim (eqb u r) as (λ b. cond b None (open_in s.threads u) ≡ unless (is_some (cond b (Some y) None))
        (open_in s.threads u)) [ true ↦ refl | false ↦ refl ])

    told_met : IsTold s t sent mid channels (Some y)
    told_met =
        let mark : item_in y.mark ≡ Some (record { number = item.number; copied = 0 }) =
        told_mark item r (open_in s.threads r) y pulse met.ended in
        let thread : y.thread ≡ r = ended_thread item [] r (open_in s.threads r) y met.ended in
        record {
          room = rw (met.room) refl;
          members = met.wakes.members;
          open_call = λ u. waits_after u ∙ ap (λ x. unless (is_some x) (open_in s.threads u)) (sym (told_is u));
          idle = told_is t ∙ rw (ne_eqb t r apart) refl;
          priority = λ u. met.wakes.priority u ∙ rw (newest_is_r, met.ended, mark, thread) refl;
          senderless = λ u call. rw (newest_is_r, met.ended, mark) refl;
          ids = ap ids_of met.channels_are;
          channel = λ k. ap (λ cs. channel_in cs k) met.channels_are;
          pending = λ k. ap (λ cs. pending_in cs k) met.channels_are
              ∙ rw (newest_is_r, met.ended, mark) (items_after s h item sound number k);
          completions =
              λ g own none. inserted_among y r thread g own (none r told_r) (threads_of (members_of s.threads))
              (rises (members_of s.threads) sound.roster) there
              ∙ filter_map_same (λ u. option_or (g u) (cond (eqb u r) (Some y) None))
              (λ u. option_or (g u) (ends_receiver (facts_in s) sent u)) (threads_of (members_of s.threads))
              (λ u. ap (option_or (g u)) (sym (told_is u)));
          few = λ g none e. completions_fewer g r (threads_of (members_of s.threads)) (none r told_r) there;
        }

-- ---- a pulse, if one is due

-- a pulse with the call's number
abbrev pub IsNew : ℕ → Option Item → Type 0
IsNew n d = IfSome d (λ item. (item.number ≡ n) × (is_pulse item.what ≡ true))

-- it has a greater number than all queued items
pub newest_due : (n : ℕ) (d : Option Item) (items : List Item) → IsNew n d → AllByRecursion (λ x. x.number < n) items
    → IfSome d (λ item. AllByRecursion (λ x. x.number < item.number) items)
newest_due n None items new below = tt
newest_due n (Some item) items new below =
    subst (λ k. AllByRecursion (λ (x : Item). x.number < k) items) (sym new.0) below

pub is_told : (s : State) (t h : ℕ) (d : Option Item) (mid : List Thread) (channels : List (ℕ × Channel))
    (met : Option Completion) → IsSound s → open_in s.threads t ≡ None
    → IsNew (s.made + 1) d → IsSentIfDue h d s.threads s.channels mid channels met
    → IsTold s t (made_for h d) mid channels met
is_told s t h None mid channels met sound free new sent = rw (sent.0, sent.1, sent.2) (untold s t)
is_told s t h (Some item) mid channels None sound free new sent =
    told_left s t h item sound free new.0 mid channels sent
is_told s t h (Some item) mid channels (Some y) sound free new sent =
    told_met s t h item sound free new.0 mid channels y new.1 sent

-- the receiver of the pulse isn't the caller
pub not_caller : (s : State) (t u : ℕ) (o : Option SentItem) (mid : List Thread) (channels : List (ℕ × Channel))
    (met : Option Completion) → IsTold s t o mid channels met → is_some (ends_receiver (facts_in s) o u) ≡ true → u ≢ t
not_caller s t u o mid channels met is there same =
    true≢false (sym there ∙ ap (λ v. is_some (ends_receiver (facts_in s) o v)) same ∙ ap is_some is.idle)

-- the receiver of the pulse is blocked in a receive
pub told_waits : (s : State) (o : Option SentItem) (u : ℕ) (y : Completion) → ends_receiver (facts_in s) o u ≡ Some y
    → ForAnItem (open_in s.threads u)
told_waits s None u y e = absurd (none-some y e)
told_waits s (Some x) u y e = met_item (facts_in s) x.item [] (Some x.channel) u y e

pub told_settled : (s : State) (o : Option SentItem) (u : ℕ) (y : Completion) → ends_receiver (facts_in s) o u ≡ Some y
    → IsSettled (open_in s.threads u)
told_settled s None u y e = absurd (none-some y e)
told_settled s (Some x) u y e = met_settled (facts_in s) x.item [] (Some x.channel) u y e
