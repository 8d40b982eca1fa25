-- The laws of open calls.
use Rattle.qrules_laws.proofs.Common.{AllByRecursion, Call, IsRoster, List, Member, None, OldFacts, Option, Receive}
use Rattle.qrules_laws.proofs.Common.{Send, Some, Trace, [], accepted_at, all_filter_map, and-true, ap, arith}
use Rattle.qrules_laws.proofs.Common.{begins_now, block, eqb-true, eqb_same, false, false_from_ne_true, held_sender}
use Rattle.qrules_laws.proofs.Common.{inl, inr, is_down, is_received, is_some, item_of, kept_number, length}
use Rattle.qrules_laws.proofs.Common.{made_newest, made_stays, may_wait, none-some, not, open_call, open_call_after}
use Rattle.qrules_laws.proofs.Common.{open_calls_keep_length, open_from, open_on, open_parts, open_receipt, option_map}
use Rattle.qrules_laws.proofs.Common.{option_map_or, passes_of, past_follows, refl, same_Some, shuts_down, subst, sym}
use Rattle.qrules_laws.proofs.Common.{true, true≢false, waits_on_open, ℕ, ◌&&◌, ◌+◌, ◌∙◌, ◌∷◌, ◌≡◌, ◌≤◌, Bool, SentItem}
use Rattle.qrules_laws.proofs.Common.{filter_map, is_among, nat_tests, newest_receiver, or-true, wait_on}
use Rattle.qrules.proofs.Words.Lawful as old
use Rattle.qrules.proofs.Traces.TraceLaws.Unended.{asks_any, unended_newest}
use Rattle.qrules.specs.Past.{waiter, is_ended}
use Rattle.qrules.proofs.Words.Made.{channel_of}
use Rattle.qrules.proofs.Traces.Past.LiveSends.{over_attached}
use Rattle.qrules.proofs.Traces.Properties.Waiting.{nothing_for}
use Rattle.std.specs.Prelude.{find}
use Rattle.qrules.proofs.Traces.Properties.Receivers.{any_after, newest_parts, newest_there, newest_waits, waiting_on}
use Rattle.qrules.specs.Facts.{open_receives, open_send, open_sends, receive_of, send_of, threads_of, Facts}
use Rattle.qrules.specs.Facts.{OpenReceive, OpenSend, OpenCall, number_of}
use Rattle.qrules.specs.Lawful.{facts_of}
use Rattle.qrules.proofs.Messages.{send_cases}
use Rattle.qrules_laws.specs.OpenCalls as laws

-- ---- at most one open call for each thread

-- the newest blocking call is an accepted call of its thread that may block
block_began : (roster : List Member) (past : Trace) (u : ℕ) (b : OpenCall) → block roster past u ≡ Some b
    → accepted_at waiter past (number_of b) ≡ Some u
block_began roster [] u b is = absurd (none-some b is)
block_began roster (e ∷ past) u b is = elim (begins_now roster e past u b is) [
  | inl h ↦
      let waits : may_wait e.call ≡ true =
      sym (asks_any (length past + 1) u (channel_of (item_of roster e past)) e.call) ∙ ap is_some h.asked in
      let blocks : waiter e ≡ Some u = rw (waits, h.thread) refl in
      subst (λ i. accepted_at waiter (e ∷ past) i ≡ Some u) (sym h.number)
      (made_newest waiter e past h.accepted ∙ blocks)
  | inr h ↦ made_stays waiter e past (number_of b) u (block_began roster past u b h)
]

pub at_most_one_open : laws.AtMostOneOpen
at_most_one_open roster past r l t i j first second =
    let k = unended_newest roster past t i l first.waits first.going in
    let m = unended_newest roster past t j l second.waits second.going in
    sym k.number ∙ ap number_of (same_Some k.block m.block (sym k.is ∙ m.is)) ∙ m.number

unended_open : (roster : List Member) (past : Trace) (t i : ℕ)
    → option_map number_of (open_call roster past t) ≡ Some i → laws.IsUnended past t i
unended_open roster past t i is =
    elim (open_call roster past t) as (λ o. open_call roster past t ≡ o → option_map number_of o ≡ Some i
    → laws.IsUnended past t i) [
      | None ↦ λ e at. absurd (none-some i at)
      | Some o ↦ λ e at.
          let k = open_parts roster past t o e in
          let number : (number_of k.block) ≡ i = sym k.number ∙ same_Some (number_of o) i at in
          record {
            waits = subst (λ j. accepted_at waiter past j ≡ Some t) number (block_began roster past t k.block k.is);
            going = subst (λ j. is_ended past j ≡ false) number k.going;
          }
    ] refl is

open_unended : (roster : List Member) (past : Trace) (t i : ℕ) → old.IsLawful roster past → laws.IsUnended past t i
    → option_map number_of (open_call roster past t) ≡ Some i
open_unended roster past t i l u =
    let k = unended_newest roster past t i l u.waits u.going in
    ap (option_map number_of)
    (open_from roster past t k.block k.is (subst (λ j. is_ended past j ≡ false) (sym k.number) u.going))
    ∙ ap (λ n. Some n) (kept_number roster past k.block ∙ k.number)

pub open_is_unended : laws.OpenIsUnended
open_is_unended roster past r l t i = (unended_open roster past t i, open_unended roster past t i l)

-- ---- Sends

-- a statement that holds for the Send of each blocked thread holds for all open Sends
all_sends : (f : Facts) (P : OpenSend → Type 0) → ((u : ℕ) (s : OpenSend) → f.open_call u ≡ Some (Send s) → P s)
    → AllByRecursion P (open_sends f)
all_sends f P h = all_filter_map P (send_of f) (threads_of f.roster) (λ u s e. h u s (grind arith))

all_receives : (f : Facts) (P : OpenReceive → Type 0)
    → ((u : ℕ) (r : OpenReceive) → f.open_call u ≡ Some (Receive r) → P r) → AllByRecursion P (open_receives f)
all_receives f P h = all_filter_map P (receive_of f) (threads_of f.roster) (λ u r e. h u r (grind arith))

pub open_sends_are_routed : laws.OpenSendsAreRouted
open_sends_are_routed roster past r l =
    all_sends (facts_of roster past) _ (λ u s is.
    let c = open_on roster past u (Send s) l is refl in
    record {
      connection = c.0;
      is_live = over_attached roster past u (Send s) l is refl ∙ c.1;
      leads = sym (eqb-true s.channel c.0.channel c.2);
      is_open = waits_on_open roster past r l u (Send s) s.channel is (eqb_same s.channel);
    })

held_so : (roster : List Member) (past : Trace) (u : ℕ) (s : OpenSend) → open_call roster past u ≡ Some (Send s)
    → laws.is_held past s.number ≡ is_some s.receipt
held_so roster past u s is =
    let k = open_parts roster past u (Send s) is in
    let going : is_ended past s.number ≡ false = subst (λ i. is_ended past i ≡ false) (sym k.number) k.going in
    ap (λ b. is_received past s.number && not b) going ∙ and-true (is_received past s.number)
    ∙ open_receipt roster past u s is

pub held_is_open_send : laws.HeldIsOpenSend
held_is_open_send roster past r l i =
    let f = facts_of roster past in
    let tells = λ (o : Option OpenSend). option_map_or (λ s. is_some s.receipt) o false in
    elim (send_cases f i) as (λ k. laws.is_held past i ≡ tells (open_send f i)) [
      | inl k ↦ false_from_ne_true _
          (λ held. none-some _ (sym k.none ∙ (held_sender roster past r l i held).is_sender)) ∙ ap tells (sym k.new)
      | inr k ↦ ap (laws.is_held past) (sym k.number) ∙ held_so roster past k.thread k.send k.is ∙ ap tells (sym k.new)
    ]

-- ---- receives

module _ (f : Facts) (m : SentItem) where
  -- the number of a thread's receive that may take the item
  abbrev waits : ℕ → Option ℕ
  waits v = wait_on m.channel m.item (f.open_call v)

  -- if no thread waits for the item, no open receive may take it
  none_may : (ts : List ℕ) → ((v : ℕ) → is_among ts v ≡ true → waits v ≡ None)
      → AllByRecursion (λ r. laws.may_receive m r ≡ false) (filter_map (receive_of f) ts)
  none_may [] h = tt
  none_may (t ∷ ts) h = grind (arith, h t (rw (eqb_same t) refl), none_may ts (λ v among. h v (rw among (or-true _))))

  all_before : (n : ℕ) (ts : List ℕ) → any_after waits n ts ≡ false
      → AllByRecursion (λ s. laws.may_receive m s ≡ true → s.number ≤ n) (filter_map (receive_of f) ts)
  all_before n [] h = tt
  all_before n (t ∷ ts) h = grind (arith, nat_tests, all_before n ts)

  last_waits : (u : ℕ) → newest_receiver f m.channel m.item ≡ Some u → laws.IsNewest f m u
  last_waits u e =
      let n = newest_parts f.open_call m.channel m.item (threads_of f.roster) u e in
      let w = newest_waits f m.channel m.item u e in
      let last =
      all_before w.receive.number (threads_of f.roster)
      (grind (arith, waiting_on m.channel m.item (f.open_call u) w, n.1.waits, n.1.last)) in
      record {
        receive = w.receive;
        is_open = rw (w.is_open) refl;
        may = rw (w.on, eqb_same m.channel) w.may;
        last =
            last;
      }

  nobody_may : newest_receiver f m.channel m.item ≡ None
      → AllByRecursion (λ r. laws.may_receive m r ≡ false) (open_receives f)
  nobody_may e = none_may (threads_of f.roster) (λ v among. elim (waits v) as (λ o. waits v ≡ o → o ≡ None) [
    | None ↦ λ is. refl
    | Some k ↦ λ is. absurd (true≢false (sym (newest_there f m.channel m.item v k among is) ∙ ap is_some e))
  ] refl)

  idle : (p : ℕ → Bool) (ts : List ℕ)
      → AllByRecursion (λ r. laws.may_receive m r ≡ false) (filter_map (receive_of f) ts)
      → find (λ u. option_map_or p (waits u) false) ts ≡ None
  idle p [] all = refl
  idle p (t ∷ ts) all = grind (arith, idle p ts)

  nobody_takes : AllByRecursion (λ r. laws.may_receive m r ≡ false) (open_receives f)
      → newest_receiver f m.channel m.item ≡ None
  nobody_takes h = idle _ (threads_of f.roster) h

pub newest_is_last : laws.NewestIsLast
newest_is_last roster past r l = last_waits (facts_of roster past)

pub none_is_newest : laws.NoneIsNewest
none_is_newest roster past r l m = (nobody_may (facts_of roster past) m, nobody_takes (facts_of roster past) m)

pub nothing_pending_for_waiting : laws.NothingPendingForWaiting
nothing_pending_for_waiting roster past r l =
    all_receives (facts_of roster past) _ (λ u w is. nothing_for roster past r l u _ w.channel w.kind is refl)

-- ---- buffers

pub reply_buffers_keep_length : laws.ReplyBuffersKeepLength
reply_buffers_keep_length roster past r l =
    all_sends (facts_of roster past) (λ s. laws.IsAsLong past s.number s.reply_buffer) (λ u s is.
    let k = open_calls_keep_length roster past u (Send s) is in record { call = k.0; is = k.1; same = k.2 })

pub receive_buffers_keep_length : laws.ReceiveBuffersKeepLength
receive_buffers_keep_length roster past r l =
    all_receives (facts_of roster past) (λ s. laws.IsAsLong past s.number s.buffer) (λ u s is.
    let k = open_calls_keep_length roster past u (Receive s) is in record { call = k.0; is = k.1; same = k.2 })

-- ---- after a shutdown

-- a call that shuts the kernel down leaves no thread blocked
shut_out : (f : OldFacts) (t : ℕ) (c : Call) (u : ℕ) → shuts_down c ≡ true → open_call_after f t c u ≡ None
shut_out f t c u e = grind arith

none_open : (roster : List Member) (past : Trace) → IsRoster roster → old.IsLawful roster past → is_down past ≡ true
    → (u : ℕ) → open_call roster past u ≡ None
none_open roster [] r l down u = absurd (true≢false (sym down))
none_open roster (e ∷ past) r l down u =
    let f : OldFacts = old.facts_of roster past in
    elim (l.1.1) [
      | inl a ↦
          let k = past_follows true roster past e.thread e.call e.completions r l.0 l.1.0 a in
          k.open_call u ∙ shut_out f e.thread e.call u
          (grind (arith, (passes_of f e.thread e.call e.completions a).up, k.down, down))
      | inr a ↦
          let k = past_follows false roster past e.thread e.call e.completions r l.0 l.1.0 a in
          k.open_call u ∙ none_open roster past r l.0 (sym k.down ∙ down) u
    ]

pub nobody_waits_after_shutdown : laws.NobodyWaitsAfterShutdown
nobody_waits_after_shutdown roster past r l down t =
    ap is_some (none_open roster past r l down t)
