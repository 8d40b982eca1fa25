-- A blocked Send: its thread, and the connection and channel of its item.
use Rattle.std.proofs.lemmas.Bool.Decides.{nat_tests}
use Rattle.qrules.proofs.Common.{◌≡◌, ◌∙◌, ℕ, ◌+◌, ◌≤◌, List, [], ◌∷◌, length, refl, ap, sym, subst, arith, true, inl}
use Rattle.qrules.proofs.Common.{inr, ◌⊎◌, ne_eqb, none-some, Connection, Member, held_call, with_buffer, SentItem}
use Rattle.qrules.proofs.Common.{Event, Trace, OpenCall, Receipt, eqb_same, channel_of, is_on, Option, Some, is_some}
use Rattle.qrules.proofs.Basics.{is_for_answer, number_of, facts_of, IsLawful, asks, thread_of_send, is_accepted}
use Rattle.qrules.proofs.Basics.{accepted_at, sender_of, with_writes, attached_connection, block, filled, item_of}
use Rattle.qrules.proofs.Basics.{open_call, passes_of, item_at, item_below, item_earlier, item_newest, made_below}
use Rattle.qrules.proofs.Basics.{block_below, IsOpen, buffer_answer, held_for_answer, open_parts, held_on, buffer_on}
use Rattle.qrules.proofs.Traces.Properties.Answers.{over, sends_by, sends_over}
use Rattle.qrules.proofs.Traces.Properties.Events.{made_now, outcome_of}
use Rattle.qrules.proofs.Traces.Past.Connections.{live_attached}

-- ---- the things that events made

-- a later event doesn't change what an earlier one made
pub made_earlier : {A : Type 0} (make : Event → Option A) (e : Event) (past : Trace) (i : ℕ) → i ≤ length past
    → accepted_at make (e ∷ past) i ≡ accepted_at make past i
made_earlier make e past i l = rw (ne_eqb i (length past + 1) (λ same. omega arith)) refl

pub made_newest : {A : Type 0} (make : Event → Option A) (e : Event) (past : Trace) → is_accepted e past ≡ true
    → accepted_at make (e ∷ past) (length past + 1) ≡ make e
made_newest make e past is = rw (eqb_same (length past + 1), is) refl

-- a made thing stays made
pub made_stays : {A : Type 0} (make : Event → Option A) (e : Event) (past : Trace) (i : ℕ) (x : A)
    → accepted_at make past i ≡ Some x → accepted_at make (e ∷ past) i ≡ Some x
made_stays make e past i x is = made_earlier make e past i (made_below make past i x is) ∙ is

-- ---- the newest blocking call

-- the newest blocking call is the call of the newest event, which was accepted
pub record BeginsNow (roster : List Member) (e : Event) (past : Trace) (u : ℕ) (b : OpenCall) : Type 0 where
  pub thread : e.thread ≡ u
  pub accepted : is_accepted e past ≡ true
  pub asked : asks (length past + 1) u (channel_of (item_of roster e past)) e.call ≡ Some b
  pub number : number_of b ≡ length past + 1

pub begins_now : (roster : List Member) (e : Event) (past : Trace) (u : ℕ) (b : OpenCall)
    → block roster (e ∷ past) u ≡ Some b → BeginsNow roster e past u b ⊎ (block roster past u ≡ Some b)
begins_now roster e past u b is = grind arith

-- the thread of a blocked Send is its sender
pub block_sender : (roster : List Member) (past : Trace) (u : ℕ) (b : OpenCall) → block roster past u ≡ Some b
    → is_for_answer b ≡ true → sender_of past (number_of b) ≡ Some u
block_sender roster [] u b is w = absurd (none-some b is)
block_sender roster (e ∷ past) u b is w = elim (begins_now roster e past u b is) [
  | inl h ↦
      subst (λ i. sender_of (e ∷ past) i ≡ Some u) (sym h.number)
      (made_newest (λ e. thread_of_send e.thread e.call) e past h.accepted
      ∙ sends_by (length past + 1) e.thread (channel_of (item_of roster e past)) e.call b
      (subst (λ v. asks (length past + 1) v (channel_of (item_of roster e past)) e.call ≡ Some b)
      (sym h.thread) h.asked) w ∙ ap (λ t. Some t) h.thread)
  | inr h ↦ made_stays (λ e. thread_of_send e.thread e.call) e past (number_of b) u (block_sender roster past u b h w)
]

-- the connection of a Send, and the item that it made, on the connection's channel
pub record IsSentOver (roster : List Member) (past : Trace) (coid i : ℕ) : Type 0 where
  pub connection : Connection
  pub is_connection : attached_connection roster past coid ≡ Some connection
  pub made : SentItem
  pub is_made : item_at roster past i ≡ Some made
  pub channel : made.channel ≡ connection.channel

pub block_over : (roster : List Member) (past : Trace) (u : ℕ) (b : OpenCall) → IsLawful roster past
    → block roster past u ≡ Some b → is_for_answer b ≡ true
    → IsSentOver roster past (over b) (number_of b)
block_over roster [] u b l is w = absurd (none-some b is)
block_over roster (e ∷ past) u b l is w = elim (begins_now roster e past u b is) [
  | inl h ↦
      let a = outcome_of roster e past l.1.1 h.accepted in
      let s = sends_over (facts_of roster past) e.thread (channel_of (item_of roster e past)) e.call b
      (passes_of (facts_of roster past) e.thread e.call e.completions a)
      (subst (λ v. asks (length past + 1) v (channel_of (item_of roster e past)) e.call ≡ Some b)
      (sym h.thread) h.asked) w in
      record {
        connection = s.connection;
        is_connection =
            made_stays _ e past (over b) s.connection
            (sym (live_attached roster past (over b) (ap is_some s.is_connection)) ∙ s.is_connection);
        made = s.made;
        is_made =
            subst (λ i. item_at roster (e ∷ past) i ≡ Some s.made) (sym h.number)
            (item_newest roster e past ∙ made_now roster e past s.made a s.is_made);
        channel = s.channel;
      }
  | inr h ↦
      let k = block_over roster past u b l.0 h w in
      record {
        connection = k.connection;
        is_connection = made_stays _ e past (over b) k.connection k.is_connection;
        made = k.made;
        is_made = item_earlier roster e past (number_of b) (item_below roster past (number_of b) k.made k.is_made)
            ∙ k.is_made;
        channel = k.channel;
      }
]

-- a Send is open on the channel of the item that it made
pub block_on : (roster : List Member) (past : Trace) (u : ℕ) (b : OpenCall) (m : SentItem)
    → block roster past u ≡ Some b → is_for_answer b ≡ true → item_at roster past (number_of b) ≡ Some m
    → is_on m.channel b ≡ true
block_on roster [] u b m is w made = absurd (none-some b is)
block_on roster (e ∷ past) u b m is w made = grind (arith, nat_tests, block_below, block_on roster past)

-- ---- the open call

-- a property of an open call that no receipt changes is the property of the call after all Writes
pub open_filled : {A : Type 0} (g : OpenCall → A) (roster : List Member) (past : Trace) (u : ℕ) (o : OpenCall)
    (k : IsOpen roster past u o) → ((receipt : Receipt) (w : OpenCall) → g (held_call receipt w) ≡ g w)
    → g o ≡ g (filled past k.block)
open_filled {A} g roster past u o k h = grind arith

-- a property of an open call that no receipt and no Write changes is the property of the call as it began
pub open_keeps : {A : Type 0} (g : OpenCall → A) (roster : List Member) (past : Trace) (u : ℕ) (o : OpenCall)
    (k : IsOpen roster past u o) → ((receipt : Receipt) (w : OpenCall) → g (held_call receipt w) ≡ g w)
    → ((f : List ℕ → List ℕ) (w : OpenCall) → g (with_buffer f w) ≡ g w) → g o ≡ g k.block
open_keeps g roster past u o k h wrote = open_filled g roster past u o k h
    ∙ wrote (with_writes past (number_of k.block)) k.block

pub held_over : (receipt : Receipt) (w : OpenCall) → over (held_call receipt w) ≡ over w
held_over receipt w = grind arith

pub buffer_over : (f : List ℕ → List ℕ) (w : OpenCall) → over (with_buffer f w) ≡ over w
buffer_over f w = grind arith

-- the connection of an open Send was attached to the channel of the Send
pub open_on : (roster : List Member) (past : Trace) (u : ℕ) (o : OpenCall) → IsLawful roster past
    → open_call roster past u ≡ Some o → is_for_answer o ≡ true → (c : Connection)
    × (attached_connection roster past (over o) ≡ Some c) × (is_on c.channel o ≡ true)
open_on roster past u o l is w =
    let k = open_parts roster past u o is in
    let began : is_for_answer k.block ≡ true =
    sym (open_keeps is_for_answer roster past u o k held_for_answer buffer_answer) ∙ w in
    let s = block_over roster past u k.block l k.is began in (
      s.connection,
      ap (attached_connection roster past) (open_keeps over roster past u o k held_over buffer_over) ∙ s.is_connection,
      open_keeps (is_on s.connection.channel) roster past u o k (held_on s.connection.channel)
          (buffer_on s.connection.channel)
          ∙ subst (λ h. is_on h k.block ≡ true) s.channel (block_on roster past u k.block s.made k.is began s.is_made),
    )

-- the connection of an open Send, and its item
pub open_over : (roster : List Member) (past : Trace) (u : ℕ) (o : OpenCall) (k : IsOpen roster past u o)
    → IsLawful roster past → is_for_answer o ≡ true → IsSentOver roster past (over o) (number_of k.block)
open_over roster past u o k l w = grind (arith, block_over, buffer_over, held_for_answer, held_over, open_keeps, over)
