-- The open call of a thread: its newest blocking call, unless that has completed.
use Rattle.qrules.proofs.Common.{◌≡◌, ℕ, ◌≤◌, List, [], ◌∷◌, length, refl, ap, sym, ◌∙◌, arith, Bool, false, option_map}
use Rattle.qrules.proofs.Common.{Receive, Send, thread_of, number_of, Member, Trace, SentItem, OpenCall, Receipt}
use Rattle.qrules.proofs.Common.{with_buffer, held_call, channel_of, item_among, is_on, Option, None, Some, is_some}
use Rattle.qrules.proofs.Common.{not}
use Rattle.qmodel.specs.declared.open_call.OpenSend.{OpenSend}
use Rattle.qrules.proofs.Words.Past.{is_received, items_by_now, call_by_now, is_ended, newest_block, unless_ended}
use Rattle.qrules.proofs.Words.Past.{open_call, copied_count_of, priority_of_item, unblocked_among, items, block}
use Rattle.qrules.proofs.Words.Past.{with_receipt, filled}
use Rattle.qrules.proofs.Traces.Past.Laws.{is_settled}
use Rattle.qrules.proofs.Traces.Calls.{call_laws}
use Rattle.qrules.proofs.Traces.Past.Numbers.{block_asked, block_below, block_fresh, block_thread}
use Rattle.qrules.proofs.Traces.Past.CurrentPriority.{among_now, now}
use Rattle.qrules.proofs.Traces.Past.Items.{found_earlier, found_there}
use Rattle.qrules.proofs.Words.Facts.{is_for_answer}

-- ---- open calls

pub held_number : (receipt : Receipt) (o : OpenCall) → number_of (held_call receipt o) ≡ number_of o
held_number receipt o = grind arith

-- a receipt doesn't change the number
pub receipt_number : (priority : ℕ) (unblocked : Bool) (r : Option ℕ) (b : OpenCall)
    → number_of (with_receipt priority unblocked r b) ≡ number_of b
receipt_number priority unblocked r b = grind arith

pub buffer_number : (f : List ℕ → List ℕ) (o : OpenCall) → number_of (with_buffer f o) ≡ number_of o
buffer_number f o = grind arith

pub held_thread : (receipt : Receipt) (o : OpenCall) → thread_of (held_call receipt o) ≡ thread_of o
held_thread receipt o = grind arith

pub buffer_thread : (f : List ℕ → List ℕ) (o : OpenCall) → thread_of (with_buffer f o) ≡ thread_of o
buffer_thread f o = grind arith

pub held_for_answer : (receipt : Receipt) (o : OpenCall) → is_for_answer (held_call receipt o) ≡ is_for_answer o
held_for_answer receipt o = grind arith

-- a receipt doesn't change whether the call is a Send
pub receipt_for_answer : (priority : ℕ) (unblocked : Bool) (r : Option ℕ) (b : OpenCall)
    → is_for_answer (with_receipt priority unblocked r b) ≡ is_for_answer b
receipt_for_answer priority unblocked r b = grind arith

-- a Write changes only the reply buffer
pub buffer_answer : (f : List ℕ → List ℕ) (o : OpenCall) → is_for_answer (with_buffer f o) ≡ is_for_answer o
buffer_answer f o = grind arith

pub buffer_settled : (f : List ℕ → List ℕ) (o : OpenCall) → is_settled (with_buffer f o) ≡ is_settled o
buffer_settled f o = grind arith

pub held_on : (h : ℕ) (receipt : Receipt) (o : OpenCall) → is_on h (held_call receipt o) ≡ is_on h o
held_on h receipt o = grind arith

pub buffer_on : (h : ℕ) (f : List ℕ → List ℕ) (o : OpenCall) → is_on h (with_buffer f o) ≡ is_on h o
buffer_on h f o = grind arith

pub filled_answer : (past : Trace) (b : OpenCall) → is_for_answer (filled past b) ≡ is_for_answer b
filled_answer past b = buffer_answer _ b

pub filled_settled : (past : Trace) (b : OpenCall) → is_settled (filled past b) ≡ is_settled b
filled_settled past b = buffer_settled _ b

-- an unblock pulse was made for message i
abbrev pub is_unblocked : List Member → Trace → ℕ → Bool
is_unblocked roster past i = unblocked_among (items_by_now past (items roster past)) i

-- an open call in its current state, with its reply buffer after all Writes and its receipt
abbrev pub kept : List Member → Trace → OpenCall → OpenCall
kept roster past b = with_receipt (priority_of_item roster past (number_of b)) (is_unblocked roster past (number_of b))
    (copied_count_of past (number_of b)) (filled past b)

pub kept_number : (roster : List Member) (past : Trace) (b : OpenCall) → number_of (kept roster past b) ≡ number_of b
kept_number roster past b = receipt_number _ _ _ (filled past b) ∙ buffer_number _ b

pub kept_thread : (roster : List Member) (past : Trace) (b : OpenCall) → thread_of (kept roster past b) ≡ thread_of b
kept_thread roster past b = grind arith

-- ---- the open call, by the newest blocking call

-- the current state of a call that has no receipt when it begins
now_kept : (roster : List Member) (past : Trace) (b : OpenCall) → is_settled b ≡ not (is_for_answer b)
    → call_by_now past (items_by_now past (items roster past)) b ≡ kept roster past b
now_kept roster past b fresh = grind arith

-- items with their current priorities are on the channels for which they were made
channel_by_now : (past : Trace) (made : List SentItem) (n : ℕ)
    → channel_of (item_among (items_by_now past made) n) ≡ channel_of (item_among made n)
channel_by_now past made n = ap channel_of (among_now past made n)
    ∙ (elim (item_among made n)
    as (λ o. channel_of (option_map (λ (m : SentItem). record { item = now past m.item; channel = m.channel }) o)
    ≡ channel_of o) [ None ↦ refl | Some m ↦ refl ])

-- the search in the history finds the newest blocking call, given the channels of the items
newest_is : (roster : List Member) (made : List SentItem) (past : Trace) (u : ℕ)
    → ((n : ℕ) → n ≤ length past → channel_of (item_among made n) ≡ channel_of (item_among (items roster past) n))
    → newest_block made past u ≡ block roster past u
newest_is roster made [] u same = refl
newest_is roster made (e ∷ past) u same =
    grind (arith, found_there roster e past, found_earlier roster e past, newest_is roster made past u)

pub open_is : (roster : List Member) (past : Trace) (u : ℕ)
    → open_call roster past u ≡ option_map (kept roster past) (unless_ended past (block roster past u))
open_is roster past u =
    grind (
      arith,
      newest_is roster (items_by_now past (items roster past)) past u,
      channel_by_now past (items roster past),
      now_kept roster past,
      block_fresh roster past u,
    )

abbrev newest_of : List Member → Trace → ℕ → Option OpenCall
newest_of roster past u = block roster past u

-- an open call is the newest blocking call of its thread, and hasn't completed
pub record IsOpen (roster : List Member) (past : Trace) (u : ℕ) (o : OpenCall) : Type 0 where
  pub block : OpenCall
  pub is : newest_of roster past u ≡ Some block
  pub going : is_ended past (number_of block) ≡ false
  pub same : o ≡ kept roster past block
  pub number : number_of o ≡ number_of block

pub open_parts : (roster : List Member) (past : Trace) (u : ℕ) (o : OpenCall) → open_call roster past u ≡ Some o
    → IsOpen roster past u o
open_parts roster past u o is = grind (arith, kept_number, open_is)

pub open_below : (roster : List Member) (past : Trace) (u : ℕ) (o : OpenCall) → open_call roster past u ≡ Some o
    → number_of o ≤ length past
open_below roster past u o is = let k = open_parts roster past u o is in
    let below : number_of k.block ≤ length past =
    block_below roster past u k.block k.is in omega (arith, k.number)

-- a newest blocking call that hasn't completed is open
pub open_from : (roster : List Member) (past : Trace) (u : ℕ) (b : OpenCall) → block roster past u ≡ Some b
    → is_ended past (number_of b) ≡ false → open_call roster past u ≡ Some (kept roster past b)
open_from roster past u b is going = open_is roster past u ∙ rw (is, going) refl

-- the open calls of two threads have different numbers
pub open_thread : (roster : List Member) (past : Trace) (u v : ℕ) (o p : OpenCall) → open_call roster past u ≡ Some o
    → open_call roster past v ≡ Some p → number_of o ≡ number_of p → u ≡ v
open_thread roster past u v o p x y same =
    let k = open_parts roster past u o x in
    let j = open_parts roster past v p y in
    block_thread roster past u v k.block j.block k.is j.is (sym k.number ∙ same ∙ j.number)

-- each open call belongs to its thread
pub open_own : (roster : List Member) (past : Trace) (u : ℕ) (o : OpenCall) → open_call roster past u ≡ Some o
    → thread_of o ≡ u
open_own roster past u o is =
    let k = open_parts roster past u o is in
    let a = block_asked roster past u k.block k.is in
    ap thread_of k.same ∙ kept_thread roster past k.block
    ∙ ((call_laws a.call).asks_one (number_of k.block) u a.channel k.block a.asks_it).thread

-- ---- receipts

-- a Send has a receipt exactly if its message has been received
abbrev TellsReceipt : Trace → OpenCall → Type 0
TellsReceipt past (Send s) = is_received past s.number ≡ is_some s.receipt
TellsReceipt past (Receive r) = Unit {0}

by_now : (past : Trace) (made : List SentItem) (o : Option OpenCall) (x : OpenCall)
    → option_map (call_by_now past made) o ≡ Some x → TellsReceipt past x
by_now past made o x e = grind arith

pub open_receipt : (roster : List Member) (past : Trace) (u : ℕ) (s : OpenSend)
    → open_call roster past u ≡ Some (Send s) → is_received past s.number ≡ is_some s.receipt
open_receipt roster past u s is = by_now past _ _ (Send s) is
