-- The messages and buffers of open calls are as their calls passed them, and the Send of a queued message is
-- open.
use Rattle.qrules.proofs.Common.{arith, ◌≡◌, ◌∙◌, ℕ, ◌+◌, List, [], ◌∷◌, length, refl, ap, sym, subst, cond, eqb, true}
use Rattle.qrules.proofs.Common.{false, Option, message_in, message_of, held_call, with_buffer, buffer_at, message_at}
use Rattle.qrules.proofs.Common.{buffer_of, none-some, is_pulse, Item, Member, effect_of, SentItem, Event, Trace, Call}
use Rattle.qrules.proofs.Common.{OpenCall, Receipt, eqb_same, channel_of, buffer_in, None, Some, is_some, not, ◌&&◌}
use Rattle.std.specs.Option.{option_and_then, option_map_or}
use Rattle.std.proofs.lemmas.Bool.{eqb-true, or_parts, and_parts}
use Rattle.qrules.proofs.Basics.{message_same, is_for_answer, message, sender, threads_of, is_send, Facts, number_of}
use Rattle.qrules.proofs.Basics.{facts_of, IsLawful, completes, is_ended, item_of, open_call, with_writes}
use Rattle.qrules.proofs.Basics.{block, filled, asks, makes, open_known, passes_of, item_accepted, IsPending, item_at}
use Rattle.qrules.proofs.Basics.{blocks, blocks_thread, block_asked, call_laws, send_from, send_parts, sender_found}
use Rattle.qrules.proofs.Basics.{known, open_from, filled_answer, open_parts, open_thread, receipt_for_answer, kept}
use Rattle.qrules.proofs.Basics.{kept_number}
use Rattle.qmodel.specs.declared.call.Call.TheVariants.{Send}
use Rattle.qmodel.specs.declared.open_call.OpenCall.TheVariants.{Send as InSend}
use Rattle.qrules.proofs.Traces.Properties.Events.{outcome_of}
use Rattle.qrules.proofs.Traces.Properties.Sends.{open_filled, open_keeps}

-- ---- an open call has what its call passed

-- the bytes of the message that a call sends
abbrev pub message_sent : Call → List ℕ
message_sent c = option_map_or (λ s. s.message) (effect_of c).sends []

-- the buffer of call i, if it is this call
abbrev pub buffer_by : Trace → ℕ → Call → List ℕ
buffer_by past i c = cond (is_some (effect_of c).sends) (with_writes past i (buffer_of c)) (buffer_of c)

-- an open call has the buffer of its call, with Writes copied over it, and the message of its call
pub record Keeps (past : Trace) (n : ℕ) (c : Call) (b : OpenCall) : Type 0 where
  pub buffer : buffer_by past n c ≡ buffer_in (with_buffer (with_writes past n) b)
  pub sent : message_sent c ≡ message_of b

pub keeps : (past : Trace) (n t h : ℕ) (c : Call) (b : OpenCall) → asks n t h c ≡ Some b → Keeps past n c b
keeps past n t h c b e = grind arith

held_buffer_of : (receipt : Receipt) (w : OpenCall) → buffer_in (held_call receipt w) ≡ buffer_in w
held_buffer_of receipt w = grind arith

held_message : (receipt : Receipt) (w : OpenCall) → message_of (held_call receipt w) ≡ message_of w
held_message receipt w = grind arith

buffer_message : (f : List ℕ → List ℕ) (w : OpenCall) → message_of (with_buffer f w) ≡ message_of w
buffer_message f w = grind arith

-- the buffer of an open call is the buffer that the call of its number passed, after all Writes
pub open_buffer : (roster : List Member) (past : Trace) (u : ℕ) (o : OpenCall) → open_call roster past u ≡ Some o
    → buffer_at past (number_of o) ≡ buffer_in o
open_buffer roster past u o is =
    let k = open_parts roster past u o is in
    let a = block_asked roster past u k.block k.is in
    ap (buffer_at past) k.number ∙ ap (λ c. option_map_or (buffer_by past (number_of k.block)) c []) a.is
    ∙ (keeps past (number_of k.block) u a.channel a.call k.block a.asks_it).buffer
    ∙ ap (λ n. buffer_in (with_buffer (with_writes past n) k.block)) refl
    ∙ sym (open_filled buffer_in roster past u o k held_buffer_of)

-- the message of an open call is the message of the call of its number
pub open_message : (roster : List Member) (past : Trace) (u : ℕ) (o : OpenCall) → open_call roster past u ≡ Some o
    → message_at past (number_of o) ≡ message_of o
open_message roster past u o is =
    let k = open_parts roster past u o is in
    let a = block_asked roster past u k.block k.is in
    ap (message_at past) k.number ∙ ap (λ c. option_map_or message_sent c []) a.is
    ∙ (keeps past (number_of k.block) u a.channel a.call k.block a.asks_it).sent
    ∙ sym (open_keeps message_of roster past u o k held_message buffer_message)

-- ---- the Send of a queued message is open

-- the call that makes a message is a Send, which waits for the reply
pub record IsMessage (n t : ℕ) (c : Call) (m : SentItem) : Type 0 where
  pub begins : OpenCall
  pub asked : asks n t m.channel c ≡ Some begins
  pub answer : is_for_answer begins ≡ true

pub makes_message : (f : Facts) (t : ℕ) (c : Call) (m : SentItem) → makes f t c ≡ Some m → is_pulse m.item.what ≡ false
    → IsMessage f.number t c m
makes_message f t (Send coid sent reply_buffer) m e message = record {
  begins =
      InSend
      (record {
        number = f.number;
        thread = t;
        connection = coid;
        channel = m.channel;
        message = sent;
        reply_buffer = reply_buffer;
        receipt = None;
      });
  asked = refl;
  answer = refl;
}
makes_message f t c m e message = grind arith

abbrev newest_of : List Member → Trace → ℕ → Option OpenCall
newest_of roster past u = block roster past u

-- call i is the newest blocking call of a thread, and waits for a reply
pub record IsWaiting (roster : List Member) (past : Trace) (i : ℕ) : Type 0 where
  pub thread : ℕ
  pub block : OpenCall
  pub is : newest_of roster past thread ≡ Some block
  pub number : (number_of block) ≡ i
  pub answer : is_for_answer block ≡ true

-- a newest blocking call stays the newest until it completes
pub block_stays : (roster : List Member) (e : Event) (past : Trace) (u : ℕ) (b : OpenCall) → IsLawful roster (e ∷ past)
    → block roster past u ≡ Some b → is_ended past (number_of b) ≡ false → block roster (e ∷ past) u ≡ Some b
block_stays roster e past u b l is going =
    elim (blocks roster e past u)
    as (λ t. blocks roster e past u ≡ t → cond t (asks (length past + 1) u (channel_of (item_of roster e past)) e.call)
    (block roster past u) ≡ Some b) [
      | true ↦ λ h.
          let a = outcome_of roster e past l.1.1 (and_parts _ _ (and_parts _ _ h).0).1 in
          let idle : open_call roster past e.thread ≡ None =
          (passes_of (facts_of roster past) e.thread e.call e.completions a).idle in
          absurd
          (none-some _ (sym idle ∙ ap (open_call roster past) (blocks_thread roster e past u h)
          ∙ open_from roster past u b is going))
      | false ↦ λ h. is
    ] refl

pub item_waits : (roster : List Member) (past : Trace) (i : ℕ) (m : SentItem) → IsLawful roster past
    → item_at roster past i ≡ Some m → is_pulse m.item.what ≡ false → is_ended past i ≡ false → IsWaiting roster past i
item_waits roster [] i m l is message going = absurd (none-some m is)
item_waits roster (e ∷ past) i m l is message going =
    elim (eqb i (length past + 1))
    as (λ b. eqb i (length past + 1) ≡ b → cond b (item_of roster e past) (item_at roster past i) ≡ Some m
    → IsWaiting roster (e ∷ past) i) [
      | true ↦ λ same at.
          let k = item_accepted roster e past m at in
          let w = makes_message (facts_of roster past) e.thread e.call m k.1 message in
          record {
            thread = e.thread;
            block = w.begins;
            is = rw (eqb_same e.thread, at, k.0, w.asked) refl;
            number = ((call_laws e.call).asks_one (length past + 1) e.thread m.channel w.begins w.asked).number
                ∙ sym (eqb-true _ _ same);
            answer = w.answer;
          }
      | false ↦ λ other at.
          let before : is_ended past i ≡ false =
          (or_parts (completes e.completions i) (is_ended past i) going).1 in
          let k = item_waits roster past i m l.0 at message before in
          record {
            thread = k.thread;
            block = k.block;
            is = block_stays roster e past k.thread k.block l k.is
                (subst (λ j. is_ended past j ≡ false) (sym k.number) before);
            number = k.number;
            answer = k.answer;
          }
    ] refl is

-- the Send of a queued message hasn't completed
pub pending_going : (roster : List Member) (past : Trace) (h : ℕ) (item : Item) → IsPending roster past h item
    → is_pulse item.what ≡ false → is_ended past item.number ≡ false
pending_going roster past h item p message =
    subst (λ b. (not b && is_ended past item.number) ≡ false) message (or_parts _ _ p.stays).1

-- the message of a queued item is the message of the call of its number
pub pending_message : (roster : List Member) (past : Trace) (h : ℕ) (item : Item) → IsLawful roster past
    → IsPending roster past h item → is_pulse item.what ≡ false
    → message (facts_of roster past) item.number ≡ message_at past item.number
pending_message roster past h item l p sent =
    let going : is_ended past item.number ≡ false = pending_going roster past h item p sent in
    let w = item_waits roster past item.number (record { item = p.first; channel = h }) l p.made
    (ap is_pulse p.what ∙ sent) going in
    let o = kept roster past w.block in
    let is : open_call roster past w.thread ≡ Some o =
    open_from roster past w.thread w.block w.is (subst (λ j. is_ended past j ≡ false) (sym w.number) going) in
    let number : number_of o ≡ item.number = kept_number roster past w.block ∙ w.number in
    let answer : is_for_answer o ≡ true = receipt_for_answer _ _ _ (filled past w.block) ∙ filled_answer past w.block
    ∙ w.answer in
    let sends : is_send item.number (open_call roster past w.thread) ≡ true = ap (is_send item.number) is
    ∙ send_from item.number o number answer in
    let found : sender (facts_of roster past) item.number ≡ Some w.thread =
    sender_found (open_call roster past) item.number (threads_of roster) w.thread
    (known roster w.thread (open_known roster past w.thread o l is)) sends (λ v e.
    let s = send_parts item.number (open_call roster past v) e in
    open_thread roster past v w.thread s.waiting o s.is is (s.number ∙ sym number)) in
    message_same (facts_of roster past) item.number
    ∙ ap (λ s. message_in (option_and_then (open_call roster past) s)) found ∙ ap message_in is
    ∙ sym (open_message roster past w.thread o is) ∙ ap (message_at past) number
