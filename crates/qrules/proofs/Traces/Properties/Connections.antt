-- The items that could be taken from a channel were made for that channel, and so were sent over its
-- connections.
use Rattle.qrules.proofs.Common.{arith, ◌≡◌, ◌∙◌, ℕ, ◌+◌, List, [], ◌∷◌, length, ap, sym, subst, cond, eqb, true, false}
use Rattle.qrules.proofs.Common.{connection_of, takeable, AllByRecursion, none-some, same_Some, Item, Connection}
use Rattle.qrules.proofs.Common.{Member, event_at, effect_of, SentItem, Event, Trace, Call, all_append, all_more}
use Rattle.qrules.proofs.Common.{Option, Some, is_some}
use Rattle.std.specs.Option.{option_and_then, option_map, option_or}
use Rattle.qrules.proofs.Basics.{makes, item_of, pending_items, priority_before, attached_connection, made_on}
use Rattle.qrules.proofs.Basics.{message_numbered, pulse_item, item_sent_over, before_earlier, before_newest}
use Rattle.qrules.proofs.Basics.{item_accepted, IsPending, item_at, item_below, item_earlier, item_newest}
use Rattle.qrules.proofs.Basics.{item_priority, made_by, pending_all, pending_each, Facts, facts_of}
use Rattle.qmodel.specs.declared.call.Call.TheVariants.{Send, Pulse}
use Rattle.qrules.proofs.Traces.Past.Pending.{made_all}
use Rattle.qrules.proofs.Traces.Properties.Sends.{made_stays}
use Rattle.qrules.proofs.Traces.Past.Connections.{live_attached}

-- ---- each such item was made for the channel

-- an item of its number was made for the channel
abbrev pub IsMadeFor : List Member → Trace → ℕ → Item → Type 0
IsMadeFor roster past h w = (first : Item)
    × (item_at roster past w.number ≡ Some (record { item = first; channel = h }))

pub takeable_made : (roster : List Member) (past : Trace) (e : Event) (h : ℕ)
    → AllByRecursion (IsMadeFor roster (e ∷ past) h) (takeable roster past e h)
takeable_made roster past e h =
    let P = IsMadeFor roster (e ∷ past) h in
    all_append P (pending_items roster past h) (made_on h (item_of roster e past))
    (all_more (IsPending roster past h) P (pending_items roster past h) (pending_all roster past h)
    (λ w at. (at.first, item_earlier roster e past w.number (item_below roster past w.number _ at.made) ∙ at.made)))
    (made_all P h (item_of roster e past) (λ m is on. (
      m.item,
      subst (λ i. item_at roster (e ∷ past) i ≡ Some (record { item = m.item; channel = h }))
          (sym (made_by roster e past m is).number)
          (item_newest roster e past ∙ is ∙ ap (λ k. Some (record { item = m.item; channel = k })) on),
    )))

-- each such item has the priority that its number had before the event
pub takeable_priorities : (roster : List Member) (past : Trace) (e : Event) (h : ℕ)
    → AllByRecursion (λ w. priority_before roster past e w.number ≡ w.priority) (takeable roster past e h)
takeable_priorities roster past e h =
    let P = λ (w : Item). priority_before roster past e w.number ≡ w.priority in
    all_append P (pending_items roster past h) (made_on h (item_of roster e past))
    (pending_each P roster past h
    (λ item at stays. before_earlier roster e past item.number (item_below roster past item.number _ at)
    ∙ item_priority roster past item.number _ at))
    (made_all P h (item_of roster e past) (λ m is on. before_newest roster e past m is))

-- ---- an item that was sent over a connection is on the connection's channel

-- the connection, which leads to the item's channel
pub record IsOver (connection : ℕ → Option Connection) (k : ℕ) (m : SentItem) : Type 0 where
  pub over : Connection
  pub is : connection k ≡ Some over
  pub channel : m.channel ≡ over.channel

-- the connection over which a call sends
abbrev sends_over : Call → Option ℕ
sends_over c = option_or (option_map (λ s. s.connection) (effect_of c).sends) (effect_of c).pulses_over

sent_is_over : (connection : ℕ → Option Connection) (k : ℕ) (item : Item) (m : SentItem)
    → item_sent_over (connection k) item ≡ Some m → IsOver connection k m
sent_is_over connection k item m e = grind arith

makes_over : (f : Facts) (t : ℕ) (c : Call) (m : SentItem) (k : ℕ) → makes f t c ≡ Some m → sends_over c ≡ Some k
    → IsOver f.connection k m
makes_over f t (Pulse coid level code value) m k e s =
    subst (λ i. IsOver f.connection i m) (same_Some coid k s)
    (sent_is_over f.connection coid (pulse_item f.number level code value) m e)
makes_over f t (Send coid message reply_buffer) m k e s =
    subst (λ i. IsOver f.connection i m) (same_Some coid k s)
    (sent_is_over f.connection coid (message_numbered f.number (f.priority t)) m e)
makes_over f t c m k e s = absurd (none-some k s)

pub item_over : (roster : List Member) (past : Trace) (i k : ℕ) (m : SentItem) → item_at roster past i ≡ Some m
    → connection_of past i ≡ Some k → IsOver (attached_connection roster past) k m
item_over roster [] i k m is over = absurd (none-some m is)
item_over roster (e ∷ past) i k m is over =
    elim (eqb i (length past + 1)) as (λ b. cond b (item_of roster e past) (item_at roster past i) ≡ Some m
    → option_and_then sends_over (option_map (λ (x : Event). x.call) (cond b (Some e) (event_at past i))) ≡ Some k
    → IsOver (attached_connection roster (e ∷ past)) k m) [
      | true ↦ λ at by.
          let w = makes_over (facts_of roster past) e.thread e.call m k (item_accepted roster e past m at).1 by in
          record {
            over = w.over;
            is = made_stays _ e past k w.over (sym (live_attached roster past k (ap is_some w.is)) ∙ w.is);
            channel = w.channel;
          }
      | false ↦ λ at by.
          let w = item_over roster past i k m at by in
          record { over = w.over; is = made_stays _ e past k w.over w.is; channel = w.channel }
    ] is over
