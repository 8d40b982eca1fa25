-- The change of queued items by an accepted PrioritySet.
use Rattle.qrules_laws.proofs.Common.{IsLawful, IsPending, Item, List, Member, PriorityChange, Some, Trace, []}
use Rattle.qrules_laws.proofs.Common.{all_more, ap, append-nil, arith, cond, facts_of, false, filter, is_message_of}
use Rattle.qrules_laws.proofs.Common.{is_pulse, is_unread_send, items_with_priority_set, map, map_same, mover, names}
use Rattle.qrules_laws.proofs.Common.{none-some, none_cancelled, not, open_call, outcome_of, past_follows}
use Rattle.qrules_laws.proofs.Common.{pending_after, pending_all, pending_items, pulse_unread, refl, sender_of, sent_by}
use Rattle.qrules_laws.proofs.Common.{true, unread_elsewhere, with_priority, ℕ, ◌&&◌, ◌++◌, ◌∙◌, ◌∷◌, ◌≡◌}
use Rattle.std.proofs.lemmas.Bool.Decides.{nat_tests}
use Rattle.qrules_laws.specs.Pending as laws
use Rattle.qmodel.specs.declared.call.Call.TheVariants.{PrioritySet}

-- a queued item is the message of thread v's open Send exactly if it is a message of thread v
unread_of : (roster : List Member) (past : Trace) (h : ℕ) (item : Item) (v : ℕ) → IsLawful roster past
    → IsPending roster past h item
    → is_unread_send h item.number (open_call roster past v) ≡ is_message_of past v item
unread_of roster past h item v l p =
    elim (is_pulse item.what)
    as (λ b. is_pulse item.what ≡ b
    → is_unread_send h item.number (open_call roster past v) ≡ (not b && names (sender_of past item.number) v)) [
      | true ↦ λ pulse. pulse_unread roster past h item v p pulse
      | false ↦ λ message.
          let s = sent_by roster past h item l p message in
          grind (
            arith,
            nat_tests,
            message,
            s.sent,
            s.is_open,
            s.number,
            s.unread,
            s.on,
            unread_elsewhere roster past h item.number s.sender s.waiting v s.is_open s.number,
          )
    ] refl

pub setting_moves_its_own : laws.SettingMovesItsOwn
setting_moves_its_own roster past e r l accepted t priority is h =
    let f = facts_of roster past in
    let s : PriorityChange = record { thread = t; priority = priority } in
    (past_follows true roster past e.thread e.call e.completions r l.0 l.1.0
    (outcome_of roster e past l.1.1 accepted)).pending h
    ∙ ap (λ c. pending_after f e.thread c h) is
    ∙ ap (items_with_priority_set f h (Some s))
    (none_cancelled f e.thread (PrioritySet t priority) (λ v y e. absurd (none-some y e)) h
    (pending_items roster past h ++ []) ∙ append-nil (pending_items roster past h))
    ∙ map_same (mover f h s) _ (pending_items roster past h)
    (all_more (IsPending roster past h) _ (pending_items roster past h) (pending_all roster past h)
    (λ item p. ap (λ b. cond b (with_priority priority item) item) (unread_of roster past h item t l.0 p)))

-- setting the priority of a thread's messages changes no other item
others_same : (past : Trace) (t priority : ℕ) (items : List Item)
    → filter (λ item. not (is_message_of past t item))
    (map (λ item. cond (is_message_of past t item) (with_priority priority item) item) items)
    ≡ filter (λ item. not (is_message_of past t item)) items
others_same past t priority [] = refl
others_same past t priority (x ∷ items) = grind (arith, others_same past t priority items)

pub others_keep_their_order : laws.OthersKeepTheirOrder
others_keep_their_order roster past e r l accepted t priority is h =
    ap (filter (λ item. not (is_message_of past t item)))
    (setting_moves_its_own roster past e r l accepted t priority is h)
    ∙ others_same past t priority (pending_items roster past h)
