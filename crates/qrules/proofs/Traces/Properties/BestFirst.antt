-- A receipt takes the item of greatest priority, and among equals the item that was made first.
use Rattle.qrules.proofs.Common.{arith, ◌≡◌, ◌∙◌, ℕ, List, [], ◌∷◌, ◌++◌, refl, ap, sym, true, false, inl, inr}
use Rattle.qrules.proofs.Common.{request_of, takeable, BestFirst, TakesBest, number_of, AllByRecursion, best_of}
use Rattle.qrules.proofs.Common.{may_take, Item, Kind, IsRoster, Member, Outcome, ReceiveRequest, effect_of, call_at}
use Rattle.qrules.proofs.Common.{Event, Trace, Call, Completion, eqb_same, Option, Some}
use Rattle.std.specs.Option.{option_and_then, option_map}
use Rattle.std.proofs.lemmas.List.{append-nil}
use Rattle.qrules.proofs.Basics.{facts_of, IsLawful, pending_items, made_on, block_asked, block_below, call_earlier}
use Rattle.qrules.proofs.Basics.{call_newest, open_parts}
use Rattle.qrules.proofs.Traces.Properties.Events.{each_received, made_now, none_made}
use Rattle.qrules.proofs.Traces.Properties.Receipts.{TakesMade, TakesPending, waits_for}
use Rattle.qrules.proofs.Traces.Properties.Sends.{open_keeps}
use Rattle.qrules.proofs.Traces.Properties.Waiting.{buffer_waits_for, held_waits_for, nothing_for, place_of}
use Rattle.qrules.proofs.Traces.Properties.Waiting.{waits_for_asked}

-- ---- the items that a call asks for

request_from : (past : Trace) (i : ℕ) (c : Call) (request : ReceiveRequest) → call_at past i ≡ Some c
    → (effect_of c).receives ≡ Some request → request_of past i ≡ Some request
request_from past i c request is receives = ap (option_and_then (λ c. (effect_of c).receives)) is ∙ receives

-- the request that asks for this kind of items of this channel
record Asks (receives : Option ReceiveRequest) (place : ℕ × Kind) : Type 0 where
  request : ReceiveRequest
  is : receives ≡ Some request
  at : place_of request ≡ place

asks_at : (receives : Option ReceiveRequest) (place : ℕ × Kind) → option_map place_of receives ≡ Some place
    → Asks receives place
asks_at receives place e = grind arith

-- ---- the caller takes the best of the queued items

takes_pending : (roster : List Member) (past : Trace) (e : Event) (u : ℕ) (y : Completion) (i : ℕ)
    → TakesPending (facts_of roster past) e.thread e.call u y i → TakesBest roster past e y i
takes_pending roster past e u y i k =
    let h : ℕ = k.request.channel in
    let all : takeable roster past e h ≡ pending_items roster past h =
    ap (λ o. pending_items roster past h ++ made_on h o) (none_made roster e past k.makes_none)
    ∙ append-nil (pending_items roster past h) in
    record {
      request = k.request;
      call =
          request_from (e ∷ past) y.call e.call k.request
          (ap (call_at (e ∷ past)) k.call ∙ call_newest e past) k.receives;
      best = ap (λ items. option_map (λ (item : Item). item.number) (best_of k.request.kind items)) all
          ∙ ap (option_map (λ (item : Item). item.number)) k.best ∙ ap (λ n. Some n) k.number;
    }

-- ---- a blocked thread takes the item that is made, because it may take no queued item

-- after items that may not be taken, an item that may be taken is the best
best_behind : (kind : Kind) (items : List Item) (x : Item) → AllByRecursion (λ w. may_take kind w ≡ false) items
    → may_take kind x ≡ true → best_of kind (items ++ x ∷ []) ≡ Some x
best_behind kind [] x none may = rw may refl
best_behind kind (y ∷ items) x none may = rw (none.0) (best_behind kind items x none.1 may)

takes_made : (roster : List Member) (past : Trace) (e : Event) (u : ℕ) (y : Completion) (i : ℕ) → IsRoster roster
    → IsLawful roster past → Outcome true (facts_of roster past) e.thread e.call e.completions
    → TakesMade (facts_of roster past) e.thread e.call u y i → TakesBest roster past e y i
takes_made roster past e u y i r l a k =
    let b = open_parts roster past u k.waiting k.is_open in
    let c = block_asked roster past u b.block b.is in
    let all : takeable roster past e k.made.channel ≡ pending_items roster past k.made.channel ++ k.made.item ∷ [] =
    ap (λ o. pending_items roster past k.made.channel ++ made_on k.made.channel o)
    (made_now roster e past k.made a k.is_made)
    ∙ rw (eqb_same k.made.channel) refl in
    let best : best_of k.kind (pending_items roster past k.made.channel ++ k.made.item ∷ []) ≡ Some k.made.item =
    best_behind k.kind (pending_items roster past k.made.channel) k.made.item
    (nothing_for roster past r l u k.waiting k.made.channel k.kind k.is_open k.waits) k.may in
    let asks =
    asks_at (effect_of c.call).receives (
      k.made.channel,
      k.kind,
    ) (waits_for_asked (number_of b.block) u c.channel c.call b.block c.asks_it
    ∙ sym (open_keeps waits_for roster past u k.waiting b held_waits_for buffer_waits_for) ∙ k.waits) in
    grind (arith, block_below, call_earlier, request_from)

pub best_first : (roster : List Member) (past : Trace) → IsRoster roster → IsLawful roster past → BestFirst roster past
best_first roster [] r l = tt
best_first roster (e ∷ past) r l = (
  best_first roster past r l.0,
  each_received (λ x i. TakesBest roster past e x i) roster past e.thread e.call e.completions l.1.1 (λ u y i a k.
      elim k as (λ _. TakesBest roster past e y i) [
        | inl k ↦ takes_pending roster past e u y i k
        | inr k ↦ takes_made roster past e u y i r l.0 a k
      ]),
)
