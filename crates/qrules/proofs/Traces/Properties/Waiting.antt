-- While a thread waits for an item of a channel, no item that it may take is queued there.
use Rattle.qrules.proofs.Common.{arith, ◌≡◌, ◌∙◌, ℕ, List, [], ◌∷◌, ◌++◌, refl, ap, sym, subst, cond, eqb, Bool, true}
use Rattle.qrules.proofs.Common.{false, inl, inr, option_map, none-some, none-may, all_append, all_filter, all_more}
use Rattle.qrules.proofs.Common.{is_among, none_of, some_of, AllByRecursion, eqb-true, eqb-false, best_of, may_take}
use Rattle.qrules.proofs.Common.{Item, Kind, IsRoster, Member, row_of, effect_of, held_call, with_buffer}
use Rattle.qrules.proofs.Common.{unblocked_call, ReceiveRequest, newest_receiver, SentItem, Trace, Call, OpenCall}
use Rattle.qrules.proofs.Common.{Receipt, channel_of, Option, None, Some, is_some, not, filter}
use Rattle.qrules.proofs.Basics.{receipt_of, message_item, receiver, receipt_when_sent, Received, item_sent_over}
use Rattle.qrules.proofs.Basics.{pulse_receipt, Facts, sender, threads_of, route, asks, makes, unblocks, writes}
use Rattle.qrules.proofs.Basics.{facts_of, IsLawful, made_on, after_receipt, after_write, is_cancelled}
use Rattle.qrules.proofs.Basics.{uncancelled_items, open_call_after, pending_after, unreceived_items, unless}
use Rattle.qrules.proofs.Basics.{after_unblock, open_known, passes_of, Passes, has_way, known}
use Rattle.qmodel.specs.declared.call.Call.TheVariants.{Send, Pulse, Unblock, ConnectDetach}
use Rattle.qmodel.specs.declared.open_call.OpenCall.TheVariants.{Receive as InReceive}
use Rattle.qrules.proofs.Traces.Past.Follows.{past_follows}
use Rattle.qrules.proofs.Traces.Past.Moves.{all_moved}
use Rattle.qrules.proofs.Traces.Properties.Receipts.{waits_for}
use Rattle.qrules.proofs.Traces.Past.Before.{Lasts, before_other, before_receipt, unless_is}
use Rattle.qrules.proofs.Traces.Properties.Receivers.{WaitsOn, newest_some, newest_waits}
use Rattle.qmodel.specs.declared.open_call.OpenReceive.{OpenReceive}

-- ---- the items that a thread waits for

waits_for_is : (o : OpenCall) (h : ℕ) (kind : Kind) → waits_for o ≡ Some (h, kind) → (r : OpenReceive)
    × (o ≡ InReceive r) × (r.channel ≡ h) × (r.kind ≡ kind)
waits_for_is o h kind e = grind arith

-- a receipt doesn't change them
pub held_waits_for : (receipt : Receipt) (w : OpenCall) → waits_for (held_call receipt w) ≡ waits_for w
held_waits_for receipt w = grind arith

pub buffer_waits_for : (f : List ℕ → List ℕ) (w : OpenCall) → waits_for (with_buffer f w) ≡ waits_for w
buffer_waits_for f w = grind arith

-- the channel and the kind of items of a request
abbrev pub place_of : ReceiveRequest → ℕ × Kind
place_of r = (r.channel, r.kind)

-- an open call waits for the items that its call asked for
pub waits_for_asked : (n t h : ℕ) (c : Call) (b : OpenCall) → asks n t h c ≡ Some b
    → option_map place_of (effect_of c).receives ≡ waits_for b
waits_for_asked n t h c b e = grind arith

-- ---- by each call's row

-- a call that blocks its thread in a receive finds no item, and makes none
abbrev BeginsWithNone : Facts → ℕ → Call → ℕ × Kind → Type 0
BeginsWithNone f t c p = (best_of p.1 (f.pending p.0) ≡ None) × (makes f t c ≡ None)

begins_with_none : (f : Facts) (t h : ℕ) (c : Call) (b : OpenCall) (p : ℕ × Kind) → asks f.number t h c ≡ Some b
    → waits_for b ≡ Some p → (row_of f t c).own ≡ None → BeginsWithNone f t c p
begins_with_none f t h c b p e w own = grind arith

-- an item that a thread waits for is received at once
pub record IsReceivedAtOnce (f : Facts) (t : ℕ) (c : Call) (m : SentItem) : Type 0 where
  pub receipt : Received
  pub is : (receipt_of f t c) ≡ Some receipt
  pub channel : receipt.channel ≡ m.channel
  pub item : receipt.item ≡ m.item.number

delivered_at_once : (f : Facts) (t : ℕ) (c : Call) (w : Option ℕ) (item : Item) (message : List ℕ) (sender : Option ℕ)
    (m : SentItem) (u : ℕ) (o : OpenCall) (kind : Kind) → w ≡ Some m.channel → m.item ≡ item
    → (receipt_of f t c) ≡ receipt_when_sent f sender item message w (receiver f item w)
    → is_among (threads_of f.roster) u ≡ true → f.open_call u ≡ Some o
    → waits_for o ≡ Some (m.channel, kind) → may_take kind m.item ≡ true → IsReceivedAtOnce f t c m
delivered_at_once f t c w item message sender m u o kind is_way it receipt among is waits may =
    let b = waits_for_is o m.channel kind waits in
    let on : WaitsOn m.channel item (f.open_call u) =
    record {
      receive = b.0;
      is_open = is ∙ ap (λ x. Some x) b.1;
      on = b.2;
      may = ap (λ k. may_take k item) b.3
          ∙ ap (may_take kind) (sym it) ∙ may;
    } in
    let r = some_of (newest_receiver f m.channel item) (newest_some f m.channel item u among on) in
    let v = newest_waits f m.channel item r.0 r.1 in
    grind arith

-- the item that is sent over a route is this item, and goes to the route's channel
sent_is : (f : Facts) (t coid : ℕ) (item : Item) (m : SentItem) (h : ℕ) → route f t coid ≡ Some h
    → item_sent_over (f.connection coid) item ≡ Some m → (route f t coid ≡ Some m.channel) × (m.item ≡ item)
sent_is f t coid item m h is_way made = grind arith

received_at_once : (f : Facts) (t : ℕ) (c : Call) (m : SentItem) (u : ℕ) (o : OpenCall) (kind : Kind) → Passes f t c
    → makes f t c ≡ Some m
    → is_among (threads_of f.roster) u ≡ true → f.open_call u ≡ Some o → waits_for o ≡ Some (m.channel, kind)
    → may_take kind m.item ≡ true → IsReceivedAtOnce f t c m
received_at_once f t (ConnectDetach coid) m u o kind p made among is waits may =
    delivered_at_once f t (ConnectDetach coid) (Some m.channel) m.item [] None m u o kind refl refl
    (ap (pulse_receipt f) made) among is waits may
received_at_once f t (Unblock thread) m u o kind p made among is waits may =
    delivered_at_once f t (Unblock thread) (Some m.channel) m.item [] None m u o kind refl refl
    (ap (pulse_receipt f) (made)) among is waits may
received_at_once f t (Send coid message reply_buffer) m u o kind p made among is waits may =
    let h = has_way f t coid p.row in
    let s = sent_is f t coid (message_item f t) m h.0 h.1 made in
    delivered_at_once f t (Send coid message reply_buffer) (route f t coid) (message_item f t) message
    (Some t) m u o kind s.0 s.1 refl among is waits may
received_at_once f t (Pulse coid level code value) m u o kind p made among is waits may =
    delivered_at_once f t (Pulse coid level code value) (Some m.channel) m.item [] None m u o kind refl refl
    (ap (pulse_receipt f) made) among is waits may
received_at_once f t c m u o kind p made among is waits may = absurd (none-some m made)

-- ---- lists of items

all_kept_by : (P : Item → Type 0) (p : Item → Bool) (items : List Item) → AllByRecursion (λ w. p w ≡ true → P w) items
    → AllByRecursion P (filter p items)
all_kept_by P p [] all = tt
all_kept_by P p (x ∷ items) all = grind (arith, all_kept_by P p items)

-- a statement that holds for each item that isn't received holds for the items that are left
all_left : (P : Item → Type 0) (o : Option Received) (h : ℕ) (items : List Item)
    → AllByRecursion (λ w. ((r : Received) → o ≡ Some r → r.channel ≡ h → eqb w.number r.item ≡ false) → P w) items
    → AllByRecursion P (unreceived_items o h items)
all_left P o h items all = grind (arith, all_kept_by, all_more)

-- ---- after one more event

-- no item that a blocked thread may take is queued
abbrev pub NothingFor : Facts → Type 0
NothingFor f = (u : ℕ) (o : OpenCall) (h : ℕ) (kind : Kind) → f.open_call u ≡ Some o → waits_for o ≡ Some (h, kind)
    → AllByRecursion (λ w. may_take kind w ≡ false) (f.pending h)

-- a statement about the items that are left holds for the queued items after the call, too
all_after : (kind : Kind) (f : Facts) (t : ℕ) (c : Call) (h : ℕ)
    → AllByRecursion (λ w. may_take kind w ≡ false)
    (unreceived_items (receipt_of f t c) h (uncancelled_items f t c h (f.pending h ++ made_on h (makes f t c))))
    → AllByRecursion (λ w. may_take kind w ≡ false) (pending_after f t c h)
all_after kind f t c h all = grind (arith, all_moved)

-- the caller blocks: no item that it may take was queued, and none is made
caller_finds_none : (f : Facts) (t : ℕ) (c : Call) (o : OpenCall) (h : ℕ) (kind : Kind)
    → unless (is_some (row_of f t c).own)
    (after_receipt (receipt_of f t c) t (asks f.number t (channel_of (makes f t c)) c)) ≡ Some o
    → waits_for o ≡ Some (h, kind) → AllByRecursion (λ w. may_take kind w ≡ false) (pending_after f t c h)
caller_finds_none f t c o h kind is waits =
    let x =
    unless_is (is_some (row_of f t c).own)
    (after_receipt (receipt_of f t c) t (asks f.number t (channel_of (makes f t c)) c)) o is in
    let b =
    before_receipt waits_for held_waits_for (receipt_of f t c) t (asks f.number t (channel_of (makes f t c)) c) o x.1 in
    let k = begins_with_none f t (channel_of (makes f t c)) c b.call (h, kind) b.is (b.same ∙ waits)
    (none_of (row_of f t c).own x.0) in
    let P = λ (w : Item). may_take kind w ≡ false in
    let none : AllByRecursion (λ (w : Item). may_take kind w ≡ false) (f.pending h) = none-may kind (f.pending h) k.0 in
    grind (arith, all_after, all_append, all_filter, all_left, all_more)

-- another thread stays blocked: an item that it may take would be received at once
other_finds_none : (f : Facts) (t : ℕ) (c : Call) (u : ℕ) (o : OpenCall) (h : ℕ) (kind : Kind) → Passes f t c
    → NothingFor f → is_among (threads_of f.roster) u ≡ true → f.open_call u ≡ Some o
    → waits_for o ≡ Some (h, kind) → AllByRecursion (λ w. may_take kind w ≡ false) (pending_after f t c h)
other_finds_none f t c u o h kind p nothing among is waits =
    let P = λ (w : Item). may_take kind w ≡ false in
    let Q = λ (w : Item). ((r : Received) → (receipt_of f t c) ≡ Some r → r.channel ≡ h → eqb w.number r.item ≡ false)
    → may_take kind w ≡ false in
    let left = λ (w : Item). not (is_cancelled f t c h w.number) in
    all_after kind f t c h
    (all_left P (receipt_of f t c) h (uncancelled_items f t c h (f.pending h ++ made_on h (makes f t c)))
    (all_filter Q left (f.pending h ++ made_on h (makes f t c)) (all_append Q (f.pending h) (made_on h (makes f t c))
    (all_more P Q (f.pending h) (nothing u o h kind is waits) (λ w m _. m))
    (elim (makes f t c) as (λ x. makes f t c ≡ x → AllByRecursion Q (made_on h x)) [
      | None ↦ λ none. tt
      | Some m ↦ λ made.
          elim (eqb m.channel h) as (λ b. eqb m.channel h ≡ b → AllByRecursion Q (cond b (m.item ∷ []) [])) [
            | true ↦ λ on. (
              (λ left.
                  elim (may_take kind m.item) as (λ b. may_take kind m.item ≡ b → b ≡ false) [
                    | true ↦ λ may.
                        let there : m.channel ≡ h = eqb-true m.channel h on in
                        let r =
                        received_at_once f t c m u o kind p made among is
                        (waits ∙ ap (λ k. Some (k, kind)) (sym there)) may in
                        absurd (eqb-false m.item.number r.receipt.item (left r.receipt r.is (r.channel ∙ there))
                        (sym r.item))
                    | false ↦ λ may. refl
                  ] refl),
              tt,
            )
            | false ↦ λ off. tt
          ] refl
    ] refl))))

unblocked_waits_for : (w : OpenCall) → waits_for (unblocked_call w) ≡ waits_for w
unblocked_waits_for w = grind arith

-- the items that a thread waits for last
lasts_waits_for : Lasts waits_for
lasts_waits_for = record { held = held_waits_for; buffer = buffer_waits_for; unblocked = unblocked_waits_for }

nothing_after : (f : Facts) (t : ℕ) (c : Call) → Passes f t c → NothingFor f
    → ((u : ℕ) (o : OpenCall) → f.open_call u ≡ Some o → is_among (threads_of f.roster) u ≡ true)
    → (u : ℕ) (o : OpenCall) (h : ℕ) (kind : Kind) → open_call_after f t c u ≡ Some o → waits_for o ≡ Some (h, kind)
    → AllByRecursion (λ w. may_take kind w ≡ false) (pending_after f t c h)
nothing_after f t c p nothing among u o h kind is waits =
    elim (eqb u t) as (λ b. eqb u t ≡ b
    → cond b
    (unless (is_some (row_of f t c).own)
    (after_receipt (receipt_of f t c) u (asks f.number t (channel_of (makes f t c)) c)))
    (unless (is_some ((row_of f t c).others u))
    (after_unblock (makes f t c) (unblocks c) u
    (after_receipt (receipt_of f t c) u (after_write f (writes c) u (f.open_call u))))) ≡ Some o
    → AllByRecursion (λ w. may_take kind w ≡ false) (pending_after f t c h)) [
      | true ↦ λ same e.
          caller_finds_none f t c o h kind
          (subst
          (λ v. unless (is_some (row_of f t c).own)
          (after_receipt (receipt_of f t c) v (asks f.number t (channel_of (makes f t c)) c)) ≡ Some o)
          (eqb-true u t same) e) waits
      | false ↦ λ other e.
          let x =
          unless_is (is_some ((row_of f t c).others u))
          (after_unblock (makes f t c) (unblocks c) u
          (after_receipt (receipt_of f t c) u (after_write f (writes c) u (f.open_call u)))) o e in
          let d = before_other waits_for lasts_waits_for f t c u o x.1 in
          other_finds_none f t c u d.call h kind p nothing (among u d.call d.is) d.is (d.same ∙ waits)
    ] refl is

pub nothing_for : (roster : List Member) (past : Trace) → IsRoster roster → IsLawful roster past
    → NothingFor (facts_of roster past)
nothing_for roster [] r l u o h kind is waits = absurd (none-some o is)
nothing_for roster (e ∷ past) r l u o h kind is waits =
    let f = facts_of roster past in
    elim (l.1.1) as (λ _. AllByRecursion (λ w. may_take kind w ≡ false) ((facts_of roster (e ∷ past)).pending h)) [
      | inl a ↦
          let k = past_follows true roster past e.thread e.call e.completions r l.0 l.1.0 a in
          subst (AllByRecursion (λ w. may_take kind w ≡ false)) (sym (k.pending h))
          (nothing_after (facts_of roster past) e.thread e.call
          (passes_of (facts_of roster past) e.thread e.call e.completions a) (nothing_for roster past r l.0)
          (λ v x open_v. known roster v (open_known roster past v x l.0 open_v)) u o h kind
          (sym (k.open_call u) ∙ is) waits)
      | inr a ↦
          let k = past_follows false roster past e.thread e.call e.completions r l.0 l.1.0 a in
          subst (AllByRecursion (λ w. may_take kind w ≡ false)) (sym (k.pending h))
          (nothing_for roster past r l.0 u o h kind (sym (k.open_call u) ∙ is) waits)
    ]
