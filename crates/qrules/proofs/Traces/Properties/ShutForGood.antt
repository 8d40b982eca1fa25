-- Nothing is received from a destroyed channel, and no thread is blocked on it.
use Rattle.qrules.proofs.Common.{arith, ◌≡◌, ◌∙◌, ℕ, ◌+◌, List, [], ◌∷◌, length, refl, ap, sym, subst, cond, eqb, true}
use Rattle.qrules.proofs.Common.{false, inl, inr, receive_in, send_in, OpenReceive, OpenSend, number_received, IsShut}
use Rattle.qrules.proofs.Common.{ShutForGood, AllByRecursion, none-some, same_Some, Srch, best_of, IsRoster, Member}
use Rattle.qrules.proofs.Common.{Outcome, row_of, effect_of, is_on, item_among, channel_of, unblocked_call, Event}
use Rattle.qrules.proofs.Common.{Trace, Call, Completion, OpenCall, Option, None, Some, is_some, ◌||◌}
use Rattle.std.specs.Option.{option_and_then, option_map}
use Rattle.std.proofs.lemmas.Bool.{or_cases, true≢false}
use Rattle.qrules.proofs.Basics.{receipt_of, names, Facts, owns, asks, closes, makes, unblocks, writes, facts_of}
use Rattle.qrules.proofs.Basics.{IsLawful, attached_connection, is_destroyed, items, open_call, after_receipt}
use Rattle.qrules.proofs.Basics.{after_write, channel_after, open_call_after, unless, after_unblock, accepted, laws_of}
use Rattle.qrules.proofs.Basics.{passes_of, item_at, item_below, item_earlier, item_found, item_newest, made_by, Passes}
use Rattle.qrules.proofs.Basics.{held_on, buffer_on}
use Rattle.qrules.proofs.Traces.Past.Channels.{closed_accepted, open_at}
use Rattle.qrules.proofs.Traces.Past.Follows.{past_follows}
use Rattle.qrules.proofs.Traces.Past.Receipts.{best_pending}
use Rattle.qrules.proofs.Traces.Properties.Events.{each_received, made_now}
use Rattle.qrules.proofs.Traces.Properties.Receipts.{TakesOne}
use Rattle.qrules.proofs.Traces.Past.Before.{Lasts, before_other, before_receipt, unless_is}
use Rattle.qrules.proofs.Traces.Past.LiveSends.{stays_open}
use Rattle.qmodel.specs.declared.open_call.OpenCall.TheVariants.{Receive as InReceive, Send as InSend}
use Rattle.qrules.proofs.Traces.Properties.Sends.{open_on}

-- ---- by each call's row

-- a call that destroys a channel has no other effect
record DestroysAlone (c : Call) : Type 0 where
  asks_none : (n t h : ℕ) → asks n t h c ≡ None
  receives_none : (effect_of c).receives ≡ None
  makes_none : (f : Facts) (t : ℕ) → makes f t c ≡ None

destroys_alone : (c : Call) (h : ℕ) → names (closes c) h ≡ true → DestroysAlone c
destroys_alone c h e = grind arith

-- a call that destroys a channel completes each call that is blocked on it
closing_ends : (f : Facts) (t : ℕ) (c : Call) (h u : ℕ) (o : OpenCall) → names (closes c) h ≡ true
    → f.open_call u ≡ Some o → is_on h o ≡ true → is_some ((row_of f t c).others u) ≡ true
closing_ends f t c h u o e is on = grind arith

-- a receive is on a channel of the thread's process
own_open : (f : Facts) (t chid h : ℕ) → cond (owns f t chid) None (Some Srch) ≡ None → eqb chid h ≡ true
    → is_some (f.channel h) ≡ true
own_open f t chid h r on = grind arith

-- a call that blocks its thread is on an open channel
begins_on_open : (f : Facts) (t : ℕ) (c : Call) (b : OpenCall) (h : ℕ) → (row_of f t c).refusal ≡ None
    → asks f.number t (channel_of (makes f t c)) c ≡ Some b → is_on h b ≡ true → is_some (f.channel h) ≡ true
begins_on_open f t c b h r e on = grind arith

-- ---- blocked threads

-- each open call is blocked on an open channel
abbrev pub WaitsOnOpen : Facts → Type 0
WaitsOnOpen f = (u : ℕ) (o : OpenCall) (h : ℕ) → f.open_call u ≡ Some o → is_on h o ≡ true
    → is_some (f.channel h) ≡ true

unblocked_on : (h : ℕ) (o : OpenCall) → is_on h (unblocked_call o) ≡ is_on h o
unblocked_on h o = grind arith

-- an open call stays on its channel
lasts_on : (h : ℕ) → Lasts (is_on h)
lasts_on h = record { held = held_on h; buffer = buffer_on h; unblocked = unblocked_on h }

waits_after : (f : Facts) (t : ℕ) (c : Call) → Passes f t c → WaitsOnOpen f → (u : ℕ) (o : OpenCall) (h : ℕ)
    → open_call_after f t c u ≡ Some o → is_on h o ≡ true → is_some (channel_after f t c h) ≡ true
waits_after f t c p waits u o h is on =
    let R = row_of f t c in
    elim (eqb u t)
    as (λ b.
    cond b
    (unless (is_some (row_of f t c).own)
    (after_receipt (receipt_of f t c) u (asks f.number t (channel_of (makes f t c)) c)))
    (unless (is_some ((row_of f t c).others u))
    (after_unblock (makes f t c) (unblocks c) u
    (after_receipt (receipt_of f t c) u (after_write f (writes c) u (f.open_call u))))) ≡ Some o
    → is_some (channel_after f t c h) ≡ true) [
      | true ↦ λ e.
          let x =
          unless_is (is_some R.own) (after_receipt (receipt_of f t c) u (asks f.number t (channel_of (makes f t c)) c))
          o e in
          let b =
          before_receipt (is_on h) (held_on h) (receipt_of f t c) u
          (asks f.number t (channel_of (makes f t c)) c) o x.1 in
          stays_open (names (closes c) h) _ f.number f.channel h
          (begins_on_open f t c b.call h p.row b.is (b.same ∙ on))
          (λ d. none-some b.call (sym ((destroys_alone c h d).asks_none f.number t (channel_of (makes f t c))) ∙ b.is))
      | false ↦ λ e.
          let x =
          unless_is (is_some (R.others u))
          (after_unblock (makes f t c) (unblocks c) u
          (after_receipt (receipt_of f t c) u (after_write f (writes c) u (f.open_call u)))) o e in
          let d = before_other (is_on h) (lasts_on h) f t c u o x.1 in
          stays_open (names (closes c) h) _ f.number f.channel h (waits u d.call h d.is (d.same ∙ on))
          (λ destroyed. true≢false (sym (closing_ends f t c h u d.call destroyed d.is (d.same ∙ on)) ∙ x.0))
    ] is

pub waits_on_open : (roster : List Member) (past : Trace) → IsRoster roster → IsLawful roster past
    → WaitsOnOpen (facts_of roster past)
waits_on_open roster [] r l u o h is on = absurd (none-some o is)
waits_on_open roster (e ∷ past) r l u o h is on =
    let f = facts_of roster past in
    elim (l.1.1) as (λ _. is_some ((facts_of roster (e ∷ past)).channel h) ≡ true) [
      | inl a ↦
          let k = past_follows true roster past e.thread e.call e.completions r l.0 l.1.0 a in
          ap is_some (k.channel h) ∙ waits_after f e.thread e.call (passes_of f e.thread e.call e.completions a)
          (waits_on_open roster past r l.0) u o h (sym (k.open_call u) ∙ is) on
      | inr a ↦
          let k = past_follows false roster past e.thread e.call e.completions r l.0 l.1.0 a in
          ap is_some (k.channel h) ∙ waits_on_open roster past r l.0 u o h (sym (k.open_call u) ∙ is) on
    ]

-- ---- received items

-- an item that an accepted call's completions receive is of a channel that isn't destroyed
taken_is_open : (roster : List Member) (e : Event) (past : Trace) (u i h : ℕ) (y : Completion)
    → Outcome true (facts_of roster past) e.thread e.call e.completions
    → TakesOne (facts_of roster past) e.thread e.call u y i
    → option_map (λ m. m.channel) (item_among (items roster (e ∷ past)) i) ≡ Some h
    → (names (closes e.call) h || is_destroyed past h) ≡ true → ⊥
taken_is_open roster e past u i h y a k is closed =
    let f = facts_of roster past in
    elim k [
      | inl p ↦
          let b = best_pending roster past p.request.channel p.request.kind p.item p.best in
          let made =
          subst (λ j. item_at roster past j ≡ Some (record { item = b.first; channel = p.request.channel })) p.number
          b.made in
          let at : p.request.channel ≡ h =
          same_Some p.request.channel h
          (sym (ap (option_map (λ m. m.channel))
          (item_found roster (e ∷ past) i _ (item_earlier roster e past i (item_below roster past i _ made) ∙ made)))
          ∙ is) in
          elim (or_cases (names (closes e.call) h) (is_destroyed past h) closed) [
            | inl now ↦ none-some p.request (sym (destroys_alone e.call h now).receives_none ∙ p.receives)
            | inr before ↦
                let none : f.pending p.request.channel ≡ [] = ap f.pending at ∙ rw before refl in
                none-some p.item (sym (ap (best_of p.request.kind) none) ∙ p.best)
          ]
      | inr m ↦
          let now = made_now roster e past m.made a m.is_made in
          let number = ((laws_of f e.thread e.call e.completions a).makes_open m.made m.is_made) in
          let open_there = open_at roster past m.made.channel number in
          let newest : item_at roster (e ∷ past) (length past + 1) ≡ Some m.made = item_newest roster e past ∙ now in
          let made =
          subst (λ j. item_at roster (e ∷ past) j ≡ Some m.made)
          (sym ((made_by roster e past m.made now).number) ∙ m.number) newest in
          let at : m.made.channel ≡ h =
          same_Some m.made.channel h
          (sym (ap (option_map (λ m. m.channel)) (item_found roster (e ∷ past) i m.made made)) ∙ is) in
          elim (or_cases (names (closes e.call) h) (is_destroyed past h) closed) [
            | inl now ↦ none-some m.made (sym ((destroys_alone e.call h now).makes_none f e.thread) ∙ m.is_made)
            | inr before ↦ true≢false (sym before ∙ ap (is_destroyed past) (sym at) ∙ open_there.standing)
          ]
    ]

none_received : (roster : List Member) (e : Event) (past : Trace) (h : ℕ) → IsLawful roster (e ∷ past)
    → is_destroyed (e ∷ past) h ≡ true
    → AllByRecursion (λ x. (i : ℕ) → number_received x ≡ Some i
    → option_map (λ m. m.channel) (item_among (items roster (e ∷ past)) i) ≡ Some h → ⊥) e.completions
none_received roster e past h l closed =
    each_received (λ x i. option_map (λ m. m.channel) (item_among (items roster (e ∷ past)) i) ≡ Some h → ⊥) roster
    past e.thread e.call e.completions l.1.1
    (λ u y i a k is. taken_is_open roster e past u i h y a k is
    (sym (closed_accepted roster e past h (accepted roster past e.thread e.call e.completions a)) ∙ closed))

-- ---- open calls

module _ (roster : List Member) (past : Trace) (h : ℕ) where
  -- the channel of an open Send's connection
  abbrev end_of : OpenSend → Option ℕ
  end_of s = option_map (λ c. c.channel) (attached_connection roster past s.connection)

  module _ (rises : IsRoster roster) (l : IsLawful roster past) (closed : is_destroyed past h ≡ true) where
    -- no open call is on a destroyed channel
    none_on : (u : ℕ) (o : OpenCall) → open_call roster past u ≡ Some o → is_on h o ≡ true → ⊥
    none_on u o is on =
        true≢false (sym closed ∙ (open_at roster past h (waits_on_open roster past rises l u o h is on)).standing)

    no_send : (u : ℕ) (s : OpenSend) (o : Option OpenCall) → open_call roster past u ≡ o
        → option_and_then send_in o ≡ Some s → end_of s ≡ Some h → ⊥
    no_send u s None is e on = none-some s e
    no_send u s (Some (InReceive r)) is e on = none-some s e
    no_send u s (Some (InSend x)) is e on =
        let k = open_on roster past u (InSend x) l is refl in
        let at : k.0.channel ≡ h =
        same_Some k.0.channel h
        (sym (ap (option_map (λ c. c.channel))
        (ap (λ (y : OpenSend). attached_connection roster past y.connection) (sym (same_Some x s e)) ∙ k.1)) ∙ on) in
        none_on u (InSend x) is (subst (λ j. is_on j (InSend x) ≡ true) at k.2)

    no_receive : (u : ℕ) (r : OpenReceive) (o : Option OpenCall) → open_call roster past u ≡ o
        → option_and_then receive_in o ≡ Some r → r.channel ≡ h → ⊥
    no_receive u r o is e on = grind (arith, none_on)

is_shut : (roster : List Member) (e : Event) (past : Trace) (h : ℕ) → IsRoster roster → IsLawful roster (e ∷ past)
    → is_destroyed (e ∷ past) h ≡ true → IsShut roster (e ∷ past) e.completions h
is_shut roster e past h r l closed =
    let f = facts_of roster (e ∷ past) in
    record {
      none_received = none_received roster e past h l closed;
      no_send = λ u s is. no_send roster (e ∷ past) h r l closed u s (f.open_call u) refl is;
      no_receive = λ u s is. no_receive roster (e ∷ past) h r l closed u s (f.open_call u) refl is;
    }

pub shut_for_good : (roster : List Member) (past : Trace) → IsRoster roster → IsLawful roster past
    → ShutForGood roster past
shut_for_good roster [] r l = tt
shut_for_good roster (e ∷ past) r l = (shut_for_good roster past r l.0, λ h closed. is_shut roster e past h r l closed)
