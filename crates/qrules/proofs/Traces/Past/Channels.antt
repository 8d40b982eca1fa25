-- The open channels after one more event.
use Rattle.qrules.proofs.Common.{arith, ◌≡◌, ℕ, ◌+◌, List, ◌∷◌, length, true, false, member_at, Member, Outcome, row_of}
use Rattle.qrules.proofs.Common.{OpenChannel, Event, Trace, Call, Completion, Option, None, Some, is_some, ◌||◌}
use Rattle.qrules.proofs.Basics.{Facts, is_owned_by, facts_of, IsLawful, with_event, closes, creates, channel_at}
use Rattle.qrules.proofs.Basics.{is_destroyed, open_channels, refuses, names, channel_after, one_for, passes_of}
use Rattle.qrules.proofs.Traces.Past.Live.{IsLive, count_live_accepted, count_live_refused, gone_accepted, gone_refused}
use Rattle.qrules.proofs.Traces.Past.Live.{live_accepted, live_parts, live_refused}

-- ---- by each call's row

-- a channel that the thread's process owns is open
pub owned_open : (f : Facts) (t : ℕ) (o : Option OpenChannel) → is_owned_by f t o ≡ true → is_some o ≡ true
owned_open f t o e = grind arith

-- a channel that an accepted call destroys is open
pub closes_open : (f : Facts) (t : ℕ) (c : Call) (h : ℕ) → (row_of f t c).refusal ≡ None → names (closes c) h ≡ true
    → is_some (f.channel h) ≡ true
closes_open f t c h r e = grind arith

-- a call that destroys a channel creates none
pub closes_alone : (m : Option Member) (c : Call) (h : ℕ) → closes c ≡ Some h → creates m c ≡ None
closes_alone m c h e = grind arith

-- ---- the channels after one more event

closes_live : (roster : List Member) (past : Trace) (t : ℕ) (c : Call) (X : List Completion)
    → Outcome true (facts_of roster past) t c X → (h : ℕ) → names (closes c) h ≡ true
    → is_some (channel_at roster past h) ≡ true
closes_live roster past t c X a h e =
    closes_open (facts_of roster past) t c h (passes_of (facts_of roster past) t c X a).row e

-- an open channel was created, and hasn't been destroyed
abbrev pub IsOpenAt : List Member → Trace → ℕ → Type 0
IsOpenAt roster past h = IsLive roster creates (λ f. f.destroys) past h

pub open_at : (roster : List Member) (past : Trace) (h : ℕ) → is_some (channel_at roster past h) ≡ true
    → IsOpenAt roster past h
open_at roster past h e = live_parts roster creates (λ f. f.destroys) past h e

pub closed_refused : (roster : List Member) (e : Event) (past : Trace) (h : ℕ)
    → refuses e.completions (length past + 1) ≡ true → is_destroyed (e ∷ past) h ≡ is_destroyed past h
closed_refused roster e past h r = gone_refused roster creates (λ f. f.destroys) e past h r

pub closed_accepted : (roster : List Member) (e : Event) (past : Trace) (h : ℕ)
    → refuses e.completions (length past + 1) ≡ false
    → is_destroyed (e ∷ past) h ≡ (names (closes e.call) h || is_destroyed past h)
closed_accepted roster e past h r = gone_accepted roster creates (λ f. f.destroys) e past h r

pub channel_refused : (roster : List Member) (e : Event) (past : Trace) (h : ℕ)
    → refuses e.completions (length past + 1) ≡ true → channel_at roster (e ∷ past) h ≡ channel_at roster past h
channel_refused roster e past h r = live_refused roster creates (λ f. f.destroys) e past h r

pub channel_accepted : (roster : List Member) (past : Trace) (t : ℕ) (c : Call) (X : List Completion) (h : ℕ)
    → IsLawful roster past → Outcome true (facts_of roster past) t c X
    → channel_at roster (with_event t c X past) h ≡ channel_after (facts_of roster past) t c h
channel_accepted roster past t c X h l a =
    live_accepted roster creates (λ f. f.destroys) (closes_live roster) closes_alone past t c X h l a

pub open_channels_refused : (roster : List Member) (e : Event) (past : Trace)
    → refuses e.completions (length past + 1) ≡ true → open_channels roster (e ∷ past) ≡ open_channels roster past
open_channels_refused roster e past r = count_live_refused roster creates (λ f. f.destroys) e past r

pub open_channels_accepted : (roster : List Member) (past : Trace) (t : ℕ) (c : Call) (X : List Completion)
    → IsLawful roster past → Outcome true (facts_of roster past) t c X
    → open_channels roster (with_event t c X past) + one_for (closes c) ≡ open_channels roster past + one_for
    (creates (member_at roster t) c)
open_channels_accepted roster past t c X l a =
    count_live_accepted roster creates (λ f. f.destroys) (closes_live roster) closes_alone past t c X l a
