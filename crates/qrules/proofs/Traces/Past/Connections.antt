-- The live connections after one more event.
use Rattle.qrules.proofs.Common.{arith, ◌≡◌, ℕ, ◌+◌, List, ◌∷◌, length, ap, cond, true, member_at, Member, Outcome}
use Rattle.qrules.proofs.Common.{row_of, Event, Trace, Call, Completion, Option, None, Some, is_some}
use Rattle.qrules.proofs.Basics.{Facts, facts_of, IsLawful, with_event, attaches, detaches, attached_connection}
use Rattle.qrules.proofs.Basics.{connection_at, live_connections, refuses, names, connection_after, one_for, passes_of}
use Rattle.qrules.proofs.Traces.Past.Live.{count_live_accepted, count_live_refused, live_accepted, live_parts}
use Rattle.qrules.proofs.Traces.Past.Live.{live_refused}

-- ---- by each call's row

-- a connection that an accepted call detaches is live
detaches_one : (f : Facts) (t : ℕ) (c : Call) (k : ℕ) → (row_of f t c).refusal ≡ None → names (detaches c) k ≡ true
    → is_some (f.connection k) ≡ true
detaches_one f t c k r e = grind arith

-- a call that detaches a connection attaches none
detaches_alone : (m : Option Member) (c : Call) (k : ℕ) → detaches c ≡ Some k → attaches m c ≡ None
detaches_alone m c k e = grind arith

-- ---- the connections after one more event

detaches_live : (roster : List Member) (past : Trace) (t : ℕ) (c : Call) (X : List Completion)
    → Outcome true (facts_of roster past) t c X → (k : ℕ) → names (detaches c) k ≡ true
    → is_some (connection_at roster past k) ≡ true
detaches_live roster past t c X a k e =
    detaches_one (facts_of roster past) t c k (passes_of (facts_of roster past) t c X a).row e

pub connection_refused : (roster : List Member) (e : Event) (past : Trace) (k : ℕ)
    → refuses e.completions (length past + 1) ≡ true → connection_at roster (e ∷ past) k ≡ connection_at roster past k
connection_refused roster e past k r = live_refused roster attaches (λ f. f.detaches) e past k r

pub connection_accepted : (roster : List Member) (past : Trace) (t : ℕ) (c : Call) (X : List Completion) (k : ℕ)
    → IsLawful roster past → Outcome true (facts_of roster past) t c X
    → connection_at roster (with_event t c X past) k ≡ connection_after (facts_of roster past) t c k
connection_accepted roster past t c X k l a =
    live_accepted roster attaches (λ f. f.detaches) (detaches_live roster) detaches_alone past t c X k l a

pub live_connections_refused : (roster : List Member) (e : Event) (past : Trace)
    → refuses e.completions (length past + 1) ≡ true → live_connections roster (e ∷ past) ≡ live_connections roster past
live_connections_refused roster e past r = count_live_refused roster attaches (λ f. f.detaches) e past r

pub live_connections_accepted : (roster : List Member) (past : Trace) (t : ℕ) (c : Call) (X : List Completion)
    → IsLawful roster past → Outcome true (facts_of roster past) t c X
    → live_connections roster (with_event t c X past) + one_for (detaches c) ≡ live_connections roster past + one_for
    (attaches (member_at roster t) c)
live_connections_accepted roster past t c X l a =
    count_live_accepted roster attaches (λ f. f.detaches) (detaches_live roster) detaches_alone past t c X l a

-- a live connection is as it was attached
pub live_attached : (roster : List Member) (past : Trace) (k : ℕ) → is_some (connection_at roster past k) ≡ true
    → connection_at roster past k ≡ attached_connection roster past k
live_attached roster past k e =
    ap (λ b. cond b None (attached_connection roster past k))
    (live_parts roster attaches (λ f. f.detaches) past k e).standing
