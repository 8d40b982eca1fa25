-- Laws of ids: of open channels and live connections.
use Rattle.std.specs.Prelude.{◌++◌, ◌≡◌, ◌≤◌}
use Rattle.qrules.specs.Words.{is_some, length, true, AllByRecursion, Bool, List, Mark, None, Option, ℕ}
use Rattle.qrules.specs.Words.mark
use Rattle.qrules.specs.Trace.{completions_of, ConnectionId, Trace}
use Rattle.qrules.specs.Facts.{Facts}
use Rattle.qrules.specs.Past.{is_destroyed, is_number, was_done}
use Rattle.qrules.specs.Lawful.{facts_of}
use Rattle.qrules.specs.Properties.{AllDifferent}
use Rattle.qrules_laws.specs.Lawful.{AfterEach}

-- ---- how many there are

-- at most n ids have a value: a list of different ids that have one has at most n elements
abbrev pub AtMost : {A : Type 0} → ℕ → (ℕ → Option A) → Type 0
AtMost n at = (ids : List ℕ) → AllDifferent ids → AllByRecursion (λ i. is_some (at i) ≡ true) ids
    → length ids ≤ n

-- at most 64 channels are open
abbrev pub ChannelsAreLimited : Type 0
ChannelsAreLimited = AfterEach (λ roster past. AtMost 64 (facts_of roster past).channel)

-- at most 1,024 connections are live
abbrev pub ConnectionsAreLimited : Type 0
ConnectionsAreLimited = AfterEach (λ roster past. AtMost 1024 (facts_of roster past).connection)

-- ---- ids of destroyed channels and detached connections

-- connection k has been detached
abbrev pub is_detached : Trace → ConnectionId → Bool
is_detached past k = was_done (λ e. is_number e.detaches k) past

-- once an id is gone, it never has a value again, and no later completion has the result that returns it
abbrev pub StaysGone : {A : Type 0} → (Trace → ℕ → Bool) → (Facts → ℕ → Option A) → (ℕ → Mark) → Type 0
StaysGone is_gone at given = (past later : Trace) (i : ℕ) → is_gone past i ≡ true
    → AfterEach (λ roster after. after ≡ later ++ past → (at (facts_of roster after) i ≡ None)
    × AllByRecursion (λ x. x.mark ≡ given i → ⊥) (completions_of later))

-- a destroyed channel stays destroyed, and its id isn't returned again
abbrev pub DestroyedStaysDestroyed : Type 0
DestroyedStaysDestroyed = StaysGone is_destroyed (λ f. f.channel) mark.Channel

-- a detached connection stays detached, and its id isn't returned again
abbrev pub DetachedStaysDetached : Type 0
DetachedStaysDetached = StaysGone is_detached (λ f. f.connection) mark.Connection
