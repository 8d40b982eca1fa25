-- The ghost resources of a history that only grows, and of its prefixes. One ghost name tracks the history.
use Rattle.std.specs.Prelude.{◌≡◌, ℕ, List, ◌++◌, reverse, length, leb, cond}
use base.Stored.{Coded, coded_ℕ, coded×, coded_list, coded_via}
use base.Fraction.{full_share}
use base.Fml.{Fml}
use base.Growing.{Order, prefixes, latest, at_least}
use Rattle.qmodel.specs.Trace.{Event, Trace}
use Rattle.qmodel.specs.contracts.call.Call as CallRow
use Rattle.qmodel.specs.contracts.call.Completion as CompletionRow

-- the history extends the prefix: it is the prefix, followed by zero or more events
abbrev pub Extends : Trace → Trace → Type 0
Extends past seen = (more : List Event) × (past ≡ more ++ seen)

-- the longer of two histories
abbrev pub longer : Trace → Trace → Trace
longer one other = cond (leb (length one) (length other)) other one

-- an event as a ghost value
abbrev pub event_coded : Coded Event
event_coded = coded_via
    (coded× coded_ℕ (coded× (CallRow.the_row).coded (coded_list (CompletionRow.the_row).coded)))
    (λ e. (e.thread, (e.call, e.completions)))
    (λ x y p i. record { thread = (p i).0; call = (p i).1.0; completions = (p i).1.1 })

-- the order of histories by prefix; here a history has its oldest event first
abbrev pub pasts : Order (List Event)
pasts = prefixes event_coded

-- the history that is kept with the kernel owns this
abbrev pub history_owns : ℕ → Trace → Fml
history_owns name past = latest pasts full_share name (reverse past)

-- a prefix owns this, which can be duplicated
abbrev pub seen_owns : ℕ → Trace → Fml
seen_owns name seen = at_least pasts name (reverse seen)
