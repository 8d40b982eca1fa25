-- The threads whose priority an event changed.
use Rattle.std.specs.Prelude.{◌==◌, ℕ, find, List, None, Option, Some, if◌then◌else◌}
use Rattle.std.specs.List.{filter_map}
use Rattle.std.specs.Option.{option_map_or}
use Rattle.qrules.specs.Facts.{threads_of, Facts}
use Rattle.qkernel_state.specs.declared.thread.Thread.{Thread}
use Rattle.qscript_chart.specs.declared.changes.Level.{Level}

-- thread t with its priority after an event, if that differs from its priority before the event
abbrev pub changed_thread : Facts → Facts → ℕ → Option Level
changed_thread before after t = if before.priority t == after.priority t then None
    else Some (record { thread = t; priority = after.priority t })

-- the threads whose priority an event changed, by rising number, with the new priority
abbrev pub changed_threads : Facts → Facts → List Level
changed_threads before after = filter_map (changed_thread before after) (threads_of after.roster)

-- the priority in a thread's record
abbrev pub level_of : Thread → Level
level_of t = record { thread = t.member.thread; priority = t.priority }

-- the priority of thread t, or 0 if it isn't in the list
abbrev pub priority_in : List Level → ℕ → ℕ
priority_in levels t = option_map_or (λ l. l.priority) (find (λ l. l.thread == t) levels) 0

-- a priority that differs from the thread's priority before
abbrev pub change_since : List Level → Level → Option Level
change_since before l = if priority_in before l.thread == l.priority then None else Some l
