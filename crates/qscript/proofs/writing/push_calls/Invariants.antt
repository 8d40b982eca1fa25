use Rattle.qscript.proofs.Common.{call_text, flat_map, string_bytes, take, ◌++◌, ◌≡◌}
use Rattle.qscript.proofs.writing.push_calls.Given as goal

abbrev pub invariant-events : goal.invariant-events
invariant-events l = string_bytes l.out ≡ string_bytes l.initial.out ++ flat_map call_text (take l.k l.run.events)
