-- The text of a written script.
use Rattle.std.specs.Prelude.{ℕ, List, [], ◌∷◌, ◌++◌}
use Rattle.std.specs.List.{flat_map}
use Rattle.qtables.specs.declared.member.Member.{Member}
use Rattle.qmodel.specs.Trace.{Event}
use Rattle.qscript.specs.Writing.Line.{call_line, member_line}

-- the line of a thread, with its end
abbrev pub member_text : Member → List ℕ
member_text m = member_line m ++ 10 ∷ []

-- the line of an event's call, with its end
abbrev pub call_text : Event → List ℕ
call_text e = call_line e.thread e.call ++ 10 ∷ []

-- a line for each thread of the roster, and then one for the call of each event
unfoldable pub script_text : List Member → List Event → List ℕ
script_text roster events = flat_map member_text roster ++ flat_map call_text events
