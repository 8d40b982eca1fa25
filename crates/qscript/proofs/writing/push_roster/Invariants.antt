use Rattle.qscript.proofs.Common.{flat_map, member_text, string_bytes, take, ◌++◌, ◌≡◌}
use Rattle.qscript.proofs.writing.push_roster.Given as goal

abbrev pub invariant-threads : goal.invariant-threads
invariant-threads l =
    string_bytes l.out ≡ string_bytes l.initial.out ++ flat_map member_text (take l.member-index l.roster)
