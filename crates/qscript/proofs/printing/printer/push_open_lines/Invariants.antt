use Rattle.qscript.proofs.Common.{flat_map, open_text, string_bytes, take, ◌++◌, ◌≡◌}
use Rattle.qscript.proofs.printing.printer.push_open_lines.Given as goal

abbrev pub invariant-threads : goal.invariant-threads
invariant-threads l =
    string_bytes l.out ≡ string_bytes l.initial.out ++ flat_map open_text (take l.thread-index l.blocked)
