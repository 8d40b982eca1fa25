use Rattle.qscript.proofs.Common.{ended_text, flat_map, shows_at, string_bytes, take, ◌++◌, ◌≡◌}
use Rattle.qscript.proofs.printing.ended_line.push_completions.Given as goal

abbrev pub invariant-completions : goal.invariant-completions
invariant-completions l =
    string_bytes l.out ≡ string_bytes l.initial.out ++ flat_map
    (λ e. ended_text l.event e (shows_at l.first l.shown e.call)) (take l.completion-index l.completions)
