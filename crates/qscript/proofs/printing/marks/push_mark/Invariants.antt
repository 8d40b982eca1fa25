use Rattle.qscript.proofs.Common.{take, words_with_spaces, ◌++◌, ◌≡◌, string_bytes}
use Rattle.qscript_text.specs.ResultParts.{mark_words}
use Rattle.qscript.proofs.printing.marks.push_mark.Given as goal

abbrev pub invariant-loop-at : goal.invariant-loop-at
invariant-loop-at l =
    string_bytes l.out ≡ string_bytes l.initial.out ++ words_with_spaces (take l.at (mark_words l.mark))
