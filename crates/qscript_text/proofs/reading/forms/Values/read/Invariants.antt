use Rattle.qscript_text.proofs.Common.{◌≡◌, drop, Ok, no_values, values_of, words_of}
use Rattle.qscript_text.proofs.reading.forms.Values.read.Given as goal

abbrev pub invariant-loop-sort : goal.invariant-loop-sort
invariant-loop-sort l = values_of (drop l.sort-index l.sorts) (words_of l.rest) l.read ≡ values_of l.sorts
    (words_of l.words) (Ok no_values)
