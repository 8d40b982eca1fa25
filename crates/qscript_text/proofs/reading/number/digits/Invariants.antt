use Rattle.qscript_text.proofs.Common.{◌≡◌, take, digits_value, AllDigits}
use Rattle.qscript_text.proofs.reading.number.digits.Given as goal

abbrev pub invariant-loop-digit : goal.invariant-loop-digit
invariant-loop-digit l =
    record {
      digits : AllDigits 10 (take l.digit-index l.word);
      value : l.value ≡ digits_value 10 (take l.digit-index l.word);
    }
