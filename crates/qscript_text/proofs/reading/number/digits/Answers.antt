use Rattle.qscript_text.proofs.Common.{take, length-take, arith, common_steps, digits_more, take_all}
use Rattle.qscript_text.specs.Reading.Number.{digits_of}
use Rattle.qscript_text.proofs.Texts.Digits.{not_digits, small, in_twenty, value_more, all_digits}
use Rattle.qscript_text.proofs.reading.number.digits.Goals as goal

pub returns-then-not-is_ascii_digit : goal.returns-then-not-is_ascii_digit
unfolding digits_of
returns-then-not-is_ascii_digit c =
    grind (
      arith,
      common_steps,
      not_digits c.args.word.now c.loop-digit.digit-index c.loop-digit-test.true c.if-not-is_ascii_digit.ensures.cases,
    )

pub overflow_mul-value : goal.overflow_mul-value
overflow_mul-value c =
    omega (
      arith,
      c.loop-digit.invariant.value,
      small (take c.loop-digit.digit-index c.args.word.now) c.loop-digit.invariant.digits
          (simp length-take (omega arith)),
    )

pub overflow_add-value : goal.overflow_add-value
overflow_add-value c =
    omega (
      arith,
      c.loop-digit.invariant.value,
      c.from.ensures,
      small (take c.loop-digit.digit-index c.args.word.now) c.loop-digit.invariant.digits
          (simp length-take (omega arith)),
    )

pub loop-digit-preserved : goal.loop-digit-preserved
loop-digit-preserved c =
    let d = c.if-not-is_ascii_digit.ensures.bound in
    record {
      digits =
          digits_more 10 c.args.word.now c.loop-digit.digit-index c.loop-digit-test.true c.loop-digit.invariant.digits
          d;
      value =
          omega (
            arith,
            c.loop-digit.invariant.value,
            c.from.ensures,
            value_more c.args.word.now c.loop-digit.digit-index c.loop-digit-test.true d,
          );
    }

pub returns-clause-value : goal.returns-clause-value
unfolding digits_of
returns-clause-value c =
    grind (arith, common_steps, take_all, all_digits, c.loop-digit.invariant.digits, c.loop-digit.invariant.value)

pub returns-clause-small : goal.returns-clause-small
returns-clause-small c =
    omega (
      arith,
      c.loop-digit.invariant.value,
      in_twenty (take c.loop-digit.digit-index c.args.word.now) c.loop-digit.invariant.digits
          (simp length-take (omega arith)),
    )
