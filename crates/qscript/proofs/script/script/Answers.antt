use Rattle.qscript.proofs.Common.{length, not_too_long, ◌≡◌, ◌≤◌}
use Rattle.std.proofs.lemmas.Result.{err_from_is_err_and}
use Rattle.qscript_text.specs.declared.fault.ScriptFault.TheVariants.{TooLong}
use Rattle.qscript.proofs.Runnable.{can_run}
use Rattle.qscript.proofs.script.script.Goals as goal

-- a text that was read whole isn't too long
pub returns-in_err-script-clause-too_long : goal.returns-in_err-script-clause-too_long
returns-in_err-script-clause-too_long g c e =
    let q = err_from_is_err_and c.from_residual-in_err-script.result c.from_residual-in_err-script.ensures.1 in
    let fits : length c.as_slice.result.now ≤ 4194304 = rw c.as_slice.ensures.value c.in_ok-text.ensures.ok.short in
    let same : c.in_err-script.field-0.0 ≡ TooLong = cc (q.1, q.2, e) in
    absurd (not_too_long c.as_slice.result.now c.in_err-script.field-0.0 fits c.in_err-script.ensures same)

pub run_text-requires : goal.run_text-requires
run_text-requires g c = can_run c.as_slice.result.now _ _ c.in_ok-script.ensures
