use Rattle.qscript_names.proofs.Common.{length, ap, sym, arith, common_steps, Names}
use Rattle.qscript_names.specs.Plain.{plain_lines}
use Rattle.qscript_names.specs.NameFaults.{name_faults}
use Rattle.qscript_names.specs.Translation.{meaning_after}
use Rattle.qscript_names.proofs.Going.{text_next, faults_next, meaning_next, few_threads, few_calls, few_processes}
use Rattle.qscript_names.proofs.translation.resolve.Goals as goal

pub lines-preserved : goal.lines-preserved
lines-preserved c =
    let is = sym c.line-item.is in
    let names : Names = c.lines.resolved.scope in
    let known = c.in_ok-add.ensures.scope in
    record {
      text = text_next names _ _ _ _ _ _ _ c.lines-test.true is c.in_ok-add.ensures.text known c.lines.invariant.text;
      script =
          meaning_next names _ _ _ _ _ _ _ _ c.lines-test.true is c.in_ok-add.ensures.script known
          c.lines.invariant.script;
      faults =
          faults_next names _ _ _ _ _ _ _ c.lines-test.true is c.in_ok-add.ensures.faults known
          c.lines.invariant.faults;
      number = omega (arith, c.lines.invariant.number);
      threads =
          omega (arith, ap (λ n. n.threads) known, few_threads names c.line-item.result, c.lines.invariant.threads);
      calls = omega (arith, ap (λ n. n.calls) known, few_calls names c.line-item.result, c.lines.invariant.calls);
      processes =
          omega (
            arith,
            ap (λ n. length n.processes) known,
            few_processes names c.line-item.result,
            c.lines.invariant.processes,
          );
    }

pub returns-clause-text : goal.returns-clause-text
unfolding plain_lines
returns-clause-text c = grind (arith, common_steps, c.lines.invariant.text)

pub returns-clause-script : goal.returns-clause-script
unfolding meaning_after
returns-clause-script c = grind (arith, common_steps, c.lines.invariant.script)

pub returns-clause-faults : goal.returns-clause-faults
unfolding name_faults
returns-clause-faults c = grind (arith, common_steps, c.lines.invariant.faults)
