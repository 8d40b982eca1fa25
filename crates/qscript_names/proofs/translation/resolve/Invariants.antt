use Rattle.qscript_names.proofs.Common.{◌≡◌, ◌≤◌, ◌++◌, [], drop, length, string_bytes, none, plain_text, name_faults}
use Rattle.qscript_text.specs.Reading.Meaning.{Says}
use Rattle.qscript_names.specs.Translation.{meaning_after, said_by}
use Rattle.qscript_names.proofs.translation.resolve.Given as goal

abbrev pub invariant-lines : goal.invariant-lines
invariant-lines l = record {
  text : string_bytes l.resolved.text ++ plain_text l.resolved.scope (drop l.line-index l.lines)
      ≡ plain_text none l.lines;
  script : meaning_after l.resolved.scope l.number (said_by l.resolved.fault l.resolved.script)
      (drop l.line-index l.lines)
      ≡ meaning_after none 0 (Says [] []) l.lines;
  faults : l.resolved.faults.items ++ name_faults l.resolved.scope (drop l.line-index l.lines)
      ≡ name_faults none l.lines;
  number : l.number ≡ l.line-index;
  threads : l.resolved.scope.threads ≤ l.line-index;
  calls : l.resolved.scope.calls ≤ l.line-index;
  processes : length l.resolved.scope.processes ≤ l.line-index;
}
