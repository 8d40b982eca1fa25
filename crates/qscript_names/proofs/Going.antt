-- One more line.
use Rattle.qscript_names.proofs.Common.{◌≡◌, ℕ, ◌+◌, ◌<◌, ◌≤◌, Bool, true, false, List, [], ◌∷◌, ◌++◌, length, get_or}
use Rattle.qscript_names.proofs.Common.{drop, ap, sym, ◌∙◌, arith, length-append, if◌then◌else◌, common_steps}
use Rattle.qscript_names.proofs.Common.{append_assoc}
use Rattle.qscript_names.proofs.Common.{at_drop_more, list_any, bytes_eq, Names, with_line, with_process}
use Rattle.qscript_names.specs.declared.line.Process.{Process}
use Rattle.qscript_names.specs.declared.line.Process.TheVariants as processes
use Rattle.qscript_names.specs.declared.line.NamedLine.{NamedLine}
use Rattle.qscript_names.specs.declared.line.NamedLine.TheVariants as lines
use Rattle.qscript_names.specs.declared.label.NameFault.{NameFault}
use Rattle.qscript_text.specs.Reading.Meaning.{Meaning}
use Rattle.qscript_names.specs.Plain.{line_text, plain_lines, plain_text}
use Rattle.qscript_names.specs.NameFaults.{line_fault, listed, name_faults}
use Rattle.qscript_names.specs.Resolution.{line_after}
use Rattle.qscript_names.specs.Translation.{and_line, meaning_after}

-- the text of the remaining lines is the text of the next line and of the lines after it
text_left : (names : Names) (all : List NamedLine) (i : ℕ) (line : NamedLine) → i < length all
    → get_or all i line ≡ line
    → plain_text names (drop i all) ≡ line_text names line ++ 10 ∷ [] ++ plain_text (with_line names line)
    (drop (i + 1) all)
unfolding plain_lines
text_left names all i line lt is =
    at_drop_more (plain_text names) all i line lt ∙ ap (λ l. plain_text names (l ∷ drop (i + 1) all)) is

-- the faults of the remaining lines are the faults of the next line and of the lines after it
faults_left : (names : Names) (all : List NamedLine) (i : ℕ) (line : NamedLine) → i < length all
    → get_or all i line ≡ line
    → name_faults names (drop i all) ≡ listed (line_fault names.labels line) ++ name_faults (with_line names line)
    (drop (i + 1) all)
unfolding name_faults
faults_left names all i line lt is =
    at_drop_more (name_faults names) all i line lt ∙ ap (λ l. name_faults names (l ∷ drop (i + 1) all)) is

-- the text with the next line, and the text of the lines after it, make the same whole
pub text_next : (names after : Names) (all : List NamedLine) (i : ℕ) (line : NamedLine) (out more whole : List ℕ)
    → i < length all → get_or all i line ≡ line
    → more ≡ out ++ line_text names line ++ 10 ∷ [] → after ≡ with_line names line
    → out ++ plain_text names (drop i all) ≡ whole → more ++ plain_text after (drop (i + 1) all) ≡ whole
text_next names after all i line out more whole lt is written known so_far =
    let left = text_left names all i line lt is in
    grind (arith, common_steps, append_assoc, left, written, known, so_far)

-- the faults with the next line, and the faults of the lines after it, make the same whole
pub faults_next : (names after : Names) (all : List NamedLine) (i : ℕ) (line : NamedLine)
    (out more whole : List NameFault) → i < length all → get_or all i line ≡ line
    → more ≡ out ++ listed (line_fault names.labels line) → after ≡ with_line names line
    → out ++ name_faults names (drop i all) ≡ whole → more ++ name_faults after (drop (i + 1) all) ≡ whole
faults_next names after all i line out more whole lt is written known so_far =
    let left = faults_left names all i line lt is in
    grind (arith, common_steps, append_assoc, left, written, known, so_far)

-- the meaning of the remaining lines is the meaning of the next line and of the lines after it
meaning_left : (names : Names) (n : ℕ) (m : Meaning) (all : List NamedLine) (i : ℕ) (line : NamedLine) → i < length all
    → get_or all i line ≡ line
    → meaning_after names n m (drop i all) ≡ meaning_after (with_line names line) (n + 1)
    (and_line (n + 1) m (line_after names line)) (drop (i + 1) all)
unfolding meaning_after
meaning_left names n m all i line lt is =
    at_drop_more (meaning_after names n m) all i line lt
    ∙ ap (λ l. meaning_after names n m (l ∷ drop (i + 1) all)) is

-- the meaning with the next line, and the lines after it, make the same whole
pub meaning_next : (names after : Names) (n : ℕ) (all : List NamedLine) (i : ℕ) (line : NamedLine)
    (m more whole : Meaning) → i < length all → get_or all i line ≡ line
    → more ≡ and_line (n + 1) m (line_after names line) → after ≡ with_line names line
    → meaning_after names n m (drop i all) ≡ whole → meaning_after after (n + 1) more (drop (i + 1) all) ≡ whole
meaning_next names after n all i line m more whole lt is written known so_far =
    rw (written, known) (sym (meaning_left names n m all i line lt is) ∙ so_far)

-- a line adds at most one name of a process
named : (b : Bool) (names : List (List ℕ)) (name : List ℕ)
    → length (if b then names else names ++ name ∷ []) ≤ length names + 1
named true names name = omega arith
named false names name = omega (arith, length-append names (name ∷ []))

one_process : (names : List (List ℕ)) (p : Process) → length (with_process names p) ≤ length names + 1
one_process names (processes.Number n) = omega arith
one_process names (processes.Name name) = named (list_any (λ p. bytes_eq p name) names) names name

pub few_processes : (names : Names) (line : NamedLine)
    → length (with_line names line).processes ≤ length names.processes + 1
few_processes names (lines.Aside text) = omega arith
few_processes names (lines.State text) = omega arith
few_processes names (lines.Thread t) = one_process names.processes t.process
few_processes names (lines.Call c) = omega arith

-- a line adds at most one thread
pub few_threads : (names : Names) (line : NamedLine) → (with_line names line).threads ≤ names.threads + 1
few_threads names (lines.Aside text) = omega arith
few_threads names (lines.State text) = omega arith
few_threads names (lines.Thread t) = omega arith
few_threads names (lines.Call c) = omega arith

-- a line adds at most one call
pub few_calls : (names : Names) (line : NamedLine) → (with_line names line).calls ≤ names.calls + 1
few_calls names (lines.Aside text) = omega arith
few_calls names (lines.State text) = omega arith
few_calls names (lines.Thread t) = omega arith
few_calls names (lines.Call c) = omega arith
