-- The meaning of the names of a script.
use Rattle.std.specs.Prelude.{ℕ, ◌+◌, ◌==◌, Bool, List, [], ◌∷◌, ◌++◌, reverse, find, Option, Some, None}
use Rattle.std.specs.Prelude.{if◌then◌else◌}
use Rattle.std.specs.Str.{bytes_eq}
use Rattle.std.specs.List.{list_any, position_or_len}
use Rattle.std.specs.Option.{unwrap_or, option_map_or}
use Rattle.qscript_names.specs.declared.line.LineKind.{LineKind}
use Rattle.qscript_names.specs.declared.line.LineKind.TheVariants as kinds
use Rattle.qscript_names.specs.declared.line.Definition.{Definition}
use Rattle.qscript_names.specs.declared.line.Process.{Process}
use Rattle.qscript_names.specs.declared.line.Process.TheVariants as processes
use Rattle.qscript_names.specs.declared.line.ThreadLine.{ThreadLine}
use Rattle.qscript_names.specs.declared.line.NamedLine.{NamedLine}
use Rattle.qscript_names.specs.declared.line.NamedLine.TheVariants as lines
use Rattle.qscript_names.specs.declared.label.Label.{Label}

-- the definitions of some lines: how many threads and calls they have, the names of their processes, and the
-- labels of their names
pub record Names : Type 0 where
  pub threads : ℕ
  pub calls : ℕ
  pub processes : List (List ℕ)
  pub labels : List Label

-- the definitions above the first line
abbrev pub none : Names
none = record { threads = 0; calls = 0; processes = []; labels = [] }

-- the last label with this name
unfoldable pub latest : List ℕ → List Label → Option Label
latest name labels = find (λ l. bytes_eq l.name name) (reverse labels)

-- the number of a name, or 0 for an undefined name, which is a fault
abbrev pub number_of : List ℕ → List Label → ℕ
number_of name labels = option_map_or (λ l. l.number) (latest name labels) 0

-- the labels above, and the label of a line's definition, which has this number
abbrev pub with_label : Option Definition → ℕ → List Label → List Label
with_label None number labels = labels
with_label (Some d) number labels =
    labels ++ record { name = d.name; kind = d.kind; number = number; line = d.place.line } ∷ []

-- the number of a thread: the number that its line gives, or its place among the threads, counted from 1
abbrev pub thread_number : Names → ThreadLine → ℕ
thread_number names t = unwrap_or t.thread (names.threads + 1)

-- the number of a process: the number that its line gives, or the place of its name among the names of the
-- processes, counted from 1
abbrev pub process_number : List (List ℕ) → Process → ℕ
process_number names (processes.Number n) = n
process_number names (processes.Name name) = position_or_len (λ p. bytes_eq p name) names + 1

-- the names of the processes with one more name, each once
abbrev pub with_name : List (List ℕ) → List ℕ → List (List ℕ)
with_name names name = if list_any (λ p. bytes_eq p name) names then names else names ++ name ∷ []

-- the names of the processes with the name of a line's process
abbrev pub with_process : List (List ℕ) → Process → List (List ℕ)
with_process names (processes.Number n) = names
with_process names (processes.Name name) = with_name names name

-- the definitions after one more line: the nth thread line is thread n, unless it gives another number, and
-- the nth call line is call n
abbrev pub with_line : Names → NamedLine → Names
with_line names (lines.Aside text) = names
with_line names (lines.State text) = names
with_line names (lines.Thread t) = record {
  threads = names.threads + 1;
  calls = names.calls;
  processes = with_process names.processes t.process;
  labels = with_label t.definition (thread_number names t) names.labels;
}
with_line names (lines.Call c) = record {
  threads = names.threads;
  calls = names.calls + 1;
  processes = names.processes;
  labels = with_label c.definition (names.calls + 1) names.labels;
}

-- the number of a kind
abbrev pub code_of : LineKind → ℕ
code_of kinds.Thread = 0
code_of kinds.Channel = 1
code_of kinds.Connection = 2
code_of kinds.Message = 3
code_of kinds.Pulse = 4
code_of kinds.Call = 5

-- whether two kinds are the same
abbrev pub same_kind : LineKind → LineKind → Bool
same_kind a b = code_of a == code_of b
