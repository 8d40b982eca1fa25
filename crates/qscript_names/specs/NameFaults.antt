-- The faults of the names of lines.
use Rattle.std.specs.Prelude.{List, [], ◌∷◌, ◌++◌, Option, Some, None, if◌then◌else◌}
use Rattle.std.specs.Option.{option_or}
use Rattle.qscript_text.specs.declared.place.Place.{Place}
use Rattle.qscript_names.specs.declared.line.LineKind.{LineKind}
use Rattle.qscript_names.specs.declared.line.Definition.{Definition}
use Rattle.qscript_names.specs.declared.line.Operand.{Operand}
use Rattle.qscript_names.specs.declared.line.Operand.TheVariants as operands
use Rattle.qscript_names.specs.declared.line.NamedLine.{NamedLine}
use Rattle.qscript_names.specs.declared.line.NamedLine.TheVariants as lines
use Rattle.qscript_names.specs.declared.label.Label.{Label}
use Rattle.qscript_names.specs.declared.label.NameError.{NameError}
use Rattle.qscript_names.specs.declared.label.NameError.TheVariants.{Undefined, OtherKind, Twice}
use Rattle.qscript_names.specs.declared.label.NameFault.{NameFault}
use Rattle.qscript_names.specs.Names.{Names, latest, same_kind, with_line}

-- the error of a name with this label, where a name of the kind `expected` is needed
abbrev pub error_of : LineKind → Option Label → Option NameError
error_of expected None = Some Undefined
error_of expected (Some l) = if same_kind l.kind expected then None else Some (OtherKind l.kind)

-- the fault at a place
abbrev pub fault_at : Place → Option NameError → Option NameFault
fault_at place None = None
fault_at place (Some e) = Some (record { place = place; error = e })

-- the fault of an operand: no line above defines its name, or the name has another kind
abbrev pub operand_fault : List Label → Operand → Option NameFault
operand_fault labels (operands.Name m) = fault_at m.place (error_of m.expected (latest m.name labels))
operand_fault labels (operands.Number n) = None
operand_fault labels (operands.Plain written) = None
operand_fault labels (operands.Text bytes) = None
operand_fault labels (operands.Zeros n) = None

-- the first fault of these operands
abbrev pub operands_fault : List Label → List Operand → Option NameFault
operands_fault labels [] = None
operands_fault labels (o ∷ rest) = option_or (operand_fault labels o) (operands_fault labels rest)

-- the error of a definition of a name that has this label already
abbrev pub twice_of : Option Label → Option NameError
twice_of None = None
twice_of (Some l) = Some (Twice l.line)

-- the fault of a line's definition: a line above defines the name
abbrev pub definition_fault : List Label → Option Definition → Option NameFault
definition_fault labels None = None
definition_fault labels (Some d) = fault_at d.place (twice_of (latest d.name labels))

-- the first fault of a line
abbrev pub line_fault : List Label → NamedLine → Option NameFault
line_fault labels (lines.Aside text) = None
line_fault labels (lines.State text) = None
line_fault labels (lines.Thread t) = definition_fault labels t.definition
line_fault labels (lines.Call c) =
    option_or (option_or (definition_fault labels c.definition) (operand_fault labels c.caller))
    (operands_fault labels c.operands.items)

-- a list of the fault, if there is one
abbrev pub listed : Option NameFault → List NameFault
listed None = []
listed (Some f) = f ∷ []

-- the faults of these lines, which come after the lines that defined `names`: the first fault of each line
unfoldable pub name_faults : Names → List NamedLine → List NameFault
name_faults names [] = []
name_faults names (line ∷ rest) =
    listed (line_fault names.labels line) ++ name_faults (with_line names line) rest
