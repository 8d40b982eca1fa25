-- Lines whose plain lines can be read back. The reader of names makes only such lines.
use Rattle.std.specs.Prelude.{◌≡◌, ◌≢◌, ℕ, ◌-◌, ◌<◌, ◌≤◌, ◌^◌, ◌&&◌, Bool, true, false}
use Rattle.std.specs.Prelude.{List, [], ◌∷◌, ◌++◌, length, Ok}
use Rattle.std.specs.Prelude.{nat_le, nat_lt, slice_index, codes}
use Rattle.std.specs.Char.{is_ascii_digit}
use Rattle.std.specs.List.{list_all}
use Rattle.hex.specs.Hex.{IsBytes}
use Rattle.qmodel.specs.declared.operands.OperandKind.{OperandKind}
use Rattle.qmodel.specs.declared.operands.OperandKind.TheVariants as sorts
use Rattle.qmodel.specs.Kinds.{sorts_of}
use Rattle.qscript_text.specs.declared.reading.operand_value.OperandValue.{OperandValue}
use Rattle.qscript_text.specs.Reading.Forms.{operand_of}
use Rattle.qscript_text.specs.Reading.Number.{priority_of}
use Rattle.qscript_text.specs.Reading.TextLaws.{IsOneLine, is_passed_over}
use Rattle.qscript_text.specs.Reading.Words.{words_of}
use Rattle.qscript_names.specs.declared.line.Operand.{Operand}
use Rattle.qscript_names.specs.declared.line.Operand.TheVariants as operands
use Rattle.qscript_names.specs.declared.line.CallLine.{CallLine}
use Rattle.qscript_names.specs.declared.line.Written.{Written}
use Rattle.qscript_names.specs.declared.line.NamedLine.{NamedLine}
use Rattle.qscript_names.specs.declared.line.NamedLine.TheVariants as lines
use Rattle.qscript_names.specs.declared.label.Label.{Label}
use Rattle.qscript_names.specs.Names.{Names, number_of, process_number, thread_number, with_line}
use Rattle.qscript_names.specs.Plain.{word_of}

-- a word of a line: bytes from 33 to 126, at least one
abbrev pub is_word : List ℕ → Bool
is_word word = nat_lt 0 (length word) && list_all (λ b. nat_le 33 b && nat_le b 126) word

-- one line of a text, without a carriage return at its end
abbrev pub IsLine : List ℕ → Type 0
IsLine text = IsOneLine text × (slice_index text (length text - 1) ≢ 13)

-- whether an operand of this sort may be a name
abbrev pub may_be_name : OperandKind → Bool
may_be_name sorts.Thread = true
may_be_name sorts.Flags = true
may_be_name sorts.Channel = true
may_be_name sorts.Connection = true
may_be_name sorts.ReceiveId = true
may_be_name other = false

-- whether an operand of this sort may be a text
abbrev pub may_be_text : OperandKind → Bool
may_be_text sorts.Message = true
may_be_text sorts.Data = true
may_be_text sorts.ReplyBuffer = true
may_be_text sorts.Buffer = true
may_be_text other = false

-- a value that its word has as an operand of this sort
abbrev pub IsWritten : OperandKind → Written OperandValue → Type 0
IsWritten s written = operand_of s written.word ≡ Ok written.value

-- an operand of this sort: a number of 64 bits, the value of its word, bytes, or at most 4,096 zeros
abbrev pub IsOperand : List Label → OperandKind → Operand → Type 0
IsOperand labels s (operands.Name m) = (may_be_name s ≡ true) × (number_of m.name labels < 2 ^ 64)
IsOperand labels s (operands.Number n) = (may_be_name s ≡ true) × (n < 2 ^ 64)
IsOperand labels s (operands.Plain written) = (is_word written.word ≡ true) × IsWritten s written
IsOperand labels s (operands.Text bytes) = (may_be_text s ≡ true) × IsBytes bytes
IsOperand labels s (operands.Zeros n) = (may_be_text s ≡ true) × (n ≤ 4096)

-- one operand for each of these sorts
abbrev pub AreOperands : List Label → List OperandKind → List Operand → Type 0
AreOperands labels [] [] = Unit {0}
AreOperands labels (s ∷ ss) (o ∷ all) = IsOperand labels s o × AreOperands labels ss all
AreOperands labels ss all = ⊥

-- a call with its operands, and a caller whose word begins with a digit
abbrev pub IsCall : List Label → CallLine → Type 0
IsCall labels c = IsOperand labels sorts.Thread c.caller
    × (is_ascii_digit (slice_index (word_of labels c.caller) 0) ≡ true)
    × AreOperands labels (sorts_of c.kind) c.operands.items

-- the plain line of this line, after the lines that defined `names`, can be read back
abbrev pub CanBeRead : Names → NamedLine → Type 0
CanBeRead names (lines.Aside text) = IsLine text × (is_passed_over (words_of text) ≡ true)
CanBeRead names (lines.State text) = IsLine (codes "# " ++ text)
CanBeRead names (lines.Thread t) = (thread_number names t < 2 ^ 64)
    × (process_number names.processes t.process < 2 ^ 64) × (is_word t.priority.word ≡ true)
    × (priority_of t.priority.word ≡ Ok t.priority.value)
CanBeRead names (lines.Call c) = IsCall names.labels c

-- the plain lines of these lines can be read back
abbrev pub AllCanBeRead : Names → List NamedLine → Type 0
AllCanBeRead names [] = Unit {0}
AllCanBeRead names (line ∷ rest) = CanBeRead names line × AllCanBeRead (with_line names line) rest
