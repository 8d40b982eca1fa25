-- The plain script of a script with names: its lines, with each name replaced by its number.
use Rattle.std.specs.Prelude.{ℕ, ◌==◌, List, [], ◌∷◌, ◌++◌, length, if◌then◌else◌, codes, decimal}
use Rattle.std.specs.List.{flat_map}
use Rattle.hex.specs.Hex.{encode_lower}
use Rattle.qmodel.specs.Kinds.{script_word}
use Rattle.qscript_names.specs.declared.line.Operand.{Operand}
use Rattle.qscript_names.specs.declared.line.Operand.TheVariants as operands
use Rattle.qscript_names.specs.declared.line.NamedLine.{NamedLine}
use Rattle.qscript_names.specs.declared.line.NamedLine.TheVariants as lines
use Rattle.qscript_names.specs.declared.label.Label.{Label}
use Rattle.qscript_names.specs.Names.{Names, number_of, thread_number, process_number, with_line}

-- the bytes in hexadecimal digits, or `-` if there are none
abbrev pub bytes_word : List ℕ → List ℕ
bytes_word bytes = if length bytes == 0 then codes "-" else encode_lower bytes

-- n bytes of zero, or `-` if n is 0
abbrev pub zeros_word : ℕ → List ℕ
zeros_word n = if n == 0 then codes "-" else decimal n ++ codes "x00"

-- the word of an operand, in which a name is replaced by its number
abbrev pub word_of : List Label → Operand → List ℕ
word_of labels (operands.Name m) = decimal (number_of m.name labels)
word_of labels (operands.Number n) = decimal n
word_of labels (operands.Plain written) = written.word
word_of labels (operands.Text bytes) = bytes_word bytes
word_of labels (operands.Zeros n) = zeros_word n

-- the words of these operands, each after a space
abbrev pub words_of : List Label → List Operand → List ℕ
words_of labels all = flat_map (λ o. 32 ∷ word_of labels o) all

-- the plain line of a line; a line with a state is a comment
abbrev pub line_text : Names → NamedLine → List ℕ
line_text names (lines.Aside text) = text
line_text names (lines.State text) = codes "# " ++ text
line_text names (lines.Thread t) =
    codes "thread " ++ decimal (thread_number names t) ++ 32
    ∷ decimal (process_number names.processes t.process) ++ 32 ∷ t.priority.word
line_text names (lines.Call c) =
    word_of names.labels c.caller ++ 32 ∷ script_word c.kind ++ words_of names.labels c.operands.items

-- the plain lines of these lines, which come after the lines that defined `names`; their names are replaced
unfoldable pub plain_lines : Names → List NamedLine → List (List ℕ)
plain_lines names [] = []
plain_lines names (line ∷ rest) = line_text names line ∷ plain_lines (with_line names line) rest

-- the plain script: the plain lines, each with its line end
abbrev pub plain_text : Names → List NamedLine → List ℕ
plain_text names all = flat_map (λ line. line ++ 10 ∷ []) (plain_lines names all)
