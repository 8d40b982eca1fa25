-- The operands of a line, by their sorts. Ids and offsets are numbers of 64 bits. Threads, processes and
-- flags are numbers of a byte.
use Rattle.std.specs.Prelude.{ℕ, ◌^◌, List, [], ◌∷◌, Result, Ok, Err}
use Rattle.qtables.specs.declared.member.Member.{Member}
use Rattle.qmodel.specs.declared.operands.OperandKind.{OperandKind}
use Rattle.qmodel.specs.declared.operands.OperandKind.TheVariants as sort
use Rattle.qmodel.specs.Operands.{no_operands}
use Rattle.qscript_text.specs.declared.fault.LineFault.{LineFault}
use Rattle.qscript_text.specs.declared.fault.LineFault.TheVariants.{WordCount}
use Rattle.qscript_text.specs.declared.reading.forms.Values.{Values}
use Rattle.qscript_text.specs.declared.reading.operand_value.OperandValue.{OperandValue}
use Rattle.qscript_text.specs.declared.reading.operand_value.OperandValue.TheVariants as value
use Rattle.qscript_text.specs.Reading.Steps.{◌>>=◌}
use Rattle.qscript_text.specs.Reading.Number.{below, number_of, integer_of, priority_of}
use Rattle.qscript_text.specs.Reading.Operand.{bytes_of}

-- the values of no operands
abbrev pub no_values : Values
no_values = record { numbers = no_operands; bytes = []; buffer = [] }

-- the value of a word as an operand of this sort. A status is a signed number of 64 bits, a code or a value
-- one of 32 bits, and the code of a pulse one of 8 bits
abbrev pub operand_of : OperandKind → List ℕ → Result OperandValue LineFault
operand_of sort.Thread word = number_of 256 word >>= (λ n. Ok (value.Thread n))
operand_of sort.Process word = number_of 256 word >>= (λ n. Ok (value.Process n))
operand_of sort.Priority word = priority_of word >>= (λ n. Ok (value.Priority n))
operand_of sort.Flags word = number_of 256 word >>= (λ n. Ok (value.Flags n))
operand_of sort.Channel word = number_of (2 ^ 64) word >>= (λ n. Ok (value.Id n))
operand_of sort.Connection word = number_of (2 ^ 64) word >>= (λ n. Ok (value.Id n))
operand_of sort.ReceiveId word = number_of (2 ^ 64) word >>= (λ n. Ok (value.Id n))
operand_of sort.Offset word = number_of (2 ^ 64) word >>= (λ n. Ok (value.Offset n))
operand_of sort.Status word = integer_of (2 ^ 63) word >>= (λ n. Ok (value.Status n))
operand_of sort.ErrorCode word = integer_of (2 ^ 31) word >>= (λ n. Ok (value.ErrorCode n))
operand_of sort.PulseCode word = integer_of (2 ^ 7) word >>= (λ n. Ok (value.PulseCode n))
operand_of sort.Value word = integer_of (2 ^ 31) word >>= (λ n. Ok (value.Value n))
operand_of sort.Message word = bytes_of word >>= (λ bytes. Ok (value.Bytes bytes))
operand_of sort.Data word = bytes_of word >>= (λ bytes. Ok (value.Bytes bytes))
operand_of sort.ReplyBuffer word = bytes_of word >>= (λ bytes. Ok (value.Buffer bytes))
operand_of sort.Buffer word = bytes_of word >>= (λ bytes. Ok (value.Buffer bytes))

-- the values with this operand
abbrev pub with_value : OperandValue → Values → Values
with_value (value.Thread n) v = record v { numbers = record v.numbers { thread = n } }
with_value (value.Process n) v = record v { numbers = record v.numbers { process = n } }
with_value (value.Priority n) v = record v { numbers = record v.numbers { priority = n } }
with_value (value.Flags n) v = record v { numbers = record v.numbers { flags = n } }
with_value (value.Id n) v = record v { numbers = record v.numbers { id = n } }
with_value (value.Offset n) v = record v { numbers = record v.numbers { offset = n } }
with_value (value.Status n) v = record v { numbers = record v.numbers { status = n } }
with_value (value.ErrorCode n) v = record v { numbers = record v.numbers { code = n } }
with_value (value.PulseCode n) v = record v { numbers = record v.numbers { pulse_code = n } }
with_value (value.Value n) v = record v { numbers = record v.numbers { value = n } }
with_value (value.Bytes bytes) v = record v { bytes = bytes }
with_value (value.Buffer bytes) v = record v { buffer = bytes }

-- the values with the word of an operand of this sort
abbrev pub value_of : OperandKind → List ℕ → Values → Result Values LineFault
value_of s word v = operand_of s word >>= (λ x. Ok (with_value x v))

-- the values with a number as the operand of this sort: a thread, flags, or an id for any other sort
abbrev pub number_at : OperandKind → ℕ → Values → Result Values LineFault
number_at sort.Thread n v =
    below 256 n >>= (λ thread. Ok (record v { numbers = record v.numbers { thread = thread } }))
number_at sort.Flags n v =
    below 256 n >>= (λ flags. Ok (record v { numbers = record v.numbers { flags = flags } }))
number_at other n v = Ok (record v { numbers = record v.numbers { id = n } })

-- the values with bytes as the operand of this sort: a buffer, or else a message or data
abbrev pub bytes_at : OperandKind → List ℕ → Values → Values
bytes_at sort.ReplyBuffer bytes v = record v { buffer = bytes }
bytes_at sort.Buffer bytes v = record v { buffer = bytes }
bytes_at other bytes v = record v { bytes = bytes }

-- the values with the words of operands of these sorts, or the first fault. A wrong number of words comes
-- before all other faults, and an earlier fault before a later one
abbrev pub values_of : List OperandKind → List (List ℕ) → Result Values LineFault → Result Values LineFault
values_of [] [] read = read
values_of (s ∷ sorts) (word ∷ words) read = values_of sorts words (read >>= value_of s word)
values_of sorts words read = Err WordCount

-- the member of a roster line: a thread, its process and its base priority
unfoldable pub member_of : List (List ℕ) → Result Member LineFault
member_of operands = do
  v ← values_of (sort.Thread ∷ sort.Process ∷ sort.Priority ∷ []) operands (Ok no_values)
  Ok (record { thread = v.numbers.thread; process = v.numbers.process; priority = v.numbers.priority })
