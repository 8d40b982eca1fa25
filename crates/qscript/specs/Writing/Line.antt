-- The lines of a written script.
use Rattle.std.specs.Prelude.{ℕ, List, [], ◌∷◌, ◌++◌, codes, decimal, map}
use Rattle.std.specs.Fmt.{signed_decimal}
use Rattle.qtables.specs.declared.member.Member.{Member}
use Rattle.qmodel.specs.declared.call.Call.{Call}
use Rattle.qmodel.specs.declared.operands.OperandKind.{OperandKind}
use Rattle.qmodel.specs.declared.operands.OperandKind.TheVariants as sort
use Rattle.qmodel.specs.Buffers.{buffer_of, bytes_of}
use Rattle.qmodel.specs.Kinds.{kind_of, operands_of, script_word, sorts_of}
use Rattle.qscript.specs.Printing.Buffer.{buffer_word}
use Rattle.qscript.specs.Printing.Words.{words_with_spaces}

-- the word for a call's operand of this sort
abbrev pub operand_word : Call → OperandKind → List ℕ
operand_word c sort.Thread = decimal (operands_of c).thread
operand_word c sort.Process = decimal (operands_of c).process
operand_word c sort.Priority = decimal (operands_of c).priority
operand_word c sort.Flags = decimal (operands_of c).flags
operand_word c sort.Channel = decimal (operands_of c).id
operand_word c sort.Connection = decimal (operands_of c).id
operand_word c sort.ReceiveId = decimal (operands_of c).id
operand_word c sort.Offset = decimal (operands_of c).offset
operand_word c sort.Status = signed_decimal (operands_of c).status
operand_word c sort.ErrorCode = signed_decimal (operands_of c).code
operand_word c sort.PulseCode = signed_decimal (operands_of c).pulse_code
operand_word c sort.Value = signed_decimal (operands_of c).value
operand_word c sort.Message = buffer_word (bytes_of c)
operand_word c sort.Data = buffer_word (bytes_of c)
operand_word c sort.ReplyBuffer = buffer_word (buffer_of c)
operand_word c sort.Buffer = buffer_word (buffer_of c)

-- a call's name and its operands
unfoldable pub call_words : Call → List (List ℕ)
call_words c = script_word (kind_of c) ∷ map (operand_word c) (sorts_of (kind_of c))

-- the line of a call: its thread, its name and its operands
abbrev pub call_line : ℕ → Call → List ℕ
call_line thread call = decimal thread ++ words_with_spaces (call_words call)

-- the line of a thread of the roster: its number, its process and its priority
abbrev pub member_line : Member → List ℕ
member_line m = codes "thread"
    ++ words_with_spaces (decimal m.thread ∷ decimal m.process ∷ decimal m.priority ∷ [])
