-- Written lines are read back.
use Rattle.qscript.proofs.Common.{AllByRecursion, Bool, Call, IsSmall, IsTyped, IsTypedMember, IsTypedOperand, List}
use Rattle.qscript.proofs.Common.{Member, Ok, Some, [], all_ascii_digits, ap, arith, bytes_eq, codes, decimal}
use Rattle.qscript.proofs.Common.{digits_decimal, false, le-ltb, length, length-append, length-decimal-le, list_all}
use Rattle.qscript.proofs.Common.{map, own, refl, subst, true, ℕ, ◌<◌, ◌^◌, ◌∙◌, ◌∷◌, ◌≡◌, ◌≤◌}
use Rattle.std.specs.Prelude.{Option}
use Rattle.std.specs.Option.{ok_or}
use Rattle.std.proofs.lemmas.Bool.{false_from_ne_true}
use Rattle.std.proofs.lemmas.Slice.Eq.{bytes_eq-Decides}
use Rattle.qmodel.specs.declared.call.Call.TheVariants as calls
use Rattle.qscript_text.specs.declared.reading.line.ScriptLine.TheVariants as lines
use Rattle.qmodel.specs.declared.kind.CallKind.{CallKind}
use Rattle.qmodel.specs.declared.kind.CallKind.TheVariants as kind
use Rattle.qmodel.specs.declared.operands.OperandKind.{OperandKind}
use Rattle.qmodel.specs.declared.operands.OperandKind.TheVariants as sort
use Rattle.qmodel.specs.Buffers.{buffer_of, bytes_of}
use Rattle.qmodel.specs.Kinds.{call_with, kind_named, kind_of, operands_of, script_word, sorts_of}
use Rattle.qscript_text.specs.declared.reading.forms.Values.{Values}
use Rattle.qscript_text.specs.declared.fault.LineFault.TheVariants.{UnknownWord}
use Rattle.qscript_text.specs.Reading.Call.{call_of}
use Rattle.qscript_text.specs.Reading.Counts.{first_of}
use Rattle.qscript_text.specs.Reading.Forms.{member_of, no_values, value_of, values_of}
use Rattle.qscript_text.specs.Reading.Line.{is_text, call_line_of, roster_line_of, said_of, line_of}
use Rattle.qscript_text.specs.Reading.Number.{number_of}
use Rattle.qscript_text.specs.Reading.Steps.{◌>>=◌}
use Rattle.qscript.specs.Writing.Line.{call_words, call_line, member_line, operand_word}
use Rattle.qscript.proofs.Written.Bytes.{bytes_word, bytes_back}
use Rattle.qscript.proofs.Written.Numbers.{number_back, priority_back, signed_word, integer_back}
use Rattle.qscript.proofs.Written.Words.{is_word, number_word, first_digit_not, words_in_row, line_text}

-- ---- the words of a call, and the call of the words

-- a number of a byte
small : (n : ℕ) → IsSmall n → (is_word (decimal n) ≡ true) × (number_of 256 (decimal n) ≡ Ok n)
small n h = (number_word n (omega (arith, h)), number_back 256 n h (omega (arith, h)))

-- the values with a call's operand of this sort
abbrev put : Call → OperandKind → Values → Values
put c sort.Thread v = record v { numbers = record v.numbers { thread = (operands_of c).thread } }
put c sort.Process v = record v { numbers = record v.numbers { process = (operands_of c).process } }
put c sort.Priority v = record v { numbers = record v.numbers { priority = (operands_of c).priority } }
put c sort.Flags v = record v { numbers = record v.numbers { flags = (operands_of c).flags } }
put c sort.Channel v = record v { numbers = record v.numbers { id = (operands_of c).id } }
put c sort.Connection v = record v { numbers = record v.numbers { id = (operands_of c).id } }
put c sort.ReceiveId v = record v { numbers = record v.numbers { id = (operands_of c).id } }
put c sort.Offset v = record v { numbers = record v.numbers { offset = (operands_of c).offset } }
put c sort.Status v = record v { numbers = record v.numbers { status = (operands_of c).status } }
put c sort.ErrorCode v = record v { numbers = record v.numbers { code = (operands_of c).code } }
put c sort.PulseCode v = record v { numbers = record v.numbers { pulse_code = (operands_of c).pulse_code } }
put c sort.Value v = record v { numbers = record v.numbers { value = (operands_of c).value } }
put c sort.Message v = record v { bytes = bytes_of c }
put c sort.Data v = record v { bytes = bytes_of c }
put c sort.ReplyBuffer v = record v { buffer = buffer_of c }
put c sort.Buffer v = record v { buffer = buffer_of c }

abbrev puts : Call → List OperandKind → Values → Values
puts c [] v = v
puts c (s ∷ sorts) v = puts c sorts (put c s v)

-- the word of an operand is a valid word, and is read back as the operand
operand_back : (c : Call) (s : OperandKind) (v : Values) → IsTypedOperand c s → (is_word (operand_word c s) ≡ true)
    × (value_of s (operand_word c s) v ≡ Ok (put c s v))
operand_back c s v h =
    grind (arith, small, number_word, number_back, priority_back, signed_word, integer_back, bytes_word, bytes_back)

operands_back : (c : Call) (sorts : List OperandKind) (v : Values) → AllByRecursion (IsTypedOperand c) sorts
    → (list_all is_word (map (operand_word c) sorts) ≡ true)
    × (values_of sorts (map (operand_word c) sorts) (Ok v) ≡ Ok (puts c sorts v))
operands_back c [] v h = (refl, refl)
operands_back c (s ∷ sorts) v h =
    let one = operand_back c s v h.0 in
    let more = operands_back c sorts (put c s v) h.1 in
    (rw (one.0, more.0) refl, ap (values_of sorts (map (operand_word c) sorts)) one.1 ∙ more.1)

kind_back : (k : CallKind) → (is_word (script_word k) ≡ true) × (kind_named (script_word k) ≡ Some k)
unfolding kind_named
kind_back kind.Shutdown = (refl, refl)
kind_back k = (refl, refl)

call_are_words : (c : Call) → IsTyped c → list_all is_word (call_words c) ≡ true
unfolding call_words
call_are_words c h = rw ((kind_back (kind_of c)).0, (operands_back c (sorts_of (kind_of c)) no_values h).0) refl

-- a call is the call with the values of its operands
call_made : (c : Call) → (let v = puts c (sorts_of (kind_of c)) no_values in
    call_with (kind_of c) v.numbers v.bytes v.buffer) ≡ c
call_made calls.Shutdown = refl
call_made c = refl

-- the words of a call are read as that call
call_named : (c : Call) → IsTyped c → (first_of (call_words c) >>= (λ ws. call_of ws.0 ws.1)) ≡ Ok c
unfolding call_words call_of
call_named c h =
    let sorts = sorts_of (kind_of c) in
    ap (λ (k : Option CallKind). ok_or k UnknownWord
    >>= (λ kind. values_of (sorts_of kind) (map (operand_word c) sorts) (Ok no_values)
    >>= (λ v. Ok (call_with kind v.numbers v.bytes v.buffer)))) (kind_back (kind_of c)).1
    ∙ ap (λ r. r >>= (λ v. Ok (call_with (kind_of c) v.numbers v.bytes v.buffer)))
    (operands_back c sorts no_values h).1 ∙ ap Ok (call_made c)

-- ---- lines

-- a number isn't the word `thread`
not_thread : (n : ℕ) → n < 2 ^ 64 → bytes_eq (decimal n) (codes "thread") ≡ false
not_thread n h = false_from_ne_true _ (λ e.
    let bad : all_ascii_digits (codes "thread") ≡ true =
    subst (λ w. all_ascii_digits w ≡ true) ((bytes_eq-Decides (decimal n) (codes "thread")).0 e)
    (digits_decimal own n h) in cc)

pub call_line_text : (thread : ℕ) (call : Call) → IsSmall thread → IsTyped call
    → list_all is_text (call_line thread call) ≡ true
call_line_text thread call t h = line_text (decimal thread) (call_words call) (small thread t).0 (call_are_words call h)

call_said : (words : List (List ℕ)) (thread : ℕ) (call : Call)
    → (first_of words >>= (λ ws. call_of ws.0 ws.1)) ≡ Ok call
    → (first_of words >>= (λ ws. call_of ws.0 ws.1 >>= (λ c. Ok (lines.Call thread c)))) ≡ Ok (lines.Call thread call)
call_said [] thread call e = cc
call_said (w ∷ ws) thread call e = rw e refl

-- the line of a call is read as that call of that thread
pub call_read : (is_late : Bool) (thread : ℕ) (call : Call) → IsSmall thread → IsTyped call
    → length (call_line thread call) ≤ 4096
    → line_of is_late (call_line thread call) ≡ Ok (lines.Call thread call)
unfolding line_of said_of call_line_of
call_read is_late thread call t h short =
    let wide : thread < 2 ^ 64 = omega (arith, t) in
    let words = words_in_row (decimal thread) (call_words call) (small thread t).0 (call_are_words call h) in
    rw (
      le-ltb 4096 (length (call_line thread call)) short,
      words,
      first_digit_not thread 35 wide (omega arith) (omega arith),
      call_line_text thread call t h,
      not_thread thread wide,
      (small thread t).1,
    )
    (call_said (call_words call) thread call (call_named call h))

-- ---- threads

-- the words of a thread's line after the first word
abbrev row : Member → List (List ℕ)
row m = decimal m.thread ∷ decimal m.process ∷ decimal m.priority ∷ []

row_words : (m : Member) → IsTypedMember m → list_all is_word (row m) ≡ true
row_words m h = rw ((small m.thread h.0).0, (small m.process h.1).0, number_word m.priority (omega (arith, h.2.1))) refl

pub member_line_text : (m : Member) → IsTypedMember m → list_all is_text (member_line m) ≡ true
member_line_text m h = line_text (codes "thread") (row m) refl (row_words m h)

three : (n : ℕ) → n < 256 → length (decimal n) ≤ 3
three n h = length-decimal-le 3 n (omega arith) (omega (arith, h)) (omega (arith, h))

member_short : (m : Member) → IsTypedMember m → length (member_line m) ≤ 4096
member_short m h =
    simp length-append (omega (arith, three m.thread h.0, three m.process h.1, three m.priority (omega (arith, h.2.1))))

-- the line of a thread is read as that thread, if it comes before the calls
pub member_read : (m : Member) → IsTypedMember m → line_of false (member_line m) ≡ Ok (lines.Roster m)
unfolding line_of said_of roster_line_of member_of
member_read m h =
    rw (
      le-ltb 4096 (length (member_line m)) (member_short m h),
      words_in_row (codes "thread") (row m) refl (row_words m h),
      member_line_text m h,
      (small m.thread h.0).1,
      (small m.process h.1).1,
      priority_back m.priority h.2.0 h.2.1,
    ) refl
