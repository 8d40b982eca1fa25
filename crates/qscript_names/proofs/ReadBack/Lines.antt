-- Plain lines are read back.
use Rattle.qscript_names.proofs.Common.{◌≡◌, ℕ, ◌∙◌, Bool, true, false, List, [], ◌∷◌, ◌++◌, length, nat_lt, cond}
use Rattle.qscript_names.proofs.Common.{if◌then◌else◌}
use Rattle.qscript_names.proofs.Common.{refl, ap, arith, map, append_assoc, Some, bytes_eq, Label, Names, words_of}
use Rattle.std.specs.Prelude.{◌==◌, Option, slice_index, decimal, codes}
use Rattle.std.proofs.Common.{Result, Ok, Err, append-nil}
use Rattle.std.specs.Char.{is_ascii_digit}
use Rattle.std.specs.List.{list_all}
use Rattle.std.specs.Option.{ok_or}
use Rattle.std.proofs.lemmas.Bool.Decides.{nat_tests}
use Rattle.qtables.specs.declared.member.Member.{Member}
use Rattle.qmodel.specs.declared.kind.CallKind.{CallKind}
use Rattle.qmodel.specs.declared.kind.CallKind.TheVariants as kind
use Rattle.qmodel.specs.declared.operands.OperandKind.{OperandKind}
use Rattle.qmodel.specs.declared.operands.OperandKind.TheVariants as sorts
use Rattle.qmodel.specs.Kinds.{call_with, kind_named, script_word, sorts_of}
use Rattle.qscript_text.specs.declared.fault.LineFault.{LineFault}
use Rattle.qscript_text.specs.declared.fault.LineFault.TheVariants.{LateThread, LongLine, UnknownWord}
use Rattle.qscript_text.specs.declared.reading.forms.Values.{Values}
use Rattle.qscript_text.specs.declared.reading.operand_value.OperandValue.TheVariants as value
use Rattle.qscript_text.specs.declared.reading.line.ScriptLine.{ScriptLine}
use Rattle.qscript_text.specs.declared.reading.line.ScriptLine.TheVariants as contents
use Rattle.qscript_text.specs.Reading.Call.{call_of}
use Rattle.qscript_text.specs.Reading.Forms.{member_of, no_values, values_of, with_value}
use Rattle.qscript_text.specs.Reading.Line.{call_line_of, is_text, line_of, roster_line_of, said_of}
use Rattle.qscript_text.specs.Reading.Meaning.{line_after_roster, line_behind}
use Rattle.qscript_text.specs.Reading.Number.{number_of, priority_of}
use Rattle.qscript_text.specs.Reading.Steps.{◌>>=◌}
use Rattle.qscript_text.specs.Reading.TextLaws.{is_passed_over}
use Rattle.qscript_text.specs.Reading.Words.{words_of as words_in}
use Rattle.qscript_names.specs.declared.line.CallLine.{CallLine}
use Rattle.qscript_names.specs.declared.line.Operand.{Operand}
use Rattle.qscript_names.specs.declared.line.ThreadLine.{ThreadLine}
use Rattle.qscript_names.specs.declared.line.NamedLine.{NamedLine}
use Rattle.qscript_names.specs.declared.line.NamedLine.TheVariants as lines
use Rattle.qscript_names.specs.Names.{process_number, thread_number}
use Rattle.qscript_names.specs.Plain.{line_text, word_of}
use Rattle.qscript_names.specs.ReadBack.{AreOperands, CanBeRead, IsCall, is_word}
use Rattle.qscript_names.specs.Resolution.{call_content, content_of, content_within, member_content, with_operand}
use Rattle.qscript_names.specs.Resolution.{call_of as resolved_call}
use Rattle.qscript_names.proofs.ReadBack.Words.{number_word, text_alone, text_before, words_alone, words_before}
use Rattle.qscript_names.proofs.ReadBack.Operands.{below_back, operand_back, operands_back}

-- ---- the words of a line

-- a word, and the words of operands after it
operand_words : (labels : List Label) (w : List ℕ) (ss : List OperandKind) (all : List Operand) → is_word w ≡ true
    → AreOperands labels ss all
    → (words_in (w ++ words_of labels all) ≡ w ∷ map (word_of labels) all)
    × (list_all is_text (w ++ words_of labels all) ≡ true)
operand_words labels w [] [] h ops =
    rw (append-nil w) (words_alone w h, text_alone w h)
operand_words labels w (s ∷ ss) (o ∷ all) h ops =
    let v = word_of labels o in
    let more = operand_words labels v ss all (operand_back labels s o no_values ops.0).0 ops.1 in (
      words_before w (v ++ words_of labels all) h ∙ ap (λ vs. w ∷ vs) more.0,
      text_before w (v ++ words_of labels all) h more.1,
    )
operand_words labels w [] (o ∷ all) h ops = absurd ops
operand_words labels w (s ∷ ss) [] h ops = absurd ops

kind_back : (k : CallKind) → (is_word (script_word k) ≡ true) × (kind_named (script_word k) ≡ Some k)
unfolding kind_named
kind_back kind.Shutdown = (refl, refl)
kind_back k = (refl, refl)

-- ---- calls

-- the words of a call are read as the call
call_back : (labels : List Label) (k : CallKind) (all : List Operand) → AreOperands labels (sorts_of k) all
    → call_of (script_word k) (map (word_of labels) all) ≡ resolved_call labels k all
unfolding call_of
call_back labels k all h =
    ap (λ (found : Option CallKind). ok_or found UnknownWord
    >>= (λ kind. values_of (sorts_of kind) (map (word_of labels) all) (Ok no_values)
    >>= (λ v. Ok (call_with kind v.numbers v.bytes v.buffer)))) (kind_back k).1
    ∙ ap (λ r. r >>= (λ v. Ok (call_with k v.numbers v.bytes v.buffer)))
    (operands_back labels (sorts_of k) all no_values h)

-- the thread of a caller's word is the thread of the caller
caller_back : (r : Result ℕ LineFault) (read : Result Values LineFault) (next : ℕ → Result ScriptLine LineFault)
    → ((r >>= (λ n. Ok (value.Thread n))) >>= (λ o. Ok (with_value o no_values))) ≡ read
    → (r >>= next) ≡ (read >>= (λ v. next v.numbers.thread))
caller_back (Ok n) read next e = rw (← e) refl
caller_back (Err f) read next e = rw (← e) refl

-- a word that begins with a digit is neither a comment nor the word `thread`
no_comment : (w : List ℕ) → is_ascii_digit (slice_index w 0) ≡ true → (slice_index w 0 == 35) ≡ false
no_comment w h = grind (arith, nat_tests)

no_thread : (w : List ℕ) → is_ascii_digit (slice_index w 0) ≡ true → bytes_eq w (codes "thread") ≡ false
no_thread [] h = refl
no_thread (x ∷ xs) h = grind (arith, nat_tests)

-- the words of a call's line are read as the line
said_call : (is_late : Bool) (line : List ℕ) (words : List (List ℕ)) (labels : List Label) (c : CallLine)
    → IsCall labels c → words ≡ word_of labels c.caller ∷ script_word c.kind ∷ map (word_of labels) c.operands.items
    → list_all is_text line ≡ true → said_of is_late line words ≡ call_content labels c
unfolding said_of call_line_of call_content
said_call is_late line words labels c h is text =
    let w = word_of labels c.caller in
    rw (is, no_comment w h.1, text, no_thread w h.1, call_back labels c.kind c.operands.items h.2)
    (caller_back (number_of 256 w) (with_operand labels sorts.Thread c.caller no_values)
    (λ thread. resolved_call labels c.kind c.operands.items >>= (λ call. Ok (contents.Call thread call)))
    (operand_back labels sorts.Thread c.caller no_values h.0).1)

-- the words of a call's line, and its text
pub call_line : (names : Names) (c : CallLine) → IsCall names.labels c
    → (words_in (line_text names (lines.Call c))
    ≡ word_of names.labels c.caller ∷ script_word c.kind ∷ map (word_of names.labels) c.operands.items)
    × (list_all is_text (line_text names (lines.Call c)) ≡ true)
call_line names c h =
    let labels = names.labels in
    let w = word_of labels c.caller in
    let back = script_word c.kind ++ words_of labels c.operands.items in
    let first = (operand_back labels sorts.Thread c.caller no_values h.0).0 in
    let rest = operand_words labels (script_word c.kind) (sorts_of c.kind) c.operands.items (kind_back c.kind).0 h.2 in
    let joined = append_assoc w (32 ∷ script_word c.kind) (words_of labels c.operands.items) in (
      ap words_in joined ∙ words_before w back first ∙ ap (λ ws. w ∷ ws) rest.0,
      ap (list_all is_text) joined ∙ text_before w back first rest.1,
    )

-- ---- threads

-- the words of a thread's line after the first word
abbrev thread_words : Names → ThreadLine → List (List ℕ)
thread_words names t =
    decimal (thread_number names t) ∷ decimal (process_number names.processes t.process) ∷ t.priority.word ∷ []

-- three numbers that are read one after another
three : (x y z : Result ℕ LineFault)
    → (((((x >>= (λ n. Ok (value.Thread n))) >>= (λ o. Ok (with_value o no_values)))
    >>= (λ (v : Values). (y >>= (λ n. Ok (value.Process n))) >>= (λ o. Ok (with_value o v))))
    >>= (λ (v : Values). (z >>= (λ n. Ok (value.Priority n))) >>= (λ o. Ok (with_value o v))))
    >>= (λ (v : Values). (let r : Result Member LineFault =
    Ok (record { thread = v.numbers.thread; process = v.numbers.process; priority = v.numbers.priority }) in r))
    >>= (λ m. Ok (contents.Roster m)))
    ≡ (x >>= (λ thread. y >>= (λ process. z >>= (λ priority.
    Ok (contents.Roster (record { thread = thread; process = process; priority = priority }))))))
three (Ok x) (Ok y) (Ok z) = refl
three (Ok x) (Ok y) (Err f) = refl
three (Ok x) (Err f) z = refl
three (Err f) y z = refl

-- the words of a thread are read as the thread
member_back : (names : Names) (t : ThreadLine) → CanBeRead names (lines.Thread t)
    → (member_of (thread_words names t) >>= (λ m. Ok (contents.Roster m))) ≡ member_content names t
unfolding member_of member_content
member_back names t h =
    three (number_of 256 (decimal (thread_number names t)))
    (number_of 256 (decimal (process_number names.processes t.process))) (priority_of t.priority.word)
    ∙ rw (
      below_back 256 (thread_number names t) h.0,
      below_back 256 (process_number names.processes t.process) h.1,
      h.3,
    ) refl

-- the words of a thread's line are read as the line
said_thread : (is_late : Bool) (line : List ℕ) (words : List (List ℕ)) (names : Names) (t : ThreadLine)
    → CanBeRead names (lines.Thread t) → words ≡ codes "thread" ∷ thread_words names t → list_all is_text line ≡ true
    → said_of is_late line words ≡ content_of is_late names (lines.Thread t)
unfolding said_of roster_line_of
said_thread is_late line words names t h is text =
    rw (is, text) (ap (λ r. if is_late then Err LateThread else r) (member_back names t h))

-- the words of a thread's line, and its text
pub thread_line : (names : Names) (t : ThreadLine) → CanBeRead names (lines.Thread t)
    → (words_in (line_text names (lines.Thread t)) ≡ codes "thread" ∷ thread_words names t)
    × (list_all is_text (line_text names (lines.Thread t)) ≡ true)
thread_line names t h =
    let a = decimal (thread_number names t) in
    let b = decimal (process_number names.processes t.process) in
    let a_word = number_word (thread_number names t) h.0 in
    let b_word = number_word (process_number names.processes t.process) h.1 in
    let joined = append_assoc a (32 ∷ b) (32 ∷ t.priority.word) in (
      words_before (codes "thread") (a ++ 32 ∷ b ++ 32 ∷ t.priority.word) refl
          ∙ ap (λ line. codes "thread" ∷ words_in line) joined
          ∙ ap (λ ws. codes "thread" ∷ ws) (words_before a (b ++ 32 ∷ t.priority.word) a_word)
          ∙ ap (λ ws. codes "thread" ∷ a ∷ ws) (words_before b t.priority.word b_word)
          ∙ ap (λ ws. codes "thread" ∷ a ∷ b ∷ ws) (words_alone t.priority.word h.2),
      text_before (codes "thread") (a ++ 32 ∷ b ++ 32 ∷ t.priority.word) refl
          (ap (list_all is_text) joined ∙ text_before a (b ++ 32 ∷ t.priority.word) a_word
          (text_before b t.priority.word b_word (text_alone t.priority.word h.2))),
    )

-- ---- any line

-- a skipped line is blank
passed_said : (is_late : Bool) (line : List ℕ) (words : List (List ℕ)) → is_passed_over words ≡ true
    → said_of is_late line words ≡ Ok contents.Blank
unfolding said_of
passed_said is_late line [] h = refl
passed_said is_late line (first ∷ rest) h = rw h refl

-- the words of a line are read as its content
said : (is_late : Bool) (names : Names) (line : NamedLine) → CanBeRead names line
    → said_of is_late (line_text names line) (words_in (line_text names line)) ≡ content_of is_late names line
said is_late names (lines.Aside text) h = passed_said is_late text (words_in text) h.1
said is_late names (lines.State text) h =
    passed_said is_late (codes "# " ++ text) (words_in (codes "# " ++ text))
    (ap is_passed_over (words_before (codes "#") text refl))
said is_late names (lines.Thread t) h =
    let line = thread_line names t h in
    said_thread is_late (line_text names (lines.Thread t)) (words_in (line_text names (lines.Thread t))) names t h
    line.0
    line.1
said is_late names (lines.Call c) h =
    let line = call_line names c h in
    said_call is_late (line_text names (lines.Call c)) (words_in (line_text names (lines.Call c))) names.labels c h
    line.0
    line.1

past_guard : (b : Bool) (x : Result ScriptLine LineFault) (next : ScriptLine → Result ScriptLine LineFault)
    → (cond b (Err LongLine) x >>= next) ≡ cond b (Err LongLine) (x >>= next)
past_guard true x next = refl
past_guard false x next = refl

-- a plain line after a roster is read as the line after the roster
pub line_back : (names : Names) (line : NamedLine) (roster : List Member) (is_late : Bool) → CanBeRead names line
    → line_behind roster is_late (line_text names line)
    ≡ content_within (length (line_text names line)) names line roster is_late
unfolding line_behind line_of content_within
line_back names line roster is_late h =
    rw (said is_late names line h)
    (past_guard (nat_lt 4096 (length (line_text names line))) (content_of is_late names line)
    (line_after_roster roster))
