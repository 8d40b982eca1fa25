-- Plain texts are read back.
use Rattle.qscript_names.proofs.Common.{◌≡◌, ℕ, ◌+◌, ◌<◌, ◌∙◌, true, false, List, [], ◌∷◌, ◌++◌, length, nat_lt}
use Rattle.qscript_names.proofs.Common.{refl, sym, ap}
use Rattle.qscript_names.proofs.Common.{arith, append_assoc, length-append, if◌then◌else◌, Names, with_line, none}
use Rattle.std.proofs.Common.{Result, Ok, Err}
use Rattle.std.proofs.lemmas.Bool.{ne_eqb}
use Rattle.std.specs.List.{All, cons_option, list_all}
use Rattle.qtables.specs.declared.member.Member.{Member}
use Rattle.qmodel.specs.declared.call.Call.{Call}
use Rattle.qscript_text.specs.declared.fault.LineFault.{LineFault}
use Rattle.qscript_text.specs.declared.fault.ParseError.TheVariants as errors
use Rattle.qscript_text.specs.declared.reading.line.ScriptLine.{ScriptLine}
use Rattle.qscript_text.specs.Reading.Line.{is_text}
use Rattle.qscript_text.specs.Reading.Lines.{is_newline, lines_of}
use Rattle.qscript_text.specs.Reading.Meaning.{Says, TooLong, call_in, line_with, meaning, member_in}
use Rattle.qscript_text.proofs.Texts.Lines.{lines_at, lines_none}
use Rattle.qscript_text.proofs.Texts.Progress.{Stands, matches_err, matches_first, matches_last, matches_more}
use Rattle.qscript_text.proofs.Words.{of_lines, without_return}
use Rattle.qscript_names.specs.declared.line.NamedLine.{NamedLine}
use Rattle.qscript_names.specs.declared.line.NamedLine.TheVariants as lines
use Rattle.qscript_names.specs.Plain.{line_text, plain_lines, plain_text}
use Rattle.qscript_names.specs.ReadBack.{AllCanBeRead, CanBeRead}
use Rattle.qscript_names.specs.Resolution.{line_after}
use Rattle.qscript_names.specs.Translation.{meaning_after, meaning_of, with_content}
use Rattle.qscript_names.proofs.Replaced.{stays}
use Rattle.qscript_names.proofs.ReadBack.Words.{no_ends, no_return}
use Rattle.qscript_names.proofs.ReadBack.Lines.{call_line, line_back, thread_line}

-- a line of a text, which is read whole
abbrev IsWholeLine : List ℕ → Type 0
IsWholeLine line = All (λ b. is_newline b ≡ false) line × (without_return line ≡ line)

of_text : (line : List ℕ) → list_all is_text line ≡ true → IsWholeLine line
of_text line h = (no_ends line h, no_return line h)

whole : (names : Names) (line : NamedLine) → CanBeRead names line → IsWholeLine (line_text names line)
whole names (lines.Aside text) h = (h.0.0, rw (ne_eqb _ 13 h.0.1) refl)
whole names (lines.State text) h = (h.0, rw (ne_eqb _ 13 h.1) refl)
whole names (lines.Thread t) h = of_text _ (thread_line names t h).1
whole names (lines.Call c) h = of_text _ (call_line names c h).1

-- the first line of a plain text, and the lines after it
first_line : (names : Names) (line : NamedLine) (rest : List NamedLine) → CanBeRead names line
    → lines_of (plain_text names (line ∷ rest))
    ≡ line_text names line ∷ lines_of (plain_text (with_line names line) rest)
unfolding plain_lines
first_line names line rest h =
    let text = line_text names line in
    let back = plain_text (with_line names line) rest in
    let is = whole names line h in
    ap lines_of (append_assoc text (10 ∷ []) back) ∙ lines_at text 10 back is.0 refl
    ∙ ap (λ l. l ∷ lines_of back) is.1

shorter : (names : Names) (line : NamedLine) (rest : List NamedLine)
    → length (plain_text (with_line names line) rest) < length (plain_text names (line ∷ rest))
unfolding plain_lines
shorter names line rest = simp length-append (omega arith)

-- a plain line after others is read as the line after them
line_read : (names : Names) (line : NamedLine) (r : List Member) (c : List (ℕ × Call)) → CanBeRead names line
    → line_with r c (line_text names line) ≡ line_after names line r (nat_lt 0 (length c))
unfolding line_with
line_read names line r c h = line_back names line r (nat_lt 0 (length c)) h

-- a line with this content, and the lines after it
one_read : (text : List ℕ) (names : Names) (line : NamedLine) (rest : List NamedLine) (n : ℕ) (r : List Member)
    (c : List (ℕ × Call)) → CanBeRead names line → Stands text (plain_text names (line ∷ rest)) n r c
    → ((s : List Member) (d : List (ℕ × Call))
    → Stands text (plain_text (with_line names line) rest) (n + 1) s d
    → of_lines (lines_of text) ≡ meaning_after (with_line names line) (n + 1) (Says s d) rest)
    → (x : Result ScriptLine LineFault) → line_after names line r (nat_lt 0 (length c)) ≡ x
    → of_lines (lines_of text) ≡ meaning_after (with_line names line) (n + 1) (with_content (n + 1) x r c) rest
one_read text names line rest n r c h stand more (Ok l) is =
    more (r ++ cons_option (member_in (Ok l)) []) (c ++ cons_option (call_in (Ok l)) [])
    (matches_more text (plain_text names (line ∷ rest)) (plain_text (with_line names line) rest) (line_text names line)
    n r c stand (first_line names line rest h) (shorter names line rest) l (line_read names line r c h ∙ is))
one_read text names line rest n r c h stand more (Err f) is =
    matches_err text (plain_text names (line ∷ rest)) (plain_text (with_line names line) rest) (line_text names line)
    n r c stand (first_line names line rest h) (errors.Fault f) (line_read names line r c h ∙ is)
    ∙ sym (stays (with_line names line) (n + 1) (n + 1) f rest)

-- the plain text of these lines, as the rest of a text, is read as these lines
rest_read : (text : List ℕ) (names : Names) (all : List NamedLine) (n : ℕ) (r : List Member) (c : List (ℕ × Call))
    → AllCanBeRead names all → Stands text (plain_text names all) n r c
    → of_lines (lines_of text) ≡ meaning_after names n (Says r c) all
unfolding plain_lines meaning_after
rest_read text names [] n r c h stand = matches_last text [] n r c stand (lines_none [] refl)
rest_read text names (line ∷ rest) n r c h stand =
    one_read text names line rest n r c h.0 stand
    (λ s d next. rest_read text (with_line names line) rest (n + 1) s d h.1 next)
    (line_after names line r (nat_lt 0 (length c))) refl

-- a plain text that can be read back means what its lines mean
pub text_read : (all : List NamedLine) → AllCanBeRead none all → meaning (plain_text none all) ≡ meaning_of all
unfolding meaning meaning_of
text_read all h =
    ap (λ m. if nat_lt 4194304 (length (plain_text none all)) then TooLong else m)
    (rest_read (plain_text none all) none all 0 [] [] h (matches_first (plain_text none all)))
