-- A script has the threads and the calls of its lines.
use Rattle.qscript_names.proofs.Common.{◌≡◌, ℕ, ◌+◌, List, [], ◌∷◌, ◌++◌, refl, sym, ap, ◌∙◌, Bool, true, false, cond}
use Rattle.qscript_names.proofs.Common.{append_assoc, length, nat_lt, Names, with_line}
use Rattle.std.proofs.Common.{append-nil, Result, Ok, Err}
use Rattle.std.specs.List.{cons_option}
use Rattle.qtables.specs.declared.member.Member.{Member}
use Rattle.qmodel.specs.declared.call.Call.{Call}
use Rattle.qscript_text.specs.declared.fault.LineFault.{LineFault}
use Rattle.qscript_text.specs.declared.fault.LineFault.TheVariants.{LongLine}
use Rattle.qscript_text.specs.declared.reading.line.ScriptLine.{ScriptLine}
use Rattle.qscript_text.specs.Reading.Meaning.{Meaning, TooLong, Faulty, Says, call_in, line_after_roster, member_in}
use Rattle.qscript_text.specs.Reading.Steps.{◌>>=◌}
use Rattle.qscript_text.proofs.Texts.Early.{bind_ok, placed_keeps}
use Rattle.qscript_names.specs.declared.line.NamedLine.{NamedLine}
use Rattle.qscript_names.specs.declared.line.NamedLine.TheVariants as lines
use Rattle.qscript_names.specs.Names.{none}
use Rattle.qscript_names.specs.Plain.{line_text, plain_text}
use Rattle.qscript_names.specs.Resolution.{calls_of, content_of, content_within, line_after, members_of}
use Rattle.qscript_names.specs.Translation.{meaning_after, meaning_of, with_content}

-- ---- one line

ok_value : {x y : ScriptLine} → x ≡ y → (let r : Result ScriptLine LineFault = Ok x in r) ≡ Ok y
ok_value e = cc

within_ok : (b : Bool) (x : Result ScriptLine LineFault) (roster : List Member) (l : ScriptLine)
    → cond b (Err LongLine) (x >>= line_after_roster roster) ≡ Ok l → x ≡ Ok l
within_ok true x roster l h = cc
within_ok false x roster l h =
    let b = bind_ok x (line_after_roster roster) l h in b.1 ∙ ok_value (placed_keeps roster b.0 l b.2)

early : (is_late : Bool) (names : Names) (line : NamedLine) (l : ScriptLine) → content_of is_late names line ≡ Ok l
    → content_of false names line ≡ Ok l
early is_late names (lines.Aside text) l h = h
early is_late names (lines.State text) l h = h
early true names (lines.Thread t) l h = cc
early false names (lines.Thread t) l h = h
early is_late names (lines.Call c) l h = h

-- a line that has this content after other lines has it without them, too
alone : (roster : List Member) (is_late : Bool) (names : Names) (line : NamedLine) (l : ScriptLine)
    → line_after names line roster is_late ≡ Ok l → content_of false names line ≡ Ok l
unfolding content_within
alone roster is_late names line l h =
    early is_late names line l
    (within_ok (nat_lt 4096 (length (line_text names line))) (content_of is_late names line) roster l h)

-- ---- all lines

-- the first fault stays
pub stays : (names : Names) (n m : ℕ) (f : LineFault) (all : List NamedLine) → meaning_after names n (Faulty m f) all
    ≡ Faulty m f
unfolding meaning_after
stays names n m f [] = refl
stays names n m f (line ∷ rest) = stays (with_line names line) (n + 1) m f rest

-- the roster and the calls of a meaning that has them
abbrev roster_in : Meaning → List Member → List Member
roster_in (Says roster calls) other = roster
roster_in TooLong other = other
roster_in (Faulty n f) other = other

abbrev calls_in : Meaning → List (ℕ × Call) → List (ℕ × Call)
calls_in (Says roster calls) other = calls
calls_in TooLong other = other
calls_in (Faulty n f) other = other

same_says : (r s : List Member) (c d : List (ℕ × Call)) → Says r c ≡ Says s d → (s ≡ r) × (d ≡ c)
same_says r s c d e = (sym (ap (λ m. roster_in m r) e), sym (ap (λ m. calls_in m c) e))

-- the roster and the calls so far, and then the members and the calls of these lines, make the whole
abbrev IsWhole : Names → List NamedLine → List Member → List (ℕ × Call) → List Member → List (ℕ × Call) → Type 0
IsWhole names all r c roster calls = (roster ≡ r ++ members_of names all) × (calls ≡ c ++ calls_of names all)

-- a line has this content, and the lines after it make the whole
one_line : (names : Names) (n : ℕ) (r : List Member) (c : List (ℕ × Call)) (line : NamedLine) (rest : List NamedLine)
    (roster : List Member) (calls : List (ℕ × Call))
    → ((s : List Member) (d : List (ℕ × Call))
    → meaning_after (with_line names line) (n + 1) (Says s d) rest ≡ Says roster calls
    → IsWhole (with_line names line) rest s d roster calls)
    → (x : Result ScriptLine LineFault) → line_after names line r (nat_lt 0 (length c)) ≡ x
    → meaning_after (with_line names line) (n + 1) (with_content (n + 1) x r c) rest ≡ Says roster calls
    → IsWhole names (line ∷ rest) r c roster calls
unfolding members_of calls_of
one_line names n r c line rest roster calls more (Err f) is e =
    cc (stays (with_line names line) (n + 1) (n + 1) f rest, e)
one_line names n r c line rest roster calls more (Ok l) is e =
    let ms = cons_option (member_in (Ok l)) [] in
    let cs = cons_option (call_in (Ok l)) [] in
    let whole = more (r ++ ms) (c ++ cs) e in
    rw (alone r (nat_lt 0 (length c)) names line l is) (
      whole.0 ∙ append_assoc r ms (members_of (with_line names line) rest),
      whole.1 ∙ append_assoc c cs (calls_of (with_line names line) rest),
    )

from_lines : (names : Names) (n : ℕ) (r : List Member) (c : List (ℕ × Call)) (all : List NamedLine)
    (roster : List Member) (calls : List (ℕ × Call)) → meaning_after names n (Says r c) all ≡ Says roster calls
    → IsWhole names all r c roster calls
unfolding meaning_after members_of calls_of
from_lines names n r c [] roster calls e =
    let same = same_says r roster c calls e in (same.0 ∙ sym (append-nil r), same.1 ∙ sym (append-nil c))
from_lines names n r c (line ∷ rest) roster calls e =
    one_line names n r c line rest roster calls
    (λ s d more. from_lines (with_line names line) (n + 1) s d rest roster calls more)
    (line_after names line r (nat_lt 0 (length c))) refl e

from_length : (b : Bool) (m : Meaning) (roster : List Member) (calls : List (ℕ × Call))
    → cond b TooLong m ≡ Says roster calls → m ≡ Says roster calls
from_length true m roster calls e = cc
from_length false m roster calls e = e

-- a script with names has the roster and the calls of its lines
pub said : (all : List NamedLine) (roster : List Member) (calls : List (ℕ × Call)) → meaning_of all ≡ Says roster calls
    → (roster ≡ members_of none all) × (calls ≡ calls_of none all)
unfolding meaning_of
said all roster calls e =
    from_lines none 0 [] [] all roster calls
    (from_length (nat_lt 4194304 (length (plain_text none all))) (meaning_after none 0 (Says [] []) all) roster calls e)
