-- How many lines of a text have been read.
use Rattle.qscript_text.proofs.Common.{◌≡◌, ℕ, zero, suc, ◌+◌, ◌-◌, ◌<◌, ◌≤◌, List, [], ◌∷◌, ◌++◌, false, length, take}
use Rattle.qscript_text.proofs.Common.{drop, get_or, refl, sym, ap, ◌∙◌, arith, Option, Some, None, Result, Ok, Err}
use Rattle.qscript_text.proofs.Common.{add-one, add-zero, add-suc, cons_option, le-ltb, take_more, take_all, drop_more}
use Rattle.qscript_text.proofs.Common.{length-drop, filter_map-append, Member, Call, ScriptLine, LineFault, Fails}
use Rattle.qscript_text.proofs.Common.{lines_of}
use Rattle.qscript_text.specs.declared.fault.ParseError.{ParseError}
use Rattle.qscript_text.specs.declared.fault.ParseError.TheVariants as errors
use Rattle.qscript_text.specs.declared.fault.ScriptFault.{ScriptFault}
use Rattle.qscript_text.specs.declared.fault.ScriptFault.TheVariants as scripts
use Rattle.qscript_text.specs.Reading.Line.{line_of}
use Rattle.qscript_text.specs.Reading.Meaning.{TooLong, Faulty, Says, meaning, of_line, IsFaultOf, member_in, call_in}
use Rattle.qscript_text.specs.Reading.Meaning.{roster_of, calls_of, line_with, line_after, first_fault}
use Rattle.qscript_text.proofs.Words.{fault_or, of_lines}
use Rattle.qscript_text.proofs.Texts.Early.{alone}

-- ---- the first lines of a list

-- the first n lines have been read, and have no fault
pub record Reads (ls : List (List ℕ)) (n : ℕ) (ms : List Member) (cs : List (ℕ × Call)) : Type 0 where
  pub roster : ms ≡ roster_of (take n ls)
  pub calls : cs ≡ calls_of (take n ls)
  pub clean : first_fault ls n ≡ None

reads_none : (ls : List (List ℕ)) → Reads ls 0 [] []
unfolding roster_of calls_of first_fault
reads_none ls = record { roster = refl; calls = refl; clean = refl }

-- the next line, as the loop reads it
next_line : (ls : List (List ℕ)) (n : ℕ) (ms : List Member) (cs : List (ℕ × Call)) → Reads ls n ms cs
    → (r : Result ScriptLine LineFault) → line_with ms cs (get_or ls n []) ≡ r → line_after (take n ls) (get_or ls n [])
    ≡ r
unfolding line_after
next_line ls n ms cs h r e = rw (← h.roster, ← h.calls) e

-- the next line has no fault
no_fault : (ls : List (List ℕ)) (n : ℕ) (ms : List Member) (cs : List (ℕ × Call)) → Reads ls n ms cs
    → (l : ScriptLine) → line_with ms cs (get_or ls n []) ≡ Ok l → first_fault ls (n + 1) ≡ None
unfolding first_fault
no_fault ls n ms cs h l e = rw (add-one, h.clean, next_line ls n ms cs h (Ok l) e)

pub roster_more : (ls : List (List ℕ)) (n : ℕ) (l : ScriptLine) → n < length ls → line_of false (get_or ls n []) ≡ Ok l
    → roster_of (take (n + 1) ls) ≡ roster_of (take n ls) ++ cons_option (member_in (Ok l)) []
unfolding roster_of
roster_more ls n l h e = rw (take_more ls n [] h, filter_map-append, e)

pub calls_more : (ls : List (List ℕ)) (n : ℕ) (l : ScriptLine) → n < length ls → line_of false (get_or ls n []) ≡ Ok l
    → calls_of (take (n + 1) ls) ≡ calls_of (take n ls) ++ cons_option (call_in (Ok l)) []
unfolding calls_of
calls_more ls n l h e = rw (take_more ls n [] h, filter_map-append, e)

reads_more : (ls : List (List ℕ)) (n : ℕ) (ms : List Member) (cs : List (ℕ × Call)) → Reads ls n ms cs → n < length ls
    → (l : ScriptLine) → line_with ms cs (get_or ls n []) ≡ Ok l
    → Reads ls (n + 1) (ms ++ cons_option (member_in (Ok l)) []) (cs ++ cons_option (call_in (Ok l)) [])
reads_more ls n ms cs h lt l e =
    let a = alone ms cs (get_or ls n []) l e in
    record {
      roster = ap (λ xs. xs ++ cons_option (member_in (Ok l)) []) h.roster ∙ sym (roster_more ls n l lt a);
      calls = ap (λ xs. xs ++ cons_option (call_in (Ok l)) []) h.calls ∙ sym (calls_more ls n l lt a);
      clean = no_fault ls n ms cs h l e;
    }

-- the first fault among n lines is the first fault among more lines
stays : (ls : List (List ℕ)) (n k : ℕ) (x : ℕ × LineFault) → first_fault ls n ≡ Some x → first_fault ls (n + k) ≡ Some x
unfolding first_fault
stays ls n zero x h = rw add-zero h
stays ls n (suc k) x h = rw (add-suc, stays ls n k x h)

reads_fault : (ls : List (List ℕ)) (n : ℕ) (ms : List Member) (cs : List (ℕ × Call)) → Reads ls n ms cs → n < length ls
    → (f : LineFault) → line_with ms cs (get_or ls n []) ≡ Err f → of_lines ls ≡ Faulty (n + 1) f
unfolding first_fault
reads_fault ls n ms cs h lt f e =
    let here : first_fault ls (n + 1) ≡ Some (n, f) = rw (add-one, h.clean, next_line ls n ms cs h (Err f) e) in
    let there : n + 1 + (length ls - (n + 1)) ≡ length ls = omega arith in
    let all : first_fault ls (length ls) ≡ Some (n, f) =
    rw there at (stays ls (n + 1) (length ls - (n + 1)) (n, f) here) in
    rw all

reads_all : (ls : List (List ℕ)) (n : ℕ) (ms : List Member) (cs : List (ℕ × Call)) → Reads ls n ms cs → n ≡ length ls
    → of_lines ls ≡ Says ms cs
reads_all ls n ms cs h e =
    let none : first_fault ls (length ls) ≡ None = rw e at h.clean in
    rw (none, h.roster, h.calls, take_all n ls (omega arith))

reads_err : (ls : List (List ℕ)) (n : ℕ) (ms : List Member) (cs : List (ℕ × Call)) → Reads ls n ms cs → n < length ls
    → (e : ParseError) → Fails e (line_with ms cs (get_or ls n [])) → IsFaultOf (of_line (n + 1) e) (of_lines ls)
reads_err ls n ms cs h lt errors.Memory k = tt
reads_err ls n ms cs h lt (errors.Fault f) k = reads_fault ls n ms cs h lt f k

-- ---- a text and its unread rest

-- the first n lines of a text have been read, and this rest of it hasn't
pub record Stands (text rest : List ℕ) (n : ℕ) (ms : List Member) (cs : List (ℕ × Call)) : Type 0 where
  pub reads : Reads (lines_of text) n ms cs
  pub left : lines_of rest ≡ drop n (lines_of text)
  pub few : n ≤ length (lines_of text)
  pub room : n + length rest ≤ length text

pub matches_first : (text : List ℕ) → Stands text text 0 [] []
matches_first text = record { reads = reads_none (lines_of text); left = refl; few = omega arith; room = omega arith }

-- the next line of the text is the first line of the rest
at_front : (ls : List (List ℕ)) (n : ℕ) (line : List ℕ) (behind : List (List ℕ)) → drop n ls ≡ line ∷ behind
    → (n < length ls) × (get_or ls n [] ≡ line) × (drop (n + 1) ls ≡ behind)
at_front ls n line behind e =
    let lt : n < length ls = omega (arith, length-drop n ls, ap length e) in
    let both : (get_or ls n [] ∷ drop (n + 1) ls) ≡ line ∷ behind = sym (drop_more ls n [] lt) ∙ e in
    (lt, (cc), (cc))

pub matches_more : (text rest after line : List ℕ) (n : ℕ) (ms : List Member) (cs : List (ℕ × Call))
    → Stands text rest n ms cs
    → lines_of rest ≡ line ∷ lines_of after → length after < length rest
    → (l : ScriptLine) → line_with ms cs line ≡ Ok l
    → Stands text after (n + 1) (ms ++ cons_option (member_in (Ok l)) []) (cs ++ cons_option (call_in (Ok l)) [])
matches_more text rest after line n ms cs h e less l said =
    let front = at_front (lines_of text) n line (lines_of after) (sym h.left ∙ e) in
    record {
      reads = reads_more (lines_of text) n ms cs h.reads front.0 l (rw front.1 said);
      left = sym front.2;
      few = omega (arith, front.0);
      room = omega (arith, h.room);
    }

pub matches_err : (text rest after line : List ℕ) (n : ℕ) (ms : List Member) (cs : List (ℕ × Call))
    → Stands text rest n ms cs
    → lines_of rest ≡ line ∷ lines_of after
    → (e : ParseError) → Fails e (line_with ms cs line) → IsFaultOf (of_line (n + 1) e) (of_lines (lines_of text))
matches_err text rest after line n ms cs h e error k =
    let front = at_front (lines_of text) n line (lines_of after) (sym h.left ∙ e) in
    reads_err (lines_of text) n ms cs h.reads front.0 error (rw front.1 k)

pub matches_last : (text rest : List ℕ) (n : ℕ) (ms : List Member) (cs : List (ℕ × Call)) → Stands text rest n ms cs
    → lines_of rest ≡ [] → of_lines (lines_of text) ≡ Says ms cs
matches_last text rest n ms cs h e =
    reads_all (lines_of text) n ms cs h.reads
    (omega (arith, h.few, length-drop n (lines_of text), ap length (sym h.left ∙ e)))

-- ---- the length

pub not_long : (text : List ℕ) → length text ≤ 4194304 → meaning text ≡ of_lines (lines_of text)
unfolding meaning
not_long text h = rw (le-ltb 4194304 (length text) h)

no_long_lines : (found : Option (ℕ × LineFault)) (ms : List Member) (cs : List (ℕ × Call))
    → fault_or found (Says ms cs) ≡ TooLong → ⊥
no_long_lines None ms cs e = cc
no_long_lines (Some x) ms cs e = cc

-- a text that fits isn't too long
pub not_too_long : (text : List ℕ) (e : ScriptFault) → length text ≤ 4194304 → IsFaultOf e (meaning text)
    → e ≡ scripts.TooLong → ⊥
not_too_long text scripts.TooLong h k s = no_long_lines _ _ _ (sym (not_long text h) ∙ k)
not_too_long text scripts.Read h k s = cc
not_too_long text (scripts.Line n f) h k s = cc
not_too_long text scripts.NoMemory h k s = cc
not_too_long text scripts.Write h k s = cc
