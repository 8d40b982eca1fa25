-- A line that has a content after other lines has the same content without them.
use Rattle.qscript_text.proofs.Common.{◌≡◌, ℕ, List, [], ◌∷◌, Bool, true, false, cond, length, refl, ◌∙◌, Result, Ok}
use Rattle.qscript_text.proofs.Common.{Err, not, ◌==◌, nat_lt, nat_le, slice_index, codes, list_all, bytes_eq, Member}
use Rattle.qscript_text.proofs.Common.{Call, ScriptLine, LineFault, LongLine, BadByte, DoubleThread, TooManyThreads}
use Rattle.qscript_text.proofs.Common.{UnknownThread, ◌>>=◌, words_of}
use Rattle.qscript_text.specs.declared.reading.line.ScriptLine.TheVariants as lines
use Rattle.qscript_text.specs.Reading.Line.{line_of, said_of, is_text, roster_line_of, call_line_of}
use Rattle.qscript_text.specs.Reading.Meaning.{is_in, line_after_roster, line_behind, line_with}

pub bind_ok : {A B : Type 0} (r : Result A LineFault) (f : A → Result B LineFault) (y : B) → (r >>= f) ≡ Ok y
    → (x : A) × (r ≡ Ok x) × (f x ≡ Ok y)
bind_ok (Ok x) f y h = (x, refl, h)
bind_ok (Err e) f y h = cc

past_guard : (b : Bool) (e : LineFault) (x y : Result ScriptLine LineFault) (l : ScriptLine) → (x ≡ Ok l → y ≡ Ok l)
    → cond b (Err e) x ≡ Ok l → cond b (Err e) y ≡ Ok l
past_guard true e x y l f h = cc
past_guard false e x y l f h = f h

past_choice : (b : Bool) (x y z : Result ScriptLine LineFault) (l : ScriptLine) → (x ≡ Ok l → y ≡ Ok l) → cond b x z
    ≡ Ok l
    → cond b y z ≡ Ok l
past_choice true x y z l f h = f h
past_choice false x y z l f h = h

past_other : (b : Bool) (z x y : Result ScriptLine LineFault) (l : ScriptLine) → (x ≡ Ok l → y ≡ Ok l) → cond b z x
    ≡ Ok l
    → cond b z y ≡ Ok l
past_other true z x y l f h = h
past_other false z x y l f h = f h

-- a roster line that is valid after call lines is valid before them
roster_line_early : (is_late : Bool) (operands : List (List ℕ)) (l : ScriptLine) → roster_line_of is_late operands
    ≡ Ok l
    → roster_line_of false operands ≡ Ok l
unfolding roster_line_of
roster_line_early false operands l h = h
roster_line_early true operands l h = cc

said_early : (is_late : Bool) (line : List ℕ) (words : List (List ℕ)) (l : ScriptLine) → said_of is_late line words
    ≡ Ok l
    → said_of false line words ≡ Ok l
unfolding said_of
said_early is_late line [] l h = h
said_early is_late line (first ∷ rest) l h =
    past_other (slice_index first 0 == 35) (Ok lines.Blank) _ _ l
    (past_guard (not (list_all is_text line)) BadByte _ _ l
    (past_choice (bytes_eq first (codes "thread")) _ _ (call_line_of first rest) l (roster_line_early is_late rest l)))
    h

-- a line that is valid after call lines has the same content before them
line_early : (is_late : Bool) (line : List ℕ) (l : ScriptLine) → line_of is_late line ≡ Ok l → line_of false line ≡ Ok l
unfolding line_of
line_early is_late line l h = past_guard (nat_lt 4096 (length line)) LongLine (said_of is_late line (words_of line))
    (said_of false line (words_of line)) l (said_early is_late line (words_of line) l) h

two_guards : (a b : Bool) (e f : LineFault) (x l : ScriptLine) → cond a (Err e) (cond b (Err f) (Ok x)) ≡ Ok l → x ≡ l
two_guards true b e f x l h = cc
two_guards false true e f x l h = cc
two_guards false false e f x l h = cc

one_guard : (b : Bool) (e : LineFault) (x l : ScriptLine) → cond b (Ok x) (Err e) ≡ Ok l → x ≡ l
one_guard true e x l h = cc
one_guard false e x l h = cc

pub placed_keeps : (roster : List Member) (x l : ScriptLine) → line_after_roster roster x ≡ Ok l → x ≡ l
placed_keeps roster lines.Blank l h = cc
placed_keeps roster (lines.Roster m) l h =
    two_guards (is_in m.thread roster) (nat_le 64 (length roster)) DoubleThread TooManyThreads (lines.Roster m) l h
placed_keeps roster (lines.Call thread call) l h =
    one_guard (is_in thread roster) UnknownThread (lines.Call thread call) l h

line_value : {x y : ScriptLine} → x ≡ y → (let r : Result ScriptLine LineFault = Ok x in r) ≡ Ok y
line_value e = cc

-- a line that is valid after other lines has the same content without them
pub alone : (roster : List Member) (calls : List (ℕ × Call)) (line : List ℕ) (l : ScriptLine)
    → line_with roster calls line ≡ Ok l → line_of false line ≡ Ok l
unfolding line_with line_behind
alone roster calls line l h =
    let b = bind_ok (line_of (nat_lt 0 (length calls)) line) (line_after_roster roster) l h in
    let e : b.0 ≡ l = placed_keeps roster b.0 l b.2 in
    line_early (nat_lt 0 (length calls)) line l (b.1 ∙ line_value e)
