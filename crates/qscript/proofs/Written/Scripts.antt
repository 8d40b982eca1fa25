-- Written scripts are read back.
use Rattle.qscript.proofs.Common.{All, All-cons, All-nil, AllByRecursion, Call, Event, IsTypedMember, IsWritable, List}
use Rattle.qscript.proofs.Common.{MayStand, Member, Ok, ScriptsAreRead, Stands, [], add-zero, ap, append-nil}
use Rattle.qscript.proofs.Common.{append_assoc, arith, call_line, cons_option, event_call, false, flat_map, is_text}
use Rattle.qscript.proofs.Common.{length, length-append, list_all, lt-leb, map, member_line, nat_lt, not_long, refl}
use Rattle.qscript.proofs.Common.{slice_index, matches_first, matches_last, matches_more, suc, true, zero, ℕ, ◌++◌, ◌+◌}
use Rattle.qscript.proofs.Common.{◌-◌, ◌<◌, ◌==◌, ◌∙◌, ◌∷◌, ◌≡◌}
use Rattle.std.proofs.lemmas.Bool.Decides.{nat_tests}
use Rattle.qscript_text.specs.declared.reading.line.ScriptLine.{ScriptLine}
use Rattle.qscript_text.specs.declared.reading.line.ScriptLine.TheVariants as lines
use Rattle.qscript_text.specs.Reading.Lines.{lines_of, is_newline}
use Rattle.qscript_text.proofs.Words.{without_return}
use Rattle.qscript_text.specs.Reading.Meaning.{call_in, is_in, line_behind, line_with, member_in}
use Rattle.qscript.specs.Writing.Text.{member_text, call_text, script_text}
use Rattle.qscript_text.proofs.Texts.Lines.{lines_at, lines_none}
use Rattle.qscript.proofs.Written.Reading.{call_read, call_line_text, member_read, member_line_text}

-- ---- a line of text, and its end

-- no byte of a text is a line end
no_ends : (line : List ℕ) → list_all is_text line ≡ true → All (λ b. is_newline b ≡ false) line
no_ends [] h = All-nil (λ b. is_newline b ≡ false)
no_ends (x ∷ xs) h = All-cons (λ b. is_newline b ≡ false) x xs (grind (arith, nat_tests)) (no_ends xs (grind arith))

-- no byte of a text is a carriage return
no_return_at : (line : List ℕ) (k : ℕ) → list_all is_text line ≡ true → (slice_index line k == 13) ≡ false
no_return_at [] k h = refl
no_return_at (x ∷ xs) zero h = grind (arith, nat_tests)
no_return_at (x ∷ xs) (suc k) h = grind (arith, no_return_at xs k)

-- the rest of a text after a line with this content has been read
line_matches : (text line after : List ℕ) (n : ℕ) (roster : List Member) (cs : List (ℕ × Call)) (l : ScriptLine)
    → list_all is_text line ≡ true → line_with roster cs line ≡ Ok l
    → Stands text ((line ++ 10 ∷ []) ++ after) n roster cs
    → Stands text after (n + 1) (roster ++ cons_option (member_in (Ok l)) []) (cs ++ cons_option (call_in (Ok l)) [])
line_matches text line after n roster cs l h said s =
    let whole : without_return line ≡ line = rw (no_return_at line (length line - 1) h) refl in
    let first = lines_at line 10 after (no_ends line h) refl ∙ ap (λ l. l ∷ lines_of after) whole in
    matches_more text (line ++ 10 ∷ after) after line n roster cs (rw append_assoc at s) first
    (simp length-append (omega arith)) l said

-- ---- calls

-- a call's line after a roster and calls
call_with : (roster : List Member) (cs : List (ℕ × Call)) (e : Event) → IsWritable roster e
    → line_with roster cs (call_line e.thread e.call) ≡ Ok (lines.Call e.thread e.call)
unfolding line_with line_behind
call_with roster cs e h = rw (call_read (nat_lt 0 (length cs)) e.thread e.call h.1 h.2 h.3, h.0) refl

calls_stand : (text : List ℕ) (roster : List Member) (events : List Event) (n : ℕ) (cs : List (ℕ × Call))
    → AllByRecursion (IsWritable roster) events
    → Stands text (flat_map call_text events) n roster cs
    → Stands text [] (n + length events) roster (cs ++ map event_call events)
calls_stand text roster [] n cs h s = rw (add-zero, append-nil) s
calls_stand text roster (e ∷ events) n cs h s =
    let next = line_matches text (call_line e.thread e.call) (flat_map call_text events) n roster cs
    (lines.Call e.thread e.call) (call_line_text e.thread e.call h.0.1 h.0.2) (call_with roster cs e h.0) s in
    let place : n + 1 + length events ≡ n + length (e ∷ events) = omega arith in
    rw (append_assoc cs (event_call e ∷ []) (map event_call events), place) at
    (calls_stand text roster events (n + 1) (cs ++ event_call e ∷ []) h.1 (rw (append-nil roster) at next))

-- ---- threads

-- a thread's line after some others
member_with : (before : List Member) (m : Member) → is_in m.thread before ≡ false → length before < 64
    → IsTypedMember m → line_with before [] (member_line m) ≡ Ok (lines.Roster m)
unfolding line_with line_behind
member_with before m new few h = rw (member_read m h, new, lt-leb 64 (length before) few) refl

members_stand : (text back : List ℕ) (before members : List Member) (n : ℕ) → MayStand before members
    → AllByRecursion IsTypedMember members
    → Stands text (flat_map member_text members ++ back) n before []
    → Stands text back (n + length members) (before ++ members) []
members_stand text back before [] n may h s = rw (add-zero, append-nil) s
members_stand text back before (m ∷ members) n may h s =
    let here = rw (append_assoc (member_text m) (flat_map member_text members) back) at s in
    let next = line_matches text (member_line m) (flat_map member_text members ++ back) n before [] (lines.Roster m)
    (member_line_text m h.0) (member_with before m may.0 may.1 h.0) here in
    let place : n + 1 + length members ≡ n + length (m ∷ members) = omega arith in
    rw (append_assoc before (m ∷ []) members, place) at
    (members_stand text back (before ++ m ∷ []) members (n + 1) may.2 h.1 next)

-- ---- the script

pub scripts_are_read : ScriptsAreRead
unfolding script_text
scripts_are_read roster events may typed writable short =
    let text = flat_map member_text roster ++ flat_map call_text events in
    let threads = members_stand text (flat_map call_text events) [] roster 0 may typed (matches_first text) in
    let all = calls_stand text roster events (0 + length roster) [] writable threads in
    not_long text short ∙ matches_last text [] (0 + length roster + length events) roster (map event_call events) all
    (lines_none [] refl)
