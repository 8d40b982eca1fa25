-- A line that is skipped, between other lines.
use Rattle.qscript_text.proofs.Common.{◌≡◌, ℕ, zero, suc, ◌+◌, ◌<◌, ◌≤◌, List, [], ◌∷◌, ◌++◌, Bool, true, false, cond}
use Rattle.qscript_text.proofs.Common.{length, take, get_or, refl, sym, ap, ◌∙◌, arith, Option, Some, None, Result, Ok}
use Rattle.qscript_text.proofs.Common.{Err, nat_lt, nat_le, length-append, cons_option, filter_map, le-ltb}
use Rattle.qscript_text.proofs.Common.{common_steps, take-append-le, get_or_append_left, get_or-append-add}
use Rattle.qscript_text.proofs.Common.{filter_map-append, take-append_seam, take-append-add, get_or-append_seam, Member}
use Rattle.qscript_text.proofs.Common.{Call, ScriptLine, LineFault, words_of, is_passed_over, IsPassedOver}
use Rattle.qscript_text.proofs.Common.{meaning_one_line_later}
use Rattle.std.specs.Option.{option_or}
use Rattle.qbase.proofs.Lists.{or_none}
use Rattle.qscript_text.specs.declared.reading.line.ScriptLine.TheVariants as lines
use Rattle.qscript_text.specs.Reading.Line.{line_of, said_of}
use Rattle.qscript_text.specs.Reading.Meaning.{Faulty, Says, member_in, call_in, roster_of, calls_of, line_behind}
use Rattle.qscript_text.specs.Reading.Meaning.{line_with, line_after, fault_at, first_fault}
use Rattle.qscript_text.proofs.Words.{fault_in, fault_or, of_lines}

-- ---- its content

passed_said : (is_late : Bool) (line : List ℕ) (words : List (List ℕ)) → is_passed_over words ≡ true
    → said_of is_late line words ≡ Ok lines.Blank
unfolding said_of
passed_said is_late line [] h = refl
passed_said is_late line (first ∷ rest) h = rw h

passed_line : (is_late : Bool) (line : List ℕ) → IsPassedOver line → line_of is_late line ≡ Ok lines.Blank
unfolding line_of
passed_line is_late line h = rw (le-ltb 4096 (length line) h.0) (passed_said is_late line (words_of line) h.1)

passed_with : (ms : List Member) (cs : List (ℕ × Call)) (line : List ℕ) → IsPassedOver line
    → line_with ms cs line ≡ Ok lines.Blank
unfolding line_with line_behind
passed_with ms cs line h = rw (passed_line (nat_lt 0 (length cs)) line h)

passed_after : (before : List (List ℕ)) (line : List ℕ) → IsPassedOver line → line_after before line ≡ Ok lines.Blank
unfolding line_after
passed_after before line h = passed_with (roster_of before) (calls_of before) line h

-- ---- the content of the lines after it

roster_past : (front back : List (List ℕ)) (line : List ℕ) → IsPassedOver line
    → roster_of (front ++ line ∷ back) ≡ roster_of (front ++ back)
unfolding roster_of
roster_past front back line h =
    let says = λ (l : List ℕ). member_in (line_of false l) in
    let nothing : cons_option (says line) (filter_map says back) ≡ filter_map says back =
    rw (passed_line false line h) in
    filter_map-append says front (line ∷ back) ∙ ap (λ xs. filter_map says front ++ xs) nothing
    ∙ sym (filter_map-append says front back)

calls_past : (front back : List (List ℕ)) (line : List ℕ) → IsPassedOver line
    → calls_of (front ++ line ∷ back) ≡ calls_of (front ++ back)
unfolding calls_of
calls_past front back line h =
    let says = λ (l : List ℕ). call_in (line_of false l) in
    let nothing : cons_option (says line) (filter_map says back) ≡ filter_map says back =
    rw (passed_line false line h) in
    filter_map-append says front (line ∷ back) ∙ ap (λ xs. filter_map says front ++ xs) nothing
    ∙ sym (filter_map-append says front back)

after_past : (front back : List (List ℕ)) (line other : List ℕ) → IsPassedOver line
    → line_after (front ++ line ∷ back) other ≡ line_after (front ++ back) other
unfolding line_after
after_past front back line other h =
    ap (λ ms. line_with ms (calls_of (front ++ line ∷ back)) other) (roster_past front back line h)
    ∙ ap (λ cs. line_with (roster_of (front ++ back)) cs other) (calls_past front back line h)

-- ---- the numbers of faults

-- a fault, once one more line is inserted after the first k lines
shifted : ℕ → Option (ℕ × LineFault) → Option (ℕ × LineFault)
shifted k None = None
shifted k (Some x) = Some (cond (nat_lt x.0 k) x.0 (x.0 + 1), x.1)

shifted_else : (k : ℕ) (a b : Option (ℕ × LineFault))
    → shifted k (option_or a b) ≡ option_or (shifted k a) (shifted k b)
unfolding shifted
shifted_else k None b = refl
shifted_else k (Some x) b = refl

fault_before : (k n : ℕ) (r : Result ScriptLine LineFault) → n < k → shifted k (fault_in n r) ≡ fault_in n r
unfolding shifted
fault_before k n (Ok l) lt = refl
fault_before k n (Err f) lt = let yes_lt : nat_lt n k ≡ true = grind (arith, common_steps) in rw yes_lt

fault_behind : (k n m : ℕ) (r : Result ScriptLine LineFault) → k ≤ n → m ≡ n + 1 → fault_in m r
    ≡ shifted k (fault_in n r)
unfolding shifted
fault_behind k n m (Ok l) le e = refl
fault_behind k n m (Err f) le e = rw (le-ltb n k le, e)

-- the fault of a line before it, whichever lines follow
fault_front : (front g h : List (List ℕ)) (n : ℕ) → n < length front → fault_at (front ++ g) n ≡ fault_at (front ++ h) n
fault_front front g h n lt =
    let le : n ≤ length front = omega arith in
    let taken : take n (front ++ g) ≡ take n (front ++ h) = take-append-le n front g le
    ∙ sym (take-append-le n front h le) in
    let got : get_or (front ++ g) n [] ≡ get_or (front ++ h) n [] = get_or_append_left front g [] n lt
    ∙ sym (get_or_append_left front h [] n lt) in
    ap (λ ls. fault_in n (line_after ls (get_or (front ++ g) n []))) taken
    ∙ ap (λ l. fault_in n (line_after (take n (front ++ h)) l)) got

first_front : (front g h : List (List ℕ)) (n : ℕ) → n ≤ length front
    → first_fault (front ++ g) n ≡ first_fault (front ++ h) n
unfolding first_fault
first_front front g h zero le = refl
first_front front g h (suc n) le =
    ap (λ a. option_or a (fault_at (front ++ g) n)) (first_front front g h n (omega arith))
    ∙ ap (λ b. option_or (first_fault (front ++ h) n) b) (fault_front front g h n (omega arith))

first_kept : (ls : List (List ℕ)) (k n : ℕ) → n ≤ k → shifted k (first_fault ls n) ≡ first_fault ls n
unfolding first_fault shifted
first_kept ls k zero le = refl
first_kept ls k (suc n) le =
    shifted_else k (first_fault ls n) (fault_at ls n)
    ∙ ap (λ a. option_or a (shifted k (fault_at ls n))) (first_kept ls k n (omega arith))
    ∙ ap (λ b. option_or (first_fault ls n) b)
    (fault_before k n (line_after (take n ls) (get_or ls n [])) (omega arith))

-- the line itself
fault_here : (front back : List (List ℕ)) (line : List ℕ) → IsPassedOver line
    → fault_at (front ++ line ∷ back) (length front) ≡ None
fault_here front back line h =
    ap (λ ls. fault_in (length front) (line_after ls (get_or (front ++ line ∷ back) (length front) [])))
    (take-append_seam front (line ∷ back))
    ∙ ap (λ l. fault_in (length front) (line_after front l)) (get_or-append_seam front line back [])
    ∙ ap (λ r. fault_in (length front) r) (passed_after front line h)

-- a line after it
fault_past : (front back : List (List ℕ)) (line : List ℕ) (j : ℕ) → IsPassedOver line
    → fault_at (front ++ line ∷ back) (length front + suc j) ≡ shifted (length front)
    (fault_at (front ++ back) (length front + j))
fault_past front back line j h =
    let k = length front in
    let other = get_or back j [] in
    let with : fault_at (front ++ line ∷ back) (k + suc j) ≡ fault_in (k + suc j)
    (line_after (front ++ line ∷ take j back) other) =
    ap (λ ls. fault_in (k + suc j) (line_after ls (get_or (front ++ line ∷ back) (k + suc j) [])))
    (take-append-add front (line ∷ back) (suc j))
    ∙ ap (λ l. fault_in (k + suc j) (line_after (front ++ line ∷ take j back) l))
    (get_or-append-add front (line ∷ back) (suc j) []) in
    let without : fault_at (front ++ back) (k + j) ≡ fault_in (k + j) (line_after (front ++ take j back) other) =
    ap (λ ls. fault_in (k + j) (line_after ls (get_or (front ++ back) (k + j) []))) (take-append-add front back j)
    ∙ ap (λ l. fault_in (k + j) (line_after (front ++ take j back) l)) (get_or-append-add front back j []) in
    with ∙ ap (λ r. fault_in (k + suc j) r) (after_past front (take j back) line other h)
    ∙ fault_behind k (k + j) (k + suc j) (line_after (front ++ take j back) other) (omega arith) (omega arith)
    ∙ ap (shifted k) (sym without)

first_past : (front back : List (List ℕ)) (line : List ℕ) (j : ℕ) → IsPassedOver line
    → first_fault (front ++ line ∷ back) (length front + suc j) ≡ shifted (length front)
    (first_fault (front ++ back) (length front + j))
unfolding first_fault
first_past front back line zero h =
    let k = length front in
    let next : k + suc zero ≡ suc k = omega arith in
    let same : k + zero ≡ k = omega arith in
    rw (next, same, fault_here front back line h)
    (or_none (first_fault (front ++ line ∷ back) k) ∙ first_front front (line ∷ back) back k (omega arith)
    ∙ sym (first_kept (front ++ back) k k (omega arith)))
first_past front back line (suc j) h =
    let k = length front in
    let next : k + suc (suc j) ≡ suc (k + suc j) = omega arith in
    let same : k + suc j ≡ suc (k + j) = omega arith in
    ap (first_fault (front ++ line ∷ back)) next
    ∙ ap (λ a. option_or a (fault_at (front ++ line ∷ back) (k + suc j))) (first_past front back line j h)
    ∙ ap (λ b. option_or (shifted k (first_fault (front ++ back) (k + j))) b) (fault_past front back line j h)
    ∙ sym (shifted_else k (first_fault (front ++ back) (k + j)) (fault_at (front ++ back) (k + j)))
    ∙ ap (λ n. shifted k (first_fault (front ++ back) n)) (sym same)

-- ---- the meaning of lines

one_more : (k m : ℕ) → cond (nat_lt m k) m (m + 1) + 1 ≡ cond (nat_le (m + 1) k) (m + 1) (m + 1 + 1)
one_more k m = grind (arith, common_steps)

unless_shifted : (k : ℕ) (x : Option (ℕ × LineFault)) (ms : List Member) (cs : List (ℕ × Call))
    → fault_or (shifted k x) (Says ms cs) ≡ meaning_one_line_later k (fault_or x (Says ms cs))
unfolding shifted
unless_shifted k None ms cs = refl
unless_shifted k (Some x) ms cs = ap (λ n. Faulty n x.1) (one_more k x.0)

pub lines_past : (front back : List (List ℕ)) (line : List ℕ) → IsPassedOver line
    → of_lines (front ++ line ∷ back) ≡ meaning_one_line_later (length front) (of_lines (front ++ back))
lines_past front back line h =
    let k = length front in
    let all : first_fault (front ++ line ∷ back) (length (front ++ line ∷ back)) ≡ shifted k
    (first_fault (front ++ back) (length (front ++ back))) =
    ap (first_fault (front ++ line ∷ back)) (length-append front (line ∷ back))
    ∙ first_past front back line (length back) h
    ∙ ap (λ n. shifted k (first_fault (front ++ back) n)) (sym (length-append front back)) in
    ap (λ x. fault_or x (Says (roster_of (front ++ line ∷ back)) (calls_of (front ++ line ∷ back)))) all
    ∙ ap (λ ms. fault_or (shifted k (first_fault (front ++ back) (length (front ++ back))))
    (Says ms (calls_of (front ++ line ∷ back)))) (roster_past front back line h)
    ∙ ap (λ cs. fault_or (shifted k (first_fault (front ++ back) (length (front ++ back))))
    (Says (roster_of (front ++ back)) cs)) (calls_past front back line h)
    ∙ unless_shifted k (first_fault (front ++ back) (length (front ++ back))) (roster_of (front ++ back))
    (calls_of (front ++ back))
