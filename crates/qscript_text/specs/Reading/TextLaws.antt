-- Changes of a text that keep its meaning.
use Rattle.std.specs.Prelude.{◌≡◌, ◌≢◌, ℕ, ◌+◌, ◌-◌, ◌<◌, ◌≤◌, ◌==◌, ◌⊎◌, Bool, true, false, List, [], ◌∷◌}
use Rattle.std.specs.Prelude.{◌++◌, length, nat_le, if◌then◌else◌, slice_index}
use Rattle.std.specs.List.{All}
use Rattle.qscript_text.specs.TextLimit.{most_text}
use Rattle.qscript_text.specs.Reading.Words.{words_of}
use Rattle.qscript_text.specs.Reading.Lines.{lines_of, is_newline, without_last}
use Rattle.qscript_text.specs.Reading.Meaning.{Meaning, TooLong, Faulty, Says, meaning}

-- whether a line of these words is blank or a comment
abbrev pub is_passed_over : List (List ℕ) → Bool
is_passed_over [] = true
is_passed_over (first ∷ rest) = slice_index first 0 == 35

-- a blank line or a comment that isn't too long
abbrev pub IsPassedOver : List ℕ → Type 0
IsPassedOver line = (length line ≤ 4096) × (is_passed_over (words_of line) ≡ true)

-- a text with no line end
abbrev pub IsOneLine : List ℕ → Type 0
IsOneLine line = All (λ b. is_newline b ≡ false) line

-- a text in which each line has its end
abbrev pub IsWhole : List ℕ → Type 0
IsWhole text = (length text ≡ 0) ⊎ (slice_index text (length text - 1) ≡ 10)

-- the meaning of a text, once one more line is inserted after its first k lines
abbrev pub meaning_one_line_later : ℕ → Meaning → Meaning
meaning_one_line_later k TooLong = TooLong
meaning_one_line_later k (Faulty n f) = Faulty (if nat_le n k then n else n + 1) f
meaning_one_line_later k (Says roster calls) = Says roster calls

-- a blank line or a comment between two lines changes only the numbers of the lines after it
abbrev pub PassesOver : Type 0
PassesOver = (front line back : List ℕ) → IsWhole front → IsOneLine line → IsPassedOver (without_last 13 line)
    → length (front ++ line ++ 10 ∷ back) ≤ most_text
    → meaning (front ++ line ++ 10 ∷ back)
    ≡ meaning_one_line_later (length (lines_of front)) (meaning (front ++ back))

-- one carriage return before a line end changes nothing
abbrev pub DropsReturn : Type 0
DropsReturn = (front back : List ℕ) → slice_index front (length front - 1) ≢ 13
    → length (front ++ 13 ∷ 10 ∷ back) ≤ most_text
    → meaning (front ++ 13 ∷ 10 ∷ back) ≡ meaning (front ++ 10 ∷ back)

-- a line end at the end of the last line changes nothing
abbrev pub DropsLastEnd : Type 0
DropsLastEnd = (text : List ℕ) → 0 < length text → slice_index text (length text - 1) ≢ 10
    → length (text ++ 10 ∷ []) ≤ most_text
    → meaning (text ++ 10 ∷ []) ≡ meaning text
