-- Printed lines have no newline inside.
use Rattle.qscript.proofs.Common.{Blocked, Bool, Completion, Event, HasLines, IsLines, IsOneLine, List, Run, [], ap}
use Rattle.qscript.proofs.Common.{arith, call_by, codes, decimal, completions_in, false, flat_map, get_or}
use Rattle.qscript.proofs.Common.{length, length-append, list_all, negsuc, not, pos, refl, shows_buffer}
use Rattle.qscript.proofs.Common.{suc, sym, texts_from, true, with_newline, words_with_spaces, zero, ℕ, ℤ, ◌%◌, ◌++◌}
use Rattle.qscript.proofs.Common.{◌+◌, ◌/◌, ◌==◌, ◌∷◌, ◌≡◌}
use Rattle.std.specs.Option.{option_map_or}
use Rattle.std.specs.Fmt.{digit_glyph, digits_onto, digits, signed_decimal}
use Rattle.std.proofs.lemmas.Bool.Decides.{nat_tests}
use Rattle.std.proofs.lemmas.Grind.{flat_map-append}
use Rattle.std.proofs.lemmas.List.Folds.{list_all-append}
use Rattle.hex.specs.Hex.{lower_digits, encode_with, encode_lower}
use Rattle.qbase.proofs.Lists.{all_append}
use Rattle.qmodel.specs.declared.call.Mark.{Mark}
use Rattle.qscript_text.specs.ResultParts.{mark_words, state_words}
use Rattle.qscript.specs.Printing.Printed.{printed}
use Rattle.qscript.specs.Printing.Buffer.{buffer_word}
use Rattle.std.specs.Prelude.{if◌then◌else◌}

-- a test: the text has no newline
abbrev clean : List ℕ → Bool
clean xs = list_all (λ b. not (b == 10)) xs

tested : (xs : List ℕ) → clean xs ≡ true → IsOneLine xs
tested [] h = tt
tested (x ∷ xs) h = grind (arith, nat_tests, tested xs)

-- ---- numbers and buffers

onto : (k base : ℕ) (upper : Bool) (n : ℕ) (acc : List ℕ) → clean acc ≡ true
    → clean (digits_onto k base upper n acc) ≡ true
onto zero base upper n acc h = h
onto (suc k) base upper n acc h =
    grind (arith, nat_tests, onto k base upper (n / base) (digit_glyph upper (n % base) ∷ acc))

number : (n : ℕ) → clean (decimal n) ≡ true
unfolding digits
number n = onto 64 10 false n [] refl

signed : (z : ℤ) → clean (signed_decimal z) ≡ true
signed (pos n) = number n
signed (negsuc n) = number (suc n)

at : (xs : List ℕ) (i : ℕ) → clean xs ≡ true → (get_or xs i 0 == 10) ≡ false
at [] i h = refl
at (x ∷ xs) zero h = grind (arith, nat_tests)
at (x ∷ xs) (suc i) h = grind (arith, nat_tests, at xs i)

hexadecimal : (bytes : List ℕ) → clean (encode_lower bytes) ≡ true
unfolding encode_with
hexadecimal [] = refl
hexadecimal (b ∷ bytes) = rw (at lower_digits (b / 16) refl, at lower_digits (b % 16) refl) (hexadecimal bytes)

-- ---- words

in_row : (words : List (List ℕ)) → clean (words_with_spaces words) ≡ list_all clean words
in_row [] = refl
in_row (word ∷ []) = grind arith
in_row (word ∷ next ∷ words) = grind (arith, list_all-append, in_row (next ∷ words))

mark_row : (mark : Mark) → list_all clean (mark_words mark) ≡ true
unfolding mark_words
mark_row mark = grind (arith, number, signed)

ended_line : (event : ℕ) (e : Completion) (shows : Bool)
    → clean (decimal event ++ words_with_spaces (decimal e.call ∷ decimal e.thread ∷ []) ++ words_with_spaces
    (mark_words e.mark) ++ words_with_spaces
    (if shows then buffer_word e.buffer ∷ [] else [])) ≡ true
ended_line event e shows = grind (arith, list_all-append, in_row, number, mark_row e.mark, hexadecimal e.buffer)

abbrev open_front : Blocked → List ℕ
open_front b = codes "open" ++ words_with_spaces ((decimal b.number ∷ decimal b.thread ∷ []) ++ state_words b.state)

open_line : (b : Blocked) → clean (open_front b) ≡ true
open_line b = grind (arith, list_all-append, in_row, number)

-- ---- lines

-- a line for each element
each_line : {A : Type 0} (line : A → List ℕ) → ((x : A) → clean (line x) ≡ true) → (xs : List A)
    → IsLines (flat_map (λ x. with_newline (line x)) xs) (length xs)
each_line line ok [] = record { lines = []; as_many = refl; each = tt; text_is = refl }
each_line line ok (x ∷ xs) = let more = each_line line ok xs in record {
  lines = line x ∷ more.lines;
  as_many = omega (arith, more.as_many);
  each = (tested (line x) (ok x), more.each);
  text_is = ap (λ t. with_newline (line x) ++ t) more.text_is;
}

both : (a b : List ℕ) (n m : ℕ) → IsLines a n → IsLines b m → IsLines (a ++ b) (n + m)
both a b n m first then_more = record {
  lines = first.lines ++ then_more.lines;
  as_many = omega (arith, length-append first.lines then_more.lines, first.as_many, then_more.as_many);
  each = all_append IsOneLine first.lines then_more.lines first.each then_more.each;
  text_is = rw (first.text_is, then_more.text_is) (sym (flat_map-append with_newline first.lines then_more.lines));
}

texts_lines : (run : Run) (n : ℕ) (es : List Event) → IsLines (texts_from run n es) (completions_in es)
texts_lines run n [] = record { lines = []; as_many = refl; each = tt; text_is = refl }
texts_lines run n (e ∷ es) =
    both _ _ (length e.completions) (completions_in es)
    (each_line _ (λ x. ended_line n x (option_map_or shows_buffer (call_by run n x.call) false)) e.completions)
    (texts_lines run (n + 1) es)

pub has_lines : HasLines
unfolding printed
has_lines run blocked = both _ _ (completions_in run.events) (length blocked) (texts_lines run run.first run.events)
    (each_line open_front open_line blocked)
