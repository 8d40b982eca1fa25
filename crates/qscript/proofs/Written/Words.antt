-- Written words are read back.
use Rattle.qscript.proofs.Common.{All, All-cons, All-nil, Bool, List, [], all_ascii_digits, ap, append-nil, arith}
use Rattle.qscript.proofs.Common.{decimal, decimal_nonempty, digits_decimal, false, is_text, length, list_all, lt-ltb}
use Rattle.qscript.proofs.Common.{nat_le, nat_lt, own, refl, slice_index, slice_split, slice_split_at, slice_split_none}
use Rattle.qscript.proofs.Common.{true, words_with_spaces, ℕ, ◌&&◌, ◌++◌, ◌<◌, ◌==◌, ◌^◌, ◌∙◌, ◌∷◌, ◌≡◌}
use Rattle.std.proofs.lemmas.Bool.Decides.{nat_tests}
use Rattle.std.proofs.lemmas.List.Folds.{list_all-append}
use Rattle.std.proofs.lemmas.Str.Parse.{tells_all_ascii_digits}
use Rattle.qscript_text.specs.Reading.Words.{words_of, is_blank}
use Rattle.qscript_text.proofs.Texts.Words.{word_kept}

-- a printable byte that isn't a blank
abbrev pub prints : ℕ → Bool
prints b = nat_le 33 b && nat_le b 126

-- a word that can occur in a line
abbrev pub is_word : List ℕ → Bool
is_word w = nat_lt 0 (length w) && list_all prints w

-- ---- words of a line

no_blanks : (w : List ℕ) → list_all prints w ≡ true → All (λ b. is_blank b ≡ false) w
no_blanks [] h = All-nil (λ b. is_blank b ≡ false)
no_blanks (x ∷ xs) h = All-cons (λ b. is_blank b ≡ false) x xs (grind (arith, nat_tests)) (no_blanks xs (grind arith))

-- a single word
words_alone : (w : List ℕ) → is_word w ≡ true → words_of w ≡ w ∷ []
unfolding words_of
words_alone w h =
    rw (slice_split_none is_blank w (no_blanks w (grind arith))) (word_kept w [] (grind (arith, nat_tests)))

-- a word before a space
words_before : (w t : List ℕ) → is_word w ≡ true → words_of (w ++ 32 ∷ t) ≡ w ∷ words_of t
unfolding words_of
words_before w t h =
    rw (slice_split_at is_blank w 32 t (no_blanks w (grind arith)) refl)
    (word_kept w (slice_split is_blank t) (grind (arith, nat_tests)))

-- a first word, and further words after spaces
pub words_in_row : (w : List ℕ) (ws : List (List ℕ)) → is_word w ≡ true → list_all is_word ws ≡ true
    → words_of (w ++ words_with_spaces ws) ≡ w ∷ ws
words_in_row w [] h hs = ap words_of (append-nil w) ∙ words_alone w h
words_in_row w (v ∷ []) h hs = words_before w v h ∙ ap (λ vs. w ∷ vs) (words_alone v (grind arith))
words_in_row w (v ∷ next ∷ ws) h hs = words_before w (v ++ words_with_spaces (next ∷ ws)) h
    ∙ ap (λ vs. w ∷ vs) (words_in_row v (next ∷ ws) (grind arith) (grind arith))

-- ---- the text of a line

word_text : (w : List ℕ) → list_all prints w ≡ true → list_all is_text w ≡ true
word_text [] h = refl
word_text (x ∷ xs) h = grind (arith, nat_tests, word_text xs)

row_text : (ws : List (List ℕ)) → list_all is_word ws ≡ true → list_all is_text (words_with_spaces ws) ≡ true
row_text [] h = refl
row_text (w ∷ []) h = grind (arith, word_text w)
row_text (w ∷ next ∷ ws) h = grind (arith, list_all-append, word_text w, row_text (next ∷ ws))

-- a first word, and further words after spaces, are valid text
pub line_text : (w : List ℕ) (ws : List (List ℕ)) → is_word w ≡ true → list_all is_word ws ≡ true
    → list_all is_text (w ++ words_with_spaces ws) ≡ true
line_text w ws h hs = grind (arith, list_all-append, word_text w, row_text ws)

-- ---- numbers

digits_print : (ds : List ℕ) → all_ascii_digits ds ≡ true → list_all prints ds ≡ true
digits_print [] h = refl
digits_print (d ∷ ds) h = grind (arith, nat_tests, tells_all_ascii_digits.parts d ds h, digits_print ds)

pub number_word : (n : ℕ) → n < 2 ^ 64 → is_word (decimal n) ≡ true
number_word n h =
    rw (lt-ltb 0 (length (decimal n)) (decimal_nonempty n h), digits_print (decimal n) (digits_decimal own n h)) refl

-- a word of digits begins with neither a minus sign nor `#`
first_of_digits : (ds : List ℕ) (c : ℕ) → all_ascii_digits ds ≡ true → c < 48 → 0 < c → (slice_index ds 0 == c) ≡ false
first_of_digits [] c h low high = grind (arith, nat_tests)
first_of_digits (d ∷ ds) c h low high = grind (arith, nat_tests, tells_all_ascii_digits.parts d ds h)

pub first_digit_not : (n c : ℕ) → n < 2 ^ 64 → c < 48 → 0 < c → (slice_index (decimal n) 0 == c) ≡ false
first_digit_not n c h low high = first_of_digits (decimal n) c (digits_decimal own n h) low high
