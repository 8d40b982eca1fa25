-- Words of a plain line are read back.
use Rattle.qscript_names.proofs.Common.{◌≡◌, ℕ, ◌<◌, Bool, true, false, List, [], ◌∷◌, ◌++◌, length, refl}
use Rattle.qscript_names.proofs.Common.{arith, suc}
use Rattle.std.specs.Prelude.{◌-◌, ◌^◌, ◌==◌, ◌&&◌, nat_le, zero, slice_index, decimal}
use Rattle.std.specs.List.{All, list_all, slice_split}
use Rattle.std.specs.Str.{all_ascii_digits}
use Rattle.std.proofs.lemmas.Bool.{lt-ltb}
use Rattle.std.proofs.lemmas.Bool.Decides.{nat_tests}
use Rattle.std.proofs.lemmas.Fmt.{decimal_nonempty, digits_decimal}
use Rattle.std.proofs.lemmas.List.Elements.{All-cons, All-nil}
use Rattle.std.proofs.lemmas.List.Folds.{list_all-append}
use Rattle.std.proofs.lemmas.List.Splits.{slice_split_at, slice_split_none}
use Rattle.std.proofs.lemmas.Str.Parse.{tells_all_ascii_digits}
use Rattle.qscript_text.specs.Reading.Line.{is_text}
use Rattle.qscript_text.specs.Reading.Lines.{is_newline}
use Rattle.qscript_text.specs.Reading.Words.{words_of, is_blank}
use Rattle.qscript_text.proofs.Texts.Digits.{own}
use Rattle.qscript_text.proofs.Texts.Words.{word_kept}
use Rattle.qscript_text.proofs.Words.{without_return}
use Rattle.qscript_names.specs.ReadBack.{is_word}

-- a printable byte that isn't a blank
abbrev pub prints : ℕ → Bool
prints b = nat_le 33 b && nat_le b 126

-- ---- words of a line

no_blanks : (w : List ℕ) → list_all prints w ≡ true → All (λ b. is_blank b ≡ false) w
no_blanks [] h = All-nil (λ b. is_blank b ≡ false)
no_blanks (x ∷ xs) h = All-cons (λ b. is_blank b ≡ false) x xs (grind (arith, nat_tests)) (no_blanks xs (grind arith))

-- a single word
pub words_alone : (w : List ℕ) → is_word w ≡ true → words_of w ≡ w ∷ []
unfolding words_of
words_alone w h =
    rw (slice_split_none is_blank w (no_blanks w (grind arith))) (word_kept w [] (grind (arith, nat_tests)))

-- a word before a space
pub words_before : (w t : List ℕ) → is_word w ≡ true → words_of (w ++ 32 ∷ t) ≡ w ∷ words_of t
unfolding words_of
words_before w t h =
    rw (slice_split_at is_blank w 32 t (no_blanks w (grind arith)) refl)
    (word_kept w (slice_split is_blank t) (grind (arith, nat_tests)))

-- ---- the text of a line

word_text : (w : List ℕ) → list_all prints w ≡ true → list_all is_text w ≡ true
word_text [] h = refl
word_text (x ∷ xs) h = grind (arith, nat_tests, word_text xs)

-- a word is valid text
pub text_alone : (w : List ℕ) → is_word w ≡ true → list_all is_text w ≡ true
text_alone w h = word_text w (grind arith)

-- a word before a space and valid text is valid text
pub text_before : (w t : List ℕ) → is_word w ≡ true → list_all is_text t ≡ true → list_all is_text (w ++ 32 ∷ t) ≡ true
text_before w t h k = grind (arith, list_all-append, word_text w)

-- no byte of a text is a line end
pub no_ends : (line : List ℕ) → list_all is_text line ≡ true → All (λ b. is_newline b ≡ false) line
no_ends [] h = All-nil (λ b. is_newline b ≡ false)
no_ends (x ∷ xs) h = All-cons (λ b. is_newline b ≡ false) x xs (grind (arith, nat_tests)) (no_ends xs (grind arith))

-- no byte of a text is a carriage return
no_return_at : (line : List ℕ) (k : ℕ) → list_all is_text line ≡ true → (slice_index line k == 13) ≡ false
no_return_at [] k h = refl
no_return_at (x ∷ xs) zero h = grind (arith, nat_tests)
no_return_at (x ∷ xs) (suc k) h = grind (arith, no_return_at xs k)

pub no_return : (line : List ℕ) → list_all is_text line ≡ true → without_return line ≡ line
no_return line h = rw (no_return_at line (length line - 1) h) refl

-- ---- numbers

digits_print : (ds : List ℕ) → all_ascii_digits ds ≡ true → list_all prints ds ≡ true
digits_print [] h = refl
digits_print (d ∷ ds) h = grind (arith, nat_tests, tells_all_ascii_digits.parts d ds h, digits_print ds)

pub number_word : (n : ℕ) → n < 2 ^ 64 → is_word (decimal n) ≡ true
number_word n h =
    rw (lt-ltb 0 (length (decimal n)) (decimal_nonempty n h), digits_print (decimal n) (digits_decimal own n h)) refl
