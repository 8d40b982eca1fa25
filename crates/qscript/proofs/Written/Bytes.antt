-- Written bytes are read back.
use Rattle.qscript.proofs.Common.{IsBytes, List, Ok, [], arith, buffer_word, encode_lower, is_hex_digit, length}
use Rattle.qscript.proofs.Common.{list_all, list_all-from_AllPass, position_or_len, refl, true, ℕ, ◌*◌, ◌==◌, ◌∷◌, ◌≡◌}
use Rattle.std.proofs.lemmas.Bool.Decides.{nat_tests}
use Rattle.hex.proofs.HexLemmas.{decode_of-encode_lower, decode_of-ok}
use Rattle.qscript_text.specs.Reading.Operand.{plain_of, bytes_of}
use Rattle.qscript.proofs.Written.Words.{prints, is_word}

-- hexadecimal digits print, and there is no `x` among them
digits_print : (w : List ℕ) → list_all is_hex_digit w ≡ true → (list_all prints w ≡ true)
    × (position_or_len (λ b. b == 120) w ≡ length w)
digits_print [] h = (refl, refl)
digits_print (x ∷ xs) h = grind (arith, nat_tests, digits_print xs)

encoded : (bytes : List ℕ) → IsBytes bytes → (list_all is_hex_digit (encode_lower bytes) ≡ true)
    × (length (encode_lower bytes) ≡ 2 * length bytes)
encoded bytes h =
    let ok = decode_of-ok (encode_lower bytes) bytes (decode_of-encode_lower bytes h) in
    (list_all-from_AllPass is_hex_digit (encode_lower bytes) ok.1, ok.2)

pub bytes_word : (bytes : List ℕ) → IsBytes bytes → is_word (buffer_word bytes) ≡ true
bytes_word [] h = refl
bytes_word (b ∷ bs) h = let e = encoded (b ∷ bs) h in
    grind (arith, nat_tests, e.1, digits_print (encode_lower (b ∷ bs)) e.0)

pub bytes_back : (bytes : List ℕ) → IsBytes bytes → bytes_of (buffer_word bytes) ≡ Ok bytes
unfolding bytes_of plain_of
bytes_back [] h = refl
bytes_back (b ∷ bs) h = let e = encoded (b ∷ bs) h in
    grind (arith, nat_tests, e.1, digits_print (encode_lower (b ∷ bs)) e.0, decode_of-encode_lower (b ∷ bs) h)
