-- Operands of a plain line are read back.
use Rattle.qscript_names.proofs.Common.{◌≡◌, ℕ, ◌<◌, ◌≤◌, ◌∙◌, true, List, [], ◌∷◌, ◌++◌, length}
use Rattle.qscript_names.proofs.Common.{refl, ap, arith, suc, Some, map, length-append, position, position_or_len}
use Rattle.qscript_names.proofs.Common.{Label}
use Rattle.std.specs.Prelude.{◌*◌, ◌^◌, ◌==◌, zero, decimal, replicate, codes}
use Rattle.std.proofs.Common.{Result, Ok, Err}
use Rattle.std.specs.List.{list_all}
use Rattle.std.specs.Str.{all_ascii_digits}
use Rattle.std.proofs.lemmas.Bool.{le-leb, lt-ltb, ne_eqb}
use Rattle.std.proofs.lemmas.Bool.Decides.{nat_tests}
use Rattle.std.proofs.lemmas.Fmt.{decimal_nonempty, digits_decimal, digits_value-decimal, length-decimal-le}
use Rattle.std.proofs.Math.Seq.{drop-append-add, take-append_seam}
use Rattle.std.proofs.lemmas.List.Folds.{list_all-append}
use Rattle.std.proofs.lemmas.List.Sums.{list_all-from_AllPass}
use Rattle.std.proofs.lemmas.Str.Parse.{tells_all_ascii_digits}
use Rattle.hex.specs.Hex.{IsBytes, decode_pairs, encode_lower, is_hex_digit}
use Rattle.hex.proofs.HexLemmas.{decode_of-encode_lower, decode_of-ok}
use Rattle.qmodel.specs.declared.operands.OperandKind.{OperandKind}
use Rattle.qmodel.specs.declared.operands.OperandKind.TheVariants as sorts
use Rattle.qscript_text.specs.declared.fault.LineFault.{LineFault}
use Rattle.qscript_text.specs.declared.reading.forms.Values.{Values}
use Rattle.qscript_text.specs.declared.reading.operand_value.OperandValue.{OperandValue}
use Rattle.qscript_text.specs.declared.reading.operand_value.OperandValue.TheVariants as value
use Rattle.qscript_text.specs.Reading.Forms.{bytes_at, number_at, value_of, values_of, with_value}
use Rattle.qscript_text.specs.Reading.Number.{below, digits_of, number_of}
use Rattle.qscript_text.specs.Reading.Operand.{bytes_of, plain_of, repeated_of}
use Rattle.qscript_text.specs.Reading.Steps.{◌>>=◌}
use Rattle.qscript_text.proofs.Texts.Digits.{own}
use Rattle.qscript_names.specs.declared.line.Operand.{Operand}
use Rattle.qscript_names.specs.declared.line.Operand.TheVariants as operands
use Rattle.qscript_names.specs.Names.{number_of as named}
use Rattle.qscript_names.specs.Plain.{bytes_word, word_of, zeros_word}
use Rattle.qscript_names.specs.ReadBack.{AreOperands, IsOperand, is_word, may_be_name, may_be_text}
use Rattle.qscript_names.specs.Resolution.{values_in, with_operand}
use Rattle.qscript_names.proofs.ReadBack.Words.{number_word, prints}

-- ---- numbers

-- the digits of a number
digits_back : (n : ℕ) → n < 2 ^ 64 → digits_of (decimal n) ≡ Some n
unfolding digits_of
digits_back n h =
    rw (
      lt-ltb 0 (length (decimal n)) (decimal_nonempty n h),
      le-leb (length (decimal n)) 20 (length-decimal-le 20 n (omega arith) (omega (arith, h)) h),
      digits_decimal own n h,
      digits_value-decimal own n h,
    ) refl

-- a number with a limit
pub below_back : (limit n : ℕ) → n < 2 ^ 64 → number_of limit (decimal n) ≡ below limit n
unfolding number_of
below_back limit n h = rw (digits_back n h) refl

wide_back : (n : ℕ) → n < 2 ^ 64 → number_of (2 ^ 64) (decimal n) ≡ Ok n
wide_back n h = below_back (2 ^ 64) n h ∙ rw (lt-ltb n (2 ^ 64) h) refl

-- the values with a number that is read
one : (n : Result ℕ LineFault) (of : ℕ → OperandValue) (v : Values)
    → ((n >>= (λ n. Ok (of n))) >>= (λ o. Ok (with_value o v))) ≡ (n >>= (λ n. Ok (with_value (of n) v)))
one (Ok n) of v = refl
one (Err f) of v = refl

number_read : (s : OperandKind) (n : ℕ) (v : Values) → may_be_name s ≡ true → n < 2 ^ 64
    → value_of s (decimal n) v ≡ number_at s n v
number_read sorts.Thread n v h fits = rw (below_back 256 n fits) (one (below 256 n) value.Thread v)
number_read sorts.Flags n v h fits = rw (below_back 256 n fits) (one (below 256 n) value.Flags v)
number_read sorts.Channel n v h fits = rw (wide_back n fits) refl
number_read sorts.Connection n v h fits = rw (wide_back n fits) refl
number_read sorts.ReceiveId n v h fits = rw (wide_back n fits) refl
number_read s n v h fits = cc

-- ---- bytes

-- hexadecimal digits print, and there is no `x` among them
digits_print : (w : List ℕ) → list_all is_hex_digit w ≡ true → (list_all prints w ≡ true)
    × (position_or_len (λ b. b == 120) w ≡ length w)
digits_print [] h = (refl, refl)
digits_print (x ∷ xs) h = grind (arith, nat_tests, digits_print xs)

encoded : (bytes : List ℕ) → IsBytes bytes → (list_all is_hex_digit (encode_lower bytes) ≡ true)
    × (length (encode_lower bytes) ≡ 2 * length bytes)
encoded bytes h =
    let ok = decode_of-ok (encode_lower bytes) bytes (decode_of-encode_lower bytes h) in
    (list_all-from_AllPass is_hex_digit (encode_lower bytes) ok.1, ok.2)

text_word : (bytes : List ℕ) → IsBytes bytes → is_word (bytes_word bytes) ≡ true
text_word [] h = refl
text_word (b ∷ bs) h = let e = encoded (b ∷ bs) h in
    grind (arith, nat_tests, e.1, digits_print (encode_lower (b ∷ bs)) e.0)

text_back : (bytes : List ℕ) → IsBytes bytes → bytes_of (bytes_word bytes) ≡ Ok bytes
unfolding bytes_of plain_of
text_back [] h = refl
text_back (b ∷ bs) h = let e = encoded (b ∷ bs) h in
    grind (arith, nat_tests, e.1, digits_print (encode_lower (b ∷ bs)) e.0, decode_of-encode_lower (b ∷ bs) h)

-- ---- zeros

-- the first `x` after digits comes after all of them
x_behind : (ds t : List ℕ) → all_ascii_digits ds ≡ true → position_or_len (λ b. b == 120) (ds ++ 120 ∷ t) ≡ length ds
x_behind [] t h = refl
x_behind (d ∷ ds) t h = grind (arith, nat_tests, tells_all_ascii_digits.parts d ds h, x_behind ds t)

x_at : (ds t : List ℕ) → all_ascii_digits ds ≡ true → position (λ b. b == 120) (ds ++ 120 ∷ t) ≡ Some (length ds)
x_at ds t h =
    rw (x_behind ds t h, lt-ltb (length ds) (length (ds ++ 120 ∷ t)) (simp length-append (omega arith))) refl

zeros_read : (n : ℕ) → 1 ≤ n → n ≤ 4096 → repeated_of (decimal n) (codes "00") ≡ Ok (replicate n 0)
unfolding repeated_of decode_pairs
zeros_read n some few = rw (digits_back n (omega (arith, few)), le-leb 1 n some, le-leb n 4096 few) refl

counted : (n : ℕ) → 1 ≤ n → n ≤ 4096 → bytes_of (decimal n ++ codes "x00") ≡ Ok (replicate n 0)
unfolding bytes_of
counted n some few =
    let ds = decimal n in
    let digits : all_ascii_digits ds ≡ true = digits_decimal own n (omega (arith, few)) in
    rw (
      x_at ds (codes "00") digits,
      take-append_seam ds (codes "x00"),
      drop-append-add ds (codes "x00") 1,
    ) (zeros_read n some few)

counted_zeros : (n : ℕ) → 1 ≤ n → zeros_word n ≡ decimal n ++ codes "x00"
counted_zeros n some = rw (ne_eqb n 0 (λ e. absurd (omega (arith, some, e)))) refl

zeros_back : (n : ℕ) → n ≤ 4096 → bytes_of (zeros_word n) ≡ Ok (replicate n 0)
unfolding bytes_of plain_of
zeros_back zero few = refl
zeros_back (suc n) few = ap bytes_of (counted_zeros (suc n) (omega arith)) ∙ counted (suc n) (omega arith) few

counted_word : (w : List ℕ) → is_word w ≡ true → is_word (w ++ codes "x00") ≡ true
counted_word w h = grind (arith, nat_tests, list_all-append, length-append)

zeros_are_word : (n : ℕ) → n ≤ 4096 → is_word (zeros_word n) ≡ true
zeros_are_word zero few = refl
zeros_are_word (suc n) few =
    ap is_word (counted_zeros (suc n) (omega arith))
    ∙ counted_word (decimal (suc n)) (number_word (suc n) (omega (arith, few)))

-- ---- operands

bytes_read : (s : OperandKind) (w bytes : List ℕ) (v : Values) → may_be_text s ≡ true → bytes_of w ≡ Ok bytes
    → value_of s w v ≡ Ok (bytes_at s bytes v)
bytes_read sorts.Message w bytes v h e = rw e refl
bytes_read sorts.Data w bytes v h e = rw e refl
bytes_read sorts.ReplyBuffer w bytes v h e = rw e refl
bytes_read sorts.Buffer w bytes v h e = rw e refl
bytes_read s w bytes v h e = cc

-- the word of an operand is a word, and is read as the operand
pub operand_back : (labels : List Label) (s : OperandKind) (o : Operand) (v : Values) → IsOperand labels s o
    → (is_word (word_of labels o) ≡ true) × (value_of s (word_of labels o) v ≡ with_operand labels s o v)
operand_back labels s (operands.Name m) v h =
    (number_word (named m.name labels) h.1, number_read s (named m.name labels) v h.0 h.1)
operand_back labels s (operands.Number n) v h = (number_word n h.1, number_read s n v h.0 h.1)
operand_back labels s (operands.Plain written) v h = (h.0, rw h.1 refl)
operand_back labels s (operands.Text bytes) v h =
    (text_word bytes h.1, bytes_read s (bytes_word bytes) bytes v h.0 (text_back bytes h.1))
operand_back labels s (operands.Zeros n) v h =
    (zeros_are_word n h.1, bytes_read s (zeros_word n) (replicate n 0) v h.0 (zeros_back n h.1))

-- words after a fault change nothing
faulty : (labels : List Label) (ss : List OperandKind) (all : List Operand) (f : LineFault) → AreOperands labels ss all
    → values_of ss (map (word_of labels) all) (Err f) ≡ Err f
faulty labels [] [] f h = refl
faulty labels (s ∷ ss) (o ∷ all) f h = faulty labels ss all f h.1
faulty labels [] (o ∷ all) f h = absurd h
faulty labels (s ∷ ss) [] f h = absurd h

-- the words after an operand, which may be at fault
next : (labels : List Label) (ss : List OperandKind) (all : List Operand) (r : Result Values LineFault)
    → AreOperands labels ss all
    → ((w : Values) → values_of ss (map (word_of labels) all) (Ok w) ≡ values_in labels ss all w)
    → values_of ss (map (word_of labels) all) r ≡ (r >>= values_in labels ss all)
next labels ss all (Ok w) h more = more w
next labels ss all (Err f) h more = faulty labels ss all f h

-- the words of operands are read as the operands
pub operands_back : (labels : List Label) (ss : List OperandKind) (all : List Operand) (v : Values)
    → AreOperands labels ss all
    → values_of ss (map (word_of labels) all) (Ok v) ≡ values_in labels ss all v
operands_back labels [] [] v h = refl
operands_back labels (s ∷ ss) (o ∷ all) v h =
    ap (values_of ss (map (word_of labels) all)) (operand_back labels s o v h.0).1
    ∙ next labels ss all (with_operand labels s o v) h.1 (λ w. operands_back labels ss all w h.1)
operands_back labels [] (o ∷ all) v h = absurd h
operands_back labels (s ∷ ss) [] v h = absurd h
