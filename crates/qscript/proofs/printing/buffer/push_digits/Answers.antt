use Rattle.qscript.proofs.Common.{List, [], add-one, ap, append-nil, append_assoc, arith, length, refl, slice_index}
use Rattle.qscript.proofs.Common.{string_bytes, suc, sym, take, zero, ℕ, ◌%◌, ◌++◌, ◌/◌, ◌<◌, ◌∙◌, ◌∷◌, ◌≡◌}
use Rattle.hex.specs.Hex.{lower_digits, encode_with}
use Rattle.qscript.proofs.printing.buffer.push_digits.Goals as goal

-- the digits of one more byte
digits_more : (t xs : List ℕ) (k : ℕ) → k < length xs
    → encode_with t (take (suc k) xs) ≡ encode_with t (take k xs) ++ slice_index t (slice_index xs k / 16)
    ∷ slice_index t (slice_index xs k % 16) ∷ []
unfolding encode_with
digits_more t [] k h = absurd (omega arith)
digits_more t (x ∷ xs) zero h = refl
digits_more t (x ∷ xs) (suc k) h =
    ap (λ ds. slice_index t (x / 16) ∷ slice_index t (x % 16) ∷ ds) (digits_more t xs k (omega arith))

pub bytes-init : goal.bytes-init
unfolding encode_with
bytes-init c = sym (append-nil (string_bytes c.args.out.now))

pub bytes-preserved : goal.bytes-preserved
bytes-preserved c =
    let high = c.in_ok-push.ensures.bytes ∙ ap (λ ds. string_bytes c.bytes.out ++ ds) c.digit.ensures in
    let low = c.in_ok-push-2.ensures.bytes ∙ ap (λ ds. string_bytes c.push.new.self ++ ds) c.digit-in-bytes.ensures in
    rw (
      low,
      high,
      c.bytes.invariant,
      add-one,
      digits_more lower_digits c.args.bytes.now c.bytes.byte-index (omega arith),
      append_assoc,
      append_assoc,
    )
