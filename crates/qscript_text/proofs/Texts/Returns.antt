-- A carriage return before a line end.
use Rattle.qscript_text.proofs.Common.{◌≡◌, ◌≢◌, ℕ, zero, suc, ◌+◌, ◌-◌, ◌<◌, ◌⊎◌, true, false, List, [], ◌∷◌, ◌++◌}
use Rattle.qscript_text.proofs.Common.{length, map, slice_index, refl, sym, ap, ◌∙◌, arith, inl, inr, length-append}
use Rattle.qscript_text.proofs.Common.{append-nil, append_assoc, slice_split, ne_eqb, eqb-true, map-append}
use Rattle.qscript_text.proofs.Common.{get_or-append_right, slice_split_none, take-append_seam, get_or-append_seam}
use Rattle.qscript_text.proofs.Common.{lines_of, is_newline, without_return, without_last_end, IsOneLine}
use Rattle.qscript_text.proofs.Texts.Lines.{lines_none, lines_some}
use Rattle.qscript_text.proofs.Texts.Joins.{split_join, lines_join}

-- ---- the last line of a text

one_more_byte : (x : ℕ) (xs : List ℕ) → is_newline x ≡ false → IsOneLine xs → IsOneLine (x ∷ xs)
one_more_byte x xs e one zero d lt = e
one_more_byte x xs e one (suc k) d lt = one k d (omega arith)

last_line_more : (x : ℕ) (xs : List ℕ) → IsOneLine xs
    ⊎ ((pre : List ℕ) × (w : List ℕ) × (xs ≡ pre ++ 10 ∷ w) × IsOneLine w)
    → IsOneLine (x ∷ xs) ⊎ ((pre : List ℕ) × (w : List ℕ) × (x ∷ xs ≡ pre ++ 10 ∷ w) × IsOneLine w)
last_line_more x xs (inr r) = inr (x ∷ r.0, r.1, ap (λ t. x ∷ t) r.2, r.3)
last_line_more x xs (inl one) =
    elim (is_newline x) as (λ b. is_newline x ≡ b → IsOneLine (x ∷ xs)
    ⊎ ((pre : List ℕ) × (w : List ℕ) × (x ∷ xs ≡ pre ++ 10 ∷ w) × IsOneLine w)) [
      | true ↦ λ e. inr ([], xs, ap (λ n. n ∷ xs) (eqb-true x 10 e), one)
      | false ↦ λ e. inl (one_more_byte x xs e one)
    ] refl

last_line : (t : List ℕ) → IsOneLine t ⊎ ((pre : List ℕ) × (w : List ℕ) × (t ≡ pre ++ 10 ∷ w) × IsOneLine w)
last_line [] = inl (λ k d lt. absurd (omega arith))
last_line (x ∷ xs) = last_line_more x xs (last_line xs)

-- ---- the return at its end

kept : (w : List ℕ) → slice_index w (length w - 1) ≢ 13 → without_return w ≡ w
kept w h = rw (ne_eqb (slice_index w (length w - 1)) 13 h)

dropped : (w : List ℕ) → without_return (w ++ 13 ∷ []) ≡ w
dropped w =
    let n : length (w ++ 13 ∷ []) - 1 ≡ length w = simp length-append (omega arith) in
    rw (n, get_or-append_seam w 13 [] 0) (take-append_seam w (13 ∷ []))

one_with_return : (w : List ℕ) → IsOneLine w → IsOneLine (w ++ 13 ∷ [])
one_with_return [] one = one_more_byte 13 [] refl one
one_with_return (x ∷ xs) one =
    one_more_byte x (xs ++ 13 ∷ []) (one 0 0 (omega arith)) (one_with_return xs (λ k d lt. one (suc k) d (omega arith)))

-- the last byte of a text that doesn't end a line is the last byte of its last line
last_byte : (pre w : List ℕ) → slice_index (pre ++ 10 ∷ w) (length (pre ++ 10 ∷ w) - 1) ≢ 13
    → slice_index w (length w - 1) ≢ 13
last_byte pre [] h e = absurd (cc)
last_byte pre (z ∷ zs) h e =
    let i : length (pre ++ 10 ∷ z ∷ zs) - 1 ≡ length pre + suc (length zs) = simp length-append (omega arith) in
    let j : length pre + suc (length zs) - length pre ≡ suc (length zs) = omega arith in
    let n : length (z ∷ zs) - 1 ≡ length zs = omega arith in
    let at : slice_index (pre ++ 10 ∷ z ∷ zs) (length pre + suc (length zs)) ≡ slice_index (z ∷ zs) (length zs) =
    get_or-append_right pre (10 ∷ z ∷ zs) (length pre) (length pre + suc (length zs)) 0 refl (omega arith)
    ∙ ap (λ m. slice_index (10 ∷ z ∷ zs) m) j in
    h (ap (λ m. slice_index (pre ++ 10 ∷ z ∷ zs) m) i ∙ at ∙ ap (λ m. slice_index (z ∷ zs) m) (sym n) ∙ e)

return_alone : (w : List ℕ) → IsOneLine w → slice_index w (length w - 1) ≢ 13
    → map without_return (slice_split is_newline (w ++ 13 ∷ [])) ≡ map without_return (slice_split is_newline w)
return_alone w one h =
    ap (map without_return) (slice_split_none is_newline (w ++ 13 ∷ []) (one_with_return w one))
    ∙ ap (λ l. l ∷ []) (dropped w ∙ sym (kept w h))
    ∙ ap (map without_return) (sym (slice_split_none is_newline w one))

return_behind : (pre w : List ℕ) → IsOneLine w → slice_index w (length w - 1) ≢ 13
    → map without_return (slice_split is_newline ((pre ++ 10 ∷ w) ++ 13 ∷ [])) ≡ map without_return
    (slice_split is_newline (pre ++ 10 ∷ w))
return_behind pre w one h =
    let front = map without_return (slice_split is_newline pre) in
    ap (λ t. map without_return (slice_split is_newline t)) (append_assoc pre (10 ∷ w) (13 ∷ []))
    ∙ ap (map without_return) (split_join pre 10 (w ++ 13 ∷ []) refl)
    ∙ map-append without_return (slice_split is_newline pre) (slice_split is_newline (w ++ 13 ∷ []))
    ∙ ap (λ ls. front ++ ls) (return_alone w one h)
    ∙ sym (map-append without_return (slice_split is_newline pre) (slice_split is_newline w))
    ∙ ap (map without_return) (sym (split_join pre 10 w refl))

-- the lines of a text with one more return at its end
return_parts : (t : List ℕ) → slice_index t (length t - 1) ≢ 13
    → map without_return (slice_split is_newline (t ++ 13 ∷ [])) ≡ map without_return (slice_split is_newline t)
return_parts t h = elim (last_line t) [
  | inl one ↦ return_alone t one h
  | inr r ↦
      let ends : slice_index (r.0 ++ 10 ∷ r.1) (length (r.0 ++ 10 ∷ r.1) - 1) ≢ 13 =
      λ e. h (ap (λ u. slice_index u (length u - 1)) r.2 ∙ e) in
      ap (λ u. map without_return (slice_split is_newline (u ++ 13 ∷ []))) r.2
      ∙ return_behind r.0 r.1 r.3 (last_byte r.0 r.1 ends)
      ∙ ap (λ u. map without_return (slice_split is_newline u)) (sym r.2)
]

-- the lines of a text with one more return before a line end
pub lines_return : (front back : List ℕ) → slice_index front (length front - 1) ≢ 13
    → lines_of (front ++ 13 ∷ 10 ∷ back) ≡ lines_of (front ++ 10 ∷ back)
lines_return front back h =
    ap lines_of (sym (append_assoc front (13 ∷ []) (10 ∷ back))) ∙ lines_join (front ++ 13 ∷ []) back
    ∙ ap (λ ls. ls ++ lines_of back) (return_parts front h) ∙ sym (lines_join front back)

-- the lines of a text whose last line gets a line end
pub lines_end : (t : List ℕ) → 0 < length t → slice_index t (length t - 1) ≢ 10 → lines_of (t ++ 10 ∷ []) ≡ lines_of t
lines_end t some h =
    let uncut : without_last_end t ≡ t = rw (ne_eqb (slice_index t (length t - 1)) 10 h) in
    let parts = map without_return (slice_split is_newline t) in
    lines_join t [] ∙ ap (λ ls. parts ++ ls) (lines_none [] refl) ∙ append-nil parts
    ∙ ap (λ u. map without_return (slice_split is_newline u)) (sym uncut) ∙ sym (lines_some t some)
