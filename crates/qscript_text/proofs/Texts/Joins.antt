-- The lines of joined texts.
use Rattle.qscript_text.proofs.Common.{◌≡◌, ℕ, ◌+◌, ◌-◌, ◌<◌, Bool, true, false, cond, List, [], ◌∷◌, ◌++◌, length}
use Rattle.qscript_text.proofs.Common.{take, map, slice_index, refl, sym, ap, ◌∙◌, arith, inl, inr, length-append}
use Rattle.qscript_text.proofs.Common.{append-nil, append_assoc, slice_split, onto_first, take_more, take_all}
use Rattle.qscript_text.proofs.Common.{map-append, slice_split_none, length-slice_split, lines_of, is_newline}
use Rattle.qscript_text.proofs.Common.{without_return, without_last_end, IsWhole, IsOneLine}
use Rattle.qscript_text.proofs.Texts.Lines.{lines_none, lines_some, end_behind, end_behind_one, end_alone}

-- ---- parts

onto_join : (x : ℕ) (ps qs : List (List ℕ)) → 0 < length ps → onto_first x (ps ++ qs) ≡ onto_first x ps ++ qs
onto_join x [] qs h = absurd (omega arith)
onto_join x (a ∷ ps) qs h = refl

split_join_at : (b : Bool) (x : ℕ) (ps qs : List (List ℕ)) → 0 < length ps
    → cond b ([] ∷ ps ++ qs) (onto_first x (ps ++ qs)) ≡ cond b ([] ∷ ps) (onto_first x ps) ++ qs
split_join_at true x ps qs h = refl
split_join_at false x ps qs h = onto_join x ps qs h

some_parts : (xs : List ℕ) → 0 < length (slice_split is_newline xs)
some_parts xs = omega (arith, length-slice_split is_newline xs)

-- the parts before a line end, and the parts after it
pub split_join : (xs : List ℕ) (y : ℕ) (ys : List ℕ) → is_newline y ≡ true
    → slice_split is_newline (xs ++ y ∷ ys) ≡ slice_split is_newline xs ++ slice_split is_newline ys
split_join [] y ys e = rw e
split_join (x ∷ xs) y ys e =
    ap (λ ps. cond (is_newline x) ([] ∷ ps) (onto_first x ps)) (split_join xs y ys e)
    ∙ split_join_at (is_newline x) x (slice_split is_newline xs) (slice_split is_newline ys) (some_parts xs)

-- ---- lines

-- the lines before a line end, and the lines after it
pub lines_join : (xs ys : List ℕ) → lines_of (xs ++ 10 ∷ ys) ≡ map without_return (slice_split is_newline xs)
    ++ lines_of ys
lines_join xs [] =
    let some : 0 < length (xs ++ 10 ∷ []) = simp length-append (omega arith) in
    let cut : without_last_end (xs ++ 10 ∷ []) ≡ xs = end_behind xs 10 [] ∙ ap (λ t. xs ++ t) (end_alone 10 refl)
    ∙ append-nil xs in
    lines_some (xs ++ 10 ∷ []) some ∙ ap (λ t. map without_return (slice_split is_newline t)) cut
    ∙ sym (append-nil (map without_return (slice_split is_newline xs)))
    ∙ ap (λ ls. map without_return (slice_split is_newline xs) ++ ls) (sym (lines_none [] refl))
lines_join xs (z ∷ zs) =
    let some : 0 < length (xs ++ 10 ∷ z ∷ zs) = simp length-append (omega arith) in
    let cut : without_last_end (xs ++ 10 ∷ z ∷ zs) ≡ xs ++ 10 ∷ without_last_end (z ∷ zs) = end_behind xs 10 (z ∷ zs)
    ∙ ap (λ t. xs ++ t) (end_behind_one 10 z zs) in
    lines_some (xs ++ 10 ∷ z ∷ zs) some ∙ ap (λ t. map without_return (slice_split is_newline t)) cut
    ∙ ap (map without_return) (split_join xs 10 (without_last_end (z ∷ zs)) refl)
    ∙ map-append without_return (slice_split is_newline xs) (slice_split is_newline (without_last_end (z ∷ zs)))
    ∙ ap (λ ls. map without_return (slice_split is_newline xs) ++ ls) (sym (lines_some (z ∷ zs) (omega arith)))

-- a text ends in its last byte
ends_in : (t : List ℕ) → 0 < length t → t ≡ take (length t - 1) t ++ slice_index t (length t - 1) ∷ []
ends_in t h =
    let lt : length t - 1 < length t = omega arith in
    let full : length t - 1 + 1 ≡ length t = omega arith in
    sym (take_all (length t) t (omega arith)) ∙ ap (λ n. take n t) (sym full) ∙ take_more t (length t - 1) 0 lt

-- the parts of a text after whole lines
whole_parts_at : (pre xs : List ℕ) → map without_return (slice_split is_newline ((pre ++ 10 ∷ []) ++ xs)) ≡ lines_of
    (pre ++ 10 ∷ []) ++ map without_return (slice_split is_newline xs)
whole_parts_at pre xs =
    let parts = map without_return (slice_split is_newline pre) in
    ap (λ t. map without_return (slice_split is_newline t)) (append_assoc pre (10 ∷ []) xs)
    ∙ ap (map without_return) (split_join pre 10 xs refl)
    ∙ map-append without_return (slice_split is_newline pre) (slice_split is_newline xs)
    ∙ ap (λ ls. ls ++ map without_return (slice_split is_newline xs))
    (sym (append-nil parts) ∙ ap (λ ls. parts ++ ls) (sym (lines_none [] refl)) ∙ sym (lines_join pre []))

whole_lines_at : (pre ys : List ℕ) → lines_of ((pre ++ 10 ∷ []) ++ ys) ≡ lines_of (pre ++ 10 ∷ []) ++ lines_of ys
whole_lines_at pre ys =
    let parts = map without_return (slice_split is_newline pre) in
    ap lines_of (append_assoc pre (10 ∷ []) ys) ∙ lines_join pre ys
    ∙ ap (λ ls. ls ++ lines_of ys) (sym (append-nil parts) ∙ ap (λ ls. parts ++ ls) (sym (lines_none [] refl))
    ∙ sym (lines_join pre []))

whole_end : (t : List ℕ) → 0 < length t → slice_index t (length t - 1) ≡ 10 → t ≡ take (length t - 1) t ++ 10 ∷ []
whole_end t h e = ends_in t h ∙ ap (λ b. take (length t - 1) t ++ b ∷ []) e

pub whole_parts : (front xs : List ℕ) → IsWhole front
    → map without_return (slice_split is_newline (front ++ xs)) ≡ lines_of front ++ map without_return
    (slice_split is_newline xs)
whole_parts [] xs h = ap (λ ls. ls ++ map without_return (slice_split is_newline xs)) (sym (lines_none [] refl))
whole_parts (x ∷ t) xs (inl h) = absurd (omega arith)
whole_parts (x ∷ t) xs (inr e) =
    let f : List ℕ = x ∷ t in
    let s : f ≡ take (length f - 1) f ++ 10 ∷ [] = whole_end f (omega arith) e in
    ap (λ u. map without_return (slice_split is_newline (u ++ xs))) s ∙ whole_parts_at (take (length f - 1) f) xs
    ∙ ap (λ u. lines_of u ++ map without_return (slice_split is_newline xs)) (sym s)

pub whole_lines : (front ys : List ℕ) → IsWhole front → lines_of (front ++ ys) ≡ lines_of front ++ lines_of ys
whole_lines [] ys h = ap (λ ls. ls ++ lines_of ys) (sym (lines_none [] refl))
whole_lines (x ∷ t) ys (inl h) = absurd (omega arith)
whole_lines (x ∷ t) ys (inr e) =
    let f : List ℕ = x ∷ t in
    let s : f ≡ take (length f - 1) f ++ 10 ∷ [] = whole_end f (omega arith) e in
    ap (λ u. lines_of (u ++ ys)) s ∙ whole_lines_at (take (length f - 1) f) ys
    ∙ ap (λ u. lines_of u ++ lines_of ys) (sym s)

-- one line between whole lines and a rest
pub lines_between : (front line back : List ℕ) → IsWhole front → IsOneLine line
    → lines_of (front ++ line ++ 10 ∷ back) ≡ lines_of front ++ without_return line ∷ lines_of back
lines_between front line back whole one =
    lines_join (front ++ line) back
    ∙ ap (λ ls. ls ++ lines_of back)
    (whole_parts front line whole
    ∙ ap (λ ps. lines_of front ++ map without_return ps) (slice_split_none is_newline line one))
    ∙ append_assoc (lines_of front) (without_return line ∷ []) (lines_of back)
