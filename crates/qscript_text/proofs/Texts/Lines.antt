-- The lines of a text: the first line and the lines after it.
use Rattle.qscript_text.proofs.Common.{◌≡◌, ℕ, suc, ◌+◌, ◌-◌, ◌<◌, ◌==◌, Bool, true, false, not, cond, List, [], ◌∷◌}
use Rattle.qscript_text.proofs.Common.{◌++◌, length, take, drop, map, get_or, slice_index, refl, sym, ap, ◌∙◌, arith}
use Rattle.qscript_text.proofs.Common.{inl, inr, length-append, append-nil, All, slice_split, position_or_len}
use Rattle.qscript_text.proofs.Common.{common_steps, cases_lt, take_all, drop_all, slice_split_none, slice_split_at}
use Rattle.qscript_text.proofs.Common.{split_at_first, fails_before_first, passes_at_first, prefix_len-le-length}
use Rattle.qscript_text.proofs.Common.{is_empty}
use Rattle.qscript_text.specs.Reading.Lines.{lines_of, is_newline}
use Rattle.qscript_text.proofs.Words.{without_last_end, without_return}

-- a text that is empty has no lines
pub lines_none : (text : List ℕ) → length text ≡ 0 → lines_of text ≡ []
unfolding lines_of
lines_none [] h = refl
lines_none (x ∷ xs) h = absurd (omega arith)

-- the lines of a text that isn't empty
pub lines_some : (text : List ℕ) → 0 < length text
    → lines_of text ≡ map without_return (slice_split is_newline (without_last_end text))
unfolding lines_of
lines_some [] h = absurd (omega arith)
lines_some (x ∷ xs) h =
    let full : is_empty (x ∷ xs) ≡ false = grind (arith, common_steps) in
    rw full

either_way : (b : Bool) (x : ℕ) (xs ys : List ℕ) → cond b (x ∷ xs) (x ∷ ys) ≡ x ∷ cond b xs ys
either_way true x xs ys = refl
either_way false x xs ys = refl

-- the last line end of two bytes or more comes after the first byte
pub end_behind_one : (x y : ℕ) (ys : List ℕ) → without_last_end (x ∷ y ∷ ys) ≡ x ∷ without_last_end (y ∷ ys)
end_behind_one x y ys =
    let two : length (x ∷ y ∷ ys) - 1 ≡ suc (length ys) = omega arith in
    let one : length (y ∷ ys) - 1 ≡ length ys = omega arith in
    rw (two, one) (either_way (slice_index (y ∷ ys) (length ys) == 10) x (take (length ys) (y ∷ ys)) (y ∷ ys))

-- the last line end of a text is the last line end of its back
pub end_behind : (front : List ℕ) (y : ℕ) (ys : List ℕ)
    → without_last_end (front ++ y ∷ ys) ≡ front ++ without_last_end (y ∷ ys)
end_behind [] y ys = refl
end_behind (x ∷ []) y ys = end_behind_one x y ys
end_behind (x ∷ z ∷ zs) y ys = end_behind_one x z (zs ++ y ∷ ys) ∙ ap (λ t. x ∷ t) (end_behind (z ∷ zs) y ys)

pub end_alone : (y : ℕ) → is_newline y ≡ true → without_last_end (y ∷ []) ≡ []
end_alone y e = rw e

-- a line before its line end, and the lines after it
pub lines_at : (front : List ℕ) (y : ℕ) (back : List ℕ) → All (λ x. is_newline x ≡ false) front → is_newline y ≡ true
    → lines_of (front ++ y ∷ back) ≡ without_return front ∷ lines_of back
lines_at front y [] clear e =
    let some : 0 < length (front ++ y ∷ []) = simp length-append (omega arith) in
    let cut : without_last_end (front ++ y ∷ []) ≡ front = end_behind front y [] ∙ ap (λ t. front ++ t) (end_alone y e)
    ∙ append-nil front in
    lines_some (front ++ y ∷ []) some ∙ ap (λ t. map without_return (slice_split is_newline t)) cut
    ∙ ap (map without_return) (slice_split_none is_newline front clear)
    ∙ ap (λ ls. without_return front ∷ ls) (sym (lines_none [] refl))
lines_at front y (z ∷ zs) clear e =
    let some : 0 < length (front ++ y ∷ z ∷ zs) = simp length-append (omega arith) in
    let cut : without_last_end (front ++ y ∷ z ∷ zs) ≡ front ++ y ∷ without_last_end (z ∷ zs) =
    end_behind front y (z ∷ zs) ∙ ap (λ t. front ++ t) (end_behind_one y z zs) in
    lines_some (front ++ y ∷ z ∷ zs) some ∙ ap (λ t. map without_return (slice_split is_newline t)) cut
    ∙ ap (map without_return) (slice_split_at is_newline front y (without_last_end (z ∷ zs)) clear e)
    ∙ ap (λ ls. without_return front ∷ ls) (sym (lines_some (z ∷ zs) (omega arith)))

-- a line without a line end
lines_last : (text : List ℕ) → 0 < length text → All (λ x. is_newline x ≡ false) text
    → lines_of text ≡ without_return text ∷ []
lines_last text some clear =
    let last : is_newline (slice_index text (length text - 1)) ≡ false = clear (length text - 1) 0 (omega arith) in
    let cut : without_last_end text ≡ text = rw last in
    lines_some text some ∙ ap (λ t. map without_return (slice_split is_newline t)) cut
    ∙ ap (map without_return) (slice_split_none is_newline text clear)

-- the first line, and the lines after its line end
pub lines_first : (text : List ℕ) → 0 < length text
    → lines_of text ≡ without_return (take (position_or_len is_newline text) text) ∷ lines_of
    (drop (position_or_len is_newline text + 1) text)
lines_first text some =
    let n = position_or_len is_newline text in
    let le = prefix_len-le-length (λ x. not (is_newline x)) text in
    let clear : All (λ x. is_newline x ≡ false) (take n text) = λ k d lt. let before =
    fails_before_first is_newline text k d (grind (arith, common_steps)) in grind (arith, common_steps) in
    elim (cases_lt n (length text)) [
      | inl lt ↦ ap lines_of (split_at_first is_newline text 0 lt)
          ∙ lines_at (take n text) (get_or text n 0) (drop (n + 1) text) clear (passes_at_first is_newline text 0 lt)
      | inr ge ↦
          let all : All (λ x. is_newline x ≡ false) text =
          λ k d lt. fails_before_first is_newline text k d (omega arith) in
          let front : take n text ≡ text = take_all n text ge in
          let back : drop (n + 1) text ≡ [] = drop_all (n + 1) text (omega arith) in
          rw (front, back) (lines_last text some all ∙ ap (λ ls. without_return text ∷ ls) (sym (lines_none [] refl)))
    ]

-- the first line of a text, as the loop splits it off
pub lines_next : (text front line rest : List ℕ) (n : ℕ) → 0 < length text → n ≡ position_or_len is_newline text
    → line ≡ without_return front → front ≡ take n text → rest ≡ drop (n + 1) text
    → lines_of text ≡ line ∷ lines_of rest
lines_next text front line rest n some at e f r = rw (e, f, r, at) (lines_first text some)
