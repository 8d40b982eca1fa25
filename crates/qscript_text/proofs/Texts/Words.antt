-- The words of a text: the first word and the words after it.
use Rattle.qscript_text.proofs.Common.{◌≡◌, ℕ, ◌+◌, ◌<◌, Bool, true, false, not, cond, List, [], ◌∷◌, length, take}
use Rattle.qscript_text.proofs.Common.{drop, get_or, length-take, position, filter, suc, Some, None, nat_lt, refl, sym}
use Rattle.qscript_text.proofs.Common.{ap, ◌∙◌, arith, inl, inr, All, slice_split, position_or_len, common_steps}
use Rattle.qscript_text.proofs.Common.{slice_split_none, slice_split_first, fails_before_first, passes_at_first}
use Rattle.qscript_text.proofs.Common.{prefix_len-le-length, take_all, drop_all, drop_more, cases_lt}
use Rattle.qscript_text.specs.Reading.Words.{words_of, is_blank}
use Rattle.qscript_text.proofs.Words.{is_empty}

-- ---- places

chosen : (n l : ℕ) (b : Bool) → (i : ℕ) → cond b (Some n) None ≡ Some i → n ≡ i
chosen n l true i e = cc
chosen n l false i e = cc

-- the first place that passes the test
pub place_some : (p : ℕ → Bool) (xs : List ℕ) (i : ℕ) → position p xs ≡ Some i → position_or_len p xs ≡ i
place_some p xs i e = chosen (position_or_len p xs) (length xs) (nat_lt (position_or_len p xs) (length xs)) i e

-- no place passes the test
pub place_none : (p : ℕ → Bool) (xs : List ℕ) → position p xs ≡ None → position_or_len p xs ≡ length xs
place_none p xs e =
    let le = prefix_len-le-length (λ x. not (p x)) xs in
    grind (arith, common_steps)

-- ---- words

-- a blank at the front isn't a word
pub words_blank : (x : ℕ) (xs : List ℕ) → is_blank x ≡ true → words_of (x ∷ xs) ≡ words_of xs
unfolding words_of
words_blank x xs e = rw e

after_blank : (x : ℕ) (xs : List ℕ) → is_blank x ≡ true
    → drop (position_or_len (λ b. not (is_blank b)) (x ∷ xs)) (x ∷ xs)
    ≡ drop (position_or_len (λ b. not (is_blank b)) xs) xs
after_blank x xs e =
    let one : 1 + position_or_len (λ b. not (is_blank b)) xs ≡ suc (position_or_len (λ b. not (is_blank b)) xs) =
    omega arith in
    rw (e, one)

no_blank : (x : ℕ) (xs : List ℕ) → is_blank x ≡ false
    → drop (position_or_len (λ b. not (is_blank b)) (x ∷ xs)) (x ∷ xs) ≡ x ∷ xs
no_blank x xs e = rw e

-- blanks at the front aren't words
pub words_skip : (text : List ℕ) → words_of (drop (position_or_len (λ b. not (is_blank b)) text) text) ≡ words_of text
words_skip [] = refl
words_skip (x ∷ xs) =
    elim (is_blank x) as (λ b. is_blank x ≡ b
    → words_of (drop (position_or_len (λ b. not (is_blank b)) (x ∷ xs)) (x ∷ xs)) ≡ words_of (x ∷ xs)) [
      | true ↦ λ e. ap words_of (after_blank x xs e) ∙ words_skip xs ∙ sym (words_blank x xs e)
      | false ↦ λ e. ap words_of (no_blank x xs e)
    ] refl

-- after them the text ends or a word begins
pub word_first : (text : List ℕ) → 0 < length (drop (position_or_len (λ b. not (is_blank b)) text) text)
    → 0 < position_or_len is_blank (drop (position_or_len (λ b. not (is_blank b)) text) text)
word_first [] = λ h. absurd (omega arith)
word_first (x ∷ xs) =
    elim (is_blank x) as (λ b. is_blank x ≡ b
    → 0 < length (drop (position_or_len (λ b. not (is_blank b)) (x ∷ xs)) (x ∷ xs))
    → 0 < position_or_len is_blank (drop (position_or_len (λ b. not (is_blank b)) (x ∷ xs)) (x ∷ xs))) [
      | true ↦ λ e. rw (after_blank x xs e) (word_first xs)
      | false ↦ λ e h. rw (no_blank x xs e, e) (omega arith)
    ] refl

-- a text that is empty has no words
pub words_none : (text : List ℕ) → length text ≡ 0 → words_of text ≡ []
unfolding words_of
words_none [] h = refl
words_none (x ∷ xs) h = absurd (omega arith)

pub word_kept : (w : List ℕ) (others : List (List ℕ)) → 0 < length w
    → filter (λ word. not (is_empty word)) (w ∷ others) ≡ w ∷ filter (λ word. not (is_empty word)) others
word_kept [] others h = absurd (omega arith)
word_kept (x ∷ xs) others h = grind (arith, common_steps)

-- a word before a blank
word_inside : (text : List ℕ) → 0 < position_or_len is_blank text → position_or_len is_blank text < length text
    → words_of text ≡ take (position_or_len is_blank text) text ∷ words_of (drop (position_or_len is_blank text) text)
unfolding words_of
word_inside text h lt =
    let n = position_or_len is_blank text in
    let rest : drop n text ≡ get_or text n 0 ∷ drop (n + 1) text = drop_more text n 0 lt in
    let after : words_of (drop n text) ≡ words_of (drop (n + 1) text) = ap words_of rest
    ∙ words_blank (get_or text n 0) (drop (n + 1) text) (passes_at_first is_blank text 0 lt) in
    let long : 0 < length (take n text) = simp length-take (omega arith) in
    ap (filter (λ word. not (is_empty word))) (slice_split_first is_blank text 0 lt)
    ∙ word_kept (take n text) (slice_split is_blank (drop (n + 1) text)) long
    ∙ ap (λ ws. take n text ∷ ws) (sym after)

-- a word at the end
word_last : (text : List ℕ) → 0 < length text → position_or_len is_blank text ≡ length text
    → words_of text ≡ take (position_or_len is_blank text) text ∷ words_of (drop (position_or_len is_blank text) text)
unfolding words_of
word_last text h at =
    let all : All (λ x. is_blank x ≡ false) text = λ k d lt. fails_before_first is_blank text k d (omega arith) in
    let front : take (position_or_len is_blank text) text ≡ text =
    take_all (position_or_len is_blank text) text (omega arith) in
    let back : drop (position_or_len is_blank text) text ≡ [] =
    drop_all (position_or_len is_blank text) text (omega arith) in
    rw (front, back, slice_split_none is_blank text all) (word_kept text [] h)

-- the first word, and the words of the text after it
pub words_first : (text : List ℕ) → 0 < position_or_len is_blank text
    → words_of text ≡ take (position_or_len is_blank text) text ∷ words_of (drop (position_or_len is_blank text) text)
words_first text h =
    let le = prefix_len-le-length (λ x. not (is_blank x)) text in
    elim (cases_lt (position_or_len is_blank text) (length text)) [
      | inl lt ↦ word_inside text h lt
      | inr ge ↦ word_last text (omega arith) (omega arith)
    ]

-- the first word after the blanks at the front
pub words_next : (text w a b : List ℕ) (n : ℕ) → w ≡ drop (position_or_len (λ b. not (is_blank b)) text) text
    → 0 < length w
    → n ≡ position_or_len is_blank w → a ≡ take n w → b ≡ drop n w → words_of text ≡ a ∷ words_of b
words_next text w a b n e some at front back =
    let there : 0 < length (drop (position_or_len (λ b. not (is_blank b)) text) text) = rw e at some in
    let long : 0 < position_or_len is_blank w = rw e (word_first text there) in
    rw (front, back, at) (sym (words_skip text) ∙ ap words_of (sym e) ∙ words_first w long)
