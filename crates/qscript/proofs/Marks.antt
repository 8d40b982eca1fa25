-- The words of a result, printed one after another.
use Rattle.qscript.proofs.Common.{◌≡◌, ℕ, ◌+◌, ◌≤◌, List, [], ◌∷◌, ◌++◌, None, Some, ap, append_assoc, arith, get_or}
use Rattle.qscript.proofs.Common.{length, refl, slice_get, suc, sym, take, take_all, take_more, words_with_spaces, zero}
use Rattle.qscript.proofs.Common.{◌∙◌}
use Rattle.std.proofs.lemmas.Option.{get_or_from_slice_get, slice_get_within}
use Rattle.qbase.specs.declared.state.ThreadState.TheVariants as states
use Rattle.qqueue.specs.declared.item.What.TheVariants as contents
use Rattle.qmodel.specs.declared.call.Mark.{Mark}
use Rattle.qmodel.specs.declared.call.Mark.TheVariants as marks
use Rattle.qscript_text.specs.ResultParts.{mark_words}

joined : (ws : List (List ℕ)) (w : List ℕ) → words_with_spaces (ws ++ w ∷ []) ≡ words_with_spaces ws
    ++ words_with_spaces (w ∷ [])
joined [] w = refl
joined (v ∷ []) w = refl
joined (v ∷ next ∷ ws) w =
    ap (λ t. (32 ∷ v) ++ t) (joined (next ∷ ws) w)
    ∙ sym (append_assoc (32 ∷ v) (words_with_spaces (next ∷ ws)) (words_with_spaces (w ∷ [])))

-- the text with one more word
pub one_more : (ws : List (List ℕ)) (n : ℕ) (out so_far grown : List ℕ)
    → ((w : List ℕ) × (slice_get ws n ≡ Some w) × (grown ≡ so_far ++ words_with_spaces (w ∷ [])))
    → so_far ≡ out ++ words_with_spaces (take n ws) → grown ≡ out ++ words_with_spaces (take (n + 1) ws)
one_more ws n out so_far grown (w, found, written) is =
    let there : get_or ws n w ≡ w = get_or_from_slice_get ws n w w found in
    let longer : take (n + 1) ws ≡ take n ws ++ w ∷ [] =
    take_more ws n w (slice_get_within ws n w found) ∙ ap (λ x. take n ws ++ x ∷ []) there in
    written ∙ ap (λ t. t ++ words_with_spaces (w ∷ [])) is
    ∙ append_assoc out (words_with_spaces (take n ws)) (words_with_spaces (w ∷ []))
    ∙ ap (λ t. out ++ t) (sym (joined (take n ws) w) ∙ ap words_with_spaces (sym longer))

-- there is no further word
pub ended : (ws : List (List ℕ)) (n : ℕ) → slice_get ws n ≡ None → take n ws ≡ ws
ended [] n e = take_all n [] (omega arith)
ended (w ∷ ws) zero e = cc
ended (w ∷ ws) (suc n) e = ap (λ t. w ∷ t) (ended ws n e)

-- a result has at most eight words
pub few_words : (mark : Mark) → length (mark_words mark) ≤ 8
unfolding mark_words
few_words marks.Ok = omega arith
few_words (marks.Failed errno) = omega arith
few_words (marks.Channel chid) = omega arith
few_words (marks.Connection coid) = omega arith
few_words (marks.Replied status copied) = omega arith
few_words (marks.Message rcvid copied) = omega arith
few_words (marks.Errored code) = omega arith
few_words (marks.Count copied) = omega arith
few_words (marks.Info info) = omega arith
few_words (marks.Pulse item priority contents.Message) = omega arith
few_words (marks.Pulse item priority (contents.User code value)) = omega arith
few_words (marks.Pulse item priority (contents.Unblock rcvid)) = omega arith
few_words (marks.Pulse item priority (contents.Disconnect process)) = omega arith
few_words (marks.State states.Ready priority) = omega arith
few_words (marks.State (states.SendBlocked chid) priority) = omega arith
few_words (marks.State (states.ReceiveBlocked chid) priority) = omega arith
few_words (marks.State (states.ReplyBlocked chid) priority) = omega arith
