use Rattle.std.proofs.Common.{◌≡◌, ◌∙◌, ℕ, ◌+◌, ◌<◌, Bool, false, cond, List, drop, length, refl, ap, sym, Some}
use Rattle.std.proofs.Math.ListN.{get_or}
use Rattle.std.proofs.lemmas.List.{at_drop_more}
use Rattle.std.specs.List.{find}
use Rattle.std.specs.Str.{bytes_eq}
use Rattle.qmodel.specs.declared.kind.CallKind.TheVariants.{ChannelCreate}
use Rattle.qmodel.specs.declared.kind.TheConstants.{KINDS}
use Rattle.qmodel.specs.Kinds.{kind_named, script_word}
use Rattle.qmodel.proofs.kind.CallKind.of_word.Goals as goal

-- if an element fails the test, the search continues after it
find_past : {X : Type 0} (p : X → Bool) (xs : List X) (i : ℕ) (x : X) → i < length xs → p (get_or xs i x) ≡ false
    → find p (drop (i + 1) xs) ≡ find p (drop i xs)
find_past p xs i x within fails =
    sym (at_drop_more (find p) xs i x within ∙ ap (λ b. cond b (Some (get_or xs i x)) (find p (drop (i + 1) xs))) fails)

pub loop-kind-init : goal.loop-kind-init
unfolding kind_named
loop-kind-init c = refl

pub loop-kind-preserved : goal.loop-kind-preserved
loop-kind-preserved c =
    find_past (λ k. bytes_eq c.args.word.now (script_word k)) KINDS c.loop-kind.kind-index ChannelCreate
    c.loop-kind-test.true
    (ap (bytes_eq c.args.word.now) (sym (c.as_bytes.ensures.value ∙ c.word.ensures)) ∙ sym c.eq.ensures ∙ c.if-eq.false)
    ∙ c.loop-kind.invariant
