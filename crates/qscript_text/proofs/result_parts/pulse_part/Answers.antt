use Rattle.std.proofs.Common.{◌≡◌, ℕ, [], ◌∷◌, ◌∙◌, ap, codes, decimal, refl, slice_get}
use Rattle.qqueue.specs.declared.item.What.{What}
use Rattle.qqueue.specs.declared.item.What.TheVariants as contents
use Rattle.qscript_text.specs.ResultParts.{brought_words, mark_words}
use Rattle.qscript_text.proofs.result_parts.pulse_part.Goals as goal

same_words : (item priority level : ℕ) (what : What) → level ≡ priority → what ≡ contents.Message
    → (codes "pulse" ∷ decimal item ∷ decimal level ∷ [])
    ≡ (codes "pulse" ∷ decimal item ∷ decimal priority ∷ brought_words what)
same_words item priority level what e f = rw (e, f) refl

pub returns-in-Message : goal.returns-in-Message
unfolding mark_words
returns-in-Message c =
    c.nth.ensures ∙ ap (λ ws. slice_get ws c.args.at)
    (same_words c.args.item c.args.priority c.from.result c.args.what (cc (c.from.ensures, c.get.ensures.value))
    (cc c.in-Message.is))
