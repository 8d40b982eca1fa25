use Rattle.qqueue.proofs.Common.{◌≡◌, ap, sym, ◌∙◌, is_pulse, first_at, first_in}
use Rattle.std.specs.Prelude.{None}
use Rattle.qqueue.proofs.NextLaws.{none_greater}
use Rattle.qqueue.proofs.level_rings.LevelRings.next_of.Goals as goal
use Rattle.qqueue.proofs.level_rings.LevelRings.next_of.Goals.{then-is_pulse, else-is_pulse}

no_first : (c : goal.After-from_residual) → let l = c.args.self.now in
    first_at l.messages l.pulses (is_pulse c.args.item.now.what) c.args.item.now.priority ≡ None
no_first c =
    let l = c.args.self.now in
    let level = sym c.get-level.ensures.value in
    elim c.if-is_pulse.branch [
      | then-is_pulse w ↦
          ap (λ b. first_at l.messages l.pulses b c.args.item.now.priority)
          (sym c.is_pulse.ensures ∙ w.if-is_pulse.true)
          ∙ ap (first_in l.pulses) level ∙ sym w.first-first.ensures ∙ sym w.first-is ∙ c.in_err-first.was
      | else-is_pulse w ↦
          ap (λ b. first_at l.messages l.pulses b c.args.item.now.priority)
          (sym c.is_pulse.ensures ∙ w.if-is_pulse.false)
          ∙ ap (first_in l.messages) level ∙ sym w.first-first-else-is_pulse.ensures ∙ sym w.first-is
          ∙ c.in_err-first.was
    ]

pub returns-in_err-first : goal.returns-in_err-first
returns-in_err-first c =
    let item = c.args.item.now in
    let at_first = (c.requires.kept.rings (is_pulse item.what) item.priority).0 in
    c.from_residual.ensures ∙ none_greater c.args.self.now.nodes item (sym at_first ∙ no_first c)
