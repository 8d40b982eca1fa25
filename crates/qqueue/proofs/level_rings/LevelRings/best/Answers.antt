use Rattle.qqueue.proofs.Common.{true, arith, ap, sym, ◌∙◌, best_of, first_at, item_at, items_at, places_of}
use Rattle.std.specs.Prelude.{is_some}
use Rattle.qqueue.proofs.BestLaws.{top, best_pulse, no_pulse}
use Rattle.qqueue.proofs.KeptLaws.{some_node}
use Rattle.qqueue.proofs.level_rings.LevelRings.best.Goals as goal

pub foremost-pulse-requires : goal.foremost-pulse-requires
foremost-pulse-requires c level key begins =
    let l = c.args.self.now in
    (c.requires.made
    (omega (arith, some_node (first_at l.messages l.pulses) l.nodes c.requires.rings true level key begins))).1

pub returns-in_err-pulse-in-PulseOnly-clause-best : goal.returns-in_err-pulse-in-PulseOnly-clause-best
returns-in_err-pulse-in-PulseOnly-clause-best c =
    let l = c.args.self.now in
    ap (item_at l.nodes) c.from_residual.ensures
    ∙ no_pulse (first_at l.messages l.pulses) l.nodes c.requires.rises c.requires.rings
    c.in_err-pulse-in-PulseOnly.ensures.none
    ∙ ap (λ kind. best_of kind (items_at (places_of l.nodes))) (sym c.in-PulseOnly.is)

pub returns-in_ok-pulse-in-PulseOnly-clause-best : goal.returns-in_ok-pulse-in-PulseOnly-clause-best
returns-in_ok-pulse-in-PulseOnly-clause-best c =
    let l = c.args.self.now in
    best_pulse (first_at l.messages l.pulses) l.nodes c.requires.rises c.requires.rings
    c.in_ok-pulse-in-PulseOnly.field-0 c.in_ok-pulse-in-PulseOnly.ensures.some
    ∙ ap (λ kind. best_of kind (items_at (places_of l.nodes))) (sym c.in-PulseOnly.is)

pub returns-in_ok-pulse-in-PulseOnly-clause-there : goal.returns-in_ok-pulse-in-PulseOnly-clause-there
returns-in_ok-pulse-in-PulseOnly-clause-there c =
    let l = c.args.self.now in
    ap is_some
    (top (first_at l.messages l.pulses) l.nodes c.requires.rises c.requires.rings true
    c.in_ok-pulse-in-PulseOnly.field-0 c.in_ok-pulse-in-PulseOnly.ensures.some).there
