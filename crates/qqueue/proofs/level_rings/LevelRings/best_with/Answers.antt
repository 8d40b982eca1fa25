use Rattle.qqueue.proofs.Common.{true, false, ap, arith, first_at}
use Rattle.std.specs.Prelude.{is_some}
use Rattle.qqueue.proofs.BestLaws.{top, best_of_two, best_message_alone, best_pulse_alone, best_none}
use Rattle.qqueue.proofs.KeptLaws.{some_node}
use Rattle.qqueue.proofs.level_rings.LevelRings.best_with.Goals as goal

pub foremost-requires : goal.foremost-requires
foremost-requires c level key begins =
    let l = c.args.self.now in
    (c.requires.kept.made
    (omega (arith, some_node (first_at l.messages l.pulses) l.nodes c.requires.kept.rings false level key begins))).0

pub earlier-requires-clause-message_there : goal.earlier-requires-clause-message_there
earlier-requires-clause-message_there c =
    let l = c.args.self.now in
    ap is_some
    (top (first_at l.messages l.pulses) l.nodes c.requires.kept.rises c.requires.kept.rings false
    c.in-Some-Some.message c.in-Some-Some.ensures.some).there

pub earlier-requires-clause-pulse_there : goal.earlier-requires-clause-pulse_there
earlier-requires-clause-pulse_there c =
    let l = c.args.self.now in
    ap is_some
    (top (first_at l.messages l.pulses) l.nodes c.requires.kept.rises c.requires.kept.rings true c.in-Some-Some.pulse
    (rw c.in-Some-Some.is-1 at c.requires.some)).there

pub returns-in-Some-Some-clause-best : goal.returns-in-Some-Some-clause-best
returns-in-Some-Some-clause-best c =
    let l = c.args.self.now in
    best_of_two (first_at l.messages l.pulses) l.nodes c.requires.kept.rises c.requires.kept.rings
    c.in-Some-Some.message c.in-Some-Some.pulse c.earlier.result c.in-Some-Some.ensures.some
    (rw c.in-Some-Some.is-1 at c.requires.some) c.earlier.ensures.first

pub returns-in-Some-None-clause-best : goal.returns-in-Some-None-clause-best
returns-in-Some-None-clause-best c =
    let l = c.args.self.now in
    best_message_alone (first_at l.messages l.pulses) l.nodes c.requires.kept.rises c.requires.kept.rings
    c.in-Some-None.message c.in-Some-None.ensures.some (rw c.in-Some-None.is-1 at c.requires.none)

pub returns-in-None-Some-clause-best : goal.returns-in-None-Some-clause-best
returns-in-None-Some-clause-best c =
    let l = c.args.self.now in
    best_pulse_alone (first_at l.messages l.pulses) l.nodes c.requires.kept.rises c.requires.kept.rings
    c.in-None-Some.pulse (rw c.in-None-Some.is-1 at c.requires.some) (rw c.in-None-Some.is-0 at c.foremost.ensures.none)

pub returns-in-None-None-clause-best : goal.returns-in-None-None-clause-best
returns-in-None-None-clause-best c =
    let l = c.args.self.now in
    best_none (first_at l.messages l.pulses) l.nodes c.requires.kept.rises c.requires.kept.rings
    (rw c.in-None-None.is-0 at c.foremost.ensures.none) (rw c.in-None-None.is-1 at c.requires.none)

pub returns-in-Some-None-clause-there : goal.returns-in-Some-None-clause-there
returns-in-Some-None-clause-there c =
    let l = c.args.self.now in
    ap is_some
    (top (first_at l.messages l.pulses) l.nodes c.requires.kept.rises c.requires.kept.rings false
    c.in-Some-None.message c.in-Some-None.ensures.some).there

pub returns-in-None-Some-clause-there : goal.returns-in-None-Some-clause-there
returns-in-None-Some-clause-there c =
    let l = c.args.self.now in
    ap is_some
    (top (first_at l.messages l.pulses) l.nodes c.requires.kept.rises c.requires.kept.rings true c.in-None-Some.pulse
    (rw c.in-None-Some.is-1 at c.requires.some)).there
