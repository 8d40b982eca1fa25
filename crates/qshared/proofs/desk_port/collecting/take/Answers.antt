use Rattle.qshared.proofs.Common.{ap, sym, ◌∙◌, completions_in, origin_of, thread_of}
use Rattle.qhandoff.specs.Words as cells
use Rattle.qshared.proofs.Deliveries.{polled}
use Rattle.qshared.proofs.Rows.{map_snoc}
use Rattle.qshared.proofs.desk_port.collecting.take.Goals as goal

pub learn-requires : goal.learn-requires
learn-requires c =
    let origin = origin_of c.args.cells.now in
    let p = polled c.take_into.new.place c.in-Some.delivery origin.roster.value origin.seen.name
    (thread_of c.args.seat.now) _ _ c.in-Some.is c.take_into.ensures.taken c.take_into.ensures.allowed in
    c.requires.seen ∙ sym p.1

pub returns-clause-taken : goal.returns-clause-taken
returns-clause-taken c =
    let origin = origin_of c.args.cells.now in
    let p = polled c.take_into.new.place c.in-Some.delivery origin.roster.value origin.seen.name
    (thread_of c.args.seat.now) _ _ c.in-Some.is c.take_into.ensures.taken c.take_into.ensures.allowed in
    ap completions_in p.0 ∙ map_snoc (λ z. z.completion) (cells.taken c.args.seat.now) c.in-Some.delivery

pub returns-clause-arrives : goal.returns-clause-arrives
returns-clause-arrives c =
    let origin = origin_of c.args.cells.now in
    let p = polled c.take_into.new.place c.in-Some.delivery origin.roster.value origin.seen.name
    (thread_of c.args.seat.now) _ _ c.in-Some.is c.take_into.ensures.taken c.take_into.ensures.allowed in
    record { made = c.in-Some.delivery.seen.trace; extends = c.learn.ensures.others; is = p.2 }
