use Rattle.qshared.specs.Due.{at_once}
use Rattle.qshared.proofs.Common.{refl, thread_of, origin_of}
use Rattle.qshared.proofs.Turns.{takes}
use Rattle.qshared.proofs.Waiting.{awaited, arrives_at, since_learned}
use Rattle.qshared.proofs.desk_port.DeskPort.poll.Goals as goal

pub returns-clause-taken : goal.returns-clause-taken
returns-clause-taken c =
    let self = c.args.self.now in
    takes (at_once self.last.trace self.thread) _ _ c.take.new.place _ _ c.take.ensures.taken c.take.ensures.pending
    self.later

pub returns-clause-came : goal.returns-clause-came
returns-clause-came c =
    let self = c.args.self.now in
    awaited (origin_of c.args.cells.now).roster.value self.thread (thread_of self.seat) self.asked.calls
    self.last.trace self.seen c.take.new.seen c.take.new.place _ _ _ _ c.requires.at self.calls_are self.since
    self.later c.take.ensures.taken c.take.ensures.pending c.take.ensures.seen
    (arrives_at c.take.new.place _ _ _ _ _ _ refl refl c.take.ensures.arrives)

pub invariant_of-self-clause-since : goal.invariant_of-self-clause-since
invariant_of-self-clause-since c =
    let self = c.args.self.now in
    since_learned c.take.new.place self.seen c.take.new.seen self.last.trace c.take.ensures.seen self.since
