use Rattle.qshared.proofs.Seeing.{on}
use Rattle.qshared.proofs.Turns.{extends_since, since_extends}
use Rattle.qshared.proofs.desk_port.DeskPort.learn.Goals as goal

pub invariant_of-self-clause-since : goal.invariant_of-self-clause-since
invariant_of-self-clause-since c =
    let self = c.args.self.now in
    since_extends c.learn.new.self.trace self.last.trace
    (on self.last.trace self.seen.trace c.learn.new.self.trace c.learn.ensures.own
    (extends_since self.seen.trace self.last.trace self.since))
