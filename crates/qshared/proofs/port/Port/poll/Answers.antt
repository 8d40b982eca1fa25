use Rattle.qshared.proofs.Common.{ap, sym, ◌∙◌, place, threads_of}
use Rattle.qshared.proofs.port.Port.poll.Goals as goal

pub poll-requires : goal.poll-requires
poll-requires g c =
    let self = c.args.self.now in
    let origin = c.args.shared.now.origin_is in
    record {
      cells = self.core_is.cells ∙ sym c.args.shared.now.cells_are;
      at = ap (λ r. place (threads_of r) self.core.thread) origin.0 ∙ self.core_is.at;
      seen = self.core_is.seen ∙ sym origin.1;
    }
