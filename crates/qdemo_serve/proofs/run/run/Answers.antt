use Rattle.std.proofs.Common.{refl, subst}
use Rattle.qhandoff.specs.Words.{thread_of}
use Rattle.qshared.specs.Naming.{AreAll}
use Rattle.qdemo_serve.proofs.run.run.Goals as goal

pub finish-trace-requires : goal.finish-trace-requires
finish-trace-requires g c =
    record {
      all = subst (AreAll (λ p. thread_of p.core.seat) g.K.Tie.names.cells.slots) c.as_slice.ensures.value
          (c.if-not-all.ensures.0 refl);
    }
