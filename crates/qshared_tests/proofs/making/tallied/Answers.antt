use Rattle.std.proofs.Common.{refl, subst}
use Rattle.qhandoff.specs.Words.{thread_of}
use Rattle.qshared.specs.Naming.{AreAll}
use Rattle.qshared_tests.proofs.making.tallied.Goals as goal

pub finish-requires : goal.finish-requires
finish-requires g c =
    record {
      all = subst (AreAll (λ p. thread_of p.core.seat) g.K.Tie.names.cells.slots) c.deref.ensures.value
          (c.if-not-all.ensures.0 refl);
    }
