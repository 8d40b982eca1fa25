use Rattle.balsaeuchre_calls.proofs.Common.{refl, subst, sym, ◌∙◌}
use Rattle.std.proofs.lemmas.Bool.{true≢false}
use Rattle.qhandoff.specs.Words.{thread_of}
use Rattle.qshared.specs.Naming.{AreAll}
use Rattle.balsaeuchre_calls.proofs.opening.close.Goals as goal

pub finish-requires : goal.finish-requires
finish-requires g c = record { all = rw (← c.as_slice.ensures.value) (c.all.ensures.0 search) }

pub returns-clause-due : goal.returns-clause-due
returns-clause-due g c =
    record {
      left = c.finish.result.left.items;
      rises = c.finish.ensures.rises;
      known = c.finish.ensures.known;
      due =
          c.finish.ensures.due;
    }

pub returns-clause-past : goal.returns-clause-past
returns-clause-past g c = record { lawful = c.finish.ensures.lawful.1; properties = c.finish.ensures.lawful.2 }

pub returns-then-not-all-clause-error : goal.returns-then-not-all-clause-error
returns-then-not-all-clause-error g c = (
  refl,
  λ all. true≢false
      (sym (c.all.ensures.1 (subst (AreAll (λ p. thread_of p.core.seat) g.K.Tie.names.cells.slots)
      (sym c.as_slice.ensures.value) all)) ∙ c.if-not-all.true),
)
