use Rattle.std.proofs.Common.{refl, rules, [], ◌∷◌}
use Rattle.qqueue.specs.declared.item.Kind.TheVariants.{Any}
use Rattle.qrules_worked.proofs.broken.one_property_broken.Goals as goal

pub returns-clause-ended_twice_best : goal.returns-clause-ended_twice_best
returns-clause-ended_twice_best c = (
  (
    (
      search rules,
      (
        (λ i is. record { request = record { channel = 1; kind = Any; buffer = 0x00 ∷ [] }; call = refl; best = is }),
        tt,
      ),
    ),
    search rules,
  ),
  search rules,
)

pub returns-clause-answered_copied : goal.returns-clause-answered_copied
returns-clause-answered_copied c = (search rules, (refl, ((0xdd ∷ [], refl, (refl, refl)), tt)))

pub returns-clause-answered_best : goal.returns-clause-answered_best
returns-clause-answered_best c = (
  (
    search rules,
    ((λ i is. record { request = record { channel = 1; kind = Any; buffer = 0x00 ∷ [] }; call = refl; best = is }), tt),
  ),
  search rules,
)

pub returns-clause-copied_best : goal.returns-clause-copied_best
returns-clause-copied_best c = (
  search rules,
  (
    (λ i is. record {
      request = record { channel = 1; kind = Any; buffer = 0x00 ∷ 0x00 ∷ 0x00 ∷ [] };
      call = refl;
      best = is;
    }),
    tt,
  ),
)
