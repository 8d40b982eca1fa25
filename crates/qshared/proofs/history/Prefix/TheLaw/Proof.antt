-- A `&` to a `Prefix` holds the resource of a prefix, which can be duplicated. Assumes `Logic`.
use Rattle.qshared.proofs.PrefixCommon.{snd∗, sem, of_Lends, seen_owns}
use base.Before.{before}
use Rattle.qshared.specs.contracts.history.Prefix as C
use Rattle.qshared.proofs.Pasts.{twice, lends_twice}
use Rattle.qshared.proofs.history.Prefix.TheLaw.Statement.{statement}

pub shares : statement
shares = of_Lends C.struct C.the_codes C.the_heap C.the_lent
    (λ d p. record {
      contraction = λ M 𝓤 𝓛 κ. twice 𝓛 d.name d.trace;
      mono = λ M 𝓤 𝓛 κ' κ. snd∗ 𝓤 (sem 𝓛 (before κ' κ)) (sem 𝓛 (seen_owns d.name d.trace));
    })
    tt (λ M 𝓤 𝓛 d p. lends_twice 𝓛 (seen_owns d.name d.trace) (twice 𝓛 d.name d.trace) C.the_row.lives)
