use Rattle.qshared.proofs.Common.{ap, sym, ◌∙◌}
use Rattle.qshared.specs.Desks.{names_in}
use Rattle.qshared.proofs.Rows.{new_ports_as}
use Rattle.qshared.proofs.shared.Shared.with_log.Goals as goal

pub ports_for-requires-clause-cores : goal.ports_for-requires-clause-cores
ports_for-requires-clause-cores g c =
    let named = c.requires.named in
    let d = c.into_desk-desk.ensures in
    new_ports_as _ _ _ _ _ _ _ _ c.into_desk-desk.result.ports.items (d.names.0 ∙ named.3)
    (sym d.cells.0 ∙ d.names.1 ∙ named.0) (d.names.2 ∙ named.6) (ap (λ hs. names_in hs.items) d.names.3 ∙ named.4)
    d.ports

pub new-locked-requires-clause-named : goal.new-locked-requires-clause-named
new-locked-requires-clause-named g c =
    let named = c.requires.named in
    let d = c.into_desk-desk.ensures in (
      (d.names.0 ∙ named.3, sym d.cells.0 ∙ d.names.1 ∙ named.0, d.names.2 ∙ named.6),
      ap (λ hs. names_in hs.items) d.names.3 ∙ named.4,
    )
