use Rattle.qshared.proofs.Common.{ap, refl, sym, ◌∙◌, seated_kernel_view}
use Rattle.qshared.specs.Desks.{names_in}
use Rattle.qshared.specs.UnderLock.{roster_of}
use Rattle.qshared.proofs.Rows.{new_ports_as}
use Rattle.qshared.proofs.parts.Parts.into_desk.Goals as goal

pub new-traced-requires-clause-seat : goal.new-traced-requires-clause-seat
new-traced-requires-clause-seat g c =
    let parts = c.args.self in
    parts.fits.1 ∙ ap (λ n. seated_kernel_view n n) (ap (λ z. z.slots) (sym parts.fits.0))

pub new-traced-requires-clause-sized : goal.new-traced-requires-clause-sized
new-traced-requires-clause-sized g c =
    let parts = c.args.self in
    parts.sized.0 ∙ ap (λ z. z.slots) (sym parts.fits.0)

pub new-desk-requires-clause-sized : goal.new-desk-requires-clause-sized
new-desk-requires-clause-sized g c =
    let parts = c.args.self in
    parts.sized.1 ∙ ap (λ z. z.slots) (sym parts.fits.0) ∙ ap (λ z. z.slots) (sym c.new-traced.ensures.names.1)

pub returns-clause-cells : goal.returns-clause-cells
returns-clause-cells g c =
    let parts = c.args.self in
    let made = c.new-desk.ensures.0 in
    let names = c.new-traced.ensures.names in (
      sym (ap (λ u. u.cells) made ∙ names.1 ∙ parts.fits.0),
      parts.origin.0 ∙ sym (ap roster_of made ∙ names.0),
      parts.origin.1 ∙ sym (ap (λ u. u.history) made ∙ names.2),
    )

pub returns-clause-names : goal.returns-clause-names
returns-clause-names g c =
    let made = c.new-desk.ensures in
    let names = c.new-traced.ensures.names in (
      ap roster_of made.0 ∙ names.0,
      refl,
      ap (λ u. u.history) made.0 ∙ names.2,
      made.1,
    )

pub returns-clause-ports : goal.returns-clause-ports
returns-clause-ports g c =
    let parts = c.args.self in
    let made = c.new-desk.ensures in
    let names = c.new-traced.ensures.names in
    new_ports_as _ _ _ _ _ _ _ _ parts.ports.items (sym (ap roster_of made.0 ∙ names.0))
    (sym (ap (λ u. u.cells) made.0 ∙ names.1 ∙ parts.fits.0)) (sym (ap (λ u. u.history) made.0 ∙ names.2))
    (sym (ap (λ hs. names_in hs.items) made.1)) parts.ports_are
