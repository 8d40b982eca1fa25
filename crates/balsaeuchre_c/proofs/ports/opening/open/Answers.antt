use Rattle.balsaeuchre_c.proofs.Common.{Some, ap, subst, sym, threads_of, ◌∙◌}
use Rattle.std.proofs.Common.{Ok}
use Rattle.qshared.specs.Desks.{AreNewPorts, names_in}
use Rattle.qshared.specs.Due.{place}
use Rattle.qshared.specs.UnderLock.{roster_of}
use Rattle.balsaeuchre_c.specs.PortCells.{IsPortOfCells}
use Rattle.balsaeuchre_c.proofs.ports.opening.open.Goals as goal

pub boxed-requires : goal.boxed-requires
boxed-requires c = λ k p at.
    let d = c.into_desk_without_history-desk.ensures in
    let new = d.ports.1 k p at in
    subst (λ cells. IsPortOfCells cells p) (sym c.in-Ok.ensures.ok) (record {
      token = new.cells ∙ sym d.cells.0;
      at = ap (λ r. place (threads_of r) p.thread) d.cells.1 ∙ new.at ∙ ap Some (sym new.cell);
      seen = new.seen ∙ sym d.cells.2;
    })

pub returns-clause-desk : goal.returns-clause-desk
returns-clause-desk c =
    let d = c.into_desk_without_history-desk.ensures in
    let v = c.in-Ok-new.desk.value.desk in
    let made = ap (λ x. x.desk) c.in-Ok-new.ensures.ok in
    record {
      roster_is =
          sym c.roster_of.ensures ∙ c.in_ok-roster.was
          ∙ ap Ok (sym (ap (λ x. roster_of x.traced) made ∙ d.roster ∙ c.in_ok-new.ensures.roster));
      unused = ap (λ x. x.traced.past) made ∙ d.unused;
      new =
          subst (λ ps. AreNewPorts (roster_of v.traced) v.traced.cells v.traced.history (names_in v.heard.items) ps)
          (sym c.in_ok-ports.ensures.ports)
          (subst (λ x. AreNewPorts (roster_of x.traced) x.traced.cells x.traced.history (names_in x.heard.items)
          c.into_desk_without_history-desk.result.ports.items) (sym made) d.ports);
    }
