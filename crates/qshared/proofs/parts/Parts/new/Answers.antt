use Rattle.qshared.proofs.Common.{[], ap, length, length-map, matches_roster, seated_kernel_view, subst, sym}
use Rattle.qshared.proofs.Common.{threads_of, view_of, ◌∙◌, MatchesAt}
use Rattle.qshared.proofs.Deliveries.{seated_is}
use Rattle.qshared.proofs.Rows.{new_ports_as}
use Rattle.qshared.proofs.parts.Parts.new.Goals as goal
use Rattle.std.proofs.Common.{refl}

pub invariant_of-result-clause-fits : goal.invariant_of-result-clause-fits
invariant_of-result-clause-fits c =
    let e = c.in_ok-cells.ensures.cells in (
      e.2,
      ap view_of e.3 ∙ seated_is _ _ ∙ ap (λ n. seated_kernel_view n n) (sym e.0),
      c.new-blank.ensures ∙ c.threads.ensures,
    )

pub invariant_of-result-clause-origin : goal.invariant_of-result-clause-origin
invariant_of-result-clause-origin c =
    let e = c.in_ok-cells.ensures.cells in (
      ap (λ o. o.roster.value) e.1 ∙ c.new-origin.ensures.roster
          ∙ sym (matches_roster _ _ [] c.in_ok-kernel.ensures.matches),
      ap (λ o. o.seen.name) e.1 ∙ c.new-origin.ensures.history ∙ sym c.begin-history.ensures.name,
    )

pub invariant_of-result-clause-matches : goal.invariant_of-result-clause-matches
invariant_of-result-clause-matches c =
    let m = c.in_ok-kernel.ensures.matches in
    subst (λ ms. MatchesAt ms c.in_ok-kernel.kernel []) (sym (matches_roster _ _ [] m)) m

pub invariant_of-result-clause-sized : goal.invariant_of-result-clause-sized
invariant_of-result-clause-sized c =
    let m = matches_roster _ _ [] c.in_ok-kernel.ensures.matches in (
      ap (λ ms. length (threads_of ms)) m ∙ length-map c.args.roster.now (λ x. x.thread)
          ∙ ap length (sym c.members.ensures.all) ∙ sym c.in_ok-cells.ensures.cells.0,
      c.in_ok-ports.ensures.heard.0,
    )

pub invariant_of-result-clause-unused : goal.invariant_of-result-clause-unused
invariant_of-result-clause-unused c = (c.begin-history.ensures.past, c.in_ok-ports.ensures.heard.1)

pub invariant_of-result-clause-ports_are : goal.invariant_of-result-clause-ports_are
invariant_of-result-clause-ports_are c =
    let m = matches_roster _ _ [] c.in_ok-kernel.ensures.matches in
    new_ports_as _ _ _ _ _ _ _ _ c.in_ok-ports.ports.items (c.members-2.ensures.all ∙ sym m) refl
    (sym c.begin-history.ensures.name) refl c.in_ok-ports.ensures.ports
