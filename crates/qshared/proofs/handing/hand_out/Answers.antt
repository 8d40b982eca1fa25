use Rattle.qshared.proofs.Common.{◌≡◌, ◌<◌, length, sym, ap, subst, ◌∙◌, arith, eqb, true, false, refl, rules, None}
use Rattle.qshared.proofs.Common.{Some, common_steps, eqb-true, same_Some, threads_of, members_of, kernel_view, line}
use Rattle.qshared.proofs.Common.{place, AllByRecursion, MayArrive, origin_of}
use Rattle.qshared.proofs.Deliveries.{wide_lines}
use Rattle.qshared.proofs.Places.{place_below}
use Rattle.qshared.proofs.Puts.{Handing, handing_start, handing_next, handing_arrives, handing_more, handing_own}
use Rattle.qshared.proofs.handing.hand_out.Goals as goal

pub cancel-requires-clause-opened : goal.cancel-requires-clause-opened
cancel-requires-clause-opened c =
    let ts = threads_of (members_of c.args.kernel.now.threads) in
    let handing = rw c.in-Some.ensures.items at c.loop-completion.invariant.handing in
    let may = handing_next _ _ _ _ _ _ _ _ handing c.requires.apart c.requires.may in
    let caller : c.in-Some.completion.thread ≡ c.args.turn.now.seat.thread =
    eqb-true c.in-Some.completion.thread c.args.turn.now.seat.thread (search rules) in
    let same : may.0 ≡ c.index-own_place.result =
    same_Some _ _ (sym may.1 ∙ ap (place ts) caller ∙ c.requires.place ∙ ap Some (sym c.index-own_place.ensures)) in
    ap (λ k. (line (kernel_view c.loop-completion.seat) k).opened) (sym same) ∙ may.2

pub loop-completion-preserved-then-eq : goal.loop-completion-preserved-then-eq
loop-completion-preserved-then-eq c =
    let handing = rw c.in-Some.ensures.items at c.loop-completion.invariant.handing in
    let caller : eqb c.in-Some.completion.thread c.thread-thread.result ≡ true = search rules in
    let below = place_below (threads_of (members_of c.args.kernel.now.threads)) _ _ c.requires.place in
    let near : c.index-own_place.result < length (kernel_view c.loop-completion.seat).lines =
    omega (
      arith,
      wide_lines c.loop-completion.seat,
      ap (λ z. z.slots) (c.loop-completion.invariant.cells ∙ c.requires.cells),
      c.requires.sized,
      below,
      c.index-own_place.ensures,
    ) in
    record {
      cells = c.cancel.ensures.cells ∙ c.loop-completion.invariant.cells;
      handing =
          rw c.cancel.ensures.kernel_view
          (handing_own _ _ _ _ _ _ _ _ handing c.index-own_place.result near c.requires.apart caller
          (ap (place (threads_of (members_of c.args.kernel.now.threads))) c.thread-thread.ensures ∙ c.requires.place
          ∙ ap Some (sym c.index-own_place.ensures)));
    }

pub loop-completion-preserved-then-eq-2 : goal.loop-completion-preserved-then-eq-2
loop-completion-preserved-then-eq-2 c =
    let handing = rw c.in-Some.ensures.items at c.loop-completion.invariant.handing in
    let caller : eqb c.in-Some.completion.thread c.thread-thread.result ≡ true = search rules in
    let below = place_below (threads_of (members_of c.args.kernel.now.threads)) _ _ c.requires.place in
    let near : c.index-own_place.result < length (kernel_view c.loop-completion.seat).lines =
    omega (
      arith,
      wide_lines c.loop-completion.seat,
      ap (λ z. z.slots) (c.loop-completion.invariant.cells ∙ c.requires.cells),
      c.requires.sized,
      below,
      c.index-own_place.ensures,
    ) in
    record {
      cells = c.cancel.ensures.cells ∙ c.loop-completion.invariant.cells;
      handing =
          rw c.cancel.ensures.kernel_view
          (handing_own _ _ _ _ _ _ _ _ handing c.index-own_place.result near c.requires.apart caller
          (ap (place (threads_of (members_of c.args.kernel.now.threads))) c.thread-thread.ensures ∙ c.requires.place
          ∙ ap Some (sym c.index-own_place.ensures)));
    }

pub hand_one-place-requires-clause-may : goal.hand_one-place-requires-clause-may
hand_one-place-requires-clause-may c =
    let handing = rw c.in-Some.ensures.items at c.loop-completion.invariant.handing in
    handing_next _ _ _ _ _ _ _ _ handing c.requires.apart c.requires.may

pub hand_one-place-requires-clause-delivered : goal.hand_one-place-requires-clause-delivered
hand_one-place-requires-clause-delivered c =
    let handing = rw c.in-Some.ensures.items at c.loop-completion.invariant.handing in
    let ts = threads_of (members_of c.args.kernel.now.threads) in
    let roster = (origin_of c.args.cells.now).roster.value in
    let made = c.args.seen.now.trace in
    let X = c.args.turn.now.completions.value.items in
    let foreign : eqb c.in-Some.completion.thread c.thread-thread.result ≡ false = search rules in
    let all = subst (λ t. AllByRecursion (MayArrive roster ts t made (kernel_view c.args.seat.now)) X)
    (sym c.thread-thread.ensures) c.requires.arrive in
    handing_arrives _ _ _ _ _ _ _ _ handing roster made c.requires.apart all foreign

pub loop-completion-preserved : goal.loop-completion-preserved
loop-completion-preserved c =
    let handing = rw c.in-Some.ensures.items at c.loop-completion.invariant.handing in
    let foreign : eqb c.in-Some.completion.thread c.thread-thread.result ≡ false = search rules in
    let near : c.hand_one-place.result < length (kernel_view c.loop-completion.seat).lines =
    omega (
      arith,
      wide_lines c.loop-completion.seat,
      ap (λ z. z.slots) (c.loop-completion.invariant.cells ∙ c.requires.cells),
      c.hand_one-place.ensures.place,
    ) in
    record {
      cells = c.hand_one-place.ensures.cells ∙ c.loop-completion.invariant.cells;
      handing =
          rw c.hand_one-place.ensures.put.1
          (handing_more _ _ _ _ _ _ _ _ handing c.hand_one-place.result near c.requires.apart foreign
          c.hand_one-place.ensures.put.0);
    }

pub loop-completion-init : goal.loop-completion-init
loop-completion-init c =
    let ts = threads_of (members_of c.args.kernel.now.threads) in
    let X = c.args.turn.now.completions.value.items in
    let d = kernel_view c.args.seat.now in
    let same : X ≡ c.deref_mut-completions.result.now.items = grind (arith, common_steps) in
    record {
      cells = refl;
      handing =
          rw (c.requires.own)
          (subst (Handing ts X d d c.thread-thread.result None) same (handing_start ts X d c.thread-thread.result));
    }
