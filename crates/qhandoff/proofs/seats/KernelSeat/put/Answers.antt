use Rattle.qhandoff.proofs.Common.{◌<◌, rules, arith, None, sym, subst, ap, ◌∙◌, length, length-set, get_or-set_same, ℕ}
use Rattle.qhandoff.proofs.Common.{◌++◌, ◌∷◌, [], idle_line, kernel_view_in, put_kernel_view}
use Rattle.qhandoff.specs.Words.{origin_of}
use Rattle.qhandoff.proofs.Allowed.{begin_allowed, end_allowed}
use Rattle.qhandoff.proofs.Rests.{carries, in_put, after_put, kernel_rests, none_putting}
use Rattle.qhandoff.proofs.seats.KernelSeat.put.Goals as goal

pub load-requires : goal.load-requires
load-requires g c = (
  search rules,
  omega (arith, c.word_of-word.ensures.word, c.requires.thread, c.args.cells.now.sized),
  begin_allowed
      _ _ _ _ _ _ _ c.args.cells.now.keyed c.word_of-word.ensures.word c.args.self.now.knows.0 c.requires.thread
      c.requires.opened (c.args.self.now.knows.2 _),
)

pub store-requires : goal.store-requires
store-requires g c = let k = c.args.self.now.knows in
    let d = kernel_view_in c.args.self.now.seat.me.0 in
    let near : c.args.thread < length d.lines =
    subst (λ (z : ℕ). c.args.thread < z) (sym k.1)
    (subst (λ z. c.args.thread < z.slots) (sym c.requires.cells) c.requires.thread) in (
      search rules,
      omega (arith, c.word_of-word.ensures.word, c.requires.thread, c.args.cells.now.sized),
      end_allowed _
          _ _ _ _ _ _ c.args.completion c.args.cells.now.keyed c.word_of-word.ensures.word
          (in_put _ _ _ d _ _ _ _ c.word_of-word.ensures.cell k.0 c.load.ensures.2 c.exchange.ensures.3)
          c.requires.thread (ap (λ z. z.putting) (get_or-set_same d.lines c.args.thread _ idle_line near))
          (subst (λ z. g.T.Delivered.may_be_put (origin_of c.args.cells.now) c.args.thread
          (z.put ++ c.args.completion ∷ []))
          (sym (get_or-set_same d.lines c.args.thread _ idle_line near)) c.requires.allowed),
    )

pub invariant_of-self : goal.invariant_of-self
invariant_of-self g c = let k = c.args.self.now.knows in
    let d = kernel_view_in c.args.self.now.seat.me.0 in
    let near : c.args.thread < length d.lines =
    subst (λ (z : ℕ). c.args.thread < z) (sym k.1)
    (subst (λ z. c.args.thread < z.slots) (sym c.requires.cells) c.requires.thread) in
    let now =
    after_put _ _ d _ _ c.args.completion c.word_of-word.ensures.cell near
    (in_put _ _ _ d _ _ _ _ c.word_of-word.ensures.cell k.0 c.load.ensures.2 c.exchange.ensures.3) c.store.ensures.2 in
    let id = c.store.ensures.0 ∙ c.exchange.ensures.0 ∙ c.load.ensures.0 in
    record {
      knows = kernel_rests c.store.new.seat (put_kernel_view d c.args.thread c.args.completion) now
          (length-set d.lines _ _ ∙ k.1 ∙ ap (λ z. z.slots) (sym id)) (none_putting d _ _ near k.2);
    }

pub returns-clause-kernel_view : goal.returns-clause-kernel_view
returns-clause-kernel_view g c = let k = c.args.self.now.knows in
    let d = kernel_view_in c.args.self.now.seat.me.0 in
    let near : c.args.thread < length d.lines =
    subst (λ (z : ℕ). c.args.thread < z) (sym k.1)
    (subst (λ z. c.args.thread < z.slots) (sym c.requires.cells) c.requires.thread) in
    ap (λ m. kernel_view_in m.0)
    (after_put _ _ d _ _ c.args.completion c.word_of-word.ensures.cell near
    (in_put _ _ _ d _ _ _ _ c.word_of-word.ensures.cell k.0 c.load.ensures.2 c.exchange.ensures.3) c.store.ensures.2)

pub exchange-requires : goal.exchange-requires
exchange-requires g c = (search rules, (None, carries _ _ _ _ _ _ c.word_of-word.ensures.cell c.load.ensures.2))
