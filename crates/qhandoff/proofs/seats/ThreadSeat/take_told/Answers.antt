use Rattle.qhandoff.proofs.Common.{rules, Some, refl, thread_view_in}
use Rattle.qhandoff.proofs.Allowed.{take_allowed, give_allowed}
use Rattle.qhandoff.proofs.Rests.{in_poll, after_poll, carries, thread_rests}
use Rattle.qhandoff.proofs.seats.ThreadSeat.take_told.Goals as goal

pub load-requires : goal.load-requires
load-requires g c = let k = c.args.self.now.knows in (
  search rules,
  search rules,
  take_allowed g.W.Told.told c.requires.told _ _ _ _ _ _ _ c.args.cells.now.keyed c.word_of-word.ensures.word k.0 k.2
      (search rules) k.3,
)

pub exchange-requires : goal.exchange-requires
exchange-requires g c = let a = c.load.ensures.2.0 c.if-load-ne-FULL.false in
    (search rules, (Some a.0, carries _ _ _ _ _ _ c.word_of-word.ensures.cell a.2))

pub store-requires : goal.store-requires
store-requires g c = let k = c.args.self.now.knows in
    let a = c.load.ensures.2.0 c.if-load-ne-FULL.false in (
      search rules,
      search rules,
      give_allowed _ _ _ _ _ _ _ a.0 c.args.cells.now.keyed c.word_of-word.ensures.word
          (in_poll _ _ _ _ _ _ a.0 k.0 a.2 c.exchange.ensures.3) k.2 (search rules) refl,
    )

pub invariant_of-self-2 : goal.invariant_of-self-2
invariant_of-self-2 g c = let k = c.args.self.now.knows in
    let a = c.load.ensures.2.0 c.if-load-ne-FULL.false in
    record {
      knows =
          thread_rests c.store.new.seat _ _
          (after_poll _ _ (thread_view_in c.args.self.now.seat.me.0) _ a.0
          (in_poll _ _ _ _ _ _ a.0 k.0 a.2 c.exchange.ensures.3) c.store.ensures.2) (search rules) k.2 refl;
    }
