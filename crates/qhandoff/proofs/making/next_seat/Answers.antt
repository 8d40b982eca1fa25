use Rattle.std.proofs.Common.{rules, arith}
use Rattle.qhandoff.proofs.Starting.{split_allowed}
use Rattle.qhandoff.proofs.making.next_seat.Goals as goal

pub split_seat-seat-requires : goal.split_seat-seat-requires
split_seat-seat-requires g c =
    (search rules, omega (arith, c.requires.sized.1, c.requires.sized.2), split_allowed _ _ _ _ c.requires.seat.1)
