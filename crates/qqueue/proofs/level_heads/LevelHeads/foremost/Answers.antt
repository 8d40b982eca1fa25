use Rattle.qqueue.proofs.Common.{◌≡◌, arith, refl, vec_len, first_in}
use Rattle.std.specs.Prelude.{Some, slice_index}
use Rattle.qqueue.proofs.level_heads.LevelHeads.foremost.Goals as goal

pub index-requires : goal.index-requires
index-requires c =
    let level = c.in_ok-level.level in
    let there : first_in c.args.self.now level ≡ Some (slice_index c.args.self.now.firsts.items level) =
    rw c.in_ok-level.ensures.some.0 refl in
    let made : vec_len c.args.self.now.firsts ≡ 256 =
    c.requires level (slice_index c.args.self.now.firsts.items level) there in
    omega arith
