use Rattle.qqueue.proofs.Common.{◌-◌, ◌≤◌, length, Some, None, cond, ap, arith, vec_len}
use Rattle.std.specs.Result.{is_ok}
use Rattle.qbase.specs.ByteSet.{has}
use Rattle.qqueue.proofs.PadLaws.{resized}
use Rattle.qqueue.proofs.level_heads.LevelHeads.make.Goals as goal

pub returns-clause-kept : goal.returns-clause-kept
returns-clause-kept c level =
    let old = c.args.self.now.firsts in
    let short : length old.items ≤ 256 = omega (arith, c.requires, old.ok.0) in
    ap (λ key. cond (has c.args.self.now.levels level) (Some key) None)
    (resized (is_ok c.resize.result) old.items c.resize.new.self.items 256
    (256 - vec_len old) short c.resize.ensures.items level)
