use Rattle.std.proofs.Common.{◌<◌, ◌==◌, ◌&&◌, length, arith}
use Rattle.std.proofs.lemmas.Grind.{common_steps}
use Rattle.qtables.specs.declared.connection.Connection.{Connection}
use Rattle.qtables.proofs.Counts.{count_by_more}
use Rattle.qtables.proofs.connections.Connections.count.Goals as goal

pub loop-place-preserved : goal.loop-place-preserved
loop-place-preserved c =
    let p = λ (r : Connection). (r.process == c.args.process) && (r.channel == c.args.channel) in
    let entries = c.self.inside.entries in
    let within : c.loop-place.place < length entries = omega arith in
    let more =
    count_by_more p entries c.loop-place.place (
      0,
      c.at-connection.result.now,
    ) c.at-connection.result.now within c.at-connection.ensures in
    grind (arith, common_steps, more)
