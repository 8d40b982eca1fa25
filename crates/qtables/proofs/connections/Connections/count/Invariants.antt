use Rattle.std.proofs.Common.{◌≡◌, ◌==◌, ◌&&◌, count_by, take}
use Rattle.qtables.proofs.connections.Connections.count.Given as goal

abbrev pub invariant-loop-place : goal.invariant-loop-place
invariant-loop-place l = l.count ≡ count_by (λ e. (e.1.process == l.process) && (e.1.channel == l.channel))
    (take l.place l.self-inside.entries)
