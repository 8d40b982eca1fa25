-- The completions that a port took.
use Rattle.std.specs.Prelude.{List}
use Rattle.qmodel.specs.declared.call.Completion.{Completion}
use Rattle.qshared.specs.Delivered.{taken}
use Rattle.qshared.specs.Due.{collected}
use Rattle.qshared.specs.declared.desk_port.DeskPort.{DeskPort}
use Rattle.qshared.specs.declared.port.Port.{Port}
use Rattle.qshared.specs.declared.tie.Tie.{Ghosts}

-- the completions that one thread's side of a desk took, in the order of its calls
abbrev pub collected_at : DeskPort → List Completion
collected_at p = collected p.last.trace p.thread (taken p.seat)

-- the completions that a port took, in the order of its calls
abbrev pub collected_by : {K : Type 0} {tie : Ghosts K} → Port K tie → List Completion
collected_by p = collected_at p.core
