-- The exit statuses of a demonstration that failed.
use Rattle.std.specs.Prelude.{ℕ}
use Rattle.qdemo_serve.specs.declared.fault.ServeFault.{ServeFault}
use Rattle.qdemo_serve.specs.declared.fault.ServeFault.TheVariants.{Hold, NoMemory, Worker, LongRecord}
use Rattle.qdemo_serve.specs.declared.fault.ServeFault.TheVariants.{Record}
use Rattle.qdemo_serve.specs.declared.fault.ServeFault.TheVariants.{Write}

-- 2 if the settings are wrong, 4 if a worker failed, and otherwise 3
abbrev pub status_of : ServeFault → ℕ
status_of Hold = 2
status_of NoMemory = 3
status_of Worker = 4
status_of LongRecord = 2
status_of Record = 3
status_of Write = 3
