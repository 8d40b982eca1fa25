use Rattle.qrules_laws.proofs.IdLaws.{destroyed_stays_destroyed, detached_stays_detached}
use Rattle.qrules_laws.proofs.ids.destroyed_stays_destroyed.Goals as goal

pub returns : goal.returns
returns c = record { channels = destroyed_stays_destroyed; connections = detached_stays_detached }
