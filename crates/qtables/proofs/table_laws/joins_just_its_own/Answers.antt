use Rattle.qtables.proofs.Rosters.{IsRoster-joined, member_at-joined}
use Rattle.qtables.proofs.table_laws.joins_just_its_own.Goals as goal

pub returns : goal.returns
returns c = record { own = member_at-joined; rising = IsRoster-joined }
