use Rattle.qrules_laws.proofs.PlaceLaws.{places_fall}
use Rattle.qrules_laws.proofs.pending.places_fall.Goals as goal

pub returns : goal.returns
returns c = places_fall
