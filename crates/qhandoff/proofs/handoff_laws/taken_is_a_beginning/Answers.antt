use Rattle.qhandoff.proofs.Behind.{taken_is_near}
use Rattle.qhandoff.proofs.handoff_laws.taken_is_a_beginning.Goals as goal

pub returns : goal.returns
returns g c = λ origin n s d h i j k at at' near. taken_is_near n s d h i j k at at' near
