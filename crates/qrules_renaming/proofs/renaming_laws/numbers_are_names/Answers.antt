use Rattle.qrules_renaming.proofs.Names.{equivalent_again, same_follows}
use Rattle.qrules_renaming.proofs.Outcomes.{outcome_as}
use Rattle.qrules_renaming.proofs.Rows.{rows_as}
use Rattle.qrules_renaming.proofs.Steps.{steps_as}
use Rattle.qrules_renaming.proofs.renaming_laws.numbers_are_names.Goals as goal

pub returns : goal.returns
returns c =
    record { follows = same_follows; again = equivalent_again; rows = rows_as; outcomes = outcome_as; steps = steps_as }
