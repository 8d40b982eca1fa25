use Rattle.std.proofs.Common.{refl, rules, [], ◌∷◌}
use Rattle.qrules_worked.proofs.copied.copied_exactly.Goals as goal

pub returns-clause-held : goal.returns-clause-held
returns-clause-held c = ((search rules, (refl, (([], refl, (refl, refl)), tt))), search rules)

pub returns-clause-overwritten : goal.returns-clause-overwritten
returns-clause-overwritten c = (search rules, (refl, ((0xdd ∷ 0xee ∷ [], refl, (refl, refl)), tt)))

pub returns-clause-past_the_end : goal.returns-clause-past_the_end
returns-clause-past_the_end c = (search rules, (refl, (([], refl, (refl, refl)), tt)))

pub returns-clause-code : goal.returns-clause-code
returns-clause-code c = (search rules, (refl, (([], refl, (refl, refl)), tt)))
