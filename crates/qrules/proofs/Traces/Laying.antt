-- Copies of no bytes.
use Rattle.qrules.proofs.Common.{◌≡◌, ℕ, List, [], arith, laid_count, lay_over}
use Rattle.std.proofs.lemmas.Grind.{common_steps}

-- copying no bytes over others changes nothing
pub lay_nothing : (b : List ℕ) → b ≡ lay_over b 0 []
lay_nothing b = grind (arith, common_steps)

pub count_nothing : (b : List ℕ) → 0 ≡ laid_count b 0 []
count_nothing b = omega arith
