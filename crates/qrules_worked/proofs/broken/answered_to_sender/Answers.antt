use Rattle.std.proofs.Common.{refl, arith, ◌≡◌, ◌<◌, ℕ, sym}
use Rattle.qrules_worked.proofs.broken.answered_to_sender.Goals as goal

-- a number that is less than another isn't equal to it
apart : (n m : ℕ) → n < m → n ≡ m → ⊥
apart n m less same = omega arith

pub returns-clause-by_nothing : goal.returns-clause-by_nothing
returns-clause-by_nothing c = λ p. apart 0 1 (omega arith) (p.1.1 4 refl refl)

pub returns-clause-by_no_code : goal.returns-clause-by_no_code
returns-clause-by_no_code c = λ p. apart 0 1 (omega arith) (p.1.1 4 refl refl)

pub returns-clause-twice : goal.returns-clause-twice
returns-clause-twice c = λ p. apart 1 2 (omega arith) (sym (p.1.1 4 refl refl))
