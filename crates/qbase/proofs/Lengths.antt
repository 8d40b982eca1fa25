-- The length of bytes that other bytes are copied over.
use Rattle.std.proofs.Common.{◌≡◌, ℕ, List, length, arith}
use Rattle.std.proofs.lemmas.Grind.{common_steps}
use Rattle.qbase.specs.Copying.{lay_over}

-- bytes keep their length when others are copied over them
pub lay_length : (b : List ℕ) (at : ℕ) (d : List ℕ) → length (lay_over b at d) ≡ length b
lay_length b at d = grind (arith, common_steps)
