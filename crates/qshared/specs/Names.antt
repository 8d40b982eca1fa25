-- The names of one shared kernel.
use Rattle.std.specs.Prelude.{ℕ, List}
use Rattle.atomic_table.specs.Seated.{TableId}
use Rattle.qtables.specs.declared.member.Member.{Member}

-- the names of a shared kernel, which differ from the names of every other kernel in the program
pub record Names : Type 0 where
  -- its threads
  pub roster : List Member
  -- its cells, one for each thread
  pub cells : TableId
  -- the name of each thread's list of calls, by the index of its cell
  pub lists : List ℕ
  -- the name of its history; each port saw a prefix of this history
  pub history : ℕ
  -- the most events that its history may have, if the history is kept
  pub limit : ℕ
