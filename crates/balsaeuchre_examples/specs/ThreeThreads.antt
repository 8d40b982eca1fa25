-- The roster of the examples with three threads.
use Rattle.std.specs.Prelude.{List, [], ◌∷◌}
use Rattle.qtables.specs.declared.member.Member.{Member}
use Rattle.qrules_worked.specs.Runs.{member}

-- a server, and two threads of one process: the client and its fellow
abbrev pub roster : List Member
roster = member 1 1 1 ∷ member 2 2 1 ∷ member 3 2 1 ∷ []
