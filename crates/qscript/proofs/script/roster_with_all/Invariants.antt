use Rattle.qscript.proofs.Common.{AllJoin, [], roster_with, take, ◌≡◌}
use Rattle.qscript.proofs.script.roster_with_all.Given as goal

abbrev pub invariant-joining : goal.invariant-joining
invariant-joining l = AllJoin [] l.members → l.roster ≡ roster_with [] (take l.member-index l.members)
