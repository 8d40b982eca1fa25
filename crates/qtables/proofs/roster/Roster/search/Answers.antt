use Rattle.qtables.proofs.Common.{rules, answers_always}
use Rattle.qtables.proofs.Rosters.{found, missed}
use Rattle.qtables.proofs.roster.Roster.search.Goals as goal

-- the closure gives a member's thread, and the slice is the roster's members
pub returns-clause-there : goal.returns-clause-there
returns-clause-there c =
    let facts = c.binary_search_by_key.ensures in
    let by_thread = facts.position (λ m. m.thread) (answers_always _ _ _ (λ f a r g called. search rules)) in
    rw (← c.members.ensures.all, ← c.thread.view_is)
    (found c.members.result.now c.members.ensures.rising c.thread.inside.0 _ facts.bound by_thread)

pub returns-clause-absent : goal.returns-clause-absent
returns-clause-absent c =
    let facts = c.binary_search_by_key.ensures in
    let by_thread = facts.position (λ m. m.thread) (answers_always _ _ _ (λ f a r g called. search rules)) in
    rw (← c.members.ensures.all, ← c.thread.view_is)
    (missed c.members.result.now c.members.ensures.rising c.thread.inside.0 _ facts.bound by_thread)
