use Rattle.qtables.proofs.Common.{rules, answers_always}
use Rattle.qtables.proofs.Places.{found, missed}
use Rattle.qtables.proofs.entries.place_of.Goals as goal

-- the closure gives an entry's number
pub returns-clause-there : goal.returns-clause-there
returns-clause-there c =
    let facts = c.binary_search_by_key.ensures in
    let by_number = facts.position (λ e. e.0) (answers_always _ _ _ (λ f a r g called. search rules)) in
    rw c.ok.ensures.value (found c.args.index.now c.requires c.args.number _ facts.bound by_number)

pub returns-clause-absent : goal.returns-clause-absent
returns-clause-absent c =
    let facts = c.binary_search_by_key.ensures in
    let by_number = facts.position (λ e. e.0) (answers_always _ _ _ (λ f a r g called. search rules)) in
    rw c.ok.ensures.value (missed c.args.index.now c.requires c.args.number _ facts.bound by_number)
