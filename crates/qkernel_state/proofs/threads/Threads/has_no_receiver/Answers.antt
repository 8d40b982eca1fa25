use Rattle.qkernel_state.proofs.Common.{sym, None}
use Rattle.qkernel_state.proofs.Newest.{search_begins, search_ends, seat_found}
use Rattle.qkernel_state.proofs.threads.Threads.has_no_receiver.Goals as goal

pub returns : goal.returns
returns c = λ is_empty channel item.
    let none = c.is_empty.ensures.0 is_empty in
    let s = search_begins channel item c.self.inside.records.items c.self.inside.index.receivers c.self.invariant.few in
    rw (← c.self.view_is) (sym (seat_found channel item c.self.inside.records.items None c.self.invariant.roster
    (search_ends channel item c.self.inside.records.items c.self.inside.index.receivers c.self.inside.index.receivers
    None 0 c.self.invariant.receivers s none)))
