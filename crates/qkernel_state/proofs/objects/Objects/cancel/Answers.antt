use Rattle.std.proofs.Common.{refl}
use Rattle.qkernel_state.proofs.Cancels.Threads.{are_cancelled}
use Rattle.qkernel_state.proofs.Indexing.{indexed_cancelled}
use Rattle.qkernel_state.proofs.objects.Objects.cancel.Goals as goal

pub cancel_each-requires : goal.cancel_each-requires
cancel_each-requires c = record {
  roster = c.threads.invariant.roster;
  few = c.threads.invariant.few;
  idle = rw (← c.threads.view_is) at c.requires.idle;
  none = c.requires.none;
}

pub invariant_of-threads : goal.invariant_of-threads
invariant_of-threads c =
    let cancelled = are_cancelled c.args.set c.args.errno c.threads.inside.records.items in
    rw (c.cancel_each.ensures.threads)
    (indexed_cancelled c.args.set c.threads.inside.records.items c.threads.inside.index c.threads.invariant
    cancelled.members)

pub returns : goal.returns
returns c = rw (← c.threads.view_is) (record {
  completions = c.cancel_each.ensures.completions;
  threads = rw (c.cancel_each.ensures.threads) (are_cancelled c.args.set c.args.errno c.threads.inside.records.items);
  channels = c.cancel_each.ensures.channels;
  connections = refl;
})
