use Rattle.std.proofs.Common.{◌≡◌, ◌<◌, ◌≤◌, ap, arith, length, refl, ◌∙◌}
use Rattle.qkernel_state.proofs.Cancels.Threads.{passed_on, idle_here, sweeps_init, sweeps_step, at_end}
use Rattle.qkernel_state.proofs.Cancels.Threads.{swept_completions, swept_threads, swept_channels, few_more}
use Rattle.qkernel_state.proofs.cancelling.cancel_each.Goals as goal

pub loop-thread-init : goal.loop-thread-init
loop-thread-init c = record {
  threads = c.deref_mut-thread-items.ensures.value;
  few = omega (arith, ap length c.requires.none);
  so_far =
      sweeps_init c.args.cancel.set c.args.cancel.errno c.args.own c.args.threads.now.items c.args.channels.now
      c.args.completions.now.items c.requires.roster c.requires.idle c.requires.none;
}

pub end_thread-completion-requires : goal.end_thread-completion-requires
end_thread-completion-requires c =
    let so = c.loop-thread.invariant in
    let l : c.loop-thread.thread-index < length c.args.threads.now.items =
    omega (arith, ap length c.deref_mut-thread-items.ensures.value) in
    record {
      idle =
          idle_here c.args.cancel.set c.args.cancel.errno c.args.own c.args.threads.now.items
          c.loop-thread.thread-items c.loop-thread.thread-index c.thread-item.result c.args.channels.now
          c.loop-thread.channels c.loop-thread.left c.loop-thread.completions.items so.threads l so.so_far
          c.args.own.thread refl;
    }

pub push_completion-requires : goal.push_completion-requires
push_completion-requires c = omega (arith, ap length c.deref_mut-thread-items.ensures.value)

pub loop-thread-preserved : goal.loop-thread-preserved
loop-thread-preserved c =
    let so = c.loop-thread.invariant in
    let l : c.loop-thread.thread-index < length c.args.threads.now.items =
    omega (arith, ap length c.deref_mut-thread-items.ensures.value) in
    record {
      threads =
          passed_on c.args.cancel.set c.args.cancel.errno c.args.own c.args.threads.now.items
          c.loop-thread.thread-items c.loop-thread.thread-index c.thread-item.result c.end_thread-completion.new.thread
          so.threads l c.end_thread-completion.ensures.thread;
      few = rw c.push_completion.ensures
          (omega (arith, few_more c.loop-thread.completions.items c.end_thread-completion.result));
      so_far =
          sweeps_step c.args.cancel.set c.args.cancel.errno c.args.own c.args.threads.now.items
          c.loop-thread.thread-items c.loop-thread.thread-index c.thread-item.result c.args.channels.now
          c.loop-thread.channels c.loop-thread.left c.loop-thread.completions.items so.threads l so.so_far
          c.args.own.thread refl
          c.end_thread-completion.new.channels c.end_thread-completion.new.own c.end_thread-completion.result
          c.push_completion.new.completions.items c.end_thread-completion.ensures.channels
          c.end_thread-completion.ensures.own c.end_thread-completion.ensures.completion c.push_completion.ensures;
    }

pub returns-clause-completions : goal.returns-clause-completions
returns-clause-completions c =
    let l : length c.args.threads.now.items ≤ c.loop-thread.thread-index =
    omega (arith, ap length c.deref_mut-thread-items.ensures.value) in
    swept_completions c.args.cancel.set c.args.cancel.errno c.args.own c.args.threads.now.items c.args.channels.now
    c.loop-thread.channels c.loop-thread.left c.loop-thread.completions.items c.requires.roster
    (at_end c.args.cancel.set c.args.cancel.errno c.args.own c.args.threads.now.items c.loop-thread.thread-index
    c.args.channels.now c.loop-thread.channels c.loop-thread.left c.loop-thread.completions.items l
    c.loop-thread.invariant.so_far)

pub returns-clause-threads : goal.returns-clause-threads
returns-clause-threads c =
    let end : c.loop-thread.thread-index ≡ length c.args.threads.now.items =
    omega (arith, ap length c.deref_mut-thread-items.ensures.value) in
    swept_threads c.args.cancel.set c.args.cancel.errno c.args.own c.args.threads.now.items c.loop-thread.thread-items
    _ c.loop-thread.thread-index c.args.threads.now.len c.loop-thread.invariant.threads end
    (c.loop-thread.auto.thread-items ∙ c.deref_mut-thread-items.ensures.len)

pub returns-clause-channels : goal.returns-clause-channels
returns-clause-channels c =
    let l : length c.args.threads.now.items ≤ c.loop-thread.thread-index =
    omega (arith, ap length c.deref_mut-thread-items.ensures.value) in
    swept_channels c.args.cancel.set c.args.cancel.errno c.args.own c.args.threads.now.items c.args.channels.now
    c.loop-thread.channels c.loop-thread.left c.loop-thread.completions.items c.requires.roster
    (at_end c.args.cancel.set c.args.cancel.errno c.args.own c.args.threads.now.items c.loop-thread.thread-index
    c.args.channels.now c.loop-thread.channels c.loop-thread.left c.loop-thread.completions.items l
    c.loop-thread.invariant.so_far)
