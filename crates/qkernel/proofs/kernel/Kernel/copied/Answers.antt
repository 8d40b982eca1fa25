use Rattle.qkernel.proofs.Common.{State, refl}
use Rattle.qkernel.proofs.Copying.{facts_copied, sound_copied}
use Rattle.qkernel.proofs.kernel.Kernel.copied.Goals as goal

pub invariant_of-result : goal.invariant_of-result
invariant_of-result c =
    let old : State =
    record {
      made = c.self.inside.made;
      down = c.self.inside.down;
      threads = c.self.inside.objects.threads;
      channels =
          c.self.inside.objects.channels;
      connections = c.self.inside.objects.connections;
    } in
    sound_copied old _ refl refl c.in_ok-copied.ensures.threads c.in_ok-copied.ensures.channels
    c.in_ok-copied.ensures.connections c.self.invariant

pub returns : goal.returns
returns c =
    let old : State =
    record {
      made = c.self.inside.made;
      down = c.self.inside.down;
      threads = c.self.inside.objects.threads;
      channels =
          c.self.inside.objects.channels;
      connections = c.self.inside.objects.connections;
    } in
    rw (← c.self.view_is)
    (facts_copied old _ refl refl c.in_ok-copied.ensures.threads c.in_ok-copied.ensures.channels
    c.in_ok-copied.ensures.connections)
