use Rattle.qkernel_state.proofs.ChannelWrites.{closes_in}
use Rattle.qkernel_state.proofs.objects.Objects.close.Goals as goal

pub returns-clause-channels : goal.returns-clause-channels
returns-clause-channels c =
    let fewer = rw (c.remove.ensures.value, c.remove.ensures.after) at c.remove.ensures.fewer in
    rw c.remove.ensures.after (closes_in c.args.chid c.args.self.now.channels c.requires fewer)
