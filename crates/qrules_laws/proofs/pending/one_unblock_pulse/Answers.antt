use Rattle.qrules_laws.proofs.UnblockLaws.{one_unblock_pulse}
use Rattle.qrules_laws.proofs.pending.one_unblock_pulse.Goals as goal

pub returns : goal.returns
returns c = one_unblock_pulse
