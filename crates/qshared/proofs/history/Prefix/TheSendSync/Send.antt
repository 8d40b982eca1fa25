use Rattle.qshared.proofs.PrefixCommon.{IsSend, the_row}
use base.Growing.{at_least}

pub send : IsSend the_row
unfolding at_least
send = record { owned = λ d vs. ((λ vss. (tt, tt)), tt); leaving = λ k f vs. tt }
