use denote.Param.Send.{IsSend}
use base.Growing.{latest}
use Rattle.qshared.specs.contracts.history.History.{the_row}

pub send : IsSend the_row
unfolding latest
send = record { owned = λ d vs. ((λ vss. (tt, tt)), tt); leaving = λ k f vs. tt }
