-- Every valid history has the properties.
use Rattle.qrules.proofs.Common.{arith, List, HasProperties, IsRoster, Member, Trace}
use Rattle.qrules.proofs.Words.Lawful.{IsLawful}
use Rattle.qrules.proofs.Traces.Properties.AnsweredToSender.{answered_to_sender}
use Rattle.qrules.proofs.Traces.Properties.BestFirst.{best_first}
use Rattle.qrules.proofs.Traces.Properties.CopiedExactly.{copied_exactly}
use Rattle.qrules.proofs.Traces.Properties.ReceivedOnce.{received_once}
use Rattle.qrules.proofs.Traces.Properties.SentOrder.{sent_order}
use Rattle.qrules.proofs.Traces.Properties.ShutForGood.{shut_for_good}

pub has_properties : (roster : List Member) (past : Trace) → IsRoster roster → IsLawful roster past
    → HasProperties roster past
has_properties roster past r l =
    grind (arith, answered_to_sender, best_first, copied_exactly, received_once, sent_order, shut_for_good)
