use Rattle.qrules_laws.proofs.OpenCallLaws.{newest_is_last, none_is_newest}
use Rattle.qrules_laws.proofs.open_calls.newest_is_last.Goals as goal

pub returns : goal.returns
returns c = record { last = newest_is_last; none = none_is_newest }
