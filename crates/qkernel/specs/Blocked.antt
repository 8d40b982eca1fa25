-- The blocked threads, each with the number of its open call and its state.
use Rattle.qrules.specs.Words.{filter_map, List}
use Rattle.qrules.specs.Facts.{threads_of, Facts}
use Rattle.qrules.specs.Records.{blocked_thread}
use Rattle.qmodel.specs.declared.open_call.Blocked.{Blocked}

-- the blocked threads, in ascending order of their numbers
abbrev pub blocked_threads : Facts → List Blocked
blocked_threads f = filter_map (λ t. blocked_thread t (f.open_call t)) (threads_of f.roster)
