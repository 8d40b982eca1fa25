-- The line of a thread that is blocked at the end of a run.
use Rattle.std.specs.Prelude.{ℕ, List, [], ◌∷◌, ◌++◌, codes, decimal}
use Rattle.qmodel.specs.declared.open_call.Blocked.{Blocked}
use Rattle.qscript_text.specs.ResultParts.{state_words}
use Rattle.qscript.specs.Printing.Words.{words_with_spaces}

-- the open call, its thread, and the thread's state and channel
abbrev pub open_text : Blocked → List ℕ
open_text b = codes "open" ++ words_with_spaces
    ((decimal b.number ∷ decimal b.thread ∷ []) ++ state_words b.state) ++ 10 ∷ []
