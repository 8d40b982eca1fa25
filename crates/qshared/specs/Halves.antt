-- The ghost resources that the two halves of a list of calls own. One ghost name tracks the list.
use Rattle.std.specs.Prelude.{ℕ, List}
use base.Stored.{Coded, coded_list}
use base.Fml.{Fml, fobs, fauth}
use Rattle.qmodel.specs.declared.call.Call.{Call}
use Rattle.qmodel.specs.contracts.call.Call as row

-- a list of calls as a ghost value
abbrev pub calls_coded : Coded (List Call)
calls_coded = coded_list (row.the_row).coded

-- the half that the thread's port keeps owns this
abbrev pub asked_owns : ℕ → List Call → Fml
asked_owns name calls = fobs name (calls_coded.code calls)

-- the half that is kept with the history owns this
abbrev pub heard_owns : ℕ → List Call → Fml
heard_owns name calls = fauth name (calls_coded.code calls)
