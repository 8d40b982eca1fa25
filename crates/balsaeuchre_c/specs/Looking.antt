-- What a look at a desk's kernel tells C.
use Rattle.std.specs.Prelude.{◌≡◌, ℕ, ◌<◌, List, Bool, true, false, length, drop, min, slice_get, None, Some}
use Rattle.std.specs.Option.{option_map_or}
use Rattle.qbase.specs.declared.state.ThreadState.TheVariants.{Ready}
use Rattle.qkernel.specs.Kernel.{State}
use Rattle.qkernel.specs.Matching.{InfoAtTraces}
use Rattle.qkernel_state.specs.declared.thread.Thread.{Thread}
use Rattle.qmodel.specs.OpenCalls.{number_of}
use Rattle.qmodel.specs.declared.call.Info.{Info}
use Rattle.qmodel.specs.declared.call.Mark.TheVariants as mark
use Rattle.qrules.specs.Rules.Threads.{state_in}
use Rattle.balsaeuchre_c.specs.Rows.{mark_of, state_numbered}
use Rattle.balsaeuchre_c.specs.declared.ports.looking.ThreadRow.{ThreadRow}
use Rattle.balsaeuchre_c.specs.declared.row.Row.{Row}

-- the row has a thread's number, process, priority and state, and the number of the call that it is blocked
-- in, or 0
pub record IsLook (t : Thread) (r : ThreadRow) : Type 0 where
  pub thread : r.thread ≡ t.member.thread
  pub process : r.process ≡ t.member.process
  pub priority : r.priority ≡ t.priority
  pub state : state_numbered r.state r.channel ≡ Some (option_map_or state_in t.open_call Ready)
  pub call : r.call ≡ option_map_or number_of t.open_call 0

-- the first `count` rows have the threads in order, and the other rows are unchanged. There is a row for each
-- thread, or all rows are written
pub record AreLooks (threads : List Thread) (old_rows rows : List ThreadRow) (count : ℕ) : Type 0 where
  pub size : length rows ≡ length old_rows
  pub many : min (length threads) (length rows) ≡ count
  pub looks : (k : ℕ) (t : Thread) (r : ThreadRow) → k < count → slice_get threads k ≡ Some t
      → slice_get rows k ≡ Some r → IsLook t r
  pub rest : drop count rows ≡ drop count old_rows

-- if there is such a held message, the row is the result of an `Info` of it. Otherwise the row is unchanged
abbrev pub TellsHeld : State → ℕ → Row → Row → Bool → Type 0
TellsHeld kernel rcvid old_row row true =
    (info : Info) × InfoAtTraces kernel rcvid (Some info) × (mark_of row ≡ Some (mark.Info info))
TellsHeld kernel rcvid old_row row false = InfoAtTraces kernel rcvid None × (row ≡ old_row)
