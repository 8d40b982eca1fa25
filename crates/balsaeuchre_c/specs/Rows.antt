-- The completion in a row.
use Rattle.std.specs.Prelude.{◌≡◌, ℕ, ◌==◌, length, List, [], take, Option, None, Some, option_map}
use Rattle.std.specs.Prelude.{if◌then◌else◌}
use Rattle.qbase.specs.Copying.{laid_count, lay_over}
use Rattle.qbase.specs.declared.state.ThreadState.{ThreadState}
use Rattle.qbase.specs.declared.state.ThreadState.TheVariants as state
use Rattle.qqueue.specs.declared.item.What.{What}
use Rattle.qqueue.specs.declared.item.What.TheVariants as what
use Rattle.qkernel.specs.Kernel.{State}
use Rattle.qkernel.specs.Matching.{InfoAtTraces}
use Rattle.qmodel.specs.declared.call.Completion.{Completion}
use Rattle.qmodel.specs.declared.call.Info.{Info}
use Rattle.qmodel.specs.declared.call.Mark.{Mark}
use Rattle.qmodel.specs.declared.call.Mark.TheVariants as mark
use Rattle.qbase.specs.declared.errno.TheConstants.{ERRNOS}
use Rattle.balsaeuchre_c.specs.declared.row.Row.{Row}
use Rattle.balsaeuchre_c.specs.Numbers.{numbered}

-- the content of the pulse in a row
abbrev pub what_of : Row → Option What
what_of r =
    if r.what == 1 then Some what.Message
    else if r.what == 2 then Some (what.User r.pulse_code r.value)
    else if r.what == 3 then Some (what.Unblock r.rcvid)
    else if r.what == 4 then Some (what.Disconnect r.process)
    else None

-- the thread state with this number, on this channel
abbrev pub state_numbered : ℕ → ℕ → Option ThreadState
state_numbered number channel =
    if number == 1 then Some state.Ready
    else if number == 2 then Some (state.SendBlocked channel)
    else if number == 3 then Some (state.ReceiveBlocked channel)
    else if number == 4 then Some (state.ReplyBlocked channel)
    else None

-- the thread state in a row
abbrev pub state_of : Row → Option ThreadState
state_of r = state_numbered r.state r.id

-- the data of a held message in a row
abbrev pub info_in : Row → Info
info_in r = record {
  process = r.process;
  thread = r.sender;
  priority = r.priority;
  connection = r.id;
  msglen = r.count;
  srcmsglen = r.srcmsglen;
  dstmsglen = r.dstmsglen;
}

-- the result in a row
abbrev pub mark_of : Row → Option Mark
mark_of r =
    if r.mark == 1 then Some mark.Ok
    else if r.mark == 2 then option_map (λ errno. mark.Failed errno) (numbered ERRNOS r.errno)
    else if r.mark == 3 then Some (mark.Channel r.id)
    else if r.mark == 4 then Some (mark.Connection r.id)
    else if r.mark == 5 then Some (mark.Replied r.status r.count)
    else if r.mark == 6 then Some (mark.Message r.rcvid r.count)
    else if r.mark == 7 then Some (mark.Errored r.value)
    else if r.mark == 8 then Some (mark.Count r.count)
    else if r.mark == 9 then Some (mark.Info (info_in r))
    else if r.mark == 10 then option_map (λ what. mark.Pulse r.id r.priority what) (what_of r)
    else if r.mark == 11 then option_map (λ state. mark.State state r.priority) (state_of r)
    else None

-- the part of the buffer that is written for a call with this result: the bytes that were copied to its
-- start, and nothing for a pulse. Otherwise it is the whole buffer, since a Write may have written anywhere
-- in a reply buffer
abbrev pub told_of : Mark → List ℕ → List ℕ
told_of (mark.Message rcvid copied) buffer = take copied buffer
told_of (mark.Count copied) buffer = take copied buffer
told_of (mark.Pulse item priority what) buffer = []
told_of other buffer = buffer

-- the bytes of a completion's buffer that are written
abbrev pub told_bytes : Completion → List ℕ
told_bytes e = told_of e.mark e.buffer

-- the row has the call, the thread and the bytes of this completion: they begin at `at` in the byte array,
-- and `count` of them were written
pub record IsOf (r : Row) (e : Completion) (at count : ℕ) : Type 0 where
  pub call : r.call ≡ e.call
  pub thread : r.thread ≡ e.thread
  pub length : r.length ≡ length (told_bytes e)
  pub start : r.start ≡ at
  pub written : r.written ≡ count

-- the row has the data of a message, if there is any, except the number of copied bytes
abbrev pub Fills : Row → Option Info → Type 0
Fills r None = Unit {0}
Fills r (Some info) = record info { msglen = r.count } ≡ info_in r

-- the row has the data that the kernel has for the message with this id, and the number of copied bytes at
-- its receipt
pub record TellsMessage (r : Row) (s : State) (rcvid copied : ℕ) : Type 0 where
  pub count : r.count ≡ copied
  pub info : Option Info
  pub said : InfoAtTraces s rcvid info
  pub filled : Fills r info

-- if the completion is the receipt of a message, the row has the message
abbrev pub TellsReceipt : Row → State → Completion → Type 0
TellsReceipt r s e = (rcvid copied : ℕ) → e.mark ≡ mark.Message rcvid copied → TellsMessage r s rcvid copied

-- the row has the whole completion, and for a received message the kernel's data after the event
pub record Tells (r : Row) (s : State) (e : Completion) (at count : ℕ) : Type 0 where
  pub of : IsOf r e at count
  pub mark : mark_of r ≡ Some e.mark
  pub message : TellsReceipt r s e

-- the row has the completion x, without the data of the sender of a received message. The bytes of its buffer
-- are at the beginning of the byte array, as far as there is room
pub record IsRowOf (x : Completion) (old_bytes bytes : List ℕ) (r : Row) : Type 0 where
  pub of : IsOf r x 0 (laid_count old_bytes 0 (told_bytes x))
  pub mark : mark_of r ≡ Some x.mark
  pub bytes_are : bytes ≡ lay_over old_bytes 0 (told_bytes x)
