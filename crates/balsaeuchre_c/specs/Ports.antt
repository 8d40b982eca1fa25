-- The effect of a call of a port, and the answer for C.
use Rattle.std.specs.Prelude.{◌≡◌, ℕ, List, [], ◌∷◌, ◌++◌, Ok, Some, ◌⊎◌, false}
use Rattle.qtables.specs.declared.member.Member.{Member}
use Rattle.qbase.specs.declared.errno.Errno.{Errno}
use Rattle.qmodel.specs.declared.call.Call.{Call}
use Rattle.qmodel.specs.declared.call.Completion.{Completion}
use Rattle.qshared.specs.Answered.{Answered, IsMet}
use Rattle.qshared.specs.Collected.{collected_at}
use Rattle.qshared.specs.Counting.{gives, pends}
use Rattle.qshared.specs.Delivered.{IsAwaited}
use Rattle.qshared.specs.Desks.{AreNewPorts, names_in}
use Rattle.qshared.specs.History.{Extends}
use Rattle.qshared.specs.UnderLock.{UnderLock, roster_of}
use Rattle.qshared.specs.Unrecorded.{admits_unrecorded, refuses_unrecorded}
use Rattle.qshared.specs.declared.called.Called.{Called}
use Rattle.qshared.specs.declared.called.Called.TheVariants.{Blocked, Done, Refused}
use Rattle.qshared.specs.declared.desk_port.DeskPort.{DeskPort}
use Rattle.balsaeuchre_c.specs.Opening.{roster_from}
use Rattle.balsaeuchre_c.specs.Requests.{IsRefusedAs, call_of}
use Rattle.balsaeuchre_c.specs.Rows.{IsRowOf, TellsReceipt}
use Rattle.balsaeuchre_c.specs.declared.ports.calling.PortAnswer.{PortAnswer}
use Rattle.balsaeuchre_c.specs.declared.ports.library_desk.LibraryDesk.{LibraryDesk}
use Rattle.balsaeuchre_c.specs.declared.request.CallRequest.{CallRequest}
use Rattle.balsaeuchre_c.specs.declared.roster.RosterThread.{RosterThread}
use Rattle.balsaeuchre_c.specs.declared.row.Row.{Row}

-- a desk of these threads that has made no call, and the new port of each thread
pub record IsNewDesk (threads : List RosterThread) (d : LibraryDesk) (ports : List DeskPort) : Type 0 where
  pub roster_is : roster_from [] threads ≡ Ok (roster_of d.desk.traced)
  pub unused : d.desk.traced.past ≡ []
  pub new : AreNewPorts (roster_of d.desk.traced) d.desk.traced.cells d.desk.traced.history
      (names_in d.desk.heard.items) ports

-- the answer has the outcome of a call, and bytes has the bytes of its completion. u is the value under the
-- lock after the call
abbrev pub TellsOutcome : UnderLock → Called → List ℕ → List ℕ → PortAnswer → Type 0
TellsOutcome u (Done x) old_bytes bytes a =
    (a.ended ≡ 1) × IsRowOf x old_bytes bytes a.row × TellsReceipt a.row u.kernel x
TellsOutcome u Blocked old_bytes bytes a = (a.ended ≡ 0) × (bytes ≡ old_bytes)
TellsOutcome u (Refused errno call) old_bytes bytes a = ⊥

-- port p made exactly the call that the request encodes, after a history that it met under the lock. q is the
-- port afterwards: it has seen the whole history, and it took the completion that the outcome gives. The
-- answer has the outcome
pub record IsPortEvent (old : UnderLock) (p : DeskPort) (r : CallRequest) (sent room : List ℕ)
    (new : UnderLock) (q : DeskPort) (old_bytes bytes : List ℕ) (a : PortAnswer) : Type 0 where
  pub call : Call
  pub meant : call_of r sent room ≡ Some call
  pub met : IsMet (roster_of old) p.thread p.asked.calls p.seen.trace old.past
  pub outcome : Called
  pub came : Answered (roster_of old) refuses_unrecorded admits_unrecorded p.thread call outcome old.past
      q.seen.trace
  pub past : new.past ≡ q.seen.trace
  pub asked : q.asked.calls ≡ p.asked.calls ++ call ∷ []
  pub pending : q.turn.pending ≡ pends outcome p.turn.pending
  pub taken : collected_at q ≡ collected_at p ++ gives outcome
  pub told : TellsOutcome new outcome old_bytes bytes a
  pub number : a.call ≡ new.kernel.made

-- the error of a call that isn't an event: the request encodes none, there is no memory, or the call is
-- refused
abbrev pub PortCallError : UnderLock → DeskPort → CallRequest → List ℕ → List ℕ → Errno → Type 0
PortCallError old p r sent room errno = IsRefusedAs (call_of r sent room) errno
    ⊎ ((call : Call) × (call_of r sent room ≡ Some call)
    × Answered (roster_of old) refuses_unrecorded admits_unrecorded p.thread call (Refused errno call)
    old.past old.past)

-- a refused or impossible call changes nothing that the history or the port owes
pub record IsUncalled (old new : UnderLock) (p q : DeskPort) : Type 0 where
  pub past : new.past ≡ old.past
  pub asked : q.asked.calls ≡ p.asked.calls
  pub pending : q.turn.pending ≡ p.turn.pending
  pub taken : collected_at q ≡ collected_at p

-- port p of these members took the completion x, and is q afterwards. x is the next completion that the
-- history owes its thread. The row and the byte array have it, without the data of the sender of a received
-- message
pub record IsTaken (roster : List Member) (p q : DeskPort) (old_bytes bytes : List ℕ) (r : Row) : Type 0 where
  pub completion : Completion
  pub taken : collected_at q ≡ collected_at p ++ completion ∷ []
  pub pending : q.turn.pending ≡ false
  pub seen : Extends q.seen.trace p.seen.trace
  pub came : IsAwaited roster p.thread p.asked.calls p.last.trace completion q.seen.trace
  pub told : IsRowOf completion old_bytes bytes r
