-- The cells and the lists of calls that belong to a kernel under a lock.
use Rattle.std.specs.Prelude.{◌≡◌, ℕ, List, [], false, length, map, slice_index_or, Some}
use mathlib.Core.Option.{some}
use lib.ListN.{get_elem?}
use Rattle.atomic_table.specs.Seated.{TableId}
use Rattle.qtables.specs.declared.member.Member.{Member}
use Rattle.qmodel.specs.declared.call.Call.{Call}
use Rattle.qhandoff.specs.declared.cells.Cells.{Cells}
use Rattle.qhandoff.specs.Words.{cells_id, thread_id, thread_of}
use Rattle.qrules.specs.Facts.{threads_of}
use Rattle.qshared.specs.Delivered.{origin_of, taken}
use Rattle.qshared.specs.Names.{Names}
use Rattle.qshared.specs.UnderLock.{UnderLock, roster_of}
use Rattle.qshared.specs.declared.asking.KernelCalls.{KernelCalls}
use Rattle.qshared.specs.Due.{place}
use Rattle.qshared.specs.declared.desk_port.DeskPort.{DeskPort}
use Rattle.qshared.specs.declared.delivery.Delivery.{Delivery}
use Rattle.qshared.specs.declared.delivery.Origin.{Origin}

-- these are the cells of the kernel under the lock
abbrev pub AreCellsOf : UnderLock → Cells Delivery Origin → Type 0
AreCellsOf u cells = (cells_id cells ≡ u.cells) × ((origin_of cells).roster.value ≡ roster_of u)
    × ((origin_of cells).seen.name ≡ u.history)

-- the kernel under the lock has these names
abbrev pub IsNamed : Names → UnderLock → Type 0
IsNamed names u = (roster_of u ≡ names.roster) × (u.cells ≡ names.cells) × (u.history ≡ names.history)

-- the names of these lists
abbrev pub names_in : List KernelCalls → List ℕ
names_in hs = map (λ h. h.name) hs

-- the port belongs to this kernel and to these lists of calls: its token is for the thread's cell, its list
-- is the thread's, and it has seen the kernel's history
pub record IsPortOf (u : UnderLock) (heard : List KernelCalls) (p : DeskPort) : Type 0 where
  pub cells : thread_id p.seat ≡ u.cells
  pub at : place (threads_of (roster_of u)) p.thread ≡ Some (thread_of p.seat)
  pub asked : slice_index_or (names_in heard) (thread_of p.seat) 0 ≡ p.asked.name
  pub seen : p.seen.name ≡ u.history

-- the port is one of the kernel of these names
pub record IsPortIn (names : Names) (p : DeskPort) : Type 0 where
  pub cells : thread_id p.seat ≡ names.cells
  pub at : place (threads_of names.roster) p.thread ≡ Some (thread_of p.seat)
  pub asked : slice_index_or names.lists (thread_of p.seat) 0 ≡ p.asked.name
  pub seen : p.seen.name ≡ names.history

-- both are the port of the same thread: they have the same cell, index, list of calls and history
pub record IsSamePort (p q : DeskPort) : Type 0 where
  pub cells : thread_id p.seat ≡ thread_id q.seat
  pub cell : thread_of p.seat ≡ thread_of q.seat
  pub thread : p.thread ≡ q.thread
  pub asked : p.asked.name ≡ q.asked.name
  pub seen : p.seen.name ≡ q.seen.name

-- the port is the new port of the thread at index k: it has no pending call, took no completion, asked for no
-- call, and saw no event. Its cell is in this table, and its list of calls is the list at its index
pub record IsNewPort (roster : List Member) (table : TableId) (past : ℕ) (lists : List ℕ) (k : ℕ)
    (p : DeskPort) : Type 0 where
  pub cells : thread_id p.seat ≡ table
  pub cell : thread_of p.seat ≡ k
  pub at : place (threads_of roster) p.thread ≡ Some k
  pub asked : slice_index_or lists k 0 ≡ p.asked.name
  pub seen : p.seen.name ≡ past
  pub idle : p.turn.pending ≡ false
  pub untaken : taken p.seat ≡ []
  pub uncalled : p.asked.calls ≡ []
  pub unseen : (p.seen.trace ≡ []) × (p.last.trace ≡ [])

-- these are the new ports of all threads
abbrev pub AreNewPorts : List Member → TableId → ℕ → List ℕ → List DeskPort → Type 0
AreNewPorts roster table past lists ports = (length ports ≡ table.slots)
    × ((k : ℕ) (p : DeskPort) → get_elem? ports k ≡ some p → IsNewPort roster table past lists k p)

-- the calls in these lists
abbrev pub calls_in : List KernelCalls → List (List Call)
calls_in hs = map (λ h. h.calls) hs
