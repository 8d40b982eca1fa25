-- The ports of the cells that they share with a desk.
use Rattle.std.specs.Prelude.{◌≡◌, ℕ, List, Some}
use mathlib.Core.Option.{some}
use lib.ListN.{get_elem?}
use Rattle.qhandoff.specs.Words.{cells_id, thread_id, thread_of}
use Rattle.qhandoff.specs.declared.cells.Cells.{Cells}
use Rattle.qrules.specs.Facts.{threads_of}
use Rattle.qshared.specs.Delivered.{origin_of}
use Rattle.qshared.specs.Due.{place}
use Rattle.qshared.specs.declared.delivery.Delivery.{Delivery}
use Rattle.qshared.specs.declared.delivery.Origin.{Origin}
use Rattle.qshared.specs.declared.desk_port.DeskPort.{DeskPort}

-- the port belongs to these cells: its token is for the thread's cell, and it has seen the history of their
-- kernel
pub record IsPortOfCells (cells : Cells Delivery Origin) (p : DeskPort) : Type 0 where
  pub token : thread_id p.seat ≡ cells_id cells
  pub at : place (threads_of (origin_of cells).roster.value) p.thread ≡ Some (thread_of p.seat)
  pub seen : p.seen.name ≡ (origin_of cells).seen.name

-- all these ports belong to these cells
abbrev pub AreOfCells : Cells Delivery Origin → List DeskPort → Type 0
AreOfCells cells ports = (k : ℕ) (p : DeskPort) → get_elem? ports k ≡ some p → IsPortOfCells cells p
