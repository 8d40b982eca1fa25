-- The completions that threads wait for, and the histories in which they were made.
use Rattle.std.specs.Prelude.{◌≡◌, ℕ, ◌+◌, ◌==◌, true, false, if◌then◌else◌, List, [], ◌∷◌, ◌++◌, length, map}
use Rattle.std.specs.Prelude.{Option, Some, None, option_map}
use mathlib.Core.Option as maybe
use Rattle.qtables.specs.declared.member.Member.{Member}
use Rattle.qmodel.specs.declared.call.Call.{Call}
use Rattle.qmodel.specs.declared.call.Completion.{Completion}
use Rattle.qrules.specs.Facts.{threads_of}
use Rattle.qrules.specs.Lawful.{IsLawful}
use Rattle.qrules.specs.Properties.{HasProperties}
use Rattle.qrules.specs.Trace.{Trace}
use Rattle.qhandoff.specs.declared.view.CellView.{CellView}
use Rattle.qhandoff.specs.declared.view.KernelView.{KernelView}
use Rattle.qhandoff.specs.declared.seats.KernelSeat.{KernelSeat}
use Rattle.qhandoff.specs.declared.seats.ThreadSeat.{ThreadSeat}
use Rattle.qhandoff.specs.declared.cells.Cells.{Cells}
use Rattle.qhandoff.specs.Words as cells
use Rattle.qshared.specs.Asking.{calls_of}
use Rattle.qshared.specs.Due.{AreLater, at_once, ends_open, later_due, of_thread, place}
use Rattle.qshared.specs.History.{Extends}
use Rattle.qshared.specs.Names.{Names}
use Rattle.qshared.specs.declared.delivery.Delivery.{Delivery}
use Rattle.qshared.specs.declared.delivery.Origin.{Origin}

-- ---- deliveries without their histories

-- the completions of these deliveries
abbrev pub completions_in : List Delivery → List Completion
completions_in xs = map (λ x. x.completion) xs

-- the knowledge about one thread, without the histories
abbrev pub line_of : CellView Delivery → CellView Completion
line_of l = record {
  opened = l.opened;
  putting = l.putting;
  put = completions_in l.put;
  taken = option_map completions_in l.taken;
}

-- the knowledge of the kernel's token, without the histories
abbrev pub view_of : KernelView Delivery → KernelView Completion
view_of d = record { seats = d.seats; lines = map line_of d.lines }

-- the knowledge of the kernel's token about the completions
abbrev pub kernel_view : KernelSeat Delivery → KernelView Completion
kernel_view s = view_of (cells.kernel_view s)

-- the completions that a thread took out of its cell, in order
abbrev pub taken : ThreadSeat Delivery → List Completion
taken s = completions_in (cells.taken s)

-- the completions that the token took; the list is empty if there is no token
abbrev pub took : maybe.Option (ThreadSeat Delivery) → List Completion
took s = completions_in (cells.took s)

-- ---- the condition on what is put into a cell

-- the number of the newest call of thread t; 0 if it made none
abbrev pub newest_call : Trace → ℕ → ℕ
newest_call [] t = 0
newest_call (e ∷ past) t = if e.thread == t then length past + 1 else newest_call past t

-- the newest event of this history completes a call of thread t with x, and is another thread's
abbrev pub EndsWith : Trace → ℕ → Completion → Type 0
EndsWith [] t x = ⊥
EndsWith (e ∷ past) t x = ((e.thread == t) ≡ false) × (of_thread t e.completions ≡ x ∷ [])

-- the thread at index i gets the completion x from the newest event of this history, which is valid and has
-- the six properties. It completes the thread's newest call. With x, the thread got all its later
-- completions.
pub record IsDelivered (roster : List Member) (i : ℕ) (got : List Completion) (x : Completion)
    (made : Trace) : Type 0 where
  pub lawful : IsLawful roster made
  pub properties : HasProperties roster made
  pub thread : place (threads_of roster) x.thread ≡ Some i
  pub ends : EndsWith made x.thread x
  pub call : x.call ≡ newest_call made x.thread
  pub due : got ≡ later_due made x.thread
  pub later : AreLater false (at_once made x.thread) got
  pub waited : ends_open (at_once made x.thread) ≡ true

-- the condition on the deliveries to the thread at index i: the last of them is delivered as defined above,
-- and its history is of this name
abbrev pub ArePut : List Member → ℕ → ℕ → List Delivery → Type 0
ArePut roster history i xs = (before : List Delivery) (x : Delivery) → xs ≡ before ++ x ∷ []
    → (x.seen.name ≡ history) × IsDelivered roster i (completions_in xs) x.completion x.seen.trace

-- cells with this origin are of the kernel of these names
abbrev pub IsOrigin : Names → Origin → Type 0
IsOrigin names origin = (origin.roster.value ≡ names.roster) × (origin.seen.name ≡ names.history)

-- the origin of these cells
abbrev pub origin_of : Cells Delivery Origin → Origin
origin_of c = cells.origin_of c

-- ---- the completion that a thread waited for

-- x is delivered in a history that seen extends
pub record Arrives (roster : List Member) (i : ℕ) (got : List Completion) (x : Completion)
    (seen : Trace) : Type 0 where
  pub made : Trace
  pub extends : Extends seen made
  pub is : IsDelivered roster i got x made

-- thread t waited for the completion x of its newest call. `made` is the history up to the event that made
-- x, and is valid and has the six properties; the history that was seen extends it. That event is another
-- thread's, and x is its completion for thread t. In this history the calls of t are exactly the calls asked,
-- and x completes the newest of them. This is also the newest call of t in the history `last`.
pub record IsAwaited (roster : List Member) (t : ℕ) (asked : List Call) (last : Trace) (x : Completion)
    (seen : Trace) : Type 0 where
  pub made : Trace
  pub extends : Extends seen made
  pub lawful : IsLawful roster made
  pub properties : HasProperties roster made
  pub ends : EndsWith made t x
  pub calls : calls_of made t ≡ asked
  pub call : x.call ≡ newest_call made t
  pub newest : newest_call made t ≡ newest_call last t
