-- The rule of the cells, which holds between any two steps of any tokens.
-- A cell is a word and a slot. The word is 0 if the cell is idle, 1 if it is opened, and 2 if it is full.
use Rattle.std.specs.Prelude.{◌≡◌, ◌⊎◌, ℕ, zero, suc, ◌*◌, ◌/◌, ◌<◌, ◌≤◌, true, false, List, [], ◌∷◌}
use Rattle.std.specs.Prelude.{◌++◌, length}
use Rattle.std.specs.Prelude.{Option, Some, None, slice_index, slice_index_or, slice_set}
use mathlib.Core.Option.{some, none}
use mathlib.Core.Option as maybe
use lib.ListN.{get_elem?}
use Rattle.atomic_table.specs.Table.{State}
use Rattle.qhandoff.specs.declared.view.CellView.{CellView}
use Rattle.qhandoff.specs.declared.view.KernelView.{KernelView}
use Rattle.qhandoff.specs.declared.view.ThreadView.{ThreadView}
use Rattle.qhandoff.specs.declared.view.View.{View}
use Rattle.qhandoff.specs.declared.view.View.TheVariants.{Kernel, Thread, Joined}

-- a cell's slot: at home in the table, with its value, or held by a token
abbrev pub Slot : Type 0 → Type 0
Slot T = maybe.Option (maybe.Option (Option T))

-- the index of the word of cell t: only every eighth word is used, so that each has a cache line of its own
abbrev pub word_of : ℕ → ℕ
word_of t = t * 8

-- the cell of a word
abbrev pub cell_of : ℕ → ℕ
cell_of w = w / 8

module _ {T : Type 0} where
  -- the line of a thread whose cell isn't opened, and for which nothing was put
  abbrev pub idle_line : CellView T
  idle_line = record { opened = false; putting = false; put = []; taken = None }

  -- the thread view of a thread that took nothing
  abbrev pub new_thread_view : ℕ → ThreadView T
  new_thread_view t = record { thread = t; taken = []; taking = None }

  -- the knowledge of the kernel's token about thread t
  abbrev pub line : KernelView T → ℕ → CellView T
  line d t = slice_index_or d.lines t idle_line

  -- the kernel view with another line for thread t
  abbrev pub with_line : KernelView T → ℕ → CellView T → KernelView T
  with_line d t l = record d { lines = slice_set d.lines t l }

  -- the slot is at home and empty
  abbrev pub IsEmpty : Slot T → Type 0
  IsEmpty o = o ≡ some (some None)

  -- the slot is at home and has x
  abbrev pub Has : Slot T → T → Type 0
  Has o x = o ≡ some (some (Some x))

  -- a token holds the slot, and no other token reads or writes it
  abbrev pub IsHeld : Slot T → Type 0
  IsHeld o = o ≡ some none

  -- all completions that were put were taken
  abbrev pub AllTaken : CellView T → ThreadView T → Type 0
  AllTaken l h = l.put ≡ h.taken

  -- all completions that were put were taken, except the last, which is x
  abbrev pub AllTakenBut : CellView T → ThreadView T → T → Type 0
  AllTakenBut l h x = l.put ≡ h.taken ++ x ∷ []

  -- an opened cell's slot is empty, or the kernel's token holds it while it puts a completion
  abbrev pub FitsPut : CellView T → Slot T → Type 0
  FitsPut l o = ((l.putting ≡ false) × IsEmpty o) ⊎ ((l.putting ≡ true) × IsHeld o)

  -- a full cell's slot has x, or the thread's token holds it while it takes x
  abbrev pub FitsTake : ThreadView T → T → Slot T → Type 0
  FitsTake h x o = ((h.taking ≡ None) × Has o x) ⊎ ((h.taking ≡ Some x) × IsHeld o)

  -- the conditions for each value of a cell's word. They say whether the cell is opened, whether a completion
  -- is being put or taken, whether all completions were taken, and where the slot is.
  abbrev pub Fits : ℕ → CellView T → ThreadView T → Slot T → Type 0
  Fits zero l h o = (l.opened ≡ false) × (l.putting ≡ false) × (h.taking ≡ None) × AllTaken l h × IsEmpty o
  Fits (suc zero) l h o = (l.opened ≡ true) × (h.taking ≡ None) × AllTaken l h × FitsPut l o
  Fits (suc (suc zero)) l h o =
      (l.opened ≡ false) × (l.putting ≡ false) × ((x : T) × AllTakenBut l h x × FitsTake h x o)
  Fits (suc (suc (suc n))) l h o = ⊥

  -- a joined token took the list in its line, and isn't taking anything
  abbrev pub Settled : Option (List T) → ThreadView T → Type 0
  Settled None h = Unit {0}
  Settled (Some ts) h = (ts ≡ h.taken) × (h.taking ≡ None)

  -- token 0 is the kernel's and knows the kernel view; token t + 1 is thread t's and knows its thread view
  -- until it is joined
  abbrev pub Knows : KernelView T → (ℕ → ThreadView T) → ℕ → View T → Type 0
  Knows kernel_view thread_view j (Kernel d) = (j ≡ 0) × (d ≡ kernel_view)
  Knows kernel_view thread_view j (Thread h) =
      (j ≡ suc h.thread) × (h ≡ thread_view h.thread) × ((line kernel_view h.thread).taken ≡ None)
  Knows kernel_view thread_view j Joined = Unit {0}

  -- a condition on the values that were put for a thread: it holds once a value was put
  abbrev pub AreAllowed : (ℕ → List T → Type 0) → ℕ → CellView T → Type 0
  AreAllowed P t l = (l.put ≡ []) ⊎ P t l.put

  -- there are n cells, a kernel view, and a thread view for each thread. The words, the slots and all tokens
  -- agree with them. A thread whose token isn't made yet took nothing. The values that were put for each
  -- thread meet condition P.
  pub record KeepsRule (P : ℕ → List T → Type 0) (n : ℕ) (s : State (Option T) (View T)) : Type 0 where
    pub kernel_view : KernelView T
    pub thread_view : ℕ → ThreadView T
    pub words : length s.words ≡ n * 8
    pub slots : length s.homes ≡ n
    pub lines : length kernel_view.lines ≡ n
    pub kernel : get_elem? s.views 0 ≡ some (Kernel kernel_view)
    pub seats : length s.views ≡ suc kernel_view.seats
    pub unmade : (t : ℕ) → kernel_view.seats ≤ t → (thread_view t ≡ new_thread_view t)
        × ((line kernel_view t).taken ≡ None)
    pub each_cell : (t : ℕ) → t < n
        → Fits (slice_index s.words (word_of t)) (line kernel_view t) (thread_view t) (get_elem? s.homes t)
        × Settled (line kernel_view t).taken (thread_view t)
    pub allowed : (t : ℕ) → AreAllowed P t (line kernel_view t)
    pub each_seat : (j : ℕ) (v : View T) → get_elem? s.views j ≡ some v → Knows kernel_view thread_view j v
