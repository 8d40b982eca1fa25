-- The kinds of step, and the effect of each on its token: the knowledge and the slots that it has afterwards.
-- In each, `st.word` is the index of the word, which gives the cell. `m` is the token before, `r` is the
-- value that was found in the word, and `m'` is the token after.
use Rattle.std.specs.Prelude.{◌≡◌, ◌⊎◌, ℕ, suc, true, false, List, [], ◌∷◌, ◌++◌, replicate, Option, Some}
use Rattle.std.specs.Prelude.{None}
use Rattle.atomic_table.specs.Table.{Me, Step}
use Rattle.qhandoff.specs.declared.view.CellView.{CellView}
use Rattle.qhandoff.specs.declared.view.KernelView.{KernelView}
use Rattle.qhandoff.specs.declared.view.ThreadView.{ThreadView}
use Rattle.qhandoff.specs.declared.view.View.{View}
use Rattle.qhandoff.specs.declared.view.View.TheVariants.{Kernel, Thread, Joined}
use Rattle.qhandoff.specs.Rule.{cell_of, idle_line, new_thread_view, line, with_line}

-- a relation between the step, the token before, the value found in the word, and the token after
abbrev pub Tells : Type 0 → Type 1
Tells T = Step (Option T) → Me (Option T) (View T) → ℕ → Me (Option T) (View T) → Type 0

module _ {T : Type 0} where
  -- k thread tokens of n were made, and no cell was used
  abbrev pub seated_kernel_view : ℕ → ℕ → KernelView T
  seated_kernel_view k n = record { seats = k; lines = replicate n idle_line }

  -- the first token's knowledge as the cells are made: no thread's token is split off
  abbrev pub first_view : ℕ → View T
  first_view n = Kernel (seated_kernel_view 0 n)

  -- the knowledge of the kernel's token after one more thread token is split off
  abbrev pub seats_one_more : View T → View T
  seats_one_more (Kernel d) = Kernel (record d { seats = suc d.seats })
  seats_one_more v = v

  -- the knowledge of the thread token that is split off
  abbrev pub next_thread_view : View T → View T
  next_thread_view (Kernel d) = Thread (new_thread_view d.seats)
  next_thread_view v = Joined

  -- the kernel view in the view of the kernel's token; an empty kernel view for other views
  abbrev pub kernel_view_in : View T → KernelView T
  kernel_view_in (Kernel d) = d
  kernel_view_in v = seated_kernel_view 0 0

  -- the thread view in the view of a thread's token; a new thread view for other views
  abbrev pub thread_view_in : View T → ThreadView T
  thread_view_in (Thread h) = h
  thread_view_in v = new_thread_view 0

  -- the kernel view after thread t's cell is opened
  abbrev pub opened_kernel_view : KernelView T → ℕ → KernelView T
  opened_kernel_view d t = with_line d t (record (line d t) { opened = true })

  -- the kernel view after the opening of thread t's cell is cancelled
  abbrev pub cancelled_kernel_view : KernelView T → ℕ → KernelView T
  cancelled_kernel_view d t = with_line d t (record (line d t) { opened = false })

  -- the kernel view while a completion is being put for thread t
  abbrev pub putting_kernel_view : KernelView T → ℕ → KernelView T
  putting_kernel_view d t = with_line d t (record (line d t) { putting = true })

  -- the kernel view after x was put for thread t
  abbrev pub put_kernel_view : KernelView T → ℕ → T → KernelView T
  put_kernel_view d t x = with_line d t
      (record (line d t) { opened = false; putting = false; put = (line d t).put ++ x ∷ [] })

  -- the kernel view after the token of thread t, which took ts, is joined
  abbrev pub joined_at : KernelView T → ℕ → List T → KernelView T
  joined_at d t ts = with_line d t (record (line d t) { taken = Some ts })

  -- the kernel view after the token with thread view h is joined
  abbrev pub joined_kernel_view : KernelView T → ThreadView T → KernelView T
  joined_kernel_view d h = joined_at d h.thread h.taken

  -- the thread view of a thread that is taking x
  abbrev pub taking_thread_view : ThreadView T → T → ThreadView T
  taking_thread_view h x = record h { taking = Some x }

  -- the thread view of a thread that took x
  abbrev pub taken_thread_view : ThreadView T → T → ThreadView T
  taken_thread_view h x = record h { taken = h.taken ++ x ∷ []; taking = None }

  -- as far as the kernel's token knows, the cell may not be idle: it is opened, or something was put
  abbrev pub IsBusy : CellView T → Type 0
  IsBusy l = (l.opened ≡ true) ⊎ ¬ (l.put ≡ [])

  -- open, by the kernel's token, from 0 to 1. If it found 0, the cell wasn't opened and is opened now.
  -- Otherwise nothing changes, and the cell is opened already or something was put.
  abbrev pub OpenTells : Tells T
  OpenTells st m r m' = (r ≡ 0
      → (m' ≡ (Kernel (opened_kernel_view (kernel_view_in m.0) (cell_of st.word)), m.1))
      × ((line (kernel_view_in m.0) (cell_of st.word)).opened ≡ false))
      × (¬ (r ≡ 0) → (m' ≡ m) × IsBusy (line (kernel_view_in m.0) (cell_of st.word)))

  -- cancel, by the kernel's token, from 1 to 0: the cell is no longer opened
  abbrev pub CancelTells : Tells T
  CancelTells st m r m' = m' ≡ (Kernel (cancelled_kernel_view (kernel_view_in m.0) (cell_of st.word)), m.1)

  -- begin put, by the kernel's token, at 1: it holds the slot, which is empty
  abbrev pub BeginPutTells : Tells T
  BeginPutTells st m r m' = m'
      ≡ (Kernel (putting_kernel_view (kernel_view_in m.0) (cell_of st.word)), (cell_of st.word, None) ∷ m.1)

  -- end put, by the kernel's token, from 1 to 2: the value that is in the slot by then was put, and the slot
  -- is released
  abbrev pub EndPutTells : Tells T
  EndPutTells st m r m' = (x : T) → m.1 ≡ (cell_of st.word, Some x) ∷ []
      → m' ≡ (Kernel (put_kernel_view (kernel_view_in m.0) (cell_of st.word) x), [])

  -- take, by the thread's token: if it found 2, it holds the slot and the value in it, and the values that it
  -- took so far and this one meet condition P; otherwise nothing changes
  abbrev pub TakeTells : (ℕ → List T → Type 0) → Tells T
  TakeTells P st m r m' = (r ≡ 2
      → (x : T) × P (thread_view_in m.0).thread ((thread_view_in m.0).taken ++ x ∷ [])
      × (m' ≡ (Thread (taking_thread_view (thread_view_in m.0) x), (cell_of st.word, Some x) ∷ m.1)))
      × (¬ (r ≡ 2) → m' ≡ m)

  -- give back, by the thread's token, from 2 to 0: it has taken the value that it was taking, and the slot is
  -- released
  abbrev pub GiveBackTells : Tells T
  GiveBackTells st m r m' = (x : T) → (thread_view_in m.0).taking ≡ Some x
      → m' ≡ (Thread (taken_thread_view (thread_view_in m.0) x), [])

  -- join, by the kernel's token: the thread's line now has the list that its token took
  abbrev pub joined_views : View T → View T → View T
  joined_views (Kernel d) (Thread h) = Kernel (joined_kernel_view d h)
  joined_views v w = v
