-- The rows and bytes that are written for an event.
use Rattle.std.specs.Prelude.{◌≡◌, ℕ, ◌<◌, List, length, take, drop, slice_get, Some, flat_map}
use Rattle.qbase.specs.Copying.{laid_count, lay_over}
use Rattle.qkernel.specs.Kernel.{State}
use Rattle.qmodel.specs.declared.call.Completion.{Completion}
use Rattle.balsaeuchre_c.specs.declared.row.Row.{Row}
use Rattle.balsaeuchre_c.specs.declared.write_rows.EventCounts.{EventCounts}
use Rattle.balsaeuchre_c.specs.Rows.{Tells, told_bytes}

-- the written bytes of the completions, one after another
abbrev pub buffers : List Completion → List ℕ
buffers completions = flat_map told_bytes completions

-- the index in the byte array at which the bytes of the completion at `place` begin. They come after the
-- bytes of the completions before it, but at most at the array's end
abbrev pub start_of : List Completion → List ℕ → ℕ → ℕ
start_of completions room place = laid_count room 0 (buffers (take place completions))

-- the row at an index has the completion at that index
abbrev pub TellsAt : State → List Completion → List ℕ → List Row → ℕ → Type 0
TellsAt s completions room rows place = (e : Completion) → slice_get completions place ≡ Some e
    → (row : Row) × (slice_get rows place ≡ Some row)
    × Tells row s e (start_of completions room place)
    (laid_count room (start_of completions room place) (told_bytes e))

-- the first rows have the completions in order, and the other rows are unchanged. The byte array has the
-- bytes of the completions one after another, as far as there is room, and the rest of it is unchanged.
-- `done` has the numbers of the completions, of the written bytes and of the call
pub record IsTold (s : State) (completions : List Completion) (old_rows rows : List Row)
    (old_bytes new_bytes : List ℕ) (done : EventCounts) : Type 0 where
  pub told : (place : ℕ) → place < length completions → TellsAt s completions old_bytes rows place
  pub rest : drop (length completions) rows ≡ drop (length completions) old_rows
  pub bytes : new_bytes ≡ lay_over old_bytes 0 (buffers completions)
  pub count : done.completions ≡ length completions
  pub written : done.bytes ≡ laid_count old_bytes 0 (buffers completions)
  pub call : done.call ≡ s.made
