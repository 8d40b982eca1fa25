-- Preallocated for copies of the buffers of a history that is kept.
use Rattle.std.specs.Prelude.{◌≡◌, ℕ, ◌+◌, ◌<◌, ◌≤◌, ◌⊎◌, ◌^◌, Bool, true, false, List, [], length, Some}
use Rattle.std.specs.Prelude.{slice_index_or}
use Rattle.qtables.specs.declared.member.Member.{Member}
use Rattle.qtables.specs.Members.{IsRoster}
use Rattle.qmodel.specs.declared.call.Call.{Call}
use Rattle.qmodel.specs.declared.call.Call.TheVariants.{Shutdown}
use Rattle.qmodel.specs.declared.call.Completion.{Completion}
use Rattle.qmodel.specs.Buffers.{buffer_of}
use Rattle.qrules.specs.Records.{buffer_of_open}
use Rattle.qrules.specs.Facts.{threads_of}
use Rattle.qrules.specs.Trace.{gets, followed_by, Trace}
use Rattle.qrules.proofs.Words.Past.{open_call}
use Rattle.qkernel.specs.EventLog.{Logged}
use Rattle.qshared.specs.Due.{place}
use Rattle.qshared.specs.Past.{is_down}

-- for each thread of the roster there is room for a copy of the buffer that its open call returns
abbrev pub HasRooms : List Member → List ℕ → Trace → Type 0
HasRooms roster rooms past =
    (t i : ℕ) → place (threads_of roster) t ≡ Some i
    → length (buffer_of_open (open_call roster past t)) ≤ slice_index_or rooms i 0

-- a completion may be copied: its thread is in the list, and has room for the buffer
abbrev pub MayCopy : List ℕ → List ℕ → Completion → Type 0
MayCopy threads rooms x =
    (i : ℕ) × (place threads x.thread ≡ Some i) × (length x.buffer ≤ slice_index_or rooms i 0)

-- these completions were copied, each into its thread's room, and the other threads' rooms are unchanged
pub record Copied (threads : List ℕ) (X : List Completion) (rooms rooms' : List ℕ) : Type 0 where
  pub room : (t i : ℕ) → place threads t ≡ Some i → gets X t ≡ false
      → slice_index_or rooms' i 0 ≡ slice_index_or rooms i 0
  pub rooms_len : length rooms' ≡ length rooms

-- there is room for a call that was noted: for its buffer, its event and its completions. Unless the call is
-- a Shutdown, there is room for one more event.
pub record HasRoomFor (limit : ℕ) (log : Logged) (noted : Call) (room : ℕ) : Type 0 where
  pub buffer : length (buffer_of noted) ≤ room
  pub event : (noted ≡ Shutdown)
      ⊎ ((length log.events + 1 < limit) × (2 ≤ log.call_room) × (128 ≤ log.completion_room))

-- the invariant of a kept history: it is within its limit. Until the kernel is shut down, there is room for
-- one more event, and one event of the limit is left.
pub record IsKept (roster : List Member) (limit : ℕ) (threads rooms : List ℕ) (log : Logged) (noted : Call)
    (room : ℕ) (ready : Bool) : Type 0 where
  pub rises : IsRoster roster
  pub threads_are : threads ≡ threads_of roster
  pub sized : length rooms ≡ length threads
  pub settled : (log.noted ≡ []) × (log.completions ≡ [])
  pub has_rooms : HasRooms roster rooms (followed_by [] log.events)
  pub within : length log.events ≤ limit
  pub spare : is_down (followed_by [] log.events) ≡ false → (length log.events < limit)
      × (1 ≤ log.call_room) × (64 ≤ log.completion_room)
  pub noted_room : ready ≡ true → HasRoomFor limit log noted room
  pub bounded : limit ≤ 2 ^ 20
