-- Thread indices, and the index of guesses that the kernel keeps with the threads' records.
use Rattle.std.specs.Prelude.{◌≡◌, ◌≢◌, ◌≤◌, ◌<◌, ℕ, zero, suc, true, List, [], ◌∷◌, length, nat_lt}
use Rattle.std.specs.Prelude.{Option, None, Some, if◌then◌else◌, option_and_then, slice_get}
use Rattle.std.specs.Option.{option_map}
use Rattle.qbase.specs.ByteSet.{has}
use Rattle.qqueue.specs.declared.item.Item.{Item}
use Rattle.qtables.specs.Members.{member_at, IsRoster}
use Rattle.qrules.specs.Delivery.{wait_on}
use Rattle.qmodel.specs.declared.open_call.OpenCall.{OpenCall}
use Rattle.qkernel_state.specs.declared.index.IndexGuesses.{IndexGuesses}
use Rattle.qkernel_state.specs.declared.thread_ref.ThreadRef.{ThreadRef}
use Rattle.qkernel_state.specs.declared.thread.Thread.{Thread}
use Rattle.qkernel_state.specs.Contents.{members_of, thread_priority}
use Rattle.qmodel.specs.OpenCalls.{receive_in, thread_of, number_of}
use Rattle.qkernel_state.specs.Thread.{open_in, seat_in}
use Rattle.qrules.specs.Facts.{threads_of}

-- the ThreadRef has the index of its thread in this list
abbrev pub IsSeatIn : List Thread → ThreadRef → Type 0
IsSeatIn threads seat = seat_in threads seat.thread ≡ Some seat.index

-- t is the record of thread u
pub record IsRecordOf (u : ℕ) (threads : List Thread) (t : Thread) : Type 0 where
  pub member : member_at (members_of threads) u ≡ Some t.member
  pub open_call : open_in threads u ≡ t.open_call
  pub priority : thread_priority threads u ≡ t.priority

-- the open call of the thread at an index
abbrev pub open_at : List Thread → ℕ → Option OpenCall
open_at [] k = None
open_at (t ∷ threads) zero = t.open_call
open_at (t ∷ threads) (suc k) = open_at threads k

-- the number of the open call of the thread at an index
abbrev pub number_at : List Thread → ℕ → Option ℕ
number_at threads k = option_map number_of (open_at threads k)

-- the number of the open call of the thread at an index, if the call is a receive
abbrev pub receive_at : List Thread → ℕ → Option ℕ
receive_at threads k = option_map (λ r. r.number) (option_and_then receive_in (open_at threads k))

-- the thread that is named in the open call of the thread at an index
abbrev pub opener_at : List Thread → ℕ → Option ℕ
opener_at threads k = option_map thread_of (open_at threads k)

-- there are at most 64 threads, and they are a roster. Each open call is its thread's own. Each thread that
-- is blocked in a receive is among the receivers.
-- While rising is true, no two open calls have the same number, no number is above latest, and each receive
-- except the last receiver's is below newest.
pub record IsIndexed (threads : List Thread) (index : IndexGuesses) : Type 0 where
  pub few : length threads ≤ 64
  pub roster : IsRoster (members_of threads)
  pub own : (k u : ℕ) → opener_at threads k ≡ Some u → slice_get (threads_of (members_of threads)) k ≡ Some u
  pub receivers : (k n : ℕ) → receive_at threads k ≡ Some n → has index.receivers k ≡ true
  pub latest : index.rising ≡ true → (k n : ℕ) → number_at threads k ≡ Some n → n ≤ index.latest
  pub apart : index.rising ≡ true → (j k n : ℕ) → number_at threads j ≡ Some n → number_at threads k ≡ Some n
      → j ≡ k
  pub others : index.rising ≡ true → (k n : ℕ) → receive_at threads k ≡ Some n → k ≢ index.last
      → n < index.newest

-- the newer of best and the receive of thread u, if it has one; each is a pair of a call's number and its
-- thread
abbrev pub newer_of : ℕ → Option ℕ → Option (ℕ × ℕ) → Option (ℕ × ℕ)
newer_of u None best = best
newer_of u (Some m) None = Some (m, u)
newer_of u (Some m) (Some best) = if nat_lt m best.0 then Some best else Some (m, u)

-- the newest receive on channel h that may take the item: a pair of its number and its thread
abbrev pub newest_of : ℕ → Item → List Thread → Option (ℕ × ℕ)
newest_of h item [] = None
newest_of h item (t ∷ threads) =
    newer_of t.member.thread (wait_on h item t.open_call) (newest_of h item threads)

-- a pair of a number and a ThreadRef, as a pair of the number and the thread
abbrev pub number_and_thread : Option (ℕ × ThreadRef) → Option (ℕ × ℕ)
number_and_thread found = option_map (λ b. (b.0, b.1.thread)) found
