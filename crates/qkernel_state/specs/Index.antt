-- How the index of the threads changes.
use Rattle.std.specs.Prelude.{◌≡◌, ◌≢◌, ◌==◌, ℕ, true, false, Bool, ◌&&◌, nat_lt, if◌then◌else◌}
use Rattle.qbase.specs.ByteSet.{has}
use Rattle.qmodel.specs.OpenCalls.{number_of}
use Rattle.qmodel.specs.declared.open_call.OpenCall.{OpenCall}
use Rattle.qmodel.specs.declared.open_call.OpenCall.TheVariants.{Receive, Send}
use Rattle.qkernel_state.specs.declared.index.IndexGuesses.{IndexGuesses}

-- true if the call is a receive
abbrev pub is_receive : OpenCall → Bool
is_receive (Send s) = false
is_receive (Receive r) = true

-- a call blocks the thread at a place: rising stays true only if the call has a greater number than latest. A
-- receive adds the thread to the receivers, and makes it the last receiver.
pub record Notes (place : ℕ) (call : OpenCall) (old new : IndexGuesses) : Type 0 where
  pub rising : new.rising ≡ (old.rising && nat_lt old.latest (number_of call))
  pub latest : new.latest ≡ number_of call
  pub newest : new.newest ≡ (if is_receive call then number_of call else old.newest)
  pub last : new.last ≡ (if is_receive call then place else old.last)
  pub receivers : (k : ℕ) → has new.receivers k
      ≡ (if is_receive call && (k == place) then true else has old.receivers k)

-- the thread at a place is no longer blocked, so it may leave the receivers; nothing else changes
pub record Forgets (place : ℕ) (old new : IndexGuesses) : Type 0 where
  pub rising : new.rising ≡ old.rising
  pub latest : new.latest ≡ old.latest
  pub newest : new.newest ≡ old.newest
  pub last : new.last ≡ old.last
  pub receivers : (k : ℕ) → k ≢ place → has new.receivers k ≡ has old.receivers k
