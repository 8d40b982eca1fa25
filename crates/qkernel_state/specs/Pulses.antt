-- How a pulse that is sent to a channel changes the kernel.
use Rattle.std.specs.Prelude.{◌≡◌, ◌⊎◌, ℕ, nat_lt, Bool, true, false, List, [], ◌∷◌, ◌++◌, Option, None, Some}
use Rattle.std.specs.Prelude.{if◌then◌else◌}
use Rattle.qbase.specs.declared.errno.Errno.{Errno}
use Rattle.qbase.specs.declared.errno.Errno.TheVariants.{Again, NoMemory}
use Rattle.qqueue.specs.declared.item.Item.{Item}
use Rattle.qmodel.specs.declared.call.Completion.{Completion}
use Rattle.qrules.specs.Records.{is_fixed}
use Rattle.qrules.specs.Records.{pulses_among}
use Rattle.qrules.specs.Records.{takes}
use Rattle.qkernel_state.specs.declared.channel.Channel.{Channel}
use Rattle.qkernel_state.specs.declared.thread.Thread.{Thread}
use Rattle.qkernel_state.specs.Channel.{SetsItems}
use Rattle.qkernel_state.specs.Contents.{channel_in, pending_in}
use Rattle.qkernel_state.specs.Thread.{newest_in, open_in, Wakes}

-- true if fewer than 1,024 pulses are queued on channel h
abbrev pub has_room : List (ℕ × Channel) → ℕ → Bool
has_room channels h = nat_lt (pulses_among (pending_in channels h)) 1024

-- the priority that a receiver on channel h gets with an item of this priority; it is None if the channel has
-- the fixed-priority flag
abbrev pub level_on : List (ℕ × Channel) → ℕ → ℕ → Option ℕ
level_on channels h priority = if is_fixed (channel_in channels h) then None else Some priority

-- no receiver may take the pulse, and it is queued after all other items
pub record IsLeft (h : ℕ) (item : Item) (threads : List Thread) (channels : List (ℕ × Channel))
    (after : List Thread) (now : List (ℕ × Channel)) : Type 0 where
  pub room : has_room channels h ≡ true
  pub nobody : newest_in h item threads ≡ None
  pub threads_are : after ≡ threads
  pub sets : SetsItems h (pending_in channels h ++ item ∷ []) channels now

-- the newest receiver that may take the pulse takes it, and y completes its call
pub record IsMet (h : ℕ) (item : Item) (threads : List Thread) (channels : List (ℕ × Channel))
    (after : List Thread) (now : List (ℕ × Channel)) (y : Completion) : Type 0 where
  pub room : has_room channels h ≡ true
  pub receiver : ℕ
  pub newest : newest_in h item threads ≡ Some receiver
  pub ended : takes item [] receiver (open_in threads receiver) ≡ Some y
  pub wakes : Wakes receiver (level_on channels h item.priority) threads after
  pub channels_are : now ≡ channels

-- the pulse is sent: it is queued if no call completes, and otherwise the receiver whose call completes takes
-- it
abbrev pub IsSent : ℕ → Item → List Thread → List (ℕ × Channel) → List Thread → List (ℕ × Channel)
    → Option Completion → Type 0
IsSent h item threads channels after now None = IsLeft h item threads channels after now
IsSent h item threads channels after now (Some y) = IsMet h item threads channels after now y

-- a pulse is sent, if one is due, and otherwise nothing changes
abbrev pub IsSentIfDue : ℕ → Option Item → List Thread → List (ℕ × Channel) → List Thread → List (ℕ × Channel)
    → Option Completion → Type 0
IsSentIfDue h None threads channels after now met = (after ≡ threads) × (now ≡ channels) × (met ≡ None)
IsSentIfDue h (Some item) threads channels after now met = IsSent h item threads channels after now met

-- the channel's queue is full, and nothing changes
pub record IsFull (h : ℕ) (channels now : List (ℕ × Channel)) (e : Errno) : Type 0 where
  pub room : has_room channels h ≡ false
  pub channels_are : now ≡ channels
  pub error : e ≡ Again

-- no receiver may take the pulse, and there is no memory to queue it: at most the room of the channel's queue
-- changes
pub record IsUnstored (h : ℕ) (item : Item) (threads : List Thread) (channels now : List (ℕ × Channel))
    (e : Errno) : Type 0 where
  pub room : has_room channels h ≡ true
  pub nobody : newest_in h item threads ≡ None
  pub sets : SetsItems h (pending_in channels h) channels now
  pub error : e ≡ NoMemory

-- e is the error of a pulse that isn't sent, and no thread changes
abbrev pub IsTurnedAway : ℕ → Item → List Thread → List (ℕ × Channel) → List Thread → List (ℕ × Channel)
    → Errno → Type 0
IsTurnedAway h item threads channels after now e =
    (after ≡ threads) × (IsFull h channels now e ⊎ IsUnstored h item threads channels now e)

-- a pulse is due, and isn't sent because of the error e
pub record IsUnsent (h : ℕ) (due : Option Item) (threads : List Thread) (channels : List (ℕ × Channel))
    (after : List Thread) (now : List (ℕ × Channel)) (e : Errno) : Type 0 where
  pub item : Item
  pub is_due : due ≡ Some item
  pub away : IsTurnedAway h item threads channels after now e
