-- Lemmas for the calls that cancel others, by the kernel's content.
use Rattle.qkernel.proofs.Common.{◌≡◌, ℕ, ◌+◌, ◌≤◌, List, [], refl, ap, ◌∙◌, cond, true, false, eqb, AreCancelled}
use Rattle.qkernel.proofs.Common.{LoseCancelled, completion_for, is_cancelled_among, is_cancelled_by, filter_map}
use Rattle.qkernel.proofs.Common.{eqb-true, Errno, Item, cancel_where, threads_of, Completion, pending_in, members_of}
use Rattle.qkernel.proofs.Common.{open_in, Channel, Thread, State, IsSound, all_filter, Bool, None, is_some, not}
use Rattle.qkernel_state.specs.declared.cancelling.CancelSet.{CancelSet}
use Rattle.qkernel.proofs.Steps.Common.{counted, sound_counted_alone}
use Rattle.qkernel.proofs.Steps.Delivering.{sound_kept}
use Rattle.qmodel.specs.declared.call.Mark.TheVariants as mark

-- the completion of the caller's own call
abbrev pub mine : State → ℕ → Completion
mine s t = record { call = s.made + 1; thread = t; mark = mark.Ok; buffer = [] }

-- all completions of a call of thread t that cancels others
abbrev pub completions_cancelled : State → ℕ → CancelSet → Errno → List Completion
completions_cancelled s t cancel e =
    filter_map (λ u. completion_for cancel e (mine s t) u (open_in s.threads u)) (threads_of (members_of s.threads))

-- the caller isn't blocked, so it has no open call afterwards
pub open_after : (s : State) (t : ℕ) (cancel : CancelSet) (e : Errno) (threads : List Thread) (u : ℕ)
    → open_in s.threads t ≡ None → AreCancelled cancel e s.threads threads
    → open_in threads u ≡ cond (eqb u t) None
    (cond (is_some (cancel_where (is_cancelled_by cancel u) e u (open_in s.threads u))) None (open_in s.threads u))
open_after s t cancel e threads u free are =
    elim (eqb u t) as (λ b. eqb u t ≡ b
    → open_in threads u ≡ cond b None
    (cond (is_some (cancel_where (is_cancelled_by cancel u) e u (open_in s.threads u))) None (open_in s.threads u))) [
      | true ↦ λ same. are.open_call u
          ∙ (let idle : open_in s.threads u ≡ None = ap (open_in s.threads) (eqb-true u t same) ∙ free in rw idle refl)
      | false ↦ λ other. are.open_call u
    ] refl

-- cancelling keeps a kernel sound
pub sound_less : (s : State) (down : Bool) (cancel : CancelSet) (e : Errno) (threads : List Thread)
    (channels : List (ℕ × Channel)) → IsSound s → AreCancelled cancel e s.threads threads
    → LoseCancelled cancel e s.threads s.channels channels
    → IsSound
    (record { made = s.made; down = down; threads = threads; channels = channels; connections = s.connections })
sound_less s down cancel e threads channels sound are lose =
    let k = sound_kept s threads are.members sound in
    record {
      few = k.few;
      roster = k.roster;
      channel_ids = rw (lose.ids) k.channel_ids;
      connection_ids = k.connection_ids;
      connections = k.connections;
      items =
          λ h. rw (lose.pending h)
          (all_filter (λ (item : Item). item.number ≤ s.made)
          (λ item. not (is_cancelled_among cancel e s.threads h item.number)) (pending_in s.channels h) (k.items h));
    }

-- so does a call that cancels others
pub sound_cancelled : (s : State) (down : Bool) (cancel : CancelSet) (e : Errno) (threads : List Thread)
    (channels : List (ℕ × Channel)) → IsSound s → AreCancelled cancel e s.threads threads
    → LoseCancelled cancel e s.threads s.channels channels
    → IsSound
    (record { made = s.made + 1; down = down; threads = threads; channels = channels; connections = s.connections })
sound_cancelled s down cancel e threads channels sound are lose =
    sound_less (counted s) down cancel e threads channels (sound_counted_alone s sound) are lose
