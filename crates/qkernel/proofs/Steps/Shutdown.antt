-- Shutdown as a step of the kernel.
use Rattle.qkernel.proofs.Common.{◌≡◌, ℕ, ◌+◌, List, refl, ap, sym, ◌∙◌, arith, true, false, Shutdown, All, None, Some}
use Rattle.qkernel.proofs.Common.{Srch, member_at, Member, uncancelled_items, Completion, pending_in, members_of}
use Rattle.qkernel.proofs.Common.{AreCancelled, LoseCancelled, open_in, Channel, Thread, State, Steps, facts_in}
use Rattle.std.proofs.lemmas.List.{append-nil}
use Rattle.qkernel.proofs.Steps.Cancelling.{completions_cancelled, open_after}
use Rattle.qkernel.proofs.Steps.Delivering.{count_kept}

pub step_shut : (s : State) (t : ℕ) (m : Member) (threads : List Thread) (channels : List (ℕ × Channel))
    (X : List Completion) → member_at (members_of s.threads) t ≡ Some m → s.down ≡ false → open_in s.threads t ≡ None
    → AreCancelled All Srch s.threads threads → LoseCancelled All Srch s.threads s.channels channels
    → X ≡ completions_cancelled s t All Srch
    → Steps s t Shutdown X
    (record { made = s.made + 1; down = true; threads = threads; channels = channels; connections = s.connections })
step_shut s t m threads channels X known up free are lose is = (
  true,
  record {
    answer = record { no_refusal = rw (up, free) refl; by_row = is };
    follows = record {
      roster = are.members;
      number = refl;
      down = refl;
      channel = λ h. rw known (lose.channel h);
      open_channels = rw known (count_kept s.channels channels lose.ids);
      connection = λ k. rw known refl;
      live_connections = rw known (omega arith);
      open_call = λ u. open_after s t All Srch threads u free are;
      pending = λ h. lose.pending h
          ∙ ap (uncancelled_items (facts_in s) t Shutdown h) (sym (append-nil (pending_in s.channels h)));
      priority = are.priority;
    };
  },
)
