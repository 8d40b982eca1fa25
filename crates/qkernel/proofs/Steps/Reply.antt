-- Reply as a step of the kernel.
use Rattle.qkernel.proofs.Common.{sender, answer_same, ◌≡◌, ℕ, ◌+◌, List, [], ◌∷◌, refl, sym, arith, true, append-nil}
use Rattle.qkernel.proofs.Common.{false, Reply, reply_finish, ℤ, None, Some, member_at, Member, Completion, Thread}
use Rattle.qkernel.proofs.Common.{with_completion_in_place, answer_completion, is_held_in, State, IsSound, Steps}
use Rattle.qkernel.proofs.Common.{facts_in, open_in, sender_in, SetsOpen, members_of}
use Rattle.qkernel.proofs.Steps.Common.{uncancelled}
use Rattle.qkernel.proofs.Steps.Held.{is_held, two_ended, answered_calls}
use Rattle.qmodel.specs.declared.call.Mark.TheVariants as mark

pub step_replied : (s : State) (t : ℕ) (m : Member) (i : ℕ) (sound : IsSound s)
    (known : member_at (members_of s.threads) t ≡ Some m) (status : ℤ) (bytes : List ℕ) (u : ℕ) (y : Completion)
    → s.down ≡ false → open_in s.threads t ≡ None → is_held_in s.threads s.channels m.process i ≡ true
    → sender_in s.threads i ≡ Some u → answer_completion (reply_finish status bytes) u (open_in s.threads u) ≡ Some y
    → (threads : List Thread) (X : List Completion) → SetsOpen u None s.threads threads
    → X ≡ with_completion_in_place y (record { call = s.made + 1; thread = t; mark = mark.Ok; buffer = [] } ∷ [])
    → Steps s t (Reply i status bytes) X
    (record { made = s.made + 1; down = s.down; threads = threads; channels = s.channels; connections = s.connections })
step_replied s t m i sound known status bytes u y up free held is_sender ended threads X takes is = (
  true,
  record {
    answer = record {
      no_refusal = rw (up, free, is_held s t m i sound known, held) refl;
      by_row = two_ended s t m i sound known
          (reply_finish status bytes) u y up free is_sender ended (Reply i status bytes) refl
          (λ v. answer_same (facts_in s) (reply_finish status bytes) (sender (facts_in s) i) v) X is;
    };
    follows = record {
      roster = takes.members;
      number = refl;
      down = refl;
      channel = λ k. rw known refl;
      open_channels = rw known (omega arith);
      connection = λ k. rw known refl;
      live_connections = rw known (omega arith);
      open_call = answered_calls s t m i sound known (reply_finish status bytes) u y up free is_sender ended
          (Reply i status bytes) refl
          (λ v. answer_same (facts_in s) (reply_finish status bytes) (sender (facts_in s) i) v) threads takes;
      pending =
          λ k. uncancelled s t (Reply i status bytes) (rw (up, free, is_held s t m i sound known, held) refl) refl refl
          refl k (sym (append-nil _));
      priority = takes.priority;
    };
  },
)
