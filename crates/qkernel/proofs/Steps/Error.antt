-- Error as a step of the kernel.
use Rattle.qkernel.proofs.Common.{sender, answer_same, ◌≡◌, ℕ, ◌+◌, List, [], ◌∷◌, refl, sym, arith, true, append-nil}
use Rattle.qkernel.proofs.Common.{false, Error, error_finish, ℤ, None, Some, member_at, Member, Completion, Thread}
use Rattle.qkernel.proofs.Common.{with_completion_in_place, answer_completion, is_held_in, State, IsSound, Steps}
use Rattle.qkernel.proofs.Common.{facts_in, open_in, sender_in, SetsOpen, members_of}
use Rattle.qkernel.proofs.Steps.Common.{uncancelled}
use Rattle.qkernel.proofs.Steps.Held.{is_held, two_ended, answered_calls}
use Rattle.qmodel.specs.declared.call.Mark.TheVariants as mark

pub step_errored : (s : State) (t : ℕ) (m : Member) (i : ℕ) (sound : IsSound s)
    (known : member_at (members_of s.threads) t ≡ Some m) (code : ℤ) (u : ℕ) (y : Completion)
    → s.down ≡ false → open_in s.threads t ≡ None → is_held_in s.threads s.channels m.process i ≡ true
    → sender_in s.threads i ≡ Some u → answer_completion (error_finish code) u (open_in s.threads u) ≡ Some y
    → (threads : List Thread) (X : List Completion) → SetsOpen u None s.threads threads
    → X ≡ with_completion_in_place y (record { call = s.made + 1; thread = t; mark = mark.Ok; buffer = [] } ∷ [])
    → Steps s t (Error i code) X
    (record { made = s.made + 1; down = s.down; threads = threads; channels = s.channels; connections = s.connections })
step_errored s t m i sound known code u y up free held is_sender ended threads X takes is = (
  true,
  record {
    answer = record {
      no_refusal = rw (up, free, is_held s t m i sound known, held) refl;
      by_row = two_ended s t m i sound known
          (error_finish code) u y up free is_sender ended (Error i code) refl
          (λ v. answer_same (facts_in s) (error_finish code) (sender (facts_in s) i) v) X is;
    };
    follows = record {
      roster = takes.members;
      number = refl;
      down = refl;
      channel = λ k. rw known refl;
      open_channels = rw known (omega arith);
      connection = λ k. rw known refl;
      live_connections = rw known (omega arith);
      open_call = answered_calls s t m i sound known (error_finish code) u y up free is_sender ended
          (Error i code) refl (λ v. answer_same (facts_in s) (error_finish code) (sender (facts_in s) i) v) threads
          takes;
      pending =
          λ k. uncancelled s t (Error i code) (rw (up, free, is_held s t m i sound known, held) refl) refl refl refl k
          (sym (append-nil _));
      priority = takes.priority;
    };
  },
)
