-- State as a step of the kernel.
use Rattle.qkernel.proofs.Common.{◌≡◌, ℕ, ◌+◌, List, [], ◌∷◌, refl, sym, ◌∙◌, arith, true, inl, false, state_in, Ready}
use Rattle.qkernel.proofs.Common.{None, Some, is_some, Srch, member_at, Member, refusal_completion, Completion, State}
use Rattle.qkernel.proofs.Common.{IsSound, Steps, facts_in, open_in, thread_priority, members_of, among, only_own}
use Rattle.qkernel.proofs.Common.{rises, option_map_or}
use Rattle.std.proofs.lemmas.List.{append-nil}
use Rattle.qmodel.specs.declared.call.Call.TheVariants.{State as Ask}
use Rattle.qkernel.proofs.Steps.Common.{uncancelled, counted, stays_free, step_refused_alone}
use Rattle.qmodel.specs.declared.call.Mark.TheVariants as mark

module _ (s : State) (t target : ℕ) (m : Member) (known : member_at (members_of s.threads) t ≡ Some m)
    (up : s.down ≡ false) (free : open_in s.threads t ≡ None) where
  pub step_state_nobody : (X : List Completion) → is_some (member_at (members_of s.threads) target) ≡ false
      → X ≡ refusal_completion (facts_in s) t (Ask target) Srch ∷ [] → Steps s t (Ask target) X (counted s)
  step_state_nobody X nobody is = step_refused_alone s t (Ask target) Srch X (inl (rw (up, free, nobody) refl)) is

  -- the completion of the call
  abbrev pub telling : Completion
  telling =
      record {
        call = s.made + 1;
        thread = t;
        mark = mark.State (option_map_or state_in (open_in s.threads target) Ready) (thread_priority s.threads target);
        buffer = [];
      }

  pub step_state : (X : List Completion) → IsSound s → is_some (member_at (members_of s.threads) target) ≡ true
      → X ≡ telling ∷ [] → Steps s t (Ask target) X (counted s)
  step_state X sound there is = (
    true,
    record {
      answer = record {
        no_refusal = rw (up, free, there) refl;
        by_row = is ∙ sym (only_own _ t (Some telling) (rises (members_of s.threads) sound.roster)
            (among (members_of s.threads) t m known));
      };
      follows = record {
        roster = refl;
        number = refl;
        down = refl;
        channel = λ k. rw known refl;
        open_channels = rw known (omega arith);
        connection = λ k. rw known refl;
        live_connections = rw known (omega arith);
        open_call = λ u. stays_free s.threads t u free;
        pending = λ k. uncancelled s t (Ask target) (rw (up, free, there) refl) refl refl refl k (sym (append-nil _));
        priority = λ u. refl;
      };
    },
  )
