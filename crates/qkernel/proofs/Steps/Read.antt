-- Read as a step of the kernel.
use Rattle.qkernel.proofs.Common.{message_same, ◌≡◌, ℕ, ◌+◌, List, [], ◌∷◌, refl, sym, ◌∙◌, arith, true, append-nil}
use Rattle.qkernel.proofs.Common.{false, laid_count, lay_over, Read, message_from, open_in, member_at, Member}
use Rattle.qkernel.proofs.Common.{Completion, is_held_in, State, IsSound, Steps, facts_in, members_of, among, only_own}
use Rattle.qkernel.proofs.Common.{rises, drop, None, Some}
use Rattle.qkernel.proofs.Steps.Common.{uncancelled, counted, stays_free}
use Rattle.qkernel.proofs.Steps.Held.{is_held}
use Rattle.qmodel.specs.declared.call.Mark.TheVariants as mark

module _ (s : State) (t : ℕ) (m : Member) (i : ℕ) (sound : IsSound s)
    (known : member_at (members_of s.threads) t ≡ Some m) (up : s.down ≡ false) (free : open_in s.threads t ≡ None)
    (held : is_held_in s.threads s.channels m.process i ≡ true) where
  pub step_read : (offset : ℕ) (buffer : List ℕ) (X : List Completion)
      → X ≡ record {
        call = s.made + 1;
        thread = t;
        mark = mark.Count (laid_count buffer 0 (drop offset (message_from s.threads i)));
        buffer = lay_over buffer 0 (drop offset (message_from s.threads i));
      } ∷ []
      → Steps s t (Read i offset buffer) X (counted s)
  step_read offset buffer X is = (
    true,
    record {
      answer = record {
        no_refusal = rw (up, free, is_held s t m i sound known, held) refl;
        by_row = is
            ∙ rw (← message_same (facts_in s) i)
            (sym (only_own _ t _ (rises (members_of s.threads) sound.roster) (among (members_of s.threads) t m known)));
      };
      follows = record {
        roster = refl;
        number = refl;
        down = refl;
        channel = λ k. rw known refl;
        open_channels = rw known (omega arith);
        connection = λ k. rw known refl;
        live_connections = rw known (omega arith);
        open_call = λ u. stays_free s.threads t u free;
        pending =
            λ k. uncancelled s t (Read i offset buffer) (rw (up, free, is_held s t m i sound known, held) refl) refl
            refl refl k (sym (append-nil _));
        priority = λ u. refl;
      };
    },
  )
