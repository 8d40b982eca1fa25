-- Write as a step of the kernel.
use Rattle.qkernel.proofs.Common.{reply_buffer_same, ◌≡◌, ℕ, ◌+◌, List, [], ◌∷◌, refl, ap, sym, ◌∙◌, cond, eqb, arith}
use Rattle.qkernel.proofs.Common.{true, false, append-nil, Write, reply_buffer_in, is_thread, written_call, open_in}
use Rattle.qkernel.proofs.Common.{sender_in, sent_call, ChangesSender, None, Some, option_map, eqb-true, laid_count}
use Rattle.qkernel.proofs.Common.{member_at, Member, Completion, Thread, is_held_in, State, IsSound, Steps, facts_in}
use Rattle.qkernel.proofs.Common.{members_of, cond_same, among, only_own, rises}
use Rattle.qkernel.proofs.Steps.Common.{uncancelled}
use Rattle.qkernel.proofs.Steps.Held.{is_held}
use Rattle.qmodel.specs.declared.call.Mark.TheVariants as mark

module _ (s : State) (t : ℕ) (m : Member) (i : ℕ) (sound : IsSound s)
    (known : member_at (members_of s.threads) t ≡ Some m) (up : s.down ≡ false) (free : open_in s.threads t ≡ None)
    (held : is_held_in s.threads s.channels m.process i ≡ true) where
  -- the caller has no open call, and the sender's reply buffer is written over
  calls_after : (offset : ℕ) (bytes : List ℕ) (u : ℕ)
      → cond (is_thread (sender_in s.threads i) u) (option_map (written_call offset bytes) (open_in s.threads u))
      (open_in s.threads u)
      ≡ cond (eqb u t) None
      (cond (is_thread (sender_in s.threads i) u) (option_map (written_call offset bytes) (open_in s.threads u))
      (open_in s.threads u))
  calls_after offset bytes u =
      elim (eqb u t) as (λ b. eqb u t ≡ b
      → cond (is_thread (sender_in s.threads i) u) (option_map (written_call offset bytes) (open_in s.threads u))
      (open_in s.threads u)
      ≡ cond b None
      (cond (is_thread (sender_in s.threads i) u) (option_map (written_call offset bytes) (open_in s.threads u))
      (open_in s.threads u))) [
        | true ↦ λ e. let idle : open_in s.threads u ≡ None = ap (open_in s.threads) (eqb-true u t e) ∙ free in
            rw idle (cond_same (is_thread (sender_in s.threads i) u) None)
        | false ↦ λ e. refl
      ] refl

  pub step_written : (offset : ℕ) (bytes : List ℕ) (threads : List Thread) (X : List Completion)
      → ChangesSender i (written_call offset bytes) s.threads threads
      → X ≡ record {
        call = s.made + 1;
        thread = t;
        mark = mark.Count (laid_count (reply_buffer_in (sent_call s.threads i)) offset bytes);
        buffer = [];
      } ∷ []
      → Steps s t (Write i offset bytes) X
      (record {
        made = s.made + 1;
        down = s.down;
        threads = threads;
        channels = s.channels;
        connections = s.connections;
      })
  step_written offset bytes threads X changes is = (
    true,
    record {
      answer = record {
        no_refusal = rw (up, free, is_held s t m i sound known, held) refl;
        by_row = is
            ∙ rw (← reply_buffer_same (facts_in s) i)
            (sym (only_own _ t _ (rises (members_of s.threads) sound.roster) (among (members_of s.threads) t m known)));
      };
      follows = record {
        roster = changes.members;
        number = refl;
        down = refl;
        channel = λ k. rw known refl;
        open_channels = rw known (omega arith);
        connection = λ k. rw known refl;
        live_connections = rw known (omega arith);
        open_call = λ u. changes.open_call u ∙ calls_after offset bytes u;
        pending =
            λ k. uncancelled s t (Write i offset bytes) (rw (up, free, is_held s t m i sound known, held) refl) refl
            refl refl k (sym (append-nil _));
        priority = changes.priority;
      };
    },
  )
