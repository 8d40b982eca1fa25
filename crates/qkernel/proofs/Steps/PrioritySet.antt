-- PrioritySet as a step of the kernel.
use Rattle.qkernel.proofs.Common.{◌≡◌, ℕ, ◌+◌, ◌≤◌, List, [], ◌∷◌, ◌++◌, length, refl, ap, sym, subst, ◌∙◌, cond, arith}
use Rattle.qkernel.proofs.Common.{true, false, eqb, inl, with_priority, PrioritySet, open_in, SetsPriority}
use Rattle.qkernel.proofs.Common.{items_with_priority_set, none_cancelled, all_map, all_more, None, Some, unwrap_or}
use Rattle.qkernel.proofs.Common.{none-some, AllByRecursion, option_or, Srch, Item, member_at, Member}
use Rattle.qkernel.proofs.Common.{refusal_completion, is_in_process, is_unread_send, Completion, Channel, Thread, State}
use Rattle.qkernel.proofs.Common.{IsSound, Steps, facts_in, pending_in, thread_priority, members_of, among, only_own}
use Rattle.qkernel.proofs.Common.{rises}
use Rattle.std.proofs.lemmas.List.{append-nil}
use Rattle.qkernel_state.specs.Unread.{MovesUnread}
use Rattle.qkernel.proofs.Steps.Delivering.{sound_threads}
use Rattle.qkernel.proofs.Steps.Common.{count_same, counted, stays_free, step_refused_alone}
use Rattle.qmodel.specs.declared.call.Mark.TheVariants as mark

module _ (s : State) (t thread priority : ℕ) (m : Member) (known : member_at (members_of s.threads) t ≡ Some m)
    (up : s.down ≡ false) (free : open_in s.threads t ≡ None) where
  -- the completion of the call
  abbrev mine : Completion
  mine = record { call = s.made + 1; thread = t; mark = mark.Ok; buffer = [] }

  pub step_set : (threads : List Thread) (channels : List (ℕ × Channel)) (X : List Completion) → IsSound s
      → is_in_process m.process (member_at (members_of s.threads) thread) ≡ true
      → MovesUnread (open_in s.threads thread) priority s.channels channels
      → SetsPriority thread (Some priority) s.threads threads → X ≡ mine ∷ []
      → Steps s t (PrioritySet thread priority) X
      (record { made = s.made + 1; down = s.down; threads = threads; channels = channels; connections = s.connections })
  step_set threads channels X sound own moves sets is = (
    true,
    record {
      answer = record {
        no_refusal = rw (up, free, known, own) refl;
        by_row = is ∙ sym (only_own _ t (Some mine) (rises (members_of s.threads) sound.roster)
            (among (members_of s.threads) t m known));
      };
      follows = record {
        roster = sets.members;
        number = refl;
        down = refl;
        channel = λ k. rw known (moves.channel k);
        open_channels = let same : length channels ≡ length s.channels = count_same s.channels channels moves.ids in
            rw known (omega (arith, same));
        connection = λ k. rw known refl;
        live_connections = rw known (omega arith);
        open_call = λ u. sets.open_call u ∙ stays_free s.threads t u free;
        pending = λ k. moves.pending k
            ∙ ap (items_with_priority_set (facts_in s) k (Some (record { thread = thread; priority = priority })))
            (sym (none_cancelled (facts_in s) t (PrioritySet thread priority) (λ u y e. absurd (none-some y e)) k
            (pending_in s.channels k ++ []) ∙ append-nil (pending_in s.channels k)));
        priority = λ u. sets.priority u
            ∙ (elim (eqb thread u) as
            (λ b. unwrap_or (cond b (Some priority) None) (thread_priority s.threads u) ≡ unwrap_or
            (option_or (cond b (Some priority) None) None) (thread_priority s.threads u)) [
              | true ↦ refl
              | false ↦
                  refl
            ]);
      };
    },
  )

-- the kernel is sound afterwards
pub sound_set : (s : State) (thread priority : ℕ) (threads : List Thread) (channels : List (ℕ × Channel)) → IsSound s
    → MovesUnread (open_in s.threads thread) priority s.channels channels
    → members_of threads ≡ members_of s.threads
    → IsSound
    (record { made = s.made + 1; down = s.down; threads = threads; channels = channels; connections = s.connections })
sound_set s thread priority threads channels sound moves members =
    let k = sound_threads s threads sound members in
    record {
      few = k.few;
      roster = k.roster;
      channel_ids = subst (AllByRecursion (λ id. id ≤ s.made + 1)) (sym moves.ids) k.channel_ids;
      connection_ids = k.connection_ids;
      connections = k.connections;
      items = λ h. subst (AllByRecursion (λ (item : Item). item.number ≤ s.made + 1)) (sym (moves.pending h))
          (all_map (λ (item : Item). item.number ≤ s.made + 1) _ (pending_in s.channels h)
          (all_more (λ (item : Item). item.number ≤ s.made + 1) _ (pending_in s.channels h) (k.items h) (λ item below.
          elim (is_unread_send h item.number (open_in s.threads thread))
          as (λ b. (cond b (with_priority priority item) item).number ≤ s.made + 1) [ true ↦ below | false ↦ below ])));
    }
