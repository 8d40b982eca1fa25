-- ChannelDestroy as a step of the kernel.
use Rattle.qkernel.proofs.Common.{◌≡◌, ℕ, ◌+◌, ◌≤◌, List, [], ◌∷◌, refl, ap, sym, ◌∙◌, cond, arith, length, true, false}
use Rattle.qkernel.proofs.Common.{eqb, inl, owns, ChannelDestroy, ClosesIn, is_of, On, None, Some, AllByRecursion}
use Rattle.qkernel.proofs.Common.{Inval, Srch, Item, member_at, Member, refusal_completion, uncancelled_items}
use Rattle.qkernel.proofs.Common.{Completion, channel_in, pending_in, members_of, AreCancelled, LoseCancelled, open_in}
use Rattle.qkernel.proofs.Common.{Channel, Thread, State, IsSound, Steps, facts_in}
use Rattle.std.proofs.lemmas.List.{append-nil}
use Rattle.qkernel.proofs.Steps.Common.{counted, count_same, owned_by_member, step_refused_alone}
use Rattle.qkernel.proofs.Steps.Cancelling.{completions_cancelled, open_after, sound_cancelled}

module _ (s : State) (t chid : ℕ) (m : Member) (known : member_at (members_of s.threads) t ≡ Some m)
    (up : s.down ≡ false) (free : open_in s.threads t ≡ None) where
  module _ (threads : List Thread) (cancel closed : List (ℕ × Channel))
      (are : AreCancelled (On chid) Srch s.threads threads)
      (lose : LoseCancelled (On chid) Srch s.threads s.channels cancel)
      (closes : ClosesIn chid cancel closed) where
    pub step_destroyed : (X : List Completion) → is_of m.process (channel_in s.channels chid) ≡ true
        → X ≡ completions_cancelled s t (On chid) Srch
        → Steps s t (ChannelDestroy chid) X
        (record { made = s.made + 1; down = s.down; threads = threads; channels = closed; connections = s.connections })
    step_destroyed X own is =
        let owned : owns (facts_in s) t chid ≡ true =
        owned_by_member (facts_in s) t m (channel_in s.channels chid) known ∙ own in
        let as_many : length cancel ≡ length s.channels = count_same s.channels cancel lose.ids in (
          true,
          record {
            answer = record { no_refusal = rw (up, free, owned) refl; by_row = is };
            follows = record {
              roster = are.members;
              number = refl;
              down = refl;
              channel = λ h. rw known (closes.channel h ∙ ap (cond (eqb chid h) None) (lose.channel h));
              open_channels = rw known (omega (arith, closes.fewer, as_many));
              connection = λ k. rw known refl;
              live_connections = rw known (omega arith);
              open_call = λ u. open_after s t (On chid) Srch threads u free are;
              pending = λ h. closes.pending h
                  ∙ ap (cond (eqb chid h) [])
                  (lose.pending h ∙ ap (uncancelled_items (facts_in s) t (ChannelDestroy chid) h)
                  (sym (append-nil (pending_in s.channels h))));
              priority = are.priority;
            };
          },
        )

    pub sound_closed : IsSound s
        → IsSound
        (record { made = s.made + 1; down = s.down; threads = threads; channels = closed; connections = s.connections })
    sound_closed sound =
        let k = sound_cancelled s s.down (On chid) Srch threads cancel sound are lose in
        record {
          few = k.few;
          roster = k.roster;
          channel_ids = closes.ids (s.made + 1) k.channel_ids;
          connection_ids = k.connection_ids;
          connections = k.connections;
          items =
              λ h. rw (closes.pending h)
              (elim (eqb chid h) as (λ b. AllByRecursion (λ (item : Item). item.number ≤ s.made + 1)
              (cond b [] (pending_in cancel h))) [ true ↦ tt | false ↦ k.items h ]);
        }
