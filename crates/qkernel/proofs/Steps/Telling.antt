-- Lemmas for the steps that send a pulse.
use Rattle.qkernel.proofs.Common.{◌≡◌, ℕ, ◌+◌, List, [], ◌∷◌, refl, ap, sym, subst, ◌∙◌, cond, arith, true, false, eqb}
use Rattle.qkernel.proofs.Common.{inl, inr, MayRefuse, completion_to, refusal_of, attaches, closes, creates, detaches}
use Rattle.qkernel.proofs.Common.{makes, sets, shuts_down, unblocks, writes, after_unblock, unless, IsSent, IsSentIfDue}
use Rattle.qkernel.proofs.Common.{IsTurnedAway, has_room, own_first, own_one, IsSettled, eqb-true, ne_eqb, option_or}
use Rattle.qkernel.proofs.Common.{Item, member_at, Member, Errno, Again, NoMemory, cond_same, refusal_completion}
use Rattle.qkernel.proofs.Common.{receipt_of, ends_receiver, pulse_receipt, row_of, Facts, threads_of, SentItem, Call}
use Rattle.qkernel.proofs.Common.{Completion, OpenCall, Channel, Thread, with_completion_if, newest_in, open_in}
use Rattle.qkernel.proofs.Common.{thread_priority, members_of, State, IsSound, Steps, facts_in, among, filter_map_same}
use Rattle.qkernel.proofs.Common.{only_own, rises, Bool, Option, None, Some, is_some}
use Rattle.qrules.proofs.Traces.Past.OpenCalls.{unblock_none}
use Rattle.qkernel.proofs.Steps.Common.{Counted, counted_alone, sound_counted, sound_counted_alone, step_refused}
use Rattle.qkernel.proofs.Steps.Common.{uncancelled_by}
use Rattle.qkernel.proofs.Steps.Cancelling.{mine}
use Rattle.qkernel.proofs.Steps.Delivering.{count_kept, counted_room, sound_threads, sound_with_item}
use Rattle.qkernel.proofs.Steps.Told.{IsNew, IsTold, not_caller, told_settled}

-- apart from the pulse, the call creates, attaches, detaches, destroys, sets and writes nothing
pub record Quiet (f : Facts) (t : ℕ) (c : Call) : Type 0 where
  pub closes_none : closes c ≡ None
  pub detaches_none : detaches c ≡ None
  pub stays_up : shuts_down c ≡ false
  pub creates_none : creates (member_at f.roster t) c ≡ None
  pub attaches_none : attaches (member_at f.roster t) c ≡ None
  pub sets_none : sets c ≡ None
  pub writes_none : writes c ≡ None

-- the call is accepted, and sends this pulse
pub record Tells (s : State) (t : ℕ) (c : Call) (o : Option SentItem) : Type 0 where
  pub quiet : Quiet (facts_in s) t c
  pub passed : refusal_of (facts_in s) t c ≡ None
  pub made : makes (facts_in s) t c ≡ o
  pub own : (row_of (facts_in s) t c).own ≡ Some (mine s t)
  pub ends : (u : ℕ) → (row_of (facts_in s) t c).others u ≡ ends_receiver (facts_in s) o u
  pub receipt : (receipt_of (facts_in s) t c) ≡ pulse_receipt (facts_in s) o

-- the threads after a receipt records that an unblock pulse was sent, if one was sent
pub record AreMarked (c : Call) (o : Option SentItem) (mid threads : List Thread) : Type 0 where
  pub members : members_of threads ≡ members_of mid
  pub open_call : (u : ℕ) → open_in threads u ≡ after_unblock o (unblocks c) u (open_in mid u)
  pub priority : (u : ℕ) → thread_priority threads u ≡ thread_priority mid u

module _ (s : State) (t : ℕ) (c : Call) (m : Member) (o : Option SentItem) (sound : IsSound s)
    (known : member_at (members_of s.threads) t ≡ Some m) (free : open_in s.threads t ≡ None) (tells : Tells s t c o)
    (mid : List Thread) (channels : List (ℕ × Channel)) (met : Option Completion)
    (is : IsTold s t o mid channels met) where
  abbrev ts : List ℕ
  ts = threads_of (members_of s.threads)

  -- the caller's own completion
  abbrev g : ℕ → Option Completion
  g u = cond (eqb u t) (Some (mine s t)) None

  g_none : (u : ℕ) → is_some (ends_receiver (facts_in s) o u) ≡ true → g u ≡ None
  g_none u there = rw (ne_eqb u t (not_caller s t u o mid channels met is there)) refl

  completion_is : (u : ℕ) → option_or (g u) (ends_receiver (facts_in s) o u) ≡ completion_to (facts_in s) t c u
  completion_is u =
      rw (tells.own, tells.ends u) (own_first (eqb u t) (Some (mine s t)) (ends_receiver (facts_in s) o u))

  -- the receipt changes in the same way before and after an open call is taken
  unless_after : (b : Bool) (u : ℕ) (w : Option OpenCall)
      → after_unblock o (unblocks c) u (unless b w) ≡ unless b (after_unblock o (unblocks c) u w)
  unless_after true u w = unblock_none o (unblocks c) u
  unless_after false u w = refl

  idle : (u : ℕ) → eqb u t ≡ true → after_unblock o (unblocks c) u (open_in s.threads u) ≡ None
  idle u same = ap (after_unblock o (unblocks c) u) (ap (open_in s.threads) (eqb-true u t same) ∙ free)
      ∙ unblock_none o (unblocks c) u

  open_after : (u : ℕ) → after_unblock o (unblocks c) u (open_in mid u) ≡ cond (eqb u t) None
      (unless (is_some (ends_receiver (facts_in s) o u)) (after_unblock o (unblocks c) u (open_in s.threads u)))
  open_after u = ap (after_unblock o (unblocks c) u) (is.open_call u)
      ∙ unless_after (is_some (ends_receiver (facts_in s) o u)) u (open_in s.threads u)
      ∙ (elim (eqb u t) as (λ b. eqb u t ≡ b
      → unless (is_some (ends_receiver (facts_in s) o u)) (after_unblock o (unblocks c) u (open_in s.threads u))
      ≡ cond b None (unless (is_some (ends_receiver (facts_in s) o u))
      (after_unblock o (unblocks c) u (open_in s.threads u)))) [
        | true ↦ λ same. ap (unless (is_some (ends_receiver (facts_in s) o u))) (idle u same)
            ∙ cond_same (is_some (ends_receiver (facts_in s) o u)) None
        | false ↦ λ other. refl
      ] refl)

  settled : (u : ℕ) (y : Completion) → (row_of (facts_in s) t c).others u ≡ Some y → IsSettled (open_in s.threads u)
  settled u y e = told_settled s o u y (sym (tells.ends u) ∙ e)

  -- the pulse is queued, or a receiver takes it
  pub step_told : (threads : List Thread) (X : List Completion) → AreMarked c o mid threads
      → X ≡ with_completion_if met (mine s t ∷ [])
      → Steps s t c X
      (record { made = s.made + 1; down = s.down; threads = threads; channels = channels; connections = s.connections })
  step_told threads X marked is_X =
      let q = tells.quiet in (
        true,
        record {
          answer = record {
            no_refusal = tells.passed;
            by_row = is_X ∙ ap (with_completion_if met)
                (sym (only_own ts t (Some (mine s t)) (rises (members_of s.threads) sound.roster)
                (among (members_of s.threads) t m known)))
                ∙ is.completions g (λ u x e. own_one (mine s t) t u x refl e) g_none
                ∙ filter_map_same (λ u. option_or (g u) (ends_receiver (facts_in s) o u))
                (completion_to (facts_in s) t c) ts completion_is;
          };
          follows = record {
            roster = marked.members ∙ is.members;
            number = refl;
            down = rw (q.stays_up) refl;
            channel = λ k. is.channel k ∙ rw (q.closes_none, q.creates_none) refl;
            open_channels = rw (q.closes_none, q.creates_none) (count_kept s.channels channels is.ids);
            connection = λ k. rw (q.attaches_none, q.detaches_none) refl;
            live_connections = rw (q.attaches_none, q.detaches_none) (omega arith);
            open_call = λ u. marked.open_call u ∙ open_after u
                ∙ rw (
                  tells.own,
                  tells.ends u,
                  tells.receipt,
                  tells.made,
                  q.writes_none,
                  is.senderless u (open_in s.threads u),
                ) refl;
            pending =
                λ k. uncancelled_by s t c settled q.closes_none q.sets_none k
                (is.pending k ∙ rw (tells.receipt, tells.made) refl);
            priority = λ u. marked.priority u ∙ is.priority u ∙ rw (q.sets_none, tells.receipt) refl;
          };
        },
      )

-- a call that sends no unblock pulse changes no receipt
pub none_marked : (c : Call) (o : Option SentItem) (mid : List Thread) → unblocks c ≡ None → AreMarked c o mid mid
none_marked c o mid none = record { members = refl; open_call = λ u. rw none refl; priority = λ u. refl }

-- ---- a pulse that can't be sent

module _ (s : State) (t : ℕ) (c : Call) (h : ℕ) (item : Item) (e : Errno) (threads : List Thread)
    (channels : List (ℕ × Channel)) (away : IsTurnedAway h item s.threads s.channels threads channels e) where
  only_counted : Counted s
      (record { made = s.made + 1; down = s.down; threads = threads; channels = channels; connections = s.connections })
  only_counted =
      subst (λ ts.
      Counted s
      (record { made = s.made + 1; down = s.down; threads = ts; channels = channels; connections = s.connections }))
      (sym away.0) (elim (away.1) [
        | inl full ↦
            subst (λ cs.
            Counted s
            (record {
              made = s.made + 1;
              down = s.down;
              threads = s.threads;
              channels = cs;
              connections = s.connections;
            })) (sym full.channels_are) (counted_alone s)
        | inr want ↦ counted_room s h channels want.sets
      ])

  pub step_turned_away : (X : List Completion) → (has_room s.channels h ≡ false → MayRefuse (facts_in s) t c Again)
      → (has_room s.channels h ≡ true → newest_in h item s.threads ≡ None → MayRefuse (facts_in s) t c NoMemory)
      → X ≡ refusal_completion (facts_in s) t c e ∷ []
      → Steps s t c X
      (record { made = s.made + 1; down = s.down; threads = threads; channels = channels; connections = s.connections })
  step_turned_away X again memory is =
      step_refused s t c e X _
      (elim (away.1) [
        | inl full ↦ subst (MayRefuse (facts_in s) t c) (sym full.error) (again full.room)
        | inr want ↦
            subst (MayRefuse (facts_in s) t c) (sym want.error) (memory want.room want.nobody)
      ]) is only_counted

  pub sound_turned_away : IsSound s
      → IsSound
      (record { made = s.made + 1; down = s.down; threads = threads; channels = channels; connections = s.connections })
  sound_turned_away sound = sound_counted s _ only_counted sound

-- ---- soundness

-- the kernel stays sound as a pulse is sent
sound_sent : (s : State) (h : ℕ) (item : Item) (threads : List Thread) (channels : List (ℕ × Channel))
    (met : Option Completion) → item.number ≡ s.made + 1 → IsSent h item s.threads s.channels threads channels met
    → IsSound s
    → IsSound
    (record { made = s.made + 1; down = s.down; threads = threads; channels = channels; connections = s.connections })
sound_sent s h item threads channels None number sent sound =
    sound_with_item s threads channels h item sound (ap members_of sent.threads_are) sent.sets number
sound_sent s h item threads channels (Some y) number sent sound =
    subst (λ cs.
    IsSound
    (record { made = s.made + 1; down = s.down; threads = threads; channels = cs; connections = s.connections }))
    (sym sent.channels_are) (sound_threads s threads sound sent.wakes.members)

-- the kernel also stays sound if no pulse is due
pub sound_due : (s : State) (h : ℕ) (d : Option Item) (mid : List Thread) (channels : List (ℕ × Channel))
    (met : Option Completion) → IsSound s → IsNew (s.made + 1) d → IsSentIfDue h d s.threads s.channels mid channels met
    → IsSound
    (record { made = s.made + 1; down = s.down; threads = mid; channels = channels; connections = s.connections })
sound_due s h None mid channels met sound new sent = rw (sent.0, sent.1) (sound_counted_alone s sound)
sound_due s h (Some item) mid channels met sound new sent = sound_sent s h item mid channels met new.0 sent sound
