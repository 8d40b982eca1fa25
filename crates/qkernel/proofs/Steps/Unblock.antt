-- Unblock as a step of the kernel.
use Rattle.qkernel.proofs.Common.{unblocked_same, ◌≡◌, ℕ, ◌+◌, List, [], ◌∷◌, ◌++◌, refl, ap, sym, subst, ◌∙◌, cond}
use Rattle.qkernel.proofs.Common.{arith, true, false, eqb, inl, inr, Bool, option_and_then, Option, None, Some, filter}
use Rattle.qkernel.proofs.Common.{is_some, not, ◌&&◌, list_any, and-false, Again, Intr, NoMemory, Srch}
use Rattle.qkernel.proofs.Common.{refusal_completion, ends_unblocked, pulse_receipt, unblock_item, due_pulse_of_open}
use Rattle.qkernel.proofs.Common.{cancel_call, refusal_if_full, newest_receiver, cancel_where, is_in_process}
use Rattle.qkernel.proofs.Common.{tells_unblock, unblocked_call, is_unread_send, Unblock, Of, guarded_message_in}
use Rattle.qkernel.proofs.Common.{newest_in, open_in, ChangesOpen, row_of, option_map, eqb-true, none-some, same_Some}
use Rattle.qkernel.proofs.Common.{Item, member_at, Member, MayRefuse, completion_to, threads_of, SentItem}
use Rattle.qkernel.proofs.Common.{uncancelled_items, unreceived_items, made_on, Completion, OpenCall, Channel, Thread}
use Rattle.qkernel.proofs.Common.{pending_in, members_of, channel_in, AreCancelled, LoseCancelled, has_room, State}
use Rattle.qkernel.proofs.Common.{IsSound, Steps, facts_in, among, filter_map_same, only_own, rises, makes, Receipt}
use Rattle.std.proofs.lemmas.List.{append-nil}
use Rattle.qrules.specs.Rules.Unblock.{unblock_pulse}
use Rattle.qrules.proofs.Words.Items.{guards}
use Rattle.qmodel.specs.declared.open_call.OpenCall.TheVariants.{Receive, Send}
use Rattle.qkernel_state.specs.declared.held.HeldMessage.{HeldMessage}
use Rattle.qkernel.proofs.Steps.Common.{counted, stays_free, step_refused_alone, uncancelled_by}
use Rattle.qkernel.proofs.Steps.Cancelling.{completions_cancelled, mine, open_after}
use Rattle.qkernel.proofs.Steps.Delivering.{count_kept}
use Rattle.qkernel.proofs.Steps.Telling.{AreMarked, Tells}
use Rattle.qkernel.proofs.Steps.Told.{IsNew}
use Rattle.qmodel.specs.declared.open_call.OpenSend.{OpenSend}

-- ---- the guard of an open call, by the kernel's content: a channel with UNBLOCK on which its message is
-- held

-- no channel guards the open call, and no pulse is due
record Unguarded (s : State) (o : Option OpenCall) : Type 0 where
  none_due : due_pulse_of_open (facts_in s) o ≡ None
  unguarded : (w : OpenCall) → o ≡ Some w → guards (facts_in s) w ≡ false

-- the channel of the message guards the call, and the pulse is for that message
record Guarded (s : State) (o : Option OpenCall) (held : HeldMessage) : Type 0 where
  due_is : due_pulse_of_open (facts_in s) o ≡ cond held.receipt.unblocked None
      (Some (record { item = unblock_item (s.made + 1) held.receipt.priority held.rcvid; channel = held.channel }))
  guarded : (w : OpenCall) → o ≡ Some w → guards (facts_in s) w ≡ true

-- whether a channel guards a Send, and the pulse that is then due. Both follow from the receipt and the
-- channel's UNBLOCK flag.
abbrev guards_by : Option Receipt → Bool → Bool
guards_by receipt tells = is_some receipt && tells

abbrev due_by : State → OpenSend → Option Receipt → Bool → Option SentItem
due_by s x receipt tells =
    option_and_then (λ r. cond (guards_by receipt tells && not r.unblocked)
    (Some (record { item = unblock_item (s.made + 1) r.priority x.number; channel = x.channel })) None) receipt

abbrev message_by : OpenSend → Option Receipt → Bool → Option HeldMessage
message_by x receipt tells =
    option_and_then (λ r. cond tells (Some (record { rcvid = x.number; channel = x.channel; receipt = r })) None)
    receipt

none_by : (s : State) (x : OpenSend) (receipt : Option Receipt) (tells : Bool) → message_by x receipt tells ≡ None
    → (due_by s x receipt tells ≡ None) × (guards_by receipt tells ≡ false)
none_by s x None tells e = (refl, refl)
none_by s x (Some r) true e = absurd (none-some _ (sym e))
none_by s x (Some r) false e = (refl, refl)

abbrev pulse_on : State → ℕ → ℕ → ℕ → SentItem
pulse_on s priority i h = record { item = unblock_item (s.made + 1) priority i; channel = h }

one_by : (s : State) (x : OpenSend) (receipt : Option Receipt) (tells : Bool) (g : HeldMessage)
    → message_by x receipt tells ≡ Some g
    → (due_by s x receipt tells ≡ cond g.receipt.unblocked None
    (Some (pulse_on s g.receipt.priority g.rcvid g.channel))) × (guards_by receipt tells ≡ true)
one_by s x None tells g e = absurd (none-some g e)
one_by s x (Some r) false g e = absurd (none-some g e)
one_by s x (Some r) true g e = (
  (elim (r.unblocked) as (λ b. cond (not b) (Some (pulse_on s r.priority x.number x.channel)) None ≡ cond b None
      (Some (pulse_on s r.priority x.number x.channel))) [ true ↦ refl | false ↦ refl ])
      ∙ ap (λ (h : HeldMessage). cond h.receipt.unblocked None
      (Some (pulse_on s h.receipt.priority h.rcvid h.channel))) (same_Some _ g e),
  refl,
)

none_guards : (s : State) (o : Option OpenCall) → guarded_message_in s.channels o ≡ None → Unguarded s o
none_guards s None e = record { none_due = refl; unguarded = λ w is. absurd (none-some w is) }
none_guards s (Some (Receive r)) e =
    record { none_due = refl; unguarded = λ w is. ap (guards (facts_in s)) (sym (same_Some _ w is)) }
none_guards s (Some (Send x)) e =
    let k = none_by s x x.receipt (tells_unblock (channel_in s.channels x.channel)) e in
    record { none_due = k.0; unguarded = λ w is. ap (guards (facts_in s)) (sym (same_Some _ w is)) ∙ k.1 }

one_guards : (s : State) (o : Option OpenCall) (g : HeldMessage) → guarded_message_in s.channels o ≡ Some g
    → Guarded s o g
one_guards s None g e = absurd (none-some g e)
one_guards s (Some (Receive r)) g e = absurd (none-some g e)
one_guards s (Some (Send x)) g e =
    let k = one_by s x x.receipt (tells_unblock (channel_in s.channels x.channel)) g e in
    record { due_is = k.0; guarded = λ w is. ap (guards (facts_in s)) (sym (same_Some _ w is)) ∙ k.1 }

-- ---- the step

module _ (s : State) (t thread : ℕ) (m : Member) (sound : IsSound s)
    (known : member_at (members_of s.threads) t ≡ Some m) (up : s.down ≡ false)
    (free : open_in s.threads t ≡ None) where
  module _ (fellow : is_in_process m.process (member_at (members_of s.threads) thread) ≡ true) where
    -- the thread's open call is cancelled
    module _ (none : guarded_message_in s.channels (open_in s.threads thread) ≡ None) where
      k : Unguarded s (open_in s.threads thread)
      k = none_guards s (open_in s.threads thread) none

      made_none : makes (facts_in s) t (Unblock thread) ≡ None
      made_none = k.none_due

      cancel_same : (u : ℕ) (o : Option OpenCall) → open_in s.threads u ≡ o
          → cancel_where (λ o. eqb u thread && not (guards (facts_in s) o)) Intr u o ≡ cancel_where
          (λ o. eqb u thread) Intr u o
      cancel_same u None is = refl
      cancel_same u (Some w) is =
          elim (eqb u thread) as (λ b. eqb u thread ≡ b
          → cond (b && not (guards (facts_in s) w)) (Some (cancel_call Intr u w)) None
          ≡ cond b (Some (cancel_call Intr u w)) None) [
            | true ↦ λ same. rw (k.unguarded w (ap (open_in s.threads) (sym (eqb-true u thread same)) ∙ is)) refl
            | false ↦ λ other. refl
          ] refl

      ends_one : (u : ℕ) → (row_of (facts_in s) t (Unblock thread)).others u ≡ cancel_where (λ o. eqb u thread) Intr u
          (open_in s.threads u)
      ends_one u = unblocked_same (facts_in s) t thread u ∙ ap (λ d. ends_unblocked (facts_in s) thread d u) k.none_due
          ∙ cancel_same u (open_in s.threads u) refl

      ends_same : (row_of (facts_in s) t (Unblock thread)).others
          ≡ (λ u. cancel_where (λ o. eqb u thread) Intr u (open_in s.threads u))
      ends_same = λ i u. ends_one u i

      pub step_unblock_cancelled : (threads : List Thread) (channels : List (ℕ × Channel)) (X : List Completion)
          → AreCancelled (Of thread) Intr s.threads threads
          → LoseCancelled (Of thread) Intr s.threads s.channels channels
          → X ≡ completions_cancelled s t (Of thread) Intr
          → Steps s t (Unblock thread) X
          (record {
            made = s.made + 1;
            down = s.down;
            threads = threads;
            channels = channels;
            connections = s.connections;
          })
      step_unblock_cancelled threads channels X are lose is = (
        true,
        record {
          answer = record {
            no_refusal = rw (up, free, known, fellow, k.none_due) refl;
            by_row = is ∙ sym (filter_map_same (completion_to (facts_in s) t (Unblock thread))
                (λ u. cond (eqb u t) (Some (mine s t)) (cancel_where (λ o. eqb u thread) Intr u (open_in s.threads u)))
                (threads_of (members_of s.threads))
                (λ u. ap (cond (eqb u t) (Some (mine s t))) (ends_one u)));
          };
          follows = record {
            roster = are.members;
            number = refl;
            down = refl;
            channel = λ h. rw known (lose.channel h);
            open_channels = rw known (count_kept s.channels channels lose.ids);
            connection = λ h. rw known refl;
            live_connections = rw known (omega arith);
            open_call = λ u. open_after s t (Of thread) Intr threads u free are
                ∙ rw (ends_one u, k.none_due, and-false (eqb u thread)) refl;
            pending = λ h. lose.pending h
                ∙ ap (λ (g : ℕ → Option Completion). filter
                (λ item. not (list_any (λ v. is_unread_send h item.number (open_in s.threads v) && is_some (g v))
                (threads_of (members_of s.threads)))) (pending_in s.channels h)) (sym ends_same)
                ∙ ap (uncancelled_items (facts_in s) t (Unblock thread) h) (sym (append-nil (pending_in s.channels h)))
                ∙ ap (λ o. unreceived_items (pulse_receipt (facts_in s) o) h
                (uncancelled_items (facts_in s) t (Unblock thread) h (pending_in s.channels h ++ []))) (sym k.none_due)
                ∙ ap (λ o. unreceived_items (pulse_receipt (facts_in s) (unblock_pulse (facts_in s) thread)) h
                (uncancelled_items (facts_in s) t (Unblock thread) h (pending_in s.channels h ++ made_on h o)))
                (sym made_none);
            priority = λ u. are.priority u ∙ rw (k.none_due) refl;
          };
        },
      )

    -- a channel guards the thread's message
    module _ (g : HeldMessage) (guarded : guarded_message_in s.channels (open_in s.threads thread) ≡ Some g) where
      q : Guarded s (open_in s.threads thread) g
      q = one_guards s (open_in s.threads thread) g guarded

      -- an unblock pulse was sent for this message before
      module _ (told : g.receipt.unblocked ≡ true) where
        none_due : unblock_pulse (facts_in s) thread ≡ None
        none_due = q.due_is ∙ rw told refl

        uncancelled_where : (u : ℕ) (o : Option OpenCall) → open_in s.threads u ≡ o
            → cancel_where (λ o. eqb u thread && not (guards (facts_in s) o)) Intr u o ≡ None
        uncancelled_where u None is = refl
        uncancelled_where u (Some w) is =
            elim (eqb u thread) as (λ b. eqb u thread ≡ b
            → cond (b && not (guards (facts_in s) w)) (Some (cancel_call Intr u w)) None ≡ None) [
              | true ↦ λ same. rw (q.guarded w (ap (open_in s.threads) (sym (eqb-true u thread same)) ∙ is)) refl
              | false ↦ λ other. refl
            ] refl

        ends_none : (u : ℕ) → (row_of (facts_in s) t (Unblock thread)).others u ≡ None
        ends_none u = unblocked_same (facts_in s) t thread u
            ∙ ap (λ d. ends_unblocked (facts_in s) thread d u) none_due ∙ uncancelled_where u (open_in s.threads u) refl

        pub step_unblock_again : (X : List Completion) → X ≡ mine s t ∷ [] → Steps s t (Unblock thread) X (counted s)
        step_unblock_again X is = (
          true,
          record {
            answer = record {
              no_refusal = rw (up, free, known, fellow, none_due) refl;
              by_row = is ∙ sym (filter_map_same (completion_to (facts_in s) t (Unblock thread))
                  (λ u. cond (eqb u t) (Some (mine s t)) None) (threads_of (members_of s.threads))
                  (λ u. ap (cond (eqb u t) (Some (mine s t))) (ends_none u))
                  ∙ only_own _ t (Some (mine s t)) (rises (members_of s.threads) sound.roster)
                  (among (members_of s.threads) t m known));
            };
            follows = record {
              roster = refl;
              number = refl;
              down = refl;
              channel = λ h. rw known refl;
              open_channels = rw known (omega arith);
              connection = λ h. rw known refl;
              live_connections = rw known (omega arith);
              open_call = λ u. stays_free s.threads t u free
                  ∙ rw (ends_none u, none_due, and-false (eqb u thread)) refl;
              pending =
                  λ h. uncancelled_by s t (Unblock thread) (λ u y e. absurd (none-some y (sym (ends_none u) ∙ e))) refl
                  refl h (rw none_due (sym (append-nil _)));
              priority = λ u. rw none_due refl;
            };
          },
        )

      -- this pulse is the first for the message
      module _ (first : g.receipt.unblocked ≡ false) (pulse : Item)
          (is_pulse : pulse ≡ unblock_item (s.made + 1) g.receipt.priority g.rcvid) where
        due_is : unblock_pulse (facts_in s) thread ≡ Some (record { item = pulse; channel = g.channel })
        due_is = q.due_is ∙ rw (first, is_pulse) refl

        pub unblock_full : has_room s.channels g.channel ≡ false → MayRefuse (facts_in s) t (Unblock thread) Again
        unblock_full refusal_if_full = inl (rw (up, free, known, fellow, due_is, refusal_if_full) refl)

        pub unblock_memory : has_room s.channels g.channel ≡ true → newest_in g.channel pulse s.threads ≡ None
            → MayRefuse (facts_in s) t (Unblock thread) NoMemory
        unblock_memory room nobody =
            let none : newest_receiver (facts_in s) g.channel pulse ≡ None = nobody in
            inr (rw (up, free, known, fellow, due_is, room) refl, rw (due_is, none) refl, refl)

        pub tells_of_it : refusal_if_full (facts_in s) g.channel ≡ None
            → Tells s t (Unblock thread) (Some (record { item = pulse; channel = g.channel }))
        tells_of_it room = record {
          quiet =
              record {
                closes_none = refl;
                detaches_none = refl;
                stays_up = refl;
                creates_none = rw known refl;
                attaches_none = rw known refl;
                sets_none = refl;
                writes_none = refl;
              };
          passed = rw (up, free, known, fellow, due_is, room) refl;
          made = due_is;
          own = refl;
          ends = λ u. unblocked_same (facts_in s) t thread u ∙ ap (λ d. ends_unblocked (facts_in s) thread d u) due_is;
          receipt = ap (pulse_receipt (facts_in s)) due_is;
        }

-- the pulse has the call's number
pub new_pulse : (n priority i : ℕ) (pulse : Item) → pulse ≡ unblock_item n priority i → IsNew n (Some pulse)
new_pulse n priority i pulse is = subst (λ x. IsNew n (Some x)) (sym is) (refl, refl)

-- the receipt in the thread's open call is changed
pub are_marked : (thread : ℕ) (m : SentItem) (mid threads : List Thread)
    → ChangesOpen thread unblocked_call mid threads → AreMarked (Unblock thread) (Some m) mid threads
are_marked thread m mid threads marks = record {
  members = marks.members;
  open_call = λ u. marks.open_call u
      ∙ (elim (eqb u thread) as
      (λ b. cond b (option_map unblocked_call (open_in mid u)) (open_in mid u) ≡ cond (b && true)
      (option_map unblocked_call (open_in mid u)) (open_in mid u)) [ true ↦ refl | false ↦ refl ]);
  priority = marks.priority;
}
