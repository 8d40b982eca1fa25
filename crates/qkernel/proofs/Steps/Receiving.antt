-- Receive and ReceivePulse as steps of the kernel.
use Rattle.qkernel.proofs.Common.{message, message_same, ◌≡◌, ℕ, ◌+◌, ◌≤◌, List, [], ◌∷◌, ◌++◌, refl, ap, sym, subst}
use Rattle.qkernel.proofs.Common.{◌∙◌, cond, arith, Bool, true, false, eqb, append-nil, inl, best_of, is_pulse}
use Rattle.qkernel.proofs.Common.{without_item, Receive, ReceivePulse, owns, threads_of, is_fixed, receive_of}
use Rattle.qkernel.proofs.Common.{is_thread, held_call, own_receipt, receipt_when_taken, Received, receipt_completion}
use Rattle.qkernel.proofs.Common.{after_receipt, unreceived_items, unless, priority_taken, open_in, message_from}
use Rattle.qkernel.proofs.Common.{sender_in, SetsOpen, HandsOver, SetsPriority, all_filter, eqb_either, cond_same}
use Rattle.qkernel.proofs.Common.{rises, among, nothing, filter_map_same, only_own, Option, None, Some, is_some, not}
use Rattle.qkernel.proofs.Common.{unwrap_or, filter_map, option_map, eqb-true, laid_count, Srch, Item, member_at}
use Rattle.qkernel.proofs.Common.{Member, Completion, Channel, OpenCall, Receipt, Thread, completion_to, ids_of, is_of}
use Rattle.qkernel.proofs.Common.{SetsItems, channel_in, pending_in, members_of, thread_priority, State, IsSound, Steps}
use Rattle.qkernel.proofs.Common.{facts_in}
use Rattle.qqueue.specs.declared.item.Kind.{Kind}
use Rattle.qqueue.specs.declared.item.Kind.TheVariants.{Any, PulseOnly}
use Rattle.qkernel.proofs.Steps.Common.{uncancelled, counted, step_refused_alone, owned_by_member, all_up_to}
use Rattle.qkernel.proofs.Steps.Common.{stays_free}
use Rattle.qkernel.proofs.Steps.Delivering.{count_kept, sound_items}
use Rattle.qrules.proofs.Traces.Calls.Receiving.{receiver}
use Rattle.qmodel.specs.declared.call.Mark.TheVariants as mark

-- ---- failures

pub step_receive_refused : (s : State) (t chid : ℕ) (kind : Kind) (buffer : List ℕ) (m : Member) (X : List Completion)
    → (kind ≡ PulseOnly → buffer ≡ []) → member_at (members_of s.threads) t ≡ Some m → s.down ≡ false
    → open_in s.threads t ≡ None
    → is_of m.process (channel_in s.channels chid) ≡ false
    → X ≡ record { call = s.made + 1; thread = t; mark = mark.Failed Srch; buffer = buffer } ∷ []
    → Steps s t (receive_of kind chid buffer) X (counted s)
step_receive_refused s t chid Any buffer m X none known up free other is =
    let not_own : owns (facts_in s) t chid ≡ false =
    owned_by_member (facts_in s) t m (channel_in s.channels chid) known ∙ other in
    step_refused_alone s t (Receive chid buffer) Srch X (inl (rw (up, free, not_own) refl)) is
step_receive_refused s t chid PulseOnly buffer m X none known up free other is =
    let not_own : owns (facts_in s) t chid ≡ false =
    owned_by_member (facts_in s) t m (channel_in s.channels chid) known ∙ other in
    step_refused_alone s t (ReceivePulse chid) Srch X (inl (rw (up, free, not_own) refl)) (rw (none refl) at is)

-- the items of a channel that a write doesn't change
kept_items : (s : State) (h k : ℕ) → cond (eqb k h) (pending_in s.channels h) (pending_in s.channels k)
    ≡ pending_in s.channels k ++ []
kept_items s h k =
    elim (eqb k h) as (λ b. eqb k h ≡ b
    → cond b (pending_in s.channels h) (pending_in s.channels k) ≡ pending_in s.channels k ++ []) [
      | true ↦ λ e. ap (pending_in s.channels) (sym (eqb-true k h e)) ∙ sym (append-nil _)
      | false ↦ λ e. sym (append-nil _)
    ] refl

-- ---- the completion and the changes, for both calls

-- the completion of the call
abbrev own_of : State → ℕ → List ℕ → Option Item → Option Completion
own_of s t buffer o = own_receipt (facts_in s) t buffer o

-- the item that it receives
abbrev receipt_by : State → ℕ → ℕ → List ℕ → Option Item → Option Received
receipt_by s t chid buffer o = receipt_when_taken (facts_in s) chid (own_of s t buffer o) o

-- the completions, the open calls and the items after a step for which the rule has this best item
record Receives (s : State) (t chid : ℕ) (kind : Kind) (buffer : List ℕ) (o : Option Item) (X : List Completion)
    (threads : List Thread) (channels : List (ℕ × Channel)) : Type 0 where
  completions : X ≡ filter_map (λ u. cond (eqb u t) (own_of s t buffer o) None) (threads_of (members_of s.threads))
  roster : members_of threads ≡ members_of s.threads
  open_call : (u : ℕ) → open_in threads u ≡ cond (eqb u t)
      (unless (is_some (own_of s t buffer o))
      (after_receipt (receipt_by s t chid buffer o) u (Some (receiver chid kind buffer (s.made + 1) t))))
      (unless false (after_receipt (receipt_by s t chid buffer o) u (open_in s.threads u)))
  items : (k : ℕ) → pending_in channels k ≡ unreceived_items (receipt_by s t chid buffer o) k
      (pending_in s.channels k ++ [])
  ids : ids_of channels ≡ ids_of s.channels
  channel : (k : ℕ) → channel_in channels k ≡ channel_in s.channels k
  priority : (u : ℕ) → thread_priority threads u ≡ unwrap_or
      (priority_taken (facts_in s) (receipt_by s t chid buffer o) u) (thread_priority s.threads u)

step_of : (s : State) (t chid : ℕ) (kind : Kind) (buffer : List ℕ) (m : Member) (o : Option Item) (X : List Completion)
    (threads : List Thread) (channels : List (ℕ × Channel)) → (kind ≡ PulseOnly → buffer ≡ [])
    → member_at (members_of s.threads) t ≡ Some m → s.down ≡ false → open_in s.threads t ≡ None
    → owns (facts_in s) t chid ≡ true → best_of kind (pending_in s.channels chid) ≡ o
    → Receives s t chid kind buffer o X threads channels
    → Steps s t (receive_of kind chid buffer) X
    (record { made = s.made + 1; down = s.down; threads = threads; channels = channels; connections = s.connections })
step_of s t chid Any buffer m o X threads channels none known up free owned best r = (
  true,
  record {
    answer = record {
      no_refusal = rw (up, free, owned) refl;
      by_row = r.completions
          ∙ sym (filter_map_same (completion_to (facts_in s) t (Receive chid buffer))
          (λ u. cond (eqb u t) (own_of s t buffer o) None) (threads_of (members_of s.threads)) (λ u. rw best refl));
    };
    follows = record {
      roster = r.roster;
      number = refl;
      down = refl;
      channel = λ k. r.channel k ∙ rw known refl;
      open_channels = rw known (count_kept s.channels channels r.ids);
      connection = λ k. rw known refl;
      live_connections = rw known (omega arith);
      open_call = λ u. rw best (r.open_call u);
      pending = λ k. uncancelled s t (Receive chid buffer) (rw (up, free, owned) refl) refl refl refl k
          (rw best (r.items k));
      priority = λ u. rw best (r.priority u);
    };
  },
)
step_of s t chid PulseOnly buffer m o X threads channels none known up free owned best r = by (none refl) where
  by : buffer ≡ [] → Steps s t (ReceivePulse chid) X
      (record { made = s.made + 1; down = s.down; threads = threads; channels = channels; connections = s.connections })
  by empty = let q : Receives s t chid PulseOnly [] o X threads channels =
      subst (λ b. Receives s t chid PulseOnly b o X threads channels) empty r in (
        true,
        record {
          answer = record {
            no_refusal = rw (up, free, owned) refl;
            by_row = q.completions
                ∙ sym (filter_map_same (completion_to (facts_in s) t (ReceivePulse chid))
                (λ u. cond (eqb u t) (own_of s t [] o) None) (threads_of (members_of s.threads)) (λ u. rw best refl));
          };
          follows = record {
            roster = q.roster;
            number = refl;
            down = refl;
            channel = λ k. q.channel k ∙ rw known refl;
            open_channels = rw known (count_kept s.channels channels q.ids);
            connection = λ k. rw known refl;
            live_connections = rw known (omega arith);
            open_call = λ u. rw best (q.open_call u);
            pending = λ k. uncancelled s t (ReceivePulse chid) (rw (up, free, owned) refl) refl refl refl k
                (rw best (q.items k));
            priority = λ u. rw best (q.priority u);
          };
        },
      )

-- ---- no item to take, and an item to take

module _ (s : State) (t chid : ℕ) (kind : Kind) (buffer : List ℕ) (m : Member) (sound : IsSound s)
    (known : member_at (members_of s.threads) t ≡ Some m) (up : s.down ≡ false) (free : open_in s.threads t ≡ None)
    (own : is_of m.process (channel_in s.channels chid) ≡ true) (empty : kind ≡ PulseOnly → buffer ≡ []) where
  owned : owns (facts_in s) t chid ≡ true
  owned = owned_by_member (facts_in s) t m (channel_in s.channels chid) known ∙ own

  pub step_receive_waits : (threads : List Thread) (channels : List (ℕ × Channel)) (X : List Completion)
      → best_of kind (pending_in s.channels chid) ≡ None
      → SetsOpen t (Some (receiver chid kind buffer (s.made + 1) t)) s.threads threads
      → SetsItems chid (pending_in s.channels chid) s.channels channels → X ≡ []
      → Steps s t (receive_of kind chid buffer) X
      (record { made = s.made + 1; down = s.down; threads = threads; channels = channels; connections = s.connections })
  step_receive_waits threads channels X none opens sets is =
      step_of s t chid kind buffer m None X threads channels empty known up free owned none (record {
        completions =
            is ∙ sym (nothing (threads_of (members_of s.threads)) (λ u. cond (eqb u t) None None)
            (λ u. cond_same (eqb u t) None));
        roster = opens.members;
        open_call = opens.open_call;
        items = λ k. sets.pending k ∙ kept_items s chid k;
        ids = sets.ids;
        channel = sets.channel;
        priority = opens.priority;
      })

  module _ (item : Item) (best : best_of kind (pending_in s.channels chid) ≡ Some item) where
    items_after : (k : ℕ) → cond (eqb k chid) (without_item item.number (pending_in s.channels chid))
        (pending_in s.channels k) ≡ cond (eqb chid k) (without_item item.number (pending_in s.channels k ++ []))
        (pending_in s.channels k ++ [])
    items_after k =
        rw (append-nil, eqb_either chid k)
        (elim (eqb k chid) as (λ b. eqb k chid ≡ b
        → cond b (without_item item.number (pending_in s.channels chid)) (pending_in s.channels k)
        ≡ cond b (without_item item.number (pending_in s.channels k)) (pending_in s.channels k)) [
          | true ↦ λ e. ap (λ n. without_item item.number (pending_in s.channels n)) (sym (eqb-true k chid e))
          | false ↦ λ e. refl
        ] refl)

    -- the receipt in the sender's open call
    abbrev pub kept : Receipt
    kept =
        record {
          priority = item.priority;
          copied = laid_count buffer 0 (message_from s.threads item.number);
          unblocked = false;
        }

    calls_after : (change : OpenCall → OpenCall) (u : ℕ)
        → cond (is_thread (sender_in s.threads item.number) u) (option_map change (open_in s.threads u))
        (open_in s.threads u)
        ≡ cond (eqb u t) None (cond (is_thread (sender_in s.threads item.number) u)
        (option_map change (open_in s.threads u)) (open_in s.threads u))
    calls_after change u =
        elim (eqb u t) as (λ b. eqb u t ≡ b
        → cond (is_thread (sender_in s.threads item.number) u) (option_map change (open_in s.threads u))
        (open_in s.threads u)
        ≡ cond b None (cond (is_thread (sender_in s.threads item.number) u) (option_map change (open_in s.threads u))
        (open_in s.threads u))) [
          | true ↦ λ e. let idle : open_in s.threads u ≡ None = ap (open_in s.threads) (eqb-true u t e) ∙ free in
              rw idle (cond_same (is_thread (sender_in s.threads item.number) u) None)
          | false ↦ λ e. refl
        ] refl

    message_is : message (facts_in s) item.number ≡ message_from s.threads item.number
    message_is = message_same (facts_in s) item.number

    idle_after : (u : ℕ) → open_in s.threads u ≡ cond (eqb u t) None (open_in s.threads u)
    idle_after u = stays_free s.threads t u free

    -- the priority that the receiver gets
    abbrev pub priority : List (ℕ × Channel) → Option ℕ
    priority channels = cond (is_fixed (channel_in channels chid)) None (Some item.priority)

    pub step_receive_takes : (threads_1 threads_2 : List Thread) (channels : List (ℕ × Channel)) (X : List Completion)
        → HandsOver (is_pulse item.what) item.number kept s.threads threads_1
        → SetsPriority t (priority channels) threads_1 threads_2
        → SetsItems chid (without_item item.number (pending_in s.channels chid)) s.channels channels
        → X ≡ receipt_completion item (message_from s.threads item.number) t (s.made + 1) buffer ∷ []
        → Steps s t (receive_of kind chid buffer) X
        (record {
          made = s.made + 1;
          down = s.down;
          threads = threads_2;
          channels = channels;
          connections = s.connections;
        })
    step_receive_takes threads_1 threads_2 channels X hands takes sets is = by (is_pulse item.what) refl hands where
      ends : X ≡ filter_map
          (λ u. cond (eqb u t)
          (Some (receipt_completion item (message_from s.threads item.number) t (s.made + 1) buffer)) None)
          (threads_of (members_of s.threads))
      ends =
          is ∙ sym
          (only_own (threads_of (members_of s.threads)) t
          (Some (receipt_completion item (message_from s.threads item.number) t (s.made + 1) buffer))
          (rises (members_of s.threads) sound.roster) (among (members_of s.threads) t m known))

      priorities : (u : ℕ) → thread_priority threads_1 u ≡ thread_priority s.threads u
          → thread_priority threads_2 u ≡ unwrap_or (cond (eqb t u) (priority s.channels) None)
          (thread_priority s.threads u)
      priorities u same = takes.priority u ∙ ap (unwrap_or (cond (eqb t u) (priority channels) None)) same
          ∙ ap (λ o. unwrap_or (cond (eqb t u) (cond (is_fixed o) None (Some item.priority)) None)
          (thread_priority s.threads u)) (sets.channel chid)

      by : (b : Bool) → is_pulse item.what ≡ b → HandsOver b item.number kept s.threads threads_1
          → Steps s t (receive_of kind chid buffer) X
          (record {
            made = s.made + 1;
            down = s.down;
            threads = threads_2;
            channels = channels;
            connections = s.connections;
          })
      by true pulse same =
          step_of s t chid kind buffer m (Some item) X threads_2 channels empty known up free owned best (record {
            completions = rw message_is ends;
            roster = takes.members ∙ ap members_of same;
            open_call = λ u. takes.open_call u ∙ ap (λ ts. open_in ts u) same ∙ rw (message_is, pulse) (idle_after u);
            items = λ k. sets.pending k ∙ rw (message_is, pulse) (items_after k);
            ids = sets.ids;
            channel = sets.channel;
            priority = λ u. priorities u (ap (λ ts. thread_priority ts u) same) ∙ rw (message_is, pulse) refl;
          })
      by false message changes =
          step_of s t chid kind buffer m (Some item) X threads_2 channels empty known up free owned best (record {
            completions = rw message_is ends;
            roster = takes.members ∙ changes.members;
            open_call = λ u. takes.open_call u ∙ changes.open_call u
                ∙ rw (message_is, message) (calls_after (held_call kept) u);
            items = λ k. sets.pending k ∙ rw (message_is, message) (items_after k);
            ids = sets.ids;
            channel = sets.channel;
            priority = λ u. priorities u (changes.priority u) ∙ rw (message_is, message) refl;
          })

-- ---- soundness

pub hands_members : (b : Bool) (i : ℕ) (receipt : Receipt) (old new : List Thread) → HandsOver b i receipt old new
    → members_of new ≡ members_of old
hands_members true i receipt old new same = ap members_of same
hands_members false i receipt old new changes = changes.members

pub sound_taken : (s : State) (threads : List Thread) (channels : List (ℕ × Channel)) (h i : ℕ) → IsSound s
    → members_of threads ≡ members_of s.threads
    → SetsItems h (without_item i (pending_in s.channels h)) s.channels channels
    → IsSound
    (record { made = s.made + 1; down = s.down; threads = threads; channels = channels; connections = s.connections })
sound_taken s threads channels h i sound e sets =
    sound_items s threads channels h _ sound e sets
    (all_filter (λ x. x.number ≤ s.made + 1) (λ x. not (eqb x.number i)) (pending_in s.channels h)
    (all_up_to (λ x. x.number) s.made _ (sound.items h)))

pub sound_kept : (s : State) (threads : List Thread) (channels : List (ℕ × Channel)) (h : ℕ) → IsSound s
    → members_of threads ≡ members_of s.threads
    → SetsItems h (pending_in s.channels h) s.channels channels
    → IsSound
    (record { made = s.made + 1; down = s.down; threads = threads; channels = channels; connections = s.connections })
sound_kept s threads channels h sound e sets =
    sound_items s threads channels h _ sound e sets (all_up_to (λ x. x.number) s.made _ (sound.items h))
