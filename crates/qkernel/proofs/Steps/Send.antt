-- Send as a step of the kernel.
use Rattle.qkernel.proofs.Common.{has_to_wait, newest_receiver, sent_same, ◌≡◌, ◌≢◌, ℕ, ◌+◌, List, [], ◌∷◌, ◌++◌, refl}
use Rattle.qkernel.proofs.Common.{ap, sym, ◌∙◌, cond, arith, true, false, eqb, inl, inr, Send, refusal_completion}
use Rattle.qkernel.proofs.Common.{message_numbered, item_in, item_sent_over, takes, held_call, open_in, newest_in}
use Rattle.qkernel.proofs.Common.{SetsOpen, Wakes, rises, nothing, filter_map_same, only_own, ended_thread, row_of}
use Rattle.qkernel.proofs.Common.{Option, None, Some, is_some, option_map, eqb-true, ne_eqb, none-some, Errno, Badf}
use Rattle.qkernel.proofs.Common.{NoMemory, Item, entry_at, member_at, Member, Completion, Channel, OpenCall, Receipt}
use Rattle.qkernel.proofs.Common.{Thread, completion_to, route_in, SetsItems, pending_in, members_of, thread_priority}
use Rattle.qkernel.proofs.Common.{route, threads_of, State, IsSound, Steps, facts_in, unless, made_on, is_among}
use Rattle.qkernel.proofs.Common.{cond_same, without_item}
use Rattle.qmodel.specs.declared.open_call.OpenCall.TheVariants.{Send as InSend}
use Rattle.qkernel.proofs.Steps.Delivering.{counted_room, count_kept, items_after, some_sent, some_way, with_item}
use Rattle.qkernel.proofs.Steps.Delivering.{priority_at}
use Rattle.qkernel.proofs.Steps.Common.{uncancelled, counted, step_refused, step_refused_alone, route-leads_to}

-- ---- failures

pub step_send_nowhere : (s : State) (t coid : ℕ) (message reply_buffer : List ℕ) (m : Member) (X : List Completion)
    → member_at (members_of s.threads) t ≡ Some m → s.down ≡ false → open_in s.threads t ≡ None
    → route_in m.process s.channels (entry_at s.connections coid) ≡ None
    → X ≡ refusal_completion (facts_in s) t (Send coid message reply_buffer) Badf ∷ []
    → Steps s t (Send coid message reply_buffer) X (counted s)
step_send_nowhere s t coid message reply_buffer m X known up free none is =
    let no_way : route (facts_in s) t coid ≡ None = route-leads_to s t m (entry_at s.connections coid) known ∙ none in
    step_refused_alone s t (Send coid message reply_buffer) Badf X (inl (rw (up, free, no_way) refl)) is

pub step_send_no_memory : (s : State) (t coid : ℕ) (message reply_buffer : List ℕ) (m : Member) (h : ℕ)
    (new : List (ℕ × Channel)) (e : Errno) (X : List Completion) → member_at (members_of s.threads) t ≡ Some m
    → s.down ≡ false → open_in s.threads t ≡ None
    → route_in m.process s.channels (entry_at s.connections coid) ≡ Some h → e ≡ NoMemory
    → newest_in h (message_numbered (s.made + 1) (thread_priority s.threads t)) s.threads ≡ None
    → SetsItems h (pending_in s.channels h) s.channels new
    → X ≡ refusal_completion (facts_in s) t (Send coid message reply_buffer) e ∷ []
    → Steps s t (Send coid message reply_buffer) X
    (record { made = s.made + 1; down = s.down; threads = s.threads; channels = new; connections = s.connections })
step_send_no_memory s t coid message reply_buffer m h new e X known up free found want nobody sets is =
    let some_way : route (facts_in s) t coid ≡ Some h = route-leads_to s t m (entry_at s.connections coid) known
    ∙ found in
    let none : newest_receiver (facts_in s) h (message_numbered (s.made + 1) (thread_priority s.threads t)) ≡ None =
    nobody in
    let sent = some_sent s t coid m h known found (message_numbered (s.made + 1) (thread_priority s.threads t)) in
    step_refused s t (Send coid message reply_buffer) e X _
    (inr (rw (up, free, some_way) refl, ap (has_to_wait (facts_in s)) sent ∙ rw none refl, want)) is
    (counted_room s h new sets)

module _ (s : State) (t coid : ℕ) (message reply_buffer : List ℕ) (m : Member) (h : ℕ) (sound : IsSound s)
    (known : member_at (members_of s.threads) t ≡ Some m) (up : s.down ≡ false) (free : open_in s.threads t ≡ None)
    (found : route_in m.process s.channels (entry_at s.connections coid) ≡ Some h) where
  -- the item that the call makes
  abbrev pub item : Item
  item = message_numbered (s.made + 1) (thread_priority s.threads t)

  over_way : route (facts_in s) t coid ≡ Some h
  over_way = some_way s t coid m h known found

  over_sent : item_sent_over (entry_at s.connections coid) item ≡ Some (record { item = item; channel = h })
  over_sent = some_sent s t coid m h known found item

  -- the sender's open call
  abbrev pub waiting : Option Receipt → OpenCall
  waiting receipt =
      InSend
      (record {
        number = s.made + 1;
        thread = t;
        connection = coid;
        channel = h;
        message = message;
        reply_buffer = reply_buffer;
        receipt = receipt;
      })

  pub step_send_waits : (threads : List Thread) (channels : List (ℕ × Channel)) (X : List Completion)
      → newest_in h item s.threads ≡ None → SetsOpen t (Some (waiting None)) s.threads threads
      → SetsItems h (pending_in s.channels h ++ item ∷ []) s.channels channels → X ≡ []
      → Steps s t (Send coid message reply_buffer) X
      (record { made = s.made + 1; down = s.down; threads = threads; channels = channels; connections = s.connections })
  step_send_waits threads channels X nobody opens sets is =
      let none : newest_receiver (facts_in s) h item ≡ None = nobody in (
        true,
        record {
          answer = record {
            no_refusal = rw (up, free, over_way) refl;
            by_row = is ∙ sym
                (nothing (threads_of (members_of s.threads))
                (completion_to (facts_in s) t (Send coid message reply_buffer))
                (λ u. rw (over_sent, none) (cond_same (eqb u t) None)));
          };
          follows = record {
            roster = opens.members;
            number = refl;
            down = refl;
            channel = λ k. sets.channel k ∙ rw known refl;
            open_channels = rw known (count_kept s.channels channels sets.ids);
            connection = λ k. rw known refl;
            live_connections = rw known (omega arith);
            open_call = λ u. opens.open_call u
                ∙ rw (over_way, over_sent, none)
                (elim (eqb u t) as (λ b. cond b (Some (waiting None)) (open_in s.threads u)
                ≡ cond b (Some (waiting None)) (open_in s.threads u)) [ true ↦ refl | false ↦ refl ]);
            pending =
                λ k. uncancelled s t (Send coid message reply_buffer) (rw (up, free, over_way) refl) refl refl refl k
                (sets.pending k ∙ rw (
                  over_way,
                  none,
                ) (with_item s h item sound refl k ∙ ap (λ o. pending_in s.channels k ++ made_on k o) (sym over_sent)));
            priority = λ u. opens.priority u ∙ rw (over_way, none) refl;
          };
        },
      )

  module _ (r : ℕ) (y : Completion) (copied : ℕ) (newest_is_r : newest_receiver (facts_in s) h item ≡ Some r)
      (there : is_among (threads_of (members_of s.threads)) r ≡ true)
      (ended : takes item message r (open_in s.threads r) ≡ Some y)
      (is_receipt : item_in y.mark ≡ Some (record { number = s.made + 1; copied = copied })) where
    apart : t ≢ r
    apart e = none-some y (sym (ap (takes item message r) (ap (open_in s.threads) (sym e) ∙ free)) ∙ ended)

    others_is : (u : ℕ) → (row_of (facts_in s) t (Send coid message reply_buffer)).others u ≡ cond (eqb u r)
        (takes item message u (open_in s.threads u)) None
    others_is u = sent_same (facts_in s) t coid message reply_buffer u (rw over_way refl)
        ∙ rw (over_way, newest_is_r) refl

    -- the sender is blocked with the receipt, and the receiver is no longer blocked
    calls_after : (threads_1 : List Thread) → Wakes r (priority_at s h item) s.threads threads_1 → (u : ℕ)
        → cond (eqb u t)
        (Some (waiting (Some (record { priority = thread_priority s.threads t; copied = copied; unblocked = false }))))
        (open_in threads_1 u)
        ≡ cond (eqb u t)
        (unless false
        (cond (eqb u t)
        (Some (waiting (Some (record { priority = thread_priority s.threads t; copied = copied; unblocked = false }))))
        (Some (waiting None))))
        (unless (is_some (cond (eqb u r) (takes item message u (open_in s.threads u)) None))
        (cond (eqb u t)
        (option_map (held_call (record { priority = thread_priority s.threads t; copied = copied; unblocked = false }))
        (open_in s.threads u)) (open_in s.threads u)))
    calls_after threads_1 takes_r u =
        elim (eqb u t)
        as (λ b.
        cond b
        (Some (waiting (Some (record { priority = thread_priority s.threads t; copied = copied; unblocked = false }))))
        (open_in threads_1 u)
        ≡ cond b
        (unless false
        (cond b
        (Some (waiting (Some (record { priority = thread_priority s.threads t; copied = copied; unblocked = false }))))
        (Some (waiting None))))
        (unless (is_some (cond (eqb u r) (takes item message u (open_in s.threads u)) None))
        (cond b
        (option_map (held_call (record { priority = thread_priority s.threads t; copied = copied; unblocked = false }))
        (open_in s.threads u)) (open_in s.threads u)))) [
          | true ↦ refl
          | false ↦ takes_r.open_call u
              ∙ (elim (eqb u r) as (λ b. eqb u r ≡ b
              → cond b None (open_in s.threads u)
              ≡ unless (is_some (cond b (takes item message u (open_in s.threads u)) None)) (open_in s.threads u)) [
                | true ↦ λ e. rw (eqb-true u r e, ended) refl
                | false ↦ λ e. refl
              ] refl)
        ]

    pub step_send_met : (threads_1 threads_2 : List Thread) (X : List Completion)
        → Wakes r (priority_at s h item) s.threads threads_1
        → SetsOpen t
        (Some (waiting (Some (record { priority = thread_priority s.threads t; copied = copied; unblocked = false }))))
        threads_1 threads_2
        → X ≡ y ∷ [] → Steps s t (Send coid message reply_buffer) X
        (record {
          made = s.made + 1;
          down = s.down;
          threads = threads_2;
          channels = s.channels;
          connections = s.connections;
        })
    step_send_met threads_1 threads_2 X takes_r sets_t is = (
      true,
      record {
        answer = record {
          no_refusal = rw (up, free, over_way) refl;
          by_row = is ∙ sym (filter_map_same (completion_to (facts_in s) t (Send coid message reply_buffer))
              (λ u. cond (eqb u r) (Some y) None) (threads_of (members_of s.threads)) (λ u. rw (others_is u) (
              elim (eqb u t) as (λ b. eqb u t ≡ b
              → cond b None (cond (eqb u r) (takes item message u (open_in s.threads u)) None) ≡ cond (eqb u r)
              (Some y) None) [
                | true ↦ λ e. let other : eqb u r ≡ false = ne_eqb u r (λ s. apart (sym (eqb-true u t e) ∙ s)) in
                    rw other refl
                | false ↦ λ e. elim (eqb u r)
                    as (λ b. eqb u r ≡ b → cond b (takes item message u (open_in s.threads u)) None
                    ≡ cond b (Some y) None) [
                      | true ↦ λ f. rw (eqb-true u r f) ended
                      | false ↦ λ f. refl
                    ] refl
              ] refl)) ∙ only_own (threads_of (members_of s.threads)) r (Some y)
              (rises (members_of s.threads) sound.roster) there);
        };
        follows = record {
          roster = sets_t.members ∙ takes_r.members;
          number = refl;
          down = refl;
          channel = λ k. rw known refl;
          open_channels = rw known (omega arith);
          connection = λ k. rw known refl;
          live_connections = rw known (omega arith);
          open_call = λ u. sets_t.open_call u
              ∙ rw (others_is u, over_way, newest_is_r, ended, is_receipt, over_sent) (calls_after threads_1 takes_r u);
          pending =
              λ k. uncancelled s t (Send coid message reply_buffer) (rw (up, free, over_way) refl) refl refl refl k
              (rw (over_way, newest_is_r, ended, is_receipt)
              (items_after s h item sound refl k
              ∙ ap (λ o. cond (eqb h k) (without_item (s.made + 1) (pending_in s.channels k ++ made_on k o))
              (pending_in s.channels k ++ made_on k o)) (sym over_sent)));
          priority = λ u. sets_t.priority u ∙ takes_r.priority u
              ∙ rw (
                over_way,
                newest_is_r,
                ended,
                is_receipt,
                ended_thread item message r (open_in s.threads r) y ended,
              ) refl;
        };
      },
    )
