-- ConnectDetach as a step of the kernel.
use Rattle.qkernel.proofs.Common.{pulse_same, ◌≡◌, ℕ, ◌+◌, ◌<◌, ◌≤◌, List, [], ◌∷◌, ◌++◌, length, refl, ap, sym, subst}
use Rattle.qkernel.proofs.Common.{◌∙◌, cond, arith, true, false, eqb, inl, inr, add-zero, filter_map, list_any}
use Rattle.qkernel.proofs.Common.{and_comm, filter_agree, entry_at, without_entry, Connection, connection_between}
use Rattle.qkernel.proofs.Common.{connections_between, due_pulse_over, is_own, is_over, refusal_if_full_for}
use Rattle.qkernel.proofs.Common.{newest_receiver, cancel_where, tells_disconnect, disconnect_item, is_unread_send}
use Rattle.qkernel.proofs.Common.{is_cancelled, uncancelled_items, unreceived_items, unless, ConnectDetach, Over}
use Rattle.qkernel.proofs.Common.{own_channel_in, AreCancelled, LoseCancelled, completion_for, is_cancelled_among}
use Rattle.qkernel.proofs.Common.{all_filter, cond_same, filter_twice, or_none, row_of, eqb-true, ne_eqb, true≢false}
use Rattle.qkernel.proofs.Common.{length-map, none-some, same_Some, option_or, Again, Badf, Inval, NoMemory}
use Rattle.qkernel.proofs.Common.{without_item, Item, member_at, Member, MayRefuse, completion_to, refusal_completion}
use Rattle.qkernel.proofs.Common.{ends_receiver, pulse_receipt, Received, threads_of, SentItem, made_on, Completion}
use Rattle.qkernel.proofs.Common.{Channel, Thread, channel_in, pending_in, thread_priority, members_of}
use Rattle.qkernel.proofs.Common.{with_completion_if, has_room, newest_in, open_in, State, IsSound, Steps, facts_in}
use Rattle.qkernel.proofs.Common.{filter_map_same, Bool, Option, None, Some, filter, count_by, is_some, not, ◌&&◌}
use Rattle.std.proofs.lemmas.List.Sums.{length-filter}
use Rattle.qrules.specs.Rules.Connections.{disconnect_pulse}
use Rattle.qtables.proofs.LookUps.{entry_at-without_entry}
use Rattle.qrules.proofs.Traces.Calls.Cancelling.{cancel_parts}
use Rattle.qkernel.proofs.Tables.{count_picked, rising_without}
use Rattle.qkernel.proofs.Steps.Common.{all_up_to, counted, step_refused_alone}
use Rattle.qkernel.proofs.Steps.Cancelling.{mine, sound_less}
use Rattle.qkernel.proofs.Steps.Delivering.{count_kept}
use Rattle.qkernel.proofs.Steps.Told.{IsNew, IsTold, made_for, not_caller, told_waits}

-- ---- the connection, and the number of its process's connections to the channel

-- the connection belongs to process p and leads to channel h
pub record IsOf (p h : ℕ) (o : Option Connection) : Type 0 where
  pub connection : Connection
  pub is : o ≡ Some connection
  pub process : eqb p connection.process ≡ true
  pub channel : connection.channel ≡ h

pub own_parts : (p h : ℕ) (o : Option Connection) → own_channel_in p o ≡ Some h → IsOf p h o
own_parts p h None e = absurd (none-some h e)
own_parts p h (Some c) e =
    elim (eqb p c.process) as (λ b. eqb p c.process ≡ b → cond b (Some c.channel) None ≡ Some h → IsOf p h (Some c)) [
      | true ↦ λ own s. record { connection = c; is = refl; process = own; channel = same_Some c.channel h s }
      | false ↦ λ other s. absurd (none-some h s)
    ] refl e

not_own : (s : State) (t : ℕ) (m : Member) (o : Option Connection) → member_at (members_of s.threads) t ≡ Some m
    → own_channel_in m.process o ≡ None → is_own (facts_in s) t o ≡ false
not_own s t m None known e = refl
not_own s t m (Some c) known e =
    rw known
    (elim (eqb m.process c.process)
    as (λ b. cond b (Some c.channel) None ≡ None → b ≡ false) [
      | true ↦
          λ k. absurd (none-some c.channel (sym k))
      | false ↦ λ k. refl
    ] e)

between_is : (p h : ℕ) (c : Connection)
    → is_some (connection_between p h (Some c)) ≡ (eqb c.process p && eqb c.channel h)
between_is p h c =
    elim (eqb c.process p && eqb c.channel h)
    as (λ b. is_some (cond b (Some c) None) ≡ b) [ true ↦ refl | false ↦ refl ]

-- a count over the table gives the number of live connections of a process to a channel
pub counted_between : (s : State) (p h : ℕ) → IsSound s
    → connections_between (facts_in s) p h ≡ count_by (λ e. (eqb e.1.process p) && (eqb e.1.channel h)) s.connections
counted_between s p h sound =
    count_picked (connection_between p h) s.connections (s.made + 1) refl sound.connections.0
    (all_up_to (λ e. e.0) s.made s.connections sound.connection_ids) sound.connections.1
    ∙ length-filter (λ e. is_some (connection_between p h (Some e.1))) s.connections
    ∙ ap (λ (q : ℕ × Connection → Bool). count_by q s.connections) (λ i e. between_is p h e.1 i)

-- ---- lists

filter_swapped : (p q : Item → Bool) (items : List Item) → filter p (filter q items) ≡ filter q (filter p items)
filter_swapped p q items = filter_twice q p items
    ∙ filter_agree (λ x. q x && p x) (λ x. p x && q x) (λ x. and_comm (q x) (p x)) items ∙ sym (filter_twice p q items)

-- an item can be taken out before or after others leave the queue
taken_filtered : (p : Item → Bool) (receipt : Option Received) (k : ℕ) (items : List Item)
    → filter p (unreceived_items receipt k items) ≡ unreceived_items receipt k (filter p items)
taken_filtered p None k items = refl
taken_filtered p (Some r) k items =
    elim (eqb r.channel k) as
    (λ b. filter p (cond b (without_item r.item items) items) ≡ cond b (without_item r.item (filter p items))
    (filter p items)) [
      | true ↦ filter_swapped p (λ item. not (eqb item.number r.item)) items
      | false ↦ refl
    ]

-- the pulse has the call's number
pub new_pulse : (n priority p : ℕ) (last : Bool) (d : Option Item)
    → d ≡ cond last (Some (disconnect_item n priority p)) None → IsNew n d
new_pulse n priority p last d is =
    subst (IsNew n) (sym is)
    (elim last as (λ b. IsNew n (cond b (Some (disconnect_item n priority p)) None)) [
      | true ↦ (refl, refl)
      | false ↦
          tt
    ])

-- ---- the step

module _ (s : State) (t coid : ℕ) (m : Member) (known : member_at (members_of s.threads) t ≡ Some m)
    (up : s.down ≡ false) (free : open_in s.threads t ≡ None) where
  pub step_detach_refused : (X : List Completion) → own_channel_in m.process (entry_at s.connections coid) ≡ None
      → X ≡ refusal_completion (facts_in s) t (ConnectDetach coid) Inval ∷ []
      → Steps s t (ConnectDetach coid) X (counted s)
  step_detach_refused X other is =
      let not_mine : is_own (facts_in s) t (entry_at s.connections coid) ≡ false =
      not_own s t m (entry_at s.connections coid) known other in
      step_refused_alone s t (ConnectDetach coid) Inval X (inl (rw (up, free, not_mine) refl)) is

  module _ (h : ℕ) (of : IsOf m.process h (entry_at s.connections coid)) where
    own : is_own (facts_in s) t (entry_at s.connections coid) ≡ true
    own = rw (of.is, known) of.process

    -- the pulse of the last connection
    abbrev pub pulse : Item
    pulse = disconnect_item (s.made + 1) (thread_priority s.threads t) m.process

    pub due_is : (last : Bool) → IsSound s
        → last
        ≡ (tells_disconnect (channel_in s.channels h) && eqb
        (count_by (λ e. (eqb e.1.process m.process) && (eqb e.1.channel h)) s.connections) 1)
        → disconnect_pulse (facts_in s) t coid ≡ made_for h (cond last (Some pulse) None)
    due_is last sound is =
        let same : m.process ≡ of.connection.process = eqb-true m.process of.connection.process of.process in
        ap (due_pulse_over (facts_in s) t) of.is
        ∙ rw (← same, of.channel, counted_between s m.process h sound, ← is)
        (elim last as (λ b. cond {A = Option SentItem} b (Some (record { item = pulse; channel = h })) None
        ≡ made_for h (cond b (Some pulse) None)) [ true ↦ refl | false ↦ refl ])

    module _ (d : Option Item) (due_is : disconnect_pulse (facts_in s) t coid ≡ made_for h d) where
      pub detach_full : is_some d ≡ true → has_room s.channels h ≡ false
          → MayRefuse (facts_in s) t (ConnectDetach coid) Again
      detach_full some full =
          inl (rw (
            up,
            free,
            own,
            due_is,
          ) (elim d as (λ d. is_some d ≡ true → refusal_if_full_for (facts_in s) (made_for h d) ≡ Some Again) [
            | None ↦ λ e. absurd (true≢false (sym e))
            | Some item ↦ λ e. rw full refl
          ] some))

      pub detach_memory : (item : Item) → d ≡ Some item → has_room s.channels h ≡ true
          → newest_in h item s.threads ≡ None → MayRefuse (facts_in s) t (ConnectDetach coid) NoMemory
      detach_memory item some room nobody =
          let none : newest_receiver (facts_in s) h item ≡ None = nobody in
          let made : disconnect_pulse (facts_in s) t coid ≡ Some (record { item = item; channel = h }) = due_is
          ∙ ap (made_for h) some in
          inr (
            rw (up, free, own, made, room) refl,
            rw (made, none) refl,
            refl,
          )

      -- the cancelled calls, after the pulse is sent
      module _ (sound : IsSound s) (mid : List Thread) (between : List (ℕ × Channel)) (met : Option Completion)
          (is : IsTold s t (made_for h d) mid between met) where
        abbrev o : Option SentItem
        o = made_for h d

        abbrev ts : List ℕ
        ts = threads_of (members_of s.threads)

        -- the completion of the call of u as it is cancelled
        abbrev cancel : ℕ → Option Completion
        cancel u = cancel_where (is_over coid) Badf u (open_in s.threads u)

        -- the receiver of the pulse isn't cancelled
        met_uncancelled : (u : ℕ) (y : Completion) → ends_receiver (facts_in s) o u ≡ Some y → cancel u ≡ None
        met_uncancelled u y e = let k = told_waits s o u y e in rw k.is refl

        met_unread : (u k i : ℕ) (y : Completion) → ends_receiver (facts_in s) o u ≡ Some y
            → is_unread_send k i (open_in s.threads u) ≡ false
        met_unread u k i y e = let w = told_waits s o u y e in
            rw w.is
            (elim (eqb w.receive.number i)
            as (λ b. (b && false && eqb w.receive.channel k) ≡ false) [ true ↦ refl | false ↦ refl ])

        cancel_mid : (u : ℕ) → cancel_where (is_over coid) Badf u (open_in mid u) ≡ cancel u
        cancel_mid u =
            rw (is.open_call u)
            (elim (ends_receiver (facts_in s) o u)
            as (λ x. ends_receiver (facts_in s) o u ≡ x
            → cancel_where (is_over coid) Badf u (unless (is_some x) (open_in s.threads u)) ≡ cancel u) [
              | None ↦ λ e. refl
              | Some y ↦ λ e. sym (met_uncancelled u y e)
            ] refl)

        -- the completions in the threads that are left
        abbrev g : ℕ → Option Completion
        g u = completion_for (Over coid) Badf (mine s t) u (open_in mid u)

        g_is : (u : ℕ) → g u ≡ cond (eqb u t) (Some (mine s t)) (cancel u)
        g_is u = ap (cond (eqb u t) (Some (mine s t))) (cancel_mid u)

        g_own : (u : ℕ) (x : Completion) → g u ≡ Some x → x.thread ≡ u
        g_own u x e =
            elim (eqb u t) as (λ b. eqb u t ≡ b → cond b (Some (mine s t)) (cancel u) ≡ Some x → x.thread ≡ u) [
              | true ↦ λ same hit. sym (ap (λ y. y.thread) (same_Some (mine s t) x hit)) ∙ sym (eqb-true u t same)
              | false ↦ λ other hit. sym
                  (ap (λ y. y.thread) (cancel_parts (is_over coid) Badf u (open_in s.threads u) x hit).completion)
            ] refl (sym (g_is u) ∙ e)

        g_none : (u : ℕ) → is_some (ends_receiver (facts_in s) o u) ≡ true → g u ≡ None
        g_none u there =
            g_is u
            ∙ (elim (ends_receiver (facts_in s) o u)
            as (λ x. ends_receiver (facts_in s) o u ≡ x → is_some x ≡ true
            → cond (eqb u t) (Some (mine s t)) (cancel u) ≡ None) [
              | None ↦ λ e some. absurd (true≢false (sym some))
              | Some y ↦ λ e some. rw (
                ne_eqb u t (not_caller s t u o mid between met is there),
                met_uncancelled u y e,
              ) refl
            ] refl there)

        others_is : (u : ℕ) → (row_of (facts_in s) t (ConnectDetach coid)).others u ≡ option_or (cancel u)
            (ends_receiver (facts_in s) o u)
        others_is u =
            ap (option_or (cancel u)) (pulse_same (facts_in s) (disconnect_pulse (facts_in s) t coid) u
            ∙ ap (λ d. ends_receiver (facts_in s) d u) due_is)

        completion_is : (u : ℕ) → option_or (g u) (ends_receiver (facts_in s) o u) ≡ completion_to (facts_in s) t
            (ConnectDetach coid) u
        completion_is u =
            rw (
              g_is u,
              others_is u,
            ) (elim (eqb u t) as (λ b. option_or (cond b (Some (mine s t)) (cancel u)) (ends_receiver (facts_in s) o u)
            ≡ cond b (Some (mine s t)) (option_or (cancel u) (ends_receiver (facts_in s) o u))) [
              | true ↦ refl
              | false ↦
                  refl
            ])

        pub room_for_one : length s.threads ≤ 64 → is_some met ≡ true
            → length (filter_map g (threads_of (members_of mid))) < 64
        room_for_one few some =
            rw (is.members) (let fewer : length (filter_map g ts) + 1 ≤ length ts = is.few g g_none some in
            let as_many : length ts ≡ length s.threads = length-map (members_of s.threads) (λ m. m.thread)
            ∙ length-map s.threads (λ t. t.member) in omega arith)

        module _ (threads : List Thread) (now : List (ℕ × Channel)) (are : AreCancelled (Over coid) Badf mid threads)
            (lose : LoseCancelled (Over coid) Badf mid between now) where
          abbrev pub detached : State
          detached =
              record {
                made = s.made + 1;
                down = s.down;
                threads = threads;
                channels = now;
                connections =
                    without_entry s.connections coid;
              }

          open_is : (u : ℕ) → open_in threads u
              ≡ unless (is_some (option_or (cancel u) (ends_receiver (facts_in s) o u))) (open_in s.threads u)
          open_is u = are.open_call u
              ∙ rw (cancel_mid u, is.open_call u)
              (elim (ends_receiver (facts_in s) o u)
              as (λ x. ends_receiver (facts_in s) o u ≡ x
              → cond (is_some (cancel u)) None (unless (is_some x) (open_in s.threads u))
              ≡ unless (is_some (option_or (cancel u) x)) (open_in s.threads u)) [
                | None ↦ λ e. rw (or_none (cancel u)) refl
                | Some y ↦ λ e. rw (met_uncancelled u y e) refl
              ] refl)

          open_after : (u : ℕ) → open_in threads u ≡ cond (eqb u t) None
              (unless (is_some (option_or (cancel u) (ends_receiver (facts_in s) o u))) (open_in s.threads u))
          open_after u =
              elim (eqb u t) as (λ b. eqb u t ≡ b
              → open_in threads u ≡ cond b None
              (unless (is_some (option_or (cancel u) (ends_receiver (facts_in s) o u))) (open_in s.threads u))) [
                | true ↦ λ same. open_is u
                    ∙ (let idle : open_in s.threads u ≡ None = ap (open_in s.threads) (eqb-true u t same) ∙ free in
                    rw idle (cond_same _ None))
                | false ↦ λ other. open_is u
              ] refl

          gone_is : (k i v : ℕ)
              → (is_unread_send k i (open_in mid v) && is_some (cancel_where (is_over coid) Badf v (open_in mid v)))
              ≡ (is_unread_send k i (open_in s.threads v) && is_some
              (option_or (cancel v) (ends_receiver (facts_in s) o v)))
          gone_is k i v =
              rw (cancel_mid v, is.open_call v)
              (elim (ends_receiver (facts_in s) o v)
              as (λ x. ends_receiver (facts_in s) o v ≡ x
              → (is_unread_send k i (unless (is_some x) (open_in s.threads v)) && is_some (cancel v))
              ≡ (is_unread_send k i (open_in s.threads v) && is_some (option_or (cancel v) x))) [
                | None ↦ λ e. rw (or_none (cancel v)) refl
                | Some y ↦ λ e. rw (met_unread v k i y e) refl
              ] refl)

          cancel_is : (k i : ℕ) → is_cancelled_among (Over coid) Badf mid k i ≡ is_cancelled (facts_in s) t
              (ConnectDetach coid) k i
          cancel_is k i =
              rw (is.members)
              (ap (λ (p : ℕ → Bool). list_any p ts)
              (λ j v. (gone_is k i v ∙ ap (λ x. is_unread_send k i (open_in s.threads v) && is_some x)
              (sym (others_is v))) j))

          pending_is : (k : ℕ) → pending_in now k ≡ unreceived_items (pulse_receipt (facts_in s) o) k
              (uncancelled_items (facts_in s) t (ConnectDetach coid) k (pending_in s.channels k ++ made_on k o))
          pending_is k = lose.pending k
              ∙ filter_agree (λ (item : Item). not (is_cancelled_among (Over coid) Badf mid k item.number))
              (λ item. not (is_cancelled (facts_in s) t (ConnectDetach coid) k item.number))
              (λ item. ap not (cancel_is k item.number)) (pending_in between k)
              ∙ ap (uncancelled_items (facts_in s) t (ConnectDetach coid) k) (is.pending k)
              ∙ taken_filtered (λ item. not (is_cancelled (facts_in s) t (ConnectDetach coid) k item.number))
              (pulse_receipt (facts_in s) o) k (pending_in s.channels k ++ made_on k o)

          pub step_detached : (X : List Completion)
              → length (without_entry s.connections coid) + 1 ≡ length s.connections
              → X ≡ with_completion_if met (filter_map g (threads_of (members_of mid)))
              → Steps s t (ConnectDetach coid) X detached
          step_detached X fewer is_X = (
            true,
            record {
              answer = record {
                no_refusal = rw (up, free, own, due_is) is.room;
                by_row = is_X ∙ ap (λ ms. with_completion_if met (filter_map g (threads_of ms))) is.members
                    ∙ is.completions g g_own g_none
                    ∙ filter_map_same (λ u. option_or (g u) (ends_receiver (facts_in s) o u))
                    (completion_to (facts_in s) t (ConnectDetach coid)) ts completion_is;
              };
              follows = record {
                roster = are.members ∙ is.members;
                number = refl;
                down = refl;
                channel = λ k. rw known (lose.channel k ∙ is.channel k);
                open_channels = rw known (count_kept s.channels now (lose.ids ∙ is.ids));
                connection = λ k. rw known (entry_at-without_entry s.connections coid k);
                live_connections = rw known (fewer ∙ sym (add-zero (length s.connections)));
                open_call = λ u. open_after u ∙ rw (others_is u, due_is, is.senderless u (open_in s.threads u)) refl;
                pending = λ k. pending_is k ∙ rw due_is refl;
                priority = λ u. are.priority u ∙ is.priority u ∙ rw due_is refl;
              };
            },
          )

          pub sound_detached : IsSound
              (record {
                made = s.made + 1;
                down = s.down;
                threads = mid;
                channels = between;
                connections = s.connections;
              }) → IsSound detached
          sound_detached ends_receiver =
              let k = sound_less _ s.down (Over coid) Badf threads now ends_receiver are lose in
              record {
                few = k.few;
                roster = k.roster;
                channel_ids = k.channel_ids;
                connection_ids =
                    all_filter (λ e. e.0 ≤ s.made + 1) (λ e. not (eqb e.0 coid)) s.connections k.connection_ids;
                connections = (
                  all_filter (λ e. 0 < e.0) (λ e. not (eqb e.0 coid)) s.connections k.connections.0,
                  rising_without
                      s.connections coid k.connections.1,
                );
                items = k.items;
              }
