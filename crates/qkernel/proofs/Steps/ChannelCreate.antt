-- ChannelCreate as a step of the kernel.
use Rattle.qkernel.proofs.Common.{◌≡◌, ℕ, ◌+◌, ◌≤◌, List, [], ◌∷◌, ◌++◌, length, refl, ap, sym, ◌∙◌, cond, arith, true}
use Rattle.qkernel.proofs.Common.{false, eqb, append-nil, inl, inr, add-zero, ChannelCreate, creates, put_at, one_for}
use Rattle.qkernel.proofs.Common.{None, Some, nat_lt, AllByRecursion, option_map, eqb-true, Errno, Again, NoMemory}
use Rattle.qkernel.proofs.Common.{entry_at, member_at, Member, Completion, Channel, MayRefuse, refusal_completion}
use Rattle.qkernel.proofs.Common.{ids_of, open_channel_of, channel_in, items_waiting_on, pending_in, members_of, State}
use Rattle.qkernel.proofs.Common.{IsSound, Steps, facts_in, open_in, rises, among, only_own, all_append}
use Rattle.qbase.specs.declared.flags.ChannelFlags.{ChannelFlags}
use Rattle.qqueue.specs.Contents.{Contents}
use Rattle.qkernel.proofs.Steps.Common.{uncancelled, counted, step_refused_alone, all_up_to, stays_free}
use Rattle.qkernel.proofs.Tables.{entry_at-push, entry_at-above, length-push}
use Rattle.qmodel.specs.declared.call.Mark.TheVariants as mark

ids_entries : (n : ℕ) (channels : List (ℕ × Channel)) → AllByRecursion (λ id. id ≤ n) (ids_of channels)
    → AllByRecursion (λ e. e.0 ≤ n) channels
ids_entries n [] h = tt
ids_entries n (e ∷ channels) h = (h.0, ids_entries n channels h.1)

ids_push : (channels : List (ℕ × Channel)) (e : ℕ × Channel) → ids_of (channels ++ e ∷ []) ≡ ids_of channels ++ e.0 ∷ []
ids_push [] e = refl
ids_push (x ∷ channels) e = ap (λ ns. x.0 ∷ ns) (ids_push channels e)

-- the table refuses an entry with the error of the row, or because it has no memory
may_refuse : (s : State) (t : ℕ) (flags : ChannelFlags) (e : Errno) → s.down ≡ false → open_in s.threads t ≡ None
    → nat_lt flags.0 8 ≡ true → e ≡ cond (nat_lt (length s.channels) 64) NoMemory Again
    → MayRefuse (facts_in s) t (ChannelCreate flags) e
may_refuse s t flags e up free known is =
    elim (nat_lt (length s.channels) 64) as (λ b. nat_lt (length s.channels) 64 ≡ b → e ≡ cond b NoMemory Again
    → MayRefuse (facts_in s) t (ChannelCreate flags) e) [
      | true ↦ λ room same. inr (rw (up, free, known, room) refl, refl, same)
      | false ↦ λ full same. inl (rw (up, free, known, full) (ap Some (sym same)))
    ] refl is

pub step_create_refused : (s : State) (t : ℕ) (flags : ChannelFlags) (e : Errno) (X : List Completion) → s.down ≡ false
    → open_in s.threads t ≡ None → nat_lt flags.0 8 ≡ true → e ≡ cond (nat_lt (length s.channels) 64) NoMemory Again
    → X ≡ refusal_completion (facts_in s) t (ChannelCreate flags) e ∷ [] → Steps s t (ChannelCreate flags) X (counted s)
step_create_refused s t flags e X up free known is X_is =
    step_refused_alone s t (ChannelCreate flags) e X (may_refuse s t flags e up free known is) X_is

module _ (s : State) (t : ℕ) (flags : ChannelFlags) (m : Member) (q : Contents) (sound : IsSound s)
    (empty : q.items ≡ []) where
  -- the new channel, and the kernel with it
  abbrev pub with_channel : State
  with_channel = record {
    made = s.made + 1;
    down = s.down;
    threads = s.threads;
    channels = s.channels ++ (s.made + 1, record { owner = m.process; flags = flags; queue = q }) ∷ [];
    connections = s.connections;
  }

  there : (h : ℕ) → entry_at with_channel.channels h ≡ cond (eqb h (s.made + 1))
      (Some (record { owner = m.process; flags = flags; queue = q })) (entry_at s.channels h)
  there h = entry_at-push s.channels s.made (record { owner = m.process; flags = flags; queue = q }) h
      (ids_entries s.made s.channels sound.channel_ids)

  channel_there : (h : ℕ) → channel_in with_channel.channels h ≡ cond (eqb h (s.made + 1))
      (Some (record { owner = m.process; flags = flags })) (channel_in s.channels h)
  channel_there h = ap (option_map open_channel_of) (there h)
      ∙ (elim (eqb h (s.made + 1))
      as (λ b. option_map open_channel_of
      (cond b (Some (record { owner = m.process; flags = flags; queue = q })) (entry_at s.channels h))
      ≡ cond b (Some (record { owner = m.process; flags = flags })) (channel_in s.channels h)) [
        | true ↦ refl
        | false ↦ refl
      ])

  pending_there : (h : ℕ) → pending_in with_channel.channels h ≡ pending_in s.channels h
  pending_there h = ap items_waiting_on (there h)
      ∙ (elim (eqb h (s.made + 1))
      as (λ b. eqb h (s.made + 1) ≡ b
      → items_waiting_on (cond b (Some (record { owner = m.process; flags = flags; queue = q }))
      (entry_at s.channels h)) ≡ pending_in s.channels h) [
        | true ↦ λ e.
            let new : h ≡ s.made + 1 = eqb-true h (s.made + 1) e in
            empty ∙ sym
            (ap items_waiting_on (entry_at-above s.channels s.made h (ids_entries s.made s.channels sound.channel_ids)
            (omega arith)))
        | false ↦ λ e. refl
      ] refl)

  pub step_created : (X : List Completion) → member_at (members_of s.threads) t ≡ Some m → s.down ≡ false
      → open_in s.threads t ≡ None → nat_lt flags.0 8 ≡ true → nat_lt (length s.channels) 64 ≡ true
      → X ≡ record { call = s.made + 1; thread = t; mark = mark.Channel (s.made + 1); buffer = [] } ∷ []
      → Steps s t (ChannelCreate flags) X with_channel
  step_created X known up free is_known room is = (
    true,
    record {
      answer = record {
        no_refusal = rw (up, free, is_known, room) refl;
        by_row = is ∙ sym
            (only_own _ t
            (Some (record { call = s.made + 1; thread = t; mark = mark.Channel (s.made + 1); buffer = [] }))
            (rises (members_of s.threads) sound.roster) (among (members_of s.threads) t m known));
      };
      follows = record {
        roster = refl;
        number = refl;
        down = refl;
        channel = λ h. channel_there h
            ∙ ap (λ o. put_at (creates o (ChannelCreate flags)) (s.made + 1) (channel_in s.channels) h) (sym known);
        open_channels = add-zero _ ∙ length-push s.channels _
            ∙ ap (λ o. length s.channels + one_for (creates o (ChannelCreate flags))) (sym known);
        connection = λ k. rw known refl;
        live_connections = rw known (omega arith);
        open_call = λ u. stays_free s.threads t u free;
        pending = λ h. uncancelled s t (ChannelCreate flags) (rw (up, free, is_known, room) refl) refl refl refl h
            (pending_there h ∙ sym (append-nil (pending_in s.channels h)));
        priority = λ u. refl;
      };
    },
  )

  pub sound_created : IsSound with_channel
  sound_created = record {
    few = sound.few;
    roster = sound.roster;
    channel_ids = rw (ids_push s.channels (s.made + 1, record { owner = m.process; flags = flags; queue = q }))
        (all_append (λ id. id ≤ s.made + 1) (ids_of s.channels) ((s.made + 1) ∷ [])
        (all_up_to (λ id. id) s.made (ids_of s.channels) sound.channel_ids) (omega arith, tt));
    connection_ids = all_up_to (λ e. e.0) s.made s.connections sound.connection_ids;
    connections = sound.connections;
    items =
        λ h. rw (pending_there h) (all_up_to (λ item. item.number) s.made (pending_in s.channels h) (sound.items h));
  }
