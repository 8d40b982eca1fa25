-- ConnectAttach as a step of the kernel.
use Rattle.qkernel.proofs.Common.{◌≡◌, ℕ, ◌+◌, ◌≤◌, ◌<◌, List, [], ◌∷◌, ◌++◌, length, add-zero, refl, ap, sym, ◌∙◌}
use Rattle.qkernel.proofs.Common.{cond, arith, true, false, append-nil, inl, inr, ConnectAttach, attaches, put_at}
use Rattle.qkernel.proofs.Common.{one_for, None, Some, is_some, nat_lt, Errno, Srch, Again, NoMemory, entry_at}
use Rattle.qkernel.proofs.Common.{member_at, Member, Completion, MayRefuse, refusal_completion, channel_in, members_of}
use Rattle.qkernel.proofs.Common.{State, IsSound, Steps, facts_in, open_in, rises, among, only_own, all_append}
use Rattle.qkernel.proofs.Steps.Common.{uncancelled, counted, step_refused_alone, all_up_to, stays_free, up_to_below}
use Rattle.qkernel.proofs.Tables.{entry_at-push, length-push, rising_push}
use Rattle.qmodel.specs.declared.call.Mark.TheVariants as mark

-- the table refuses an entry with the error of the row, or because it has no memory
may_refuse : (s : State) (t chid : ℕ) (e : Errno) → s.down ≡ false → open_in s.threads t ≡ None
    → is_some (channel_in s.channels chid) ≡ true → e ≡ cond (nat_lt (length s.connections) 1024) NoMemory Again
    → MayRefuse (facts_in s) t (ConnectAttach chid) e
may_refuse s t chid e up free opens is =
    elim (nat_lt (length s.connections) 1024)
    as (λ b. nat_lt (length s.connections) 1024 ≡ b → e ≡ cond b NoMemory Again
    → MayRefuse (facts_in s) t (ConnectAttach chid) e) [
      | true ↦ λ room same. inr (rw (up, free, opens, room) refl, refl, same)
      | false ↦ λ full same. inl (rw (up, free, opens, full) (ap Some (sym same)))
    ] refl is

pub step_attach_refused : (s : State) (t chid : ℕ) (e : Errno) (X : List Completion) → s.down ≡ false
    → open_in s.threads t ≡ None → is_some (channel_in s.channels chid) ≡ true
    → e ≡ cond (nat_lt (length s.connections) 1024) NoMemory Again
    → X ≡ refusal_completion (facts_in s) t (ConnectAttach chid) e ∷ [] → Steps s t (ConnectAttach chid) X (counted s)
step_attach_refused s t chid e X up free opens is X_is =
    step_refused_alone s t (ConnectAttach chid) e X (may_refuse s t chid e up free opens is) X_is

module _ (s : State) (t chid : ℕ) (m : Member) (sound : IsSound s) where
  -- the kernel with the new connection
  abbrev pub with_connection : State
  with_connection = record {
    made = s.made + 1;
    down = s.down;
    threads = s.threads;
    channels = s.channels;
    connections = s.connections ++ (s.made + 1, record { process = m.process; channel = chid }) ∷ [];
  }

  pub step_attached : (X : List Completion) → member_at (members_of s.threads) t ≡ Some m → s.down ≡ false
      → open_in s.threads t ≡ None → is_some (channel_in s.channels chid) ≡ true
      → nat_lt (length s.connections) 1024 ≡ true
      → X ≡ record { call = s.made + 1; thread = t; mark = mark.Connection (s.made + 1); buffer = [] } ∷ []
      → Steps s t (ConnectAttach chid) X with_connection
  step_attached X known up free opens room is = (
    true,
    record {
      answer = record {
        no_refusal = rw (up, free, opens, room) refl;
        by_row = is ∙ sym
            (only_own _ t
            (Some (record { call = s.made + 1; thread = t; mark = mark.Connection (s.made + 1); buffer = [] }))
            (rises (members_of s.threads) sound.roster) (among (members_of s.threads) t m known));
      };
      follows = record {
        roster = refl;
        number = refl;
        down = refl;
        channel = λ h. rw known refl;
        open_channels = rw known (omega arith);
        connection =
            λ k. entry_at-push s.connections s.made
            (record { process = m.process; channel = chid }) k sound.connection_ids
            ∙ ap (λ o. put_at (attaches o (ConnectAttach chid)) (s.made + 1) (entry_at s.connections) k) (sym known);
        live_connections = add-zero _ ∙ length-push s.connections _
            ∙ ap (λ o. length s.connections + one_for (attaches o (ConnectAttach chid))) (sym known);
        open_call = λ u. stays_free s.threads t u free;
        pending = λ h. uncancelled s t (ConnectAttach chid) (rw (up, free, opens, room) refl) refl refl refl h
            (sym (append-nil _));
        priority = λ u. refl;
      };
    },
  )

  pub sound_attached : IsSound with_connection
  sound_attached = record {
    few = sound.few;
    roster = sound.roster;
    channel_ids = all_up_to (λ id. id) s.made _ sound.channel_ids;
    connection_ids =
        all_append (λ e. e.0 ≤ s.made + 1) s.connections _
        (all_up_to (λ e. e.0) s.made s.connections sound.connection_ids) (omega arith, tt);
    connections = (
      all_append (λ e. 0 < e.0) s.connections _ sound.connections.0 (
        omega arith,
        tt,
      ),
      rising_push s.connections _ sound.connections.1
          (up_to_below (λ e. e.0) s.made s.connections sound.connection_ids),
    );
    items = λ h. all_up_to (λ item. item.number) s.made _ (sound.items h);
  }
