-- The channel to which a connection leads.
use Rattle.qkernel_state.proofs.Common.{◌≡◌, ℕ, List, refl, sym, cond, true, false, eqb, ◌&&◌, none-some, same_Some}
use Rattle.qkernel_state.proofs.Common.{entry_at, Channel, own_channel_in, route_in, channel_in, Option, None, Some}
use Rattle.qkernel_state.proofs.Common.{is_some}
use Rattle.qtables.specs.declared.connection.Connection.{Connection}

module _ (p : ℕ) (channels : List (ℕ × Channel)) where
  -- a process may send over its own connection to an open channel
  pub routed : (k : Option Connection) (h : ℕ) (c : Channel) → own_channel_in p k ≡ Some h
      → entry_at channels h ≡ Some c → route_in p channels k ≡ Some h
  routed None h c own there = absurd (none-some h own)
  routed (Some k) h c own there =
      elim (eqb p k.process) as
      (λ b. cond b (Some k.channel) None ≡ Some h
      → cond (b && is_some (channel_in channels k.channel)) (Some k.channel) None ≡ Some h) [
        | true ↦ λ own. rw (same_Some k.channel h own, there) refl
        | false ↦ λ own. absurd (none-some h own)
      ] own

  -- a process may not send over another process's connection
  pub unowned : (k : Option Connection) → own_channel_in p k ≡ None → route_in p channels k ≡ None
  unowned None other = refl
  unowned (Some k) other =
      elim (eqb p k.process) as
      (λ b. cond b (Some k.channel) None ≡ None
      → cond (b && is_some (channel_in channels k.channel)) (Some k.channel) None ≡ None) [
        | true ↦ λ own. absurd (none-some k.channel (sym own))
        | false ↦ λ own. refl
      ] other

  -- a process may not send to a channel that is destroyed
  pub unrouted : (k : Option Connection) (h : ℕ) → own_channel_in p k ≡ Some h → entry_at channels h ≡ None
      → route_in p channels k ≡ None
  unrouted None h own gone = refl
  unrouted (Some k) h own gone =
      elim (eqb p k.process) as
      (λ b. cond b (Some k.channel) None ≡ Some h
      → cond (b && is_some (channel_in channels k.channel)) (Some k.channel) None ≡ None) [
        | true ↦ λ own. rw (same_Some k.channel h own, gone) refl
        | false ↦ λ own. refl
      ] own
