-- The changes by a write to the record of one channel, and by its removal.
use Rattle.qkernel_state.proofs.Common.{◌≡◌, ℕ, ◌+◌, ◌≤◌, List, [], ◌∷◌, length, map, not, refl, ap, sym, ◌∙◌, cond}
use Rattle.qkernel_state.proofs.Common.{true, false, eqb, AllByRecursion, option_map, eqb-true, true≢false, Item}
use Rattle.qkernel_state.proofs.Common.{with_item_priority, entry_at, with_record, without_entry, eqb_either, Channel}
use Rattle.qkernel_state.proofs.Common.{SetsItems, ClosesIn, open_channel_of, channel_in, pending_in, items_waiting_on}
use Rattle.qkernel_state.proofs.Common.{Option, None, Some, is_some, OnSome}
use Rattle.qqueue.specs.Contents.{Contents}
use Rattle.qtables.proofs.LookUps.{entry_at-with_record, entry_at-without_entry}

module _ {R : Type 0} where
  -- the record of each id, after a write to an entry that is in the table
  written_at : (entries : List (ℕ × R)) (id : ℕ) (c r : R) (k : ℕ) → entry_at entries id ≡ Some c
      → entry_at (with_record entries id r) k ≡ cond (eqb k id) (Some r) (entry_at entries k)
  written_at entries id c r k is =
      entry_at-with_record entries id r k
      ∙ ap (λ b. cond b (option_map (λ _. r) (entry_at entries k)) (entry_at entries k)) (eqb_either id k)
      ∙ (elim (eqb k id) as (λ b. eqb k id ≡ b → cond b (option_map (λ _. r) (entry_at entries k)) (entry_at entries k)
      ≡ cond b (Some r) (entry_at entries k)) [
        | true ↦ λ e. ap (option_map (λ _. r)) (ap (entry_at entries) (eqb-true k id e) ∙ is)
        | false ↦ λ e. refl
      ] refl)

  ids_same : (entries : List (ℕ × R)) (id : ℕ) (r : R)
      → map (λ e. e.0) (with_record entries id r) ≡ map (λ e. e.0) entries
  ids_same [] id r = refl
  ids_same (e ∷ entries) id r = ap (λ ns. e.0 ∷ ns) (ids_same entries id r)

  -- a property of all ids is a property of all ids that are left after a removal
  ids_kept : (P : ℕ → Type 0) (entries : List (ℕ × R)) (id : ℕ) → AllByRecursion P (map (λ e. e.0) entries)
      → AllByRecursion P (map (λ e. e.0) (without_entry entries id))
  ids_kept P [] id h = tt
  ids_kept P (e ∷ entries) id h =
      elim (eqb e.0 id)
      as (λ b. AllByRecursion P
      (map (λ e. e.0) (cond (not b) (e ∷ without_entry entries id) (without_entry entries id)))) [
        | true ↦ ids_kept P entries id h.1
        | false ↦ (h.0, ids_kept P entries id h.1)
      ]

-- a write that keeps the owner and the flags of a channel
pub sets_items : (channels : List (ℕ × Channel)) (h : ℕ) (c d : Channel) (items : List Item)
    → entry_at channels h ≡ Some c → d.owner ≡ c.owner → d.flags ≡ c.flags → d.queue.items ≡ items
    → SetsItems h items channels (with_record channels h d)
sets_items channels h c d items is owner flags now = record {
  ids = ids_same channels h d;
  channel = λ k. ap (option_map open_channel_of) (written_at channels h c d k is)
      ∙ (elim (eqb k h) as (λ b. eqb k h ≡ b → option_map open_channel_of (cond b (Some d) (entry_at channels k))
      ≡ channel_in channels k) [
        | true ↦ λ e. rw (eqb-true k h e, is, owner, flags) refl
        | false ↦ λ e. refl
      ] refl);
  pending = λ k. ap items_waiting_on (written_at channels h c d k is)
      ∙ (elim (eqb k h) as (λ b. items_waiting_on (cond b (Some d) (entry_at channels k)) ≡ cond b items
      (items_waiting_on (entry_at channels k))) [ true ↦ now | false ↦ refl ]);
}

-- a write to a channel's queue
pub sets_queue : (channels : List (ℕ × Channel)) (h : ℕ) (c : Channel) (q : Contents) (items : List Item)
    → entry_at channels h ≡ Some c → q.items ≡ items
    → SetsItems h items channels (with_record channels h (record { owner = c.owner; flags = c.flags; queue = q }))
sets_queue channels h c q items is now =
    sets_items channels h c (record { owner = c.owner; flags = c.flags; queue = q }) items is refl refl now

-- a statement about the channel's record holds if the channel is open
on_open : {P : Type 0} (o : Option Channel) → is_some (option_map open_channel_of o) ≡ true → OnSome o P → P
on_open None there h = absurd (true≢false (sym there))
on_open (Some c) there h = h

-- a table without the channel's entry
pub closes_in : (h : ℕ) (channels : List (ℕ × Channel)) → is_some (channel_in channels h) ≡ true
    → OnSome (entry_at channels h) (length (without_entry channels h) + 1 ≡ length channels)
    → ClosesIn h channels (without_entry channels h)
closes_in h channels there fewer = record {
  ids = λ n all. ids_kept (λ id. id ≤ n) channels h all;
  channel = λ k. ap (option_map open_channel_of) (entry_at-without_entry channels h k)
      ∙ (elim (eqb h k) as (λ b. option_map open_channel_of (cond b None (entry_at channels k)) ≡ cond b None
      (channel_in channels k)) [ true ↦ refl | false ↦ refl ]);
  pending = λ k. ap items_waiting_on (entry_at-without_entry channels h k)
      ∙ (elim (eqb h k) as (λ b. items_waiting_on (cond b None (entry_at channels k)) ≡ cond b []
      (pending_in channels k)) [ true ↦ refl | false ↦ refl ]);
  fewer = on_open (entry_at channels h) there fewer;
}
