-- Lemmas for the steps that deliver an item.
use Rattle.qkernel.proofs.Common.{◌≡◌, ℕ, ◌+◌, ◌≤◌, List, [], ◌∷◌, ◌++◌, refl, ap, sym, ◌∙◌, cond, arith, true, false}
use Rattle.qkernel.proofs.Common.{eqb, append-nil, length, item_sent_over, all_append, eqb_either, sent_way, Option}
use Rattle.qkernel.proofs.Common.{None, Some, AllByRecursion, length-map, eqb-true, eq-eqb, ne_eqb, without_item, Item}
use Rattle.qkernel.proofs.Common.{entry_at, member_at, Member, Channel, Thread, ids_of, route_in, SetsItems, pending_in}
use Rattle.qkernel.proofs.Common.{channel_in, members_of, route, is_fixed, State, IsSound, facts_in, made_on}
use Rattle.qkernel.proofs.Steps.Common.{Counted, count_same, all_up_to, route-leads_to}

-- the priority that a receiver on channel h gets with the item
abbrev pub priority_at : State → ℕ → Item → Option ℕ
priority_at s h item = cond (is_fixed (channel_in s.channels h)) None (Some item.priority)

-- the number of channels stays the same
pub count_kept : (old new : List (ℕ × Channel)) → ids_of new ≡ ids_of old → length new + 0 ≡ length old + 0
count_kept old new e = ap (λ n. n + 0) (count_same old new e)

-- a write that keeps all items changes at most the room
pub counted_room : (s : State) (h : ℕ) (new : List (ℕ × Channel)) → SetsItems h (pending_in s.channels h) s.channels new
    → Counted s
    (record { made = s.made + 1; down = s.down; threads = s.threads; channels = new; connections = s.connections })
counted_room s h new sets = record {
  made = refl;
  down = refl;
  threads = refl;
  connections = refl;
  ids = sets.ids;
  channel = sets.channel;
  pending = λ k. sets.pending k
      ∙ (elim (eqb k h) as (λ b. eqb k h ≡ b
      → cond b (pending_in s.channels h) (pending_in s.channels k) ≡ pending_in s.channels k) [
        | true ↦ λ e. ap (pending_in s.channels) (sym (eqb-true k h e))
        | false ↦ λ e. refl
      ] refl);
}

-- ---- an item that is queued, and an item that a receiver takes

-- no item of these has a number above n
pub without_new : (n : ℕ) (items : List Item) (item : Item) → item.number ≡ n + 1
    → AllByRecursion (λ x. x.number ≤ n) items → without_item (n + 1) (items ++ item ∷ []) ≡ items
without_new n [] item is h = rw (eq-eqb item.number (n + 1) is) refl
without_new n (x ∷ items) item is h =
    let below : x.number ≤ n = h.0 in
    let other : eqb x.number (n + 1) ≡ false = ne_eqb _ _ (λ e. omega arith) in
    rw other (ap (λ xs. x ∷ xs) (without_new n items item is h.1))

module _ (s : State) (h : ℕ) (item : Item) (sound : IsSound s) (number : item.number ≡ s.made + 1) where
  made_there : (k : ℕ) → made_on k (Some (record { item = item; channel = h })) ≡ cond (eqb k h) (item ∷ []) []
  made_there k = ap (λ b. cond b (item ∷ []) []) (eqb_either h k)

  -- it is queued after the others
  pub with_item : (k : ℕ) → cond (eqb k h) (pending_in s.channels h ++ item ∷ []) (pending_in s.channels k)
      ≡ pending_in s.channels k ++ made_on k (Some (record { item = item; channel = h }))
  with_item k =
      (elim (eqb k h) as (λ b. eqb k h ≡ b → cond b (pending_in s.channels h ++ item ∷ []) (pending_in s.channels k)
      ≡ pending_in s.channels k ++ cond b (item ∷ []) []) [
        | true ↦ λ e. ap (λ n. pending_in s.channels n ++ item ∷ []) (sym (eqb-true k h e))
        | false ↦ λ e. sym (append-nil _)
      ] refl) ∙ ap (λ l. pending_in s.channels k ++ l) (sym (made_there k))

  -- the item isn't queued
  pub items_after : (k : ℕ)
      → pending_in s.channels k ≡ cond (eqb h k)
      (without_item item.number (pending_in s.channels k ++ made_on k (Some (record { item = item; channel = h }))))
      (pending_in s.channels k ++ made_on k (Some (record { item = item; channel = h })))
  items_after k = rw (eqb_either h k) (
      elim (eqb k h)
      as (λ b. pending_in s.channels k
      ≡ cond b (without_item item.number (pending_in s.channels k ++ cond b (item ∷ []) []))
      (pending_in s.channels k ++ cond b (item ∷ []) [])) [
        | true ↦ sym (ap (λ n. without_item n (pending_in s.channels k ++ item ∷ [])) number
            ∙ without_new s.made (pending_in s.channels k) item number (sound.items k))
        | false ↦ sym (append-nil _)
      ])

-- the route of a connection, and an item that is sent over it
module _ (s : State) (t coid : ℕ) (m : Member) (h : ℕ) (known : member_at (members_of s.threads) t ≡ Some m)
    (found : route_in m.process s.channels (entry_at s.connections coid) ≡ Some h) where
  pub some_way : route (facts_in s) t coid ≡ Some h
  some_way = route-leads_to s t m (entry_at s.connections coid) known ∙ found

  pub some_sent : (item : Item)
      → item_sent_over (entry_at s.connections coid) item ≡ Some (record { item = item; channel = h })
  some_sent item = sent_way (facts_in s) t coid item h some_way

-- ---- soundness

-- the number of threads is the number of members
pub few_kept : (old new : List Thread) → members_of new ≡ members_of old → length old ≤ 64 → length new ≤ 64
few_kept old new e few = let same : length new ≡ length old = sym (length-map new (λ t. t.member)) ∙ ap length e
    ∙ length-map old (λ t. t.member) in omega arith

pub sound_threads : (s : State) (threads : List Thread) → IsSound s → members_of threads ≡ members_of s.threads
    → IsSound
    (record { made = s.made + 1; down = s.down; threads = threads; channels = s.channels; connections = s.connections })
sound_threads s threads sound e = record {
  few = few_kept s.threads threads e sound.few;
  roster = rw e sound.roster;
  channel_ids = all_up_to (λ id. id) s.made _ sound.channel_ids;
  connection_ids = all_up_to (λ e. e.0) s.made _ sound.connection_ids;
  connections = sound.connections;
  items = λ h. all_up_to (λ item. item.number) s.made _ (sound.items h);
}

-- a write that keeps all members keeps the kernel sound
pub sound_kept : (s : State) (threads : List Thread) → members_of threads ≡ members_of s.threads → IsSound s
    → IsSound
    (record { made = s.made; down = s.down; threads = threads; channels = s.channels; connections = s.connections })
sound_kept s threads e sound = record {
  few = few_kept s.threads threads e sound.few;
  roster = rw e sound.roster;
  channel_ids = sound.channel_ids;
  connection_ids = sound.connection_ids;
  connections = sound.connections;
  items = sound.items;
}

pub sound_items : (s : State) (threads : List Thread) (channels : List (ℕ × Channel)) (h : ℕ) (items : List Item)
    → IsSound s → members_of threads ≡ members_of s.threads → SetsItems h items s.channels channels
    → AllByRecursion (λ item. item.number ≤ s.made + 1) items
    → IsSound
    (record { made = s.made + 1; down = s.down; threads = threads; channels = channels; connections = s.connections })
sound_items s threads channels h items sound e sets all = record {
  few = few_kept s.threads threads e sound.few;
  roster = rw e sound.roster;
  channel_ids = rw (sets.ids) (all_up_to (λ id. id) s.made _ sound.channel_ids);
  connection_ids = all_up_to (λ e. e.0) s.made _ sound.connection_ids;
  connections = sound.connections;
  items =
      λ k. rw (sets.pending k)
      (elim (eqb k h)
      as (λ b. AllByRecursion (λ item. item.number ≤ s.made + 1) (cond b items (pending_in s.channels k))) [
        | true ↦ all
        | false ↦ all_up_to (λ item. item.number) s.made _ (sound.items k)
      ]);
}

pub sound_with_item : (s : State) (threads : List Thread) (channels : List (ℕ × Channel)) (h : ℕ) (item : Item)
    → IsSound s → members_of threads ≡ members_of s.threads
    → SetsItems h (pending_in s.channels h ++ item ∷ []) s.channels channels → item.number ≡ s.made + 1
    → IsSound
    (record { made = s.made + 1; down = s.down; threads = threads; channels = channels; connections = s.connections })
sound_with_item s threads channels h item sound e sets is =
    sound_items s threads channels h _ sound e sets
    (all_append (λ x. x.number ≤ s.made + 1) (pending_in s.channels h) (item ∷ [])
    (all_up_to (λ x. x.number) s.made _ (sound.items h)) (omega arith, tt))
