-- A copy of a kernel's content: the same, except for the room of its queues.
use Rattle.qkernel.proofs.Common.{IsSound, Item, List, None, OpenChannel, Option, Some, State, [], ap, cond, eqb}
use Rattle.qkernel.proofs.Common.{entry_at, false, length, map, members_of, open_in, option_map, refl, sym, true, ℕ}
use Rattle.qkernel.proofs.Common.{◌+◌, ◌∙◌, ◌∷◌, ◌≡◌}
use Rattle.std.proofs.lemmas.List.{length-map}
use Rattle.qkernel.specs.Kernel.{facts_in}
use Rattle.qkernel_state.specs.Channel.{ids_of}
use Rattle.qkernel_state.specs.Copies.{channel_told, entry_told}
use Rattle.qkernel_state.specs.Contents.{channel_in, items_waiting_on, open_channel_of, pending_in, thread_priority}
use Rattle.qkernel_state.specs.declared.channel.Channel.{Channel}

-- the facts about the channels
abbrev Told : Type 0
Told = List (ℕ × (OpenChannel × List Item))

abbrev items_told : Option (OpenChannel × List Item) → List Item
items_told None = []
items_told (Some c) = c.1

told_at : (channels : List (ℕ × Channel)) (h : ℕ)
    → entry_at (map entry_told channels) h ≡ option_map channel_told (entry_at channels h)
told_at [] h = refl
told_at (e ∷ channels) h =
    elim (eqb e.0 h) as (λ b. cond b (Some (channel_told e.1)) (entry_at (map entry_told channels) h)
    ≡ option_map channel_told (cond b (Some e.1) (entry_at channels h))) [
      | true ↦ refl
      | false ↦ told_at channels h
    ]

open_told : (c : Option Channel) → option_map open_channel_of c ≡ option_map (λ t. t.0) (option_map channel_told c)
open_told None = refl
open_told (Some c) = refl

waiting_told : (c : Option Channel) → items_waiting_on c ≡ items_told (option_map channel_told c)
waiting_told None = refl
waiting_told (Some c) = refl

ids_told : (channels : List (ℕ × Channel)) → ids_of channels ≡ map (λ t. t.0) (map entry_told channels)
ids_told [] = refl
ids_told (e ∷ channels) = ap (λ ids. e.0 ∷ ids) (ids_told channels)

module _ (s t : State) (made : t.made ≡ s.made) (down : t.down ≡ s.down) (threads : t.threads ≡ s.threads)
    (channels : map entry_told t.channels ≡ map entry_told s.channels)
    (connections : t.connections ≡ s.connections) where
  at_same : (h : ℕ) → option_map channel_told (entry_at t.channels h) ≡ option_map channel_told (entry_at s.channels h)
  at_same h = sym (told_at t.channels h) ∙ ap (λ (told : Told). entry_at told h) channels ∙ told_at s.channels h

  open_same : (h : ℕ) → channel_in t.channels h ≡ channel_in s.channels h
  open_same h = open_told (entry_at t.channels h) ∙ ap (option_map (λ c. c.0)) (at_same h)
      ∙ sym (open_told (entry_at s.channels h))

  pending_same : (h : ℕ) → pending_in t.channels h ≡ pending_in s.channels h
  pending_same h = waiting_told (entry_at t.channels h) ∙ ap items_told (at_same h)
      ∙ sym (waiting_told (entry_at s.channels h))

  ids_same : ids_of t.channels ≡ ids_of s.channels
  ids_same = ids_told t.channels ∙ ap (map (λ c. c.0)) channels ∙ sym (ids_told s.channels)

  count_same : length t.channels ≡ length s.channels
  count_same = sym (length-map t.channels entry_told) ∙ ap (λ (told : Told). length told) channels
      ∙ length-map s.channels entry_told

  -- a copy's content has the same facts
  pub facts_copied : facts_in t ≡ facts_in s
  facts_copied = λ i. record {
    roster = members_of (threads i);
    number = made i + 1;
    down = down i;
    channel = λ h. open_same h i;
    open_channels = count_same i;
    connection = entry_at (connections i);
    live_connections = length (connections i);
    open_call = open_in (threads i);
    pending = λ h. pending_same h i;
    priority = thread_priority (threads i);
  }

  -- a copy's content is sound
  pub sound_copied : IsSound s → IsSound t
  sound_copied sound = record {
    few = rw (threads) sound.few;
    roster = rw (threads) sound.roster;
    channel_ids = rw (made, ids_same) sound.channel_ids;
    connection_ids = rw (made, connections) sound.connection_ids;
    connections = rw (connections) sound.connections;
    items = λ h. rw (made, pending_same h) (sound.items h);
  }
