-- A change of one lane doesn't change the other.
use Rattle.qqueue.proofs.Common.{◌≡◌, ◌≢◌, ℕ, List, Bool, true, false, refl, sym, ap, subst, ◌∙◌, option_map, Slab}
use Rattle.qqueue.proofs.Common.{first_in, Node, SameLinks, first_at, AreRings, places_from, places_of, keys_on}
use Rattle.qqueue.proofs.Common.{first_of, Ring}
use Rattle.std.specs.Prelude.{Option, None, slice_index_or}
use Rattle.qqueue.specs.declared.level_heads.LevelHeads.{LevelHeads}
use Rattle.qqueue.proofs.RingLaws.{ring_same}

pub pulse_others : (messages pulses new : LevelHeads) (level : ℕ)
    → ((other : ℕ) → other ≢ level → first_in new other ≡ first_in pulses other)
    → (pulse : Bool) (other : ℕ) → ((true ≡ pulse) → (level ≡ other) → ⊥)
    → first_at messages new pulse other ≡ first_at messages pulses pulse other
pulse_others messages pulses new level others true other differs = others other (λ e. differs refl (sym e))
pulse_others messages pulses new level others false other differs = refl

pub message_others : (messages pulses new : LevelHeads) (level : ℕ)
    → ((other : ℕ) → other ≢ level → first_in new other ≡ first_in messages other)
    → (pulse : Bool) (other : ℕ) → ((false ≡ pulse) → (level ≡ other) → ⊥)
    → first_at new pulses pulse other ≡ first_at messages pulses pulse other
message_others messages pulses new level others true other differs = refl
message_others messages pulses new level others false other differs = others other (λ e. differs refl (sym e))

-- the rings stay the same if the first keys and the slots do
pub rings_same : (messages pulses new_messages new_pulses : LevelHeads) (s t : Slab Node)
    → ((level : ℕ) → first_in new_messages level ≡ first_in messages level)
    → ((level : ℕ) → first_in new_pulses level ≡ first_in pulses level)
    → t.slots ≡ s.slots → AreRings (first_at messages pulses) s → AreRings (first_at new_messages new_pulses) t
rings_same messages pulses new_messages new_pulses s t same_messages same_pulses same rings pulse level =
    let places = ap (places_from 0) same in
    let links : SameLinks s t = record {
      after =
          λ x. ap (λ (slots : List (Option Node)). option_map (λ (n : Node). n.after) (slice_index_or slots x None))
          same;
      before =
          λ x. ap (λ (slots : List (Option Node)). option_map (λ (n : Node). n.before) (slice_index_or slots x None))
          same;
    } in
    subst (λ l. (first_at new_messages new_pulses pulse level ≡ first_of (keys_on pulse level l))
    × Ring t (keys_on pulse level l)) (sym places) (
      firsts pulse ∙ (rings pulse level).0,
      ring_same s t links (keys_on pulse level (places_of s))
          (rings pulse level).1,
    )
  where
    firsts : (pulse : Bool) → first_at new_messages new_pulses pulse level ≡ first_at messages pulses pulse level
    firsts true = same_pulses level
    firsts false = same_messages level
