-- Copies of tables, entry by entry.
use Rattle.qkernel_state.proofs.Common.{AllByRecursion, Channel, Item, List, None, Some, [], ap, arith, get_or, length}
use Rattle.qkernel_state.proofs.Common.{map, none-some, option_map, same_Some, slice_get, subst, suc, sym, take, zero}
use Rattle.qkernel_state.proofs.Common.{ℕ, ◌++◌, ◌+◌, ◌<◌, ◌∙◌, ◌∷◌, ◌≡◌}
use Rattle.std.proofs.lemmas.List.{map-append, map_more, take_more}
use Rattle.std.proofs.lemmas.Option.{get_or_from_slice_get, slice_get_within}
use Rattle.qqueue.specs.Contents as contents
use Rattle.qtables.specs.Entries.{IsRising}
use Rattle.qkernel_state.specs.Copies.{channel_told, entry_told}

-- ---- the entry at an index

module _ {R : Type 0} where
  pub entry_read : (entries : List (ℕ × R)) (i id : ℕ) (c : R) → option_map (λ e. e.0) (slice_get entries i) ≡ Some id
      → option_map (λ e. e.1) (slice_get entries i) ≡ Some c
      → slice_get entries i ≡ Some (id, c)
  entry_read entries i id c first second =
      elim (slice_get entries i) as (λ o. option_map (λ e. e.0) o ≡ Some id → option_map (λ e. e.1) o ≡ Some c
      → o ≡ Some (id, c)) [
        | None ↦ λ p q. absurd (none-some id p)
        | Some e ↦ λ p q. let one : e.0 ≡ id = same_Some e.0 id p in
            let two : e.1 ≡ c =
            same_Some e.1 c q in λ j. Some (one j, two j)
      ] first second

  pub take_entry : (entries : List (ℕ × R)) (i id : ℕ) (c : R) → option_map (λ e. e.0) (slice_get entries i) ≡ Some id
      → option_map (λ e. e.1) (slice_get entries i) ≡ Some c
      → take (i + 1) entries ≡ take i entries ++ (id, c) ∷ []
  take_entry entries i id c first second =
      let there : slice_get entries i ≡ Some (id, c) = entry_read entries i id c first second in
      take_more entries i (id, c) (slice_get_within entries i (id, c) there)
      ∙ ap (λ e. take i entries ++ e ∷ []) (get_or_from_slice_get entries i (id, c) (id, c) there)

  pub map_entry : {Y : Type 0} (f : ℕ × R → Y) (entries : List (ℕ × R)) (i id : ℕ) (c : R)
      → option_map (λ e. e.0) (slice_get entries i) ≡ Some id → option_map (λ e. e.1) (slice_get entries i) ≡ Some c
      → map f (take (i + 1) entries) ≡ map f (take i entries) ++ f (id, c) ∷ []
  map_entry f entries i id c first second =
      let there : slice_get entries i ≡ Some (id, c) = entry_read entries i id c first second in
      map_more f entries i (id, c) (slice_get_within entries i (id, c) there)
      ∙ ap (λ e. map f (take i entries) ++ f e ∷ []) (get_or_from_slice_get entries i (id, c) (id, c) there)

-- ---- tables and queues in ascending order

-- each entry before an index of a rising table has a smaller id than the entry at the index
pub below : {R : Type 0} (entries : List (ℕ × R)) (i id : ℕ) → IsRising entries
    → option_map (λ e. e.0) (slice_get entries i) ≡ Some id → AllByRecursion (λ e. e.0 < id) (take i entries)
below [] i id rising there = absurd (none-some id there)
below (e ∷ entries) zero id rising there = tt
below {R = R} (e ∷ entries) (suc i) id rising there =
    (first entries i rising.0 there, below entries i id rising.1 there) where
      first : (entries : List (ℕ × R)) (i : ℕ) → AllByRecursion (λ x. e.0 < x.0) entries
          → option_map (λ x. x.0) (slice_get entries i) ≡ Some id → e.0 < id
      first [] i all there = absurd (none-some id there)
      first (x ∷ entries) zero all there = let same : x.0 ≡ id = same_Some x.0 id there in omega (arith, all.0, same)
      first (x ∷ entries) (suc i) all there = first entries i all.1 there

-- each item before an index has a smaller number than the item at the index
pub items_below : (items : List Item) (i : ℕ) (x : Item) → contents.IsRising items → i < length items
    → x ≡ get_or items i x → AllByRecursion (λ y. y.number < x.number) (take i items)
items_below items i x rising low there =
    subst (λ z. AllByRecursion (λ y. y.number < z.number) (take i items)) (sym there)
    (below_at items i x rising low) where
      first : (n : ℕ) (items : List Item) (i : ℕ) (d : Item) → AllByRecursion (λ y. n < y.number) items
          → i < length items
          → n < (get_or items i d).number
      first n [] i d all low = absurd (omega (arith, low))
      first n (y ∷ items) zero d all low = all.0
      first n (y ∷ items) (suc i) d all low = first n items i d all.1 (omega (arith, low))

      below_at : (items : List Item) (i : ℕ) (d : Item) → contents.IsRising items → i < length items
          → AllByRecursion (λ y. y.number < (get_or items i d).number) (take i items)
      below_at [] i d rising low = absurd (omega (arith, low))
      below_at (x ∷ items) zero d rising low = tt
      below_at (x ∷ items) (suc i) d rising low =
          (first x.number items i d rising.0 (omega (arith, low)), below_at items i d rising.1 (omega (arith, low)))

-- ---- channels, by the facts about them

to_told : (id : ℕ) (channels : List (ℕ × Channel)) → AllByRecursion (λ e. e.0 < id) channels
    → AllByRecursion (λ t. t.0 < id) (map entry_told channels)
to_told id [] all = tt
to_told id (e ∷ channels) all = (all.0, to_told id channels all.1)

from_told : (id : ℕ) (channels : List (ℕ × Channel)) → AllByRecursion (λ t. t.0 < id) (map entry_told channels)
    → AllByRecursion (λ e. e.0 < id) channels
from_told id [] all = tt
from_told id (e ∷ channels) all = (all.0, from_told id channels all.1)

-- if the ids of channels are below a number, the ids of their copies are too
pub below_copied : (copies channels : List (ℕ × Channel)) (id : ℕ) → map entry_told copies ≡ map entry_told channels
    → AllByRecursion (λ e. e.0 < id) channels → AllByRecursion (λ e. e.0 < id) copies
below_copied copies channels id same all =
    from_told id copies (subst (AllByRecursion (λ t. t.0 < id)) (sym same) (to_told id channels all))

-- one more channel is copied
pub told_more : (copies channels : List (ℕ × Channel)) (i id : ℕ) (copy c : Channel)
    → map entry_told copies ≡ map entry_told (take i channels) → channel_told copy ≡ channel_told c
    → option_map (λ e. e.0) (slice_get channels i) ≡ Some id → option_map (λ e. e.1) (slice_get channels i) ≡ Some c
    → map entry_told (copies ++ (id, copy) ∷ []) ≡ map entry_told (take (i + 1) channels)
told_more copies channels i id copy c same told first second =
    map-append entry_told copies ((id, copy) ∷ []) ∙ ap (λ l. l ++ (id, channel_told copy) ∷ []) same
    ∙ ap (λ t. map entry_told (take i channels) ++ (id, t) ∷ []) told
    ∙ sym (map_entry entry_told channels i id c first second)
