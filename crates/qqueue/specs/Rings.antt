-- How a queue keeps its items: each in a node under a key. For each level, the messages form one ring and
-- the pulses another. No public clause cites this module.
use Rattle.std.specs.Prelude.{◌≡◌, ℕ, ◌+◌, ◌<◌, ◌==◌, ◌&&◌, not, nat_lt, Bool, true, false, List, [], ◌∷◌}
use Rattle.std.specs.Prelude.{Option, None, Some, if◌then◌else◌, filter, map, count_by}
use Rattle.std.specs.List.{AllByRecursion}
use Rattle.std.specs.Option.{option_map}
use Rattle.slab.specs.Slab.{Slab, get}
use Rattle.qqueue.specs.declared.item.Item.{Item}
use Rattle.qqueue.specs.declared.node.Node.{Node}
use Rattle.qqueue.specs.Best.{is_pulse}

-- the places with one more, inserted by number; a place is an item with the key of its node
abbrev pub put_place : Item × ℕ → List (Item × ℕ) → List (Item × ℕ)
put_place place [] = place ∷ []
put_place place (first ∷ places) =
    if nat_lt place.0.number first.0.number then place ∷ first ∷ places else first ∷ put_place place places

-- the places whose items have greater numbers
abbrev pub places_after : ℕ → List (Item × ℕ) → List (Item × ℕ)
places_after number places = filter (λ place. nat_lt number place.0.number) places

-- the items of these slots with their keys, in rising number; the first slot has this key
abbrev pub places_from : ℕ → List (Option Node) → List (Item × ℕ)
places_from key [] = []
places_from key (None ∷ rest) = places_from (key + 1) rest
places_from key (Some node ∷ rest) = put_place (node.item, key) (places_from (key + 1) rest)

-- the items with their keys, in rising number
abbrev pub places_of : Slab Node → List (Item × ℕ)
places_of nodes = places_from 0 nodes.slots

-- the items of these places
abbrev pub items_at : List (Item × ℕ) → List Item
items_at places = map (λ place. place.0) places

-- how many items come before the first one with a greater number
abbrev pub place_in : ℕ → List Item → ℕ
place_in number [] = 0
place_in number (first ∷ items) = if nat_lt number first.number then 0 else 1 + place_in number items

-- the items with one more, inserted by number
abbrev pub put_item : Item → List Item → List Item
put_item item [] = item ∷ []
put_item item (first ∷ items) =
    if nat_lt item.number first.number then item ∷ first ∷ items else first ∷ put_item item items

-- the items with more, each inserted by number, beginning with the last one
abbrev pub put_items : List Item → List Item → List Item
put_items [] items = items
put_items (item ∷ more) items = put_item item (put_items more items)

-- the number of items that are pulses
abbrev pub pulses_of : List Item → ℕ
pulses_of items = count_by (λ item. is_pulse item.what) items

-- each item has a greater number than the items before it
abbrev pub Rises : List (Item × ℕ) → Type 0
Rises [] = Unit {0}
Rises (first ∷ places) = AllByRecursion (λ place. first.0.number < place.0.number) places × Rises places

-- the item is of this kind: true for a pulse, false for a message
abbrev pub is_of : Bool → Item → Bool
is_of true item = is_pulse item.what
is_of false item = not (is_pulse item.what)

-- the place's item is of this kind and level
abbrev pub is_on : Bool → ℕ → Item × ℕ → Bool
is_on pulse level place = is_of pulse place.0 && (place.0.priority == level)

-- the keys of the items of a kind and a level, in rising number of the items
abbrev pub keys_on : Bool → ℕ → List (Item × ℕ) → List ℕ
keys_on pulse level places = map (λ place. place.1) (filter (is_on pulse level) places)

-- the item under a key
abbrev pub item_of : Slab Node → ℕ → Option Item
item_of nodes key = option_map (λ node. node.item) (get nodes key)

-- the key after a key
abbrev pub after_of : Slab Node → ℕ → Option ℕ
after_of nodes key = option_map (λ node. node.after) (get nodes key)

-- the key before a key
abbrev pub before_of : Slab Node → ℕ → Option ℕ
before_of nodes key = option_map (λ node. node.before) (get nodes key)

-- y comes after x, and x before y
abbrev pub Linked : Slab Node → ℕ → ℕ → Type 0
Linked nodes x y = (after_of nodes x ≡ Some y) × (before_of nodes y ≡ Some x)

-- the links lead from x through the keys to z, and back
abbrev pub Path : Slab Node → ℕ → List ℕ → ℕ → Type 0
Path nodes x [] z = Linked nodes x z
Path nodes x (y ∷ keys) z = Linked nodes x y × Path nodes y keys z

-- the links lead through the keys, and from the last to the first, and back
abbrev pub Ring : Slab Node → List ℕ → Type 0
Ring nodes [] = Unit {0}
Ring nodes (first ∷ keys) = Path nodes first keys first

-- the first of these keys
abbrev pub first_of : List ℕ → Option ℕ
first_of [] = None
first_of (first ∷ keys) = Some first

-- the item under a key, if there is a key
abbrev pub item_at : Slab Node → Option ℕ → Option Item
item_at nodes None = None
item_at nodes (Some key) = item_of nodes key
