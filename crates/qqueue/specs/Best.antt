-- The item that is received first.
use Rattle.std.specs.Prelude.{ℕ, ◌==◌, not, nat_lt, Bool, true, false, List, [], ◌∷◌, filter, map, Option}
use Rattle.std.specs.Prelude.{None, Some, if◌then◌else◌}
use Rattle.qqueue.specs.declared.item.What.{What}
use Rattle.qqueue.specs.declared.item.What.TheVariants.{Message, User, Unblock, Disconnect}
use Rattle.qqueue.specs.declared.item.Item.{Item}
use Rattle.qqueue.specs.declared.item.Kind.{Kind}
use Rattle.qqueue.specs.declared.item.Kind.TheVariants.{Any, PulseOnly}

-- true for everything except a message
abbrev pub is_pulse : What → Bool
is_pulse Message = false
is_pulse (User code value) = true
is_pulse (Unblock message) = true
is_pulse (Disconnect process) = true

-- a receive of this kind may take the item
abbrev pub may_take : Kind → Item → Bool
may_take Any item = true
may_take PulseOnly item = is_pulse item.what

-- of an item and the best item after it, the item that is received first: the later one only if its priority
-- is greater
abbrev pub first_of_two : Item → Option Item → Item
first_of_two x None = x
first_of_two x (Some y) = if nat_lt x.priority y.priority then y else x

-- the item of greatest priority that the kind may take, and among equals the item that was made first; None
-- if the kind may take none
abbrev pub best_of : Kind → List Item → Option Item
best_of kind [] = None
best_of kind (x ∷ items) = if may_take kind x then Some (first_of_two x (best_of kind items))
    else best_of kind items

-- the items without the item of this number
abbrev pub without_item : ℕ → List Item → List Item
without_item number items = filter (λ item. not (item.number == number)) items

-- the item of this number
abbrev pub item_of_number : ℕ → List Item → Option Item
item_of_number number [] = None
item_of_number number (x ∷ items) = if x.number == number then Some x else item_of_number number items

-- the item with another priority
abbrev pub with_priority : ℕ → Item → Item
with_priority priority item = record { number = item.number; priority = priority; what = item.what }

-- the items, with another priority for the item of this number
abbrev pub with_item_priority : ℕ → ℕ → List Item → List Item
with_item_priority number priority items =
    map (λ item. if item.number == number then with_priority priority item else item) items
