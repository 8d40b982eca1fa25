-- The order in which items are received.
use Rattle.std.specs.Prelude.{◌≡◌, ◌≢◌, ◌↔◌, ◌==◌, ◌&&◌, ◌||◌, not, nat_lt, Bool, List, None, Some, IsTrue}
use Rattle.std.specs.Prelude.{IsFalse, All, Contains}
use Rattle.qqueue.specs.declared.item.Item.{Item}
use Rattle.qqueue.specs.declared.item.Kind.{Kind}
use Rattle.qqueue.specs.Best.{may_take, best_of}
use Rattle.qqueue.specs.Contents.{IsRising}

-- a is received before b: its priority is greater, or it is equal and a was made first
abbrev pub comes_before : Item → Item → Bool
comes_before a b = nat_lt b.priority a.priority || ((a.priority == b.priority) && nat_lt a.number b.number)

-- of two items with different numbers, exactly one comes before the other
abbrev pub JustOneComesBefore : Type 0
JustOneComesBefore = (a b : Item) → a.number ≢ b.number → comes_before a b ≡ not (comes_before b a)

-- if a comes before b and b before c, a comes before c
abbrev pub BeforeIsTransitive : Type 0
BeforeIsTransitive = (a b c : Item) → IsTrue (comes_before a b) → IsTrue (comes_before b c)
    → IsTrue (comes_before a c)

-- no item comes before itself
abbrev pub NoneBeforeItself : Type 0
NoneBeforeItself = (a : Item) → IsFalse (comes_before a a)

-- x is one of the items, may be taken, and comes before every other item that may be taken
pub record IsFirst (kind : Kind) (items : List Item) (x : Item) : Type 0 where
  pub among : Contains items x
  pub may : IsTrue (may_take kind x)
  pub first : All (λ y. IsTrue (may_take kind y) → y ≢ x → IsTrue (comes_before x y)) items

-- in a list of rising numbers, the best item may be taken, and comes before all others that may be taken
abbrev pub BestIsFirst : Type 0
BestIsFirst = (kind : Kind) (items : List Item) (x : Item) → IsRising items → best_of kind items ≡ Some x
    → IsFirst kind items x

-- there is no best item exactly if no item may be taken
abbrev pub NoBestIfNoneMayBeTaken : Type 0
NoBestIfNoneMayBeTaken = (kind : Kind) (items : List Item) → (best_of kind items ≡ None)
    ↔ All (λ y. IsFalse (may_take kind y)) items
