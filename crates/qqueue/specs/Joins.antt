-- How the nodes and the first keys change if a node joins a ring or leaves it.
use Rattle.std.specs.Prelude.{◌≡◌, ◌≢◌, ℕ, Option, None, Some, unwrap_or}
use Rattle.slab.specs.Slab.{Slab}
use Rattle.qqueue.specs.declared.node.Node.{Node}
use Rattle.qqueue.specs.Rings.{item_of, after_of, before_of, Linked}

-- all links stay the same, except the link after u, the link before v, and the links of p
pub record Relinked (old new : Slab Node) (u v p : ℕ) : Type 0 where
  pub after : (x : ℕ) → x ≢ u → x ≢ p → after_of new x ≡ after_of old x
  pub before : (x : ℕ) → x ≢ v → x ≢ p → before_of new x ≡ before_of old x

-- all links stay the same
pub record SameLinks (old new : Slab Node) : Type 0 where
  pub after : (x : ℕ) → after_of new x ≡ after_of old x
  pub before : (x : ℕ) → before_of new x ≡ before_of old x

-- the node joined the level's ring: before the node next, or at the end if next is None. If the level had no
-- node, it is a ring of its own.
pub record Joined (first after_first : ℕ → Option ℕ) (old new : Slab Node) (level key : ℕ)
    (next : Option ℕ) : Type 0 where
  pub items : (x : ℕ) → item_of new x ≡ item_of old x
  pub others : (other : ℕ) → other ≢ level → after_first other ≡ first other
  pub alone : first level ≡ None → (after_first level ≡ Some key) × SameLinks old new
  pub among : (head prior : ℕ) → first level ≡ Some head → before_of old (unwrap_or next head) ≡ Some prior
      → Linked new prior key × Linked new key (unwrap_or next head)
      × Relinked old new prior (unwrap_or next head) key
  pub in_front : (head : ℕ) → first level ≡ Some head → next ≡ Some head → after_first level ≡ Some key
  pub behind : (head : ℕ) → first level ≡ Some head → next ≢ Some head → after_first level ≡ Some head

-- the neighbours of a node that was removed are linked to each other. If it was the level's only node, the
-- level has no node.
pub record ClosedUp (first after_first : ℕ → Option ℕ) (old new : Slab Node) (key : ℕ) (node : Node) : Type
    0 where
  pub items : (x : ℕ) → item_of new x ≡ item_of old x
  pub others : (other : ℕ) → other ≢ node.item.priority → after_first other ≡ first other
  pub alone : node.after ≡ key → (after_first node.item.priority ≡ None) × SameLinks old new
  pub closed : node.after ≢ key
      → Linked new node.before node.after × Relinked old new node.before node.after key
  pub from_first : node.after ≢ key → first node.item.priority ≡ Some key
      → after_first node.item.priority ≡ Some node.after
  pub from_other : node.after ≢ key → first node.item.priority ≢ Some key
      → after_first node.item.priority ≡ first node.item.priority
