use Rattle.qqueue.proofs.Common.{◌≡◌, ◌≢◌, ◌⊎◌, ℕ, Some, Contains, get, Node}
use Rattle.qqueue.proofs.links.search.Given as goal

-- the nodes that are left belong to the slab, and each node that was visited has another number
abbrev pub invariant-loop-key : goal.invariant-loop-key
invariant-loop-key l =
    (goal.iterator-loop-key).can_next l.key-iterator ×
    (goal.iterator-loop-key).is_finite l.key-iterator ×
    ((key : ℕ) (node : Node) → get l.nodes key ≡ Some node → Contains l.key-iterator (key, node)
    ⊎ (node.item.number ≢ l.number)) ×
    ((key : ℕ) (node : Node) → Contains l.key-iterator (key, node) → get l.nodes key ≡ Some node)
