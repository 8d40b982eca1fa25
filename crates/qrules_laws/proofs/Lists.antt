-- Statements that hold for each element of a list, and counts of elements.
use Rattle.qrules_laws.proofs.Common.{Bool, List, [], arith, cond, count_by, filter, sum_by-cons, ◌+◌, ◌∷◌, ◌≡◌, ◌≤◌}

pub count_cons : {X : Type 0} (q : X → Bool) (x : X) (xs : List X)
    → count_by q (x ∷ xs) ≡ cond (q x) 1 0 + count_by q xs
count_cons q x xs = sum_by-cons (λ y. cond (q y) 1 0) x xs

-- a filter doesn't make a count greater
pub fewer_left : {X : Type 0} (q p : X → Bool) (xs : List X) → count_by q (filter p xs) ≤ count_by q xs
fewer_left q p [] = omega arith
fewer_left q p (x ∷ xs) = grind (arith, count_cons q x, fewer_left q p xs)
