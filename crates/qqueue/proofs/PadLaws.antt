-- Lists that are padded with zeros.
use Rattle.qqueue.proofs.Common.{◌≡◌, ℕ, zero, suc, ◌≤◌, List, [], ◌∷◌, ◌++◌, length, get_or, take, replicate, cond}
use Rattle.qqueue.proofs.Common.{Bool, true, false, refl, ap, ◌∙◌, take_all}

zeros : (n k : ℕ) → let zeroes : List ℕ = replicate n 0 in get_or zeroes k 0 ≡ 0
zeros zero k = refl
zeros (suc n) zero = refl
zeros (suc n) (suc k) = zeros n k

padded : (xs : List ℕ) (n k : ℕ) → get_or (xs ++ replicate n 0) k 0 ≡ get_or xs k 0
padded [] n k = zeros n k
padded (x ∷ xs) n zero = refl
padded (x ∷ xs) n (suc k) = padded xs n k

-- padding with zeros changes no element, because a read past the end of a list returns zero
pub resized : (ok : Bool) (old new : List ℕ) (n more : ℕ) → length old ≤ n
    → new ≡ cond ok (take n old ++ replicate more 0) old → (k : ℕ) → get_or new k 0 ≡ get_or old k 0
resized true old new n more short is k =
    ap (λ l. get_or l k 0) (is ∙ ap (λ l. l ++ replicate more 0) (take_all n old short)) ∙ padded old more k
resized false old new n more short is k = ap (λ l. get_or l k 0) is
