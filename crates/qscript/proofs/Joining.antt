-- Threads that join a roster one after another.
use Rattle.qscript.proofs.Common.{AllJoin, List, Member, None, [], arith, get_or, join_refusal, length, refl}
use Rattle.qscript.proofs.Common.{roster_with, suc, take, take_more, with_member, zero, ℕ, ◌++◌, ◌+◌, ◌<◌, ◌∷◌, ◌≡◌}

-- one more thread at the end
pub enrolled_more : (r xs : List Member) (m : Member) → roster_with r (xs ++ m ∷ []) ≡ with_member m (roster_with r xs)
enrolled_more r [] m = refl
enrolled_more r (x ∷ xs) m = enrolled_more (with_member x r) xs m

pub enrolled_next : (r xs : List Member) (k : ℕ) (d : Member) → k < length xs
    → roster_with r (take (k + 1) xs) ≡ with_member (get_or xs k d) (roster_with r (take k xs))
enrolled_next r xs k d h = rw (take_more xs k d h) (enrolled_more r (take k xs) (get_or xs k d))

-- each thread may join when its turn comes
pub joins_at : (r xs : List Member) (k : ℕ) (d : Member) → AllJoin r xs → k < length xs
    → join_refusal (roster_with r (take k xs)) (get_or xs k d).thread ≡ None
joins_at r [] k d all h = absurd (omega arith)
joins_at r (x ∷ xs) zero d all h = all.0
joins_at r (x ∷ xs) (suc k) d all h = joins_at (with_member x r) xs k d all.1 (omega arith)
