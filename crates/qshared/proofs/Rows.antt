-- The tokens of a list of ports, and the ports of a list of tokens.
use Rattle.qshared.proofs.Common.{◌≡◌, ℕ, zero, suc, List, [], ◌∷◌, ◌++◌, map, sym, refl, ap, ◌∙◌, subst, some}
use Rattle.qshared.proofs.Common.{some-injective, some-ne-none, get_elem?, get_or, at_map, ThreadSeat, Delivery, IsRow}
use Rattle.qshared.proofs.Common.{thread_id, thread_of, completions_in, taken}
use Rattle.qhandoff.specs.Words as cells
use Rattle.atomic_table.specs.Seated.{TableId}
use Rattle.qshared.proofs.Common.{Member}
use Rattle.qshared.specs.Desks.{AreNewPorts}
use Rattle.qshared.specs.declared.desk_port.DeskPort.{DeskPort}

module _ {P : Type 0} where
  pub map_same : (xs : List P) → map (λ x. x) xs ≡ xs
  map_same [] = refl
  map_same (x ∷ xs) = ap (λ ys. x ∷ ys) (map_same xs)

  pub origin : {A : Type 0} (f : P → A) (xs : List P) (k : ℕ) (a : A) → get_elem? (map f xs) k ≡ some a
      → (p : P) × (get_elem? xs k ≡ some p) × (f p ≡ a)
  origin f [] k a e = absurd (some-ne-none a (sym e))
  origin f (x ∷ xs) zero a e = (x, refl, some-injective (f x) a e)
  origin f (x ∷ xs) (suc k) a e = origin f xs k a e

  pub seats_row : (f : P → ThreadSeat Delivery) (z : TableId) (xs : List P) → ((p : P) → thread_id (f p) ≡ z)
      → ((k : ℕ) (p : P) → get_elem? xs k ≡ some p → thread_of (f p) ≡ k) → IsRow z (map f xs)
  seats_row f z xs of at k s e = let o = origin f xs k s e in
      subst (λ v. (thread_id v ≡ z) × (thread_of v ≡ k)) o.2 (of o.0, at k o.0 o.1)

  -- the ports of new tokens have their indices, and have taken nothing
  pub ports_fresh : (f : P → ThreadSeat Delivery) (z : TableId) (seats : List (ThreadSeat Delivery)) (xs : List P)
      → map f xs ≡ seats → IsRow z seats → ((k : ℕ) → cells.took (get_elem? seats k) ≡ [])
      → (k : ℕ) (p : P) → get_elem? xs k ≡ some p → (thread_of (f p) ≡ k) × (taken (f p) ≡ [])
  ports_fresh f z seats xs e row none_took k p at = let there : get_elem? seats k ≡ some (f p) =
      ap (λ ys. get_elem? ys k) (sym e) ∙ at_map f xs k p at in
      ((row k (f p) there).1, ap completions_in (ap cells.took (sym there) ∙ none_took k))

  -- a property of each element, and of one more
  pub each_pushed : (Q : P → Type 0) (xs : List P) (x : P) → ((k : ℕ) (p : P) → get_elem? xs k ≡ some p → Q p) → Q x
      → (k : ℕ) (p : P) → get_elem? (xs ++ x ∷ []) k ≡ some p → Q p
  each_pushed Q [] x old now zero p e = subst Q (some-injective x p e) now
  each_pushed Q [] x old now (suc k) p e = absurd (some-ne-none p (sym e))
  each_pushed Q (y ∷ ys) x old now zero p e = old zero p e
  each_pushed Q (y ∷ ys) x old now (suc k) p e = each_pushed Q ys x (λ j q. old (suc j) q) now k p e

  pub map_snoc : {A : Type 0} (f : P → A) (xs : List P) (x : P) → map f (xs ++ x ∷ []) ≡ map f xs ++ f x ∷ []
  map_snoc f [] x = refl
  map_snoc f (y ∷ ys) x = ap (λ zs. f y ∷ zs) (map_snoc f ys x)

  pub named_at : (f : P → ℕ) (xs : List P) (k : ℕ) (p : P) → get_elem? xs k ≡ some p → get_or (map f xs) k 0 ≡ f p
  named_at f [] k p e = absurd (some-ne-none p (sym e))
  named_at f (x ∷ xs) zero p e = ap f (some-injective x p e)
  named_at f (x ∷ xs) (suc k) p e = named_at f xs k p e

-- ports that are new by these names are new by equal names
pub new_ports_as : (roster roster' : List Member) (table table' : TableId) (past past' : ℕ) (lists lists' : List ℕ)
    (ports : List DeskPort) → roster ≡ roster' → table ≡ table' → past ≡ past' → lists ≡ lists'
    → AreNewPorts roster table past lists ports → AreNewPorts roster' table' past' lists' ports
new_ports_as roster roster' table table' past past' lists lists' ports r t p l new =
    subst (λ ls. AreNewPorts roster' table' past' ls ports) l
    (subst (λ n. AreNewPorts roster' table' n lists ports) p
    (subst (λ z. AreNewPorts roster' z past lists ports) t
    (subst (λ ms. AreNewPorts ms table past lists ports) r new)))
