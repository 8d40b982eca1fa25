-- The completions that are kept: the first of a thread, and the list without it.
use Rattle.balsaeuchre_calls.proofs.Common.{Completion, List, None, Some, [], ap, arith, cond, drop, completed_of, eqb}
use Rattle.balsaeuchre_calls.proofs.Common.{false, get_or, is_of, is_some, length, none-some, position, refl, same_Some}
use Rattle.balsaeuchre_calls.proofs.Common.{suc, sym, take, true, without, ℕ, ◌++◌, ◌+◌, ◌<◌, ◌∙◌, ◌∷◌, ◌≡◌}
use Rattle.std.specs.List.{position_from}
use Rattle.std.proofs.lemmas.Iterator.Adapters.{position_from-zero}

-- the first completion of thread t is at index j
pub record IsAt (t : ℕ) (completions : List Completion) (j : ℕ) : Type 0 where
  pub below : j < length completions
  pub first : (d : Completion) → completed_of t completions ≡ Some (get_or completions j d)
  pub found : is_some (completed_of t completions) ≡ true
  pub rest : without t completions ≡ take j completions ++ drop (suc j) completions

-- what `position_from` finds, counting from i
found_from : (t : ℕ) (completions : List Completion) (i k : ℕ) → position_from (is_of t) i completions ≡ Some k
    → (j : ℕ) × (k ≡ i + j) × IsAt t completions j
found_from t [] i k e = absurd (none-some k e)
found_from t (x ∷ completions) i k e =
    elim (eqb x.thread t)
    as (λ b. eqb x.thread t ≡ b → cond b (Some i) (position_from (is_of t) (i + 1) completions) ≡ Some k
    → (j : ℕ) × (k ≡ i + j) × IsAt t (x ∷ completions) j) [
      | true ↦ λ at e.
          let same : i ≡ k = same_Some i k e in (
            0,
            omega arith,
            record {
              below = omega arith;
              first = λ d. rw at refl;
              found = rw at refl;
              rest = rw at refl;
            },
          )
      | false ↦ λ other e.
          let r = found_from t completions (i + 1) k e in
          let same : k ≡ i + 1 + r.0 = r.1 in (
            suc r.0,
            omega arith,
            record {
              below = let below : r.0 < length completions = r.2.below in omega arith;
              first = λ d. rw other (r.2.first d);
              found = rw other r.2.found;
              rest = rw other (ap (λ rest. x ∷ rest) r.2.rest);
            },
          )
    ] refl e

pub found_at : (t : ℕ) (completions : List Completion) (k : ℕ) → position (is_of t) completions ≡ Some k
    → IsAt t completions k
found_at t completions k e =
    let r = found_from t completions 0 k (sym (position_from-zero (is_of t) completions) ∙ e) in
    let same : k ≡ 0 + r.0 = r.1 in
    let at : r.0 ≡ k = omega arith in
    rw at at r.2

-- if thread t has no completion, the list without its first is the same list
none_from : (t : ℕ) (completions : List Completion) (i : ℕ) → position_from (is_of t) i completions ≡ None
    → (completed_of t completions ≡ None) × (without t completions ≡ completions)
none_from t [] i e = (refl, refl)
none_from t (x ∷ completions) i e =
    elim (eqb x.thread t)
    as (λ b. eqb x.thread t ≡ b → cond b (Some i) (position_from (is_of t) (i + 1) completions) ≡ None
    → (completed_of t (x ∷ completions) ≡ None) × (without t (x ∷ completions) ≡ x ∷ completions)) [
      | true ↦ λ at e. absurd (none-some i (sym e))
      | false ↦ λ other e.
          let r = none_from t completions (i + 1) e in
          (rw other r.0, rw other (ap (λ rest. x ∷ rest) r.1))
    ] refl e

pub none_at : (t : ℕ) (completions : List Completion) → position (is_of t) completions ≡ None
    → (completed_of t completions ≡ None) × (without t completions ≡ completions)
none_at t completions e = none_from t completions 0 (sym (position_from-zero (is_of t) completions) ∙ e)

-- `position` finds an index exactly if thread t has a completion
pub has_place : (t : ℕ) (completions : List Completion)
    → is_some (position (is_of t) completions) ≡ is_some (completed_of t completions)
has_place t completions =
    elim (position (is_of t) completions)
    as (λ o. position (is_of t) completions ≡ o → is_some o ≡ is_some (completed_of t completions)) [
      | None ↦ λ e. sym (ap is_some (none_at t completions e).0)
      | Some k ↦ λ e. sym (found_at t completions k e).found
    ] refl
