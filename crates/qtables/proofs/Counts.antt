-- Counts over the records of entries.
use Rattle.qtables.proofs.Common.{◌≡◌, ℕ, ◌+◌, ◌<◌, Bool, true, false, cond, List, length, take, get_or, refl, sym, ap}
use Rattle.qtables.proofs.Common.{◌∙◌, add-zero, option_map, count_by_more_yes, count_by_more_no, slice_get-get_or}
use Rattle.std.specs.Prelude.{Some, count_by, slice_get}

-- one more entry is counted if its record passes the test
pub count_by_more : {R : Type 0} (p : R → Bool) (es : List (ℕ × R)) (i : ℕ) (d : ℕ × R) (r : R) → i < length es
    → option_map (λ e. e.1) (slice_get es i) ≡ Some r
    → count_by (λ e. p e.1) (take (i + 1) es) ≡ count_by (λ e. p e.1) (take i es) + cond (p r) 1 0
count_by_more p es i d r within there =
    let whole = sym (ap (option_map (λ e. e.1)) (slice_get-get_or es i d within)) ∙ there in
    let here : (get_or es i d).1 ≡ r = cc in
    rw (← here) (
    elim (p (get_or es i d).1)
    as (λ b. p (get_or es i d).1 ≡ b
    → count_by (λ e. p e.1) (take (i + 1) es) ≡ count_by (λ e. p e.1) (take i es) + cond b 1 0) [
      | true ↦ λ e. count_by_more_yes (λ x. p x.1) es i d within e
      | false ↦ λ e. count_by_more_no (λ x. p x.1) es i d within e ∙ sym (add-zero _)
    ] refl
    )
