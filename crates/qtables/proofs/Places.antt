-- The place of a number among entries in rising number, and the entries after a removal at that place.
use Rattle.qtables.proofs.Common.{◌≡◌, ◌≢◌, ℕ, zero, suc, ◌<◌, ◌≤◌, List, [], ◌∷◌, length, get_or, refl, sym, ap, ◌∙◌}
use Rattle.qtables.proofs.Common.{arith, None, Some, slice_get, Result, Ok, Err, IfSome, IfNone, option_map}
use Rattle.qtables.proofs.Common.{AllByRecursion, remove, IsSearchInRange, IsBinarySearchResult, IsNonDecreasingBy}
use Rattle.qtables.proofs.Common.{nat_cmp, ordering_index, ranked, slice_get_read, ne_eqb, eq-eqb, nat_tests, entry_at}
use Rattle.qtables.proofs.Common.{without_entry, IsRising}
use Rattle.std.specs.Result.{result_ok}

module _ {R : Type 0} where
  all_at : (P : ℕ → Type 0) (es : List (ℕ × R)) → AllByRecursion (λ e. P e.0) es → (i : ℕ) (d : ℕ × R) → i < length es
      → P (get_or es i d).0
  all_at P [] all i d lt = absurd (omega arith)
  all_at P (e ∷ es) all zero d lt = all.0
  all_at P (e ∷ es) all (suc i) d lt = all_at P es all.1 i d (omega arith)

  -- a later place has a greater number
  pub rises : (es : List (ℕ × R)) → IsRising es → (i j : ℕ) (d : ℕ × R) → i < j → j < length es
      → (get_or es i d).0 < (get_or es j d).0
  rises [] up i j d lt within = absurd (omega arith)
  rises (e ∷ es) up i zero d lt within = absurd (omega arith)
  rises (e ∷ es) up zero (suc j) d lt within = all_at (λ n. e.0 < n) es up.0 j d (omega arith)
  rises (e ∷ es) up (suc i) (suc j) d lt within = rises es up.1 i j d (omega arith) (omega arith)

  -- the number at a place
  pub number_at : (es : List (ℕ × R)) (n i : ℕ) → i < length es → ((d : ℕ × R) → (get_or es i d).0 ≡ n)
      → option_map (λ e. e.0) (slice_get es i) ≡ Some n
  number_at [] n i within here = absurd (omega arith)
  number_at (e ∷ es) n zero within here = ap Some (here e)
  number_at (e ∷ es) n (suc i) within here = number_at es n i (omega arith) here

  -- a number that no place has has no entry
  pub no_entry : (es : List (ℕ × R)) (n : ℕ) → ((k : ℕ) (d : ℕ × R) → k < length es → (get_or es k d).0 ≢ n)
      → entry_at es n ≡ None
  no_entry [] n h = refl
  no_entry (e ∷ es) n h = rw (ne_eqb e.0 n (h 0 e (omega arith))) (no_entry es n (λ k d lt. h (suc k) d (omega arith)))

  -- the place of a number is within the entries
  pub place_within : (es : List (ℕ × R)) (n i : ℕ) → option_map (λ e. e.0) (slice_get es i) ≡ Some n → i < length es
  place_within [] n i there = absurd (cc)
  place_within (e ∷ es) n zero there = omega arith
  place_within (e ∷ es) n (suc i) there = let later : i < length es = place_within es n i there in omega arith

  all_of_place : (P : ℕ → Type 0) (es : List (ℕ × R)) → AllByRecursion (λ e. P e.0) es → (n i : ℕ)
      → option_map (λ e. e.0) (slice_get es i) ≡ Some n → P n
  all_of_place P [] all n i there = absurd (cc)
  all_of_place P (e ∷ es) all n zero there = let same : e.0 ≡ n = cc in rw same at all.0
  all_of_place P (e ∷ es) all n (suc i) there = all_of_place P es all.1 n i there

  without_above : (n : ℕ) (es : List (ℕ × R)) → AllByRecursion (λ e. n < e.0) es → without_entry es n ≡ es
  without_above n [] all = refl
  without_above n (e ∷ es) all = let lt : n < e.0 = all.0 in
      rw (ne_eqb e.0 n (λ s. omega arith), without_above n es all.1)

  -- the place of a number has its entry
  pub entry_at_place : (es : List (ℕ × R)) (n i : ℕ) → IsRising es → option_map (λ e. e.0) (slice_get es i) ≡ Some n
      → entry_at es n ≡ option_map (λ e. e.1) (slice_get es i)
  entry_at_place [] n i up there = refl
  entry_at_place (e ∷ es) n zero up there = let same : e.0 ≡ n = cc in rw (eq-eqb e.0 n same)
  entry_at_place (e ∷ es) n (suc i) up there =
      let lt : e.0 < n = all_of_place (λ m. e.0 < m) es up.0 n i there in
      rw (ne_eqb e.0 n (λ s. omega arith)) (entry_at_place es n i up.1 there)

  -- the record at the place of a number
  pub key_at : (es : List (ℕ × R)) (n i : ℕ) (e : ℕ × R) → IsRising es
      → option_map (λ x. x.0) (slice_get es i) ≡ Some n → e ≡ get_or es i e → entry_at es n ≡ Some e.1
  key_at es n i e up there is =
      entry_at_place es n i up there
      ∙ ap (option_map (λ x. x.1)) (slice_get_read es (length es) i e refl (place_within es n i there) is)

  -- a removal at the place of a number leaves the entries without that number
  pub remove_place : (es : List (ℕ × R)) (n i : ℕ) → IsRising es → option_map (λ e. e.0) (slice_get es i) ≡ Some n
      → remove es i ≡ without_entry es n
  remove_place [] n i up there = absurd (cc)
  remove_place (e ∷ es) n zero up there =
      let same : e.0 ≡ n = cc in
      rw (eq-eqb e.0 n same) (sym (without_above n es (rw same at up.0)))
  remove_place (e ∷ es) n (suc i) up there =
      let lt : e.0 < n = all_of_place (λ m. e.0 < m) es up.0 n i there in
      rw (ne_eqb e.0 n (λ s. omega arith)) (ap (λ l. e ∷ l) (remove_place es n i up.1 there))

module _ {R : Type 0} (es : List (ℕ × R)) (up : IsRising es) (n : ℕ) where
  comparisons_rise : IsNonDecreasingBy (λ e. ordering_index (nat_cmp e.0 n)) es
  comparisons_rise i j d le within =
      let weakly : (get_or es i d).0 ≤ (get_or es j d).0 =
      grind (arith, rises es up i j d, λ (same : i ≡ j). ap (λ k. (get_or es k d).0) same) in
      grind (arith, nat_tests)

  -- a search by number that succeeds returns the place of the number
  pub found : (r : Result ℕ ℕ) → IsSearchInRange r (length es) → IsBinarySearchResult (λ e. nat_cmp e.0 n) es r
      → IfSome (result_ok r) (λ i. option_map (λ e. e.0) (slice_get es i) ≡ Some n)
  found (Ok i) within equal = number_at es n i within (λ d. ranked (get_or es i d).0 n _ (sym (equal d)))
  found (Err i) within parted = tt

  -- if the search fails, the number has no entry
  pub missed : (r : Result ℕ ℕ) → IsSearchInRange r (length es) → IsBinarySearchResult (λ e. nat_cmp e.0 n) es r
      → IfNone (result_ok r) (entry_at es n ≡ None)
  missed (Ok i) within equal = tt
  missed (Err i) within parted =
      let below : (k : ℕ) (d : ℕ × R) → k < i → (get_or es k d).0 < n =
      λ k d lt. ranked (get_or es k d).0 n _ (sym ((parted comparisons_rise).0 k d (omega arith) lt)) in
      let above : (k : ℕ) (d : ℕ × R) → i ≤ k → k < length es → n < (get_or es k d).0 =
      λ k d le lt. ranked (get_or es k d).0 n _ (sym ((parted comparisons_rise).1 k d le lt)) in
      no_entry es n (λ k d lt e. grind (arith, e, below k d, above k d))
