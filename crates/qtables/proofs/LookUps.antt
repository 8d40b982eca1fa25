-- The result of a look-up by number after each change of the entries.
use Rattle.qtables.proofs.Common.{◌≡◌, ℕ, ◌<◌, true, false, cond, not, eqb, List, [], ◌∷◌, ◌++◌, refl, subst, sym, ◌∙◌}
use Rattle.qtables.proofs.Common.{arith, None, Some, AllByRecursion, option_map, ne_eqb, eqb-true, eqb-false, same_Some}
use Rattle.qtables.proofs.Common.{entry_at, with_record, without_entry, IsRising}
use Rattle.qbase.proofs.Lists.{cond_same, eqb_either}

-- all numbers are below n
abbrev pub Below : {R : Type 0} → ℕ → List (ℕ × R) → Type 0
Below n entries = AllByRecursion (λ e. e.0 < n) entries

module _ {R : Type 0} where
  -- a new entry changes only the look-up of its own number
  pub entry_at-append : (es : List (ℕ × R)) (n : ℕ) (r : R) (id : ℕ) → Below n es
      → entry_at (es ++ (n, r) ∷ []) id ≡ cond (eqb n id) (Some r) (entry_at es id)
  entry_at-append [] n r id all = refl
  entry_at-append (e ∷ es) n r id all =
      let low : e.0 < n = all.0 in
      rw (entry_at-append es n r id all.1) (
      elim (eqb e.0 id) as (λ b. eqb e.0 id ≡ b
      → cond b (Some e.1) (cond (eqb n id) (Some r) (entry_at es id)) ≡ cond (eqb n id) (Some r)
      (cond b (Some e.1) (entry_at es id))) [
        | true ↦ λ same. let here : e.0 ≡ id = eqb-true e.0 id same in rw (ne_eqb n id (λ other. omega arith))
        | false ↦ λ differs. refl
      ] refl
      )

  -- another record changes only the look-up of its own number
  pub entry_at-with_record : (es : List (ℕ × R)) (n : ℕ) (r : R) (id : ℕ)
      → entry_at (with_record es n r) id ≡ cond (eqb n id) (option_map (λ _. r) (entry_at es id)) (entry_at es id)
  entry_at-with_record [] n r id = sym (cond_same (eqb n id) None)
  entry_at-with_record (e ∷ es) n r id =
      rw (entry_at-with_record es n r id) (
      elim (eqb e.0 id) as (λ b. eqb e.0 id ≡ b
      → cond b (Some (cond (eqb e.0 n) r e.1))
      (cond (eqb n id) (option_map (λ _. r) (entry_at es id)) (entry_at es id)) ≡ cond (eqb n id)
      (option_map (λ _. r) (cond b (Some e.1) (entry_at es id))) (cond b (Some e.1) (entry_at es id))) [
        | true ↦ λ same. rw (← eqb-true e.0 id same, eqb_either n e.0)
            (elim (eqb e.0 n) as (λ b. Some (cond b r e.1) ≡ cond b (Some r) (Some e.1)) [ true ↦ refl | false ↦ refl ])
        | false ↦ λ differs. refl
      ] refl
      )

  -- writing a record that isn't there changes nothing
  unchanged_below : (n : ℕ) (r : R) (es : List (ℕ × R)) → AllByRecursion (λ e. n < e.0) es → with_record es n r ≡ es
  unchanged_below n r [] above = refl
  unchanged_below n r (e ∷ es) above =
      let high : n < e.0 = above.0 in
      rw (ne_eqb e.0 n (λ same. omega arith), unchanged_below n r es above.1) refl

  -- if the numbers rise, writing the record that is there already changes nothing
  pub unchanged : (es : List (ℕ × R)) (n : ℕ) (r : R) → IsRising es → entry_at es n ≡ Some r → with_record es n r ≡ es
  unchanged [] n r rises is = refl
  unchanged (e ∷ es) n r rises is =
      elim (eqb e.0 n) as (λ b. eqb e.0 n ≡ b → cond b (Some e.1) (entry_at es n) ≡ Some r
      → (e.0, cond b r e.1) ∷ with_record es n r ≡ e ∷ es) [
        | true ↦ λ same own. rw (
          ← same_Some e.1 r own,
          unchanged_below n e.1 es (subst (λ k. AllByRecursion (λ x. k < x.0) es) (eqb-true e.0 n same) rises.0),
        ) refl
        | false ↦ λ differs own. rw (unchanged es n r rises.1 own) refl
      ] refl is

  -- a removal changes only the look-up of its own number
  pub entry_at-without_entry : (es : List (ℕ × R)) (n id : ℕ)
      → entry_at (without_entry es n) id ≡ cond (eqb n id) None (entry_at es id)
  entry_at-without_entry [] n id = sym (cond_same (eqb n id) None)
  entry_at-without_entry (e ∷ es) n id =
      elim (eqb e.0 n) as (λ b. eqb e.0 n ≡ b
      → entry_at (cond (not b) (e ∷ without_entry es n) (without_entry es n)) id ≡ cond (eqb n id) None
      (cond (eqb e.0 id) (Some e.1) (entry_at es id))) [
        | true ↦ λ same. rw (entry_at-without_entry es n id, eqb-true e.0 n same)
            (elim (eqb n id)
            as (λ b. cond b None (entry_at es id) ≡ cond b None (cond b (Some e.1) (entry_at es id))) [
              | true ↦
                  refl
              | false ↦ refl
            ])
        | false ↦ λ differs. rw (entry_at-without_entry es n id) (
            elim (eqb e.0 id) as (λ b. eqb e.0 id ≡ b
            → cond b (Some e.1) (cond (eqb n id) None (entry_at es id)) ≡ cond (eqb n id) None
            (cond b (Some e.1) (entry_at es id))) [
              | true ↦ λ here. let is : e.0 ≡ id = eqb-true e.0 id here in
                  rw (ne_eqb n id (λ other. eqb-false e.0 n differs (is ∙ sym other)))
              | false ↦ λ elsewhere. refl
            ] refl
            )
      ] refl
