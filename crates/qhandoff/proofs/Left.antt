-- The completions that are left for each thread.
use Rattle.qhandoff.proofs.Common.{⊎_elim, subst, ◌≡◌, ◌≢◌, ℕ, ◌+◌, ◌<◌, ◌≤◌, eqb, List, [], ◌∷◌, ◌++◌, length}
use Rattle.qhandoff.proofs.Common.{if◌then◌else◌, Bool, true, false, sym, refl, ap, ◌∙◌, arith, Option, Some, None}
use Rattle.qhandoff.proofs.Common.{eq-eqb, ne_eqb, dite, some, some-injective, some-ne-none, ℕ_discrete, get_elem?}
use Rattle.qhandoff.proofs.Common.{left_for, one, tagged, Rises}
use Rattle.qhandoff.proofs.Changes.{there}
use Rattle.qhandoff.proofs.Starting.{at_end}

module _ {T : Type 0} where
  pick_append : (b : Bool) (x : T) (xs ys : List T)
      → (if b then x ∷ (xs ++ ys) else (xs ++ ys)) ≡ (if b then x ∷ xs else xs) ++ ys
  pick_append true x xs ys = refl
  pick_append false x xs ys = refl

  left_append : (t : ℕ) (xs ys : List (ℕ × T)) → left_for t (xs ++ ys) ≡ left_for t xs ++ left_for t ys
  left_append t [] ys = refl
  left_append t (x ∷ xs) ys = ap (λ zs. if eqb x.0 t then x.1 ∷ zs else zs) (left_append t xs ys)
      ∙ pick_append (eqb x.0 t) x.1 (left_for t xs) (left_for t ys)

  tag_here : (t : ℕ) (o : Option T) → left_for t (tagged t o) ≡ one o
  tag_here t None = refl
  tag_here t (Some x) = ap (λ b. if b then x ∷ [] else []) (eq-eqb t t refl)

  tag_else : (t i : ℕ) (o : Option T) → i ≢ t → left_for t (tagged i o) ≡ []
  tag_else t i None n = refl
  tag_else t i (Some x) n = ap (λ b. if b then x ∷ [] else []) (ne_eqb i t n)

  pub few_tagged : (i : ℕ) (o : Option T) → length (tagged i o) ≤ 1
  few_tagged i None = omega arith
  few_tagged i (Some x) = omega arith

  append_none : (xs : List T) → xs ++ [] ≡ xs
  append_none [] = refl
  append_none (x ∷ xs) = ap (λ ys. x ∷ ys) (append_none xs)

  append_all : (xs : List (ℕ × T)) → xs ++ [] ≡ xs
  append_all [] = refl
  append_all (x ∷ xs) = ap (λ ys. x ∷ ys) (append_all xs)

  pub more_before : (items : List (Option T)) (i : ℕ) (o : Option T) (room : List (ℕ × T))
      → ((t : ℕ) (p : Option T) → t < i → get_elem? items t ≡ some p → left_for t room ≡ one p)
      → ((t : ℕ) → i ≤ t → left_for t room ≡ []) → get_elem? items i ≡ some o
      → (t : ℕ) (p : Option T) → t < i + 1 → get_elem? items t ≡ some p → left_for t (room ++ tagged i o) ≡ one p
  more_before items i o room old none_yet here t p h at = left_append t room (tagged i o) ∙ dite (ℕ_discrete i t)
      (λ e. ap (λ zs. zs ++ left_for t (tagged i o)) (none_yet t (omega (arith, e)))
      ∙ ap (λ j. left_for j (tagged i o)) (sym e) ∙ tag_here i o
      ∙ ap one (some-injective o p (sym here ∙ ap (get_elem? items) e ∙ at)))
      (λ n. ap (λ zs. left_for t room ++ zs) (tag_else t i o n) ∙ append_none (left_for t room)
      ∙ old t p (omega (arith, n)) at)

  pub more_after : (i : ℕ) (o : Option T) (room : List (ℕ × T)) → ((t : ℕ) → i ≤ t → left_for t room ≡ []) → (t : ℕ)
      → i + 1 ≤ t → left_for t (room ++ tagged i o) ≡ []
  more_after i o room none_yet t h = left_append t room (tagged i o)
      ∙ ap (λ zs. zs ++ left_for t (tagged i o)) (none_yet t (omega arith)) ∙ tag_else t i o (λ e. omega arith)

  pub below_more : (i : ℕ) (o : Option T) (room : List (ℕ × T))
      → ((k : ℕ) (x : ℕ × T) → get_elem? room k ≡ some x → x.0 < i) → (k : ℕ) (x : ℕ × T)
      → get_elem? (room ++ tagged i o) k ≡ some x → x.0 < i + 1
  below_more i None room old k x e = let h = old k x (ap (λ xs. get_elem? xs k) (sym (append_all room)) ∙ e) in
      omega (arith, h)
  below_more i (Some v) room old k x e =
      ⊎_elim (λ was. let h = old k x was in omega (arith, h)) (λ now. let h : i ≡ x.0 = ap (λ y. y.0) now.1 in
      omega (arith, h)) (at_end room (i, v) x k e)

  pub rises_more : (i : ℕ) (o : Option T) (room : List (ℕ × T)) → Rises room
      → ((k : ℕ) (x : ℕ × T) → get_elem? room k ≡ some x → x.0 < i) → Rises (room ++ tagged i o)
  rises_more i None room r old = subst Rises (sym (append_all room)) r
  rises_more i (Some v) room r old = λ j k x y ex ey h. ⊎_elim
      (λ wasy. ⊎_elim (λ wasx. r j k x y wasx wasy h) (λ nowx. let far = there room k y wasy in
      absurd (omega (arith, nowx.0))) (at_end room (i, v) x j ex))
      (λ nowy. ⊎_elim (λ wasx. let low = old j x wasx in
      let same : i ≡ y.0 = ap (λ z. z.0) nowy.1 in
      omega (arith, low, same)) (λ nowx. absurd (omega (arith, nowx.0, nowy.0))) (at_end room (i, v) x j ex))
      (at_end room (i, v) y k ey)

  pub rises_none : (room : List (ℕ × T)) → room ≡ [] → Rises room
  rises_none room e = λ j k x y ex ey h. absurd (some-ne-none x (sym ex ∙ ap (λ xs. get_elem? xs j) e))

  pub below_none : (i : ℕ) (room : List (ℕ × T)) → room ≡ [] → (k : ℕ) (x : ℕ × T) → get_elem? room k ≡ some x → x.0 < i
  below_none i room e k x at = absurd (some-ne-none x (sym at ∙ ap (λ xs. get_elem? xs k) e))
