-- Lemmas about lists and options of any type.
use Rattle.std.proofs.Common.{◌≡◌, ◌≤◌, ℕ, suc, List, [], ◌∷◌, ◌++◌, map, refl, ap, sym, ◌∙◌, arith, length, cond, Bool}
use Rattle.std.proofs.Common.{true, false, eqb, inl, inr}
use Rattle.std.specs.Prelude.{Option, None, Some, is_some, ◌&&◌, ◌||◌, filter}
use Rattle.std.specs.List.{list_any, filter_map, cons_option, AllByRecursion}
use Rattle.std.proofs.lemmas.Bool.{cases_Bool, eqb-true, eqb-false, eq-eqb, ne_eqb, true≢false}
use Rattle.std.specs.Option.{option_or}

-- ---- tests

pub eqb_same : (n : ℕ) → eqb n n ≡ true
eqb_same n = eq-eqb n n refl

pub eqb_either : (a b : ℕ) → eqb a b ≡ eqb b a
eqb_either a b =
    elim (eqb a b) as (λ x. eqb a b ≡ x → x ≡ eqb b a) [
      | true ↦ λ e. sym (eq-eqb b a (sym (eqb-true a b e)))
      | false ↦ λ e. sym (ne_eqb b a (λ s. eqb-false a b e (sym s)))
    ] refl

pub cond_same : {A : Type 0} (b : Bool) (x : A) → cond b x x ≡ x
cond_same true x = refl
cond_same false x = refl

pub some_of : {A : Type 0} (o : Option A) → is_some o ≡ true → (x : A) × (o ≡ Some x)
some_of None e = absurd (true≢false (sym e))
some_of (Some x) e = (x, refl)

-- an option that isn't Some is None
pub none_of : {A : Type 0} (o : Option A) → is_some o ≡ false → o ≡ None
none_of None e = refl
none_of (Some x) e = absurd (true≢false e)

pub or_none : {A : Type 0} (o : Option A) → option_or o None ≡ o
or_none None = refl
or_none (Some x) = refl

-- ---- list_any of a filter_map

pub any_filter_map : {X Y : Type 0} (p : Y → Bool) (f : X → Option Y) (xs : List X)
    → ((x : X) (y : Y) → f x ≡ Some y → p y ≡ false) → list_any p (filter_map f xs) ≡ false
any_filter_map p f [] h = refl
any_filter_map {X} {Y} p f (x ∷ xs) h =
    elim (f x) as (λ o. f x ≡ o → list_any p (cons_option o (filter_map f xs)) ≡ false) [
      | None ↦ λ e. any_filter_map p f xs h
      | Some y ↦ λ e. rw (h x y e) (any_filter_map p f xs h)
    ] refl

-- u is one of these numbers
abbrev pub is_among : List ℕ → ℕ → Bool
is_among xs u = list_any (λ v. eqb v u) xs

pub any_filter_map_at : {Y : Type 0} (p : Y → Bool) (f : ℕ → Option Y) (xs : List ℕ) (u : ℕ) (y : Y)
    → is_among xs u ≡ true → f u ≡ Some y → p y ≡ true → list_any p (filter_map f xs) ≡ true
any_filter_map_at p f [] u y h e q = absurd (true≢false (sym h))
any_filter_map_at {Y} p f (x ∷ xs) u y h e q =
    elim (cases_Bool (eqb x u)) [
      | inl same ↦ let at : f x ≡ Some y = ap f (eqb-true x u same) ∙ e in rw (at, q) refl
      | inr other ↦
          let rest : list_any p (filter_map f xs) ≡ true = any_filter_map_at p f xs u y (rw other at h) e q in
          elim (f x) as (λ o. list_any p (cons_option o (filter_map f xs)) ≡ true) [
            | None ↦ rest
            | Some z ↦ elim (p z) as (λ b. (b || list_any p (filter_map f xs)) ≡ true) [ true ↦ refl | false ↦ rest ]
          ]
    ]

-- ---- list_any

pub any_never : {X : Type 0} (p : X → Bool) (xs : List X) → ((x : X) → p x ≡ false) → list_any p xs ≡ false
any_never p [] h = refl
any_never p (x ∷ xs) h = rw (h x) (any_never p xs h)

-- if no number but u may pass the test, some number passes it exactly if u does
pub any_only : (p : ℕ → Bool) (xs : List ℕ) (u : ℕ) → is_among xs u ≡ true → ((v : ℕ) → eqb v u ≡ false → p v ≡ false)
    → list_any p xs ≡ p u
any_only p [] u m h = absurd (true≢false (sym m))
any_only p (x ∷ xs) u m h =
    elim (cases_Bool (eqb x u)) [
      | inl same ↦
          let at : p x ≡ p u = ap p (eqb-true x u same) in
          elim (p u) as (λ b. p u ≡ b → (p x || list_any p xs) ≡ b) [
            | true ↦ λ e. rw (at ∙ e) refl
            | false ↦ λ e. rw (at ∙ e)
                (any_never p xs
                (λ v. elim (eqb v u) as (λ b. eqb v u ≡ b → p v ≡ false) [
                  | true ↦ λ s. ap p (eqb-true v u s)
                      ∙ e
                  | false ↦ λ o. h v o
                ] refl))
          ] refl
      | inr other ↦ rw (h x other) (any_only p xs u (rw other at m) h)
    ]

-- ---- AllByRecursion

pub all_filter_map : {X Y : Type 0} (P : Y → Type 0) (f : X → Option Y) (xs : List X)
    → ((x : X) (y : Y) → f x ≡ Some y → P y) → AllByRecursion P (filter_map f xs)
all_filter_map P f [] h = tt
all_filter_map {X} {Y} P f (x ∷ xs) h =
    elim (f x) as (λ o. f x ≡ o → AllByRecursion P (cons_option o (filter_map f xs))) [
      | None ↦ λ e. all_filter_map P f xs h
      | Some y ↦ λ e. (h x y e, all_filter_map P f xs h)
    ] refl

pub all_append : {X : Type 0} (P : X → Type 0) (xs ys : List X) → AllByRecursion P xs → AllByRecursion P ys
    → AllByRecursion P (xs ++ ys)
all_append P [] ys a b = b
all_append P (x ∷ xs) ys a b = (a.0, all_append P xs ys a.1 b)

pub all_map : {X Y : Type 0} (P : Y → Type 0) (f : X → Y) (xs : List X) → AllByRecursion (λ x. P (f x)) xs
    → AllByRecursion P (map f xs)
all_map P f [] a = tt
all_map P f (x ∷ xs) a = (a.0, all_map P f xs a.1)

pub all_filter : {X : Type 0} (P : X → Type 0) (p : X → Bool) (xs : List X) → AllByRecursion P xs
    → AllByRecursion P (filter p xs)
all_filter P p [] a = tt
all_filter P p (x ∷ xs) a =
    elim (p x) as (λ b. AllByRecursion P (cond b (x ∷ filter p xs) (filter p xs))) [
      | true ↦ (a.0, all_filter P p xs a.1)
      | false ↦ all_filter P p xs a.1
    ]

-- each element that a filter keeps also passes the test
pub all_passing : {X : Type 0} (P : X → Type 0) (p : X → Bool) (xs : List X) → AllByRecursion P xs
    → AllByRecursion (λ x. P x × (p x ≡ true)) (filter p xs)
all_passing P p [] a = tt
all_passing {X} P p (x ∷ xs) a =
    elim (p x) as (λ b. p x ≡ b → AllByRecursion (λ x. P x × (p x ≡ true)) (cond b (x ∷ filter p xs) (filter p xs))) [
      | true ↦ λ e. ((a.0, e), all_passing P p xs a.1)
      | false ↦ λ e. all_passing P p xs a.1
    ] refl

pub all_more : {X : Type 0} (P Q : X → Type 0) (xs : List X) → AllByRecursion P xs → ((x : X) → P x → Q x)
    → AllByRecursion Q xs
all_more P Q [] a h = tt
all_more P Q (x ∷ xs) a h = (h x a.0, all_more P Q xs a.1 h)

pub all_every : {X : Type 0} (P : X → Type 0) (xs : List X) → ((x : X) → P x) → AllByRecursion P xs
all_every P [] h = tt
all_every P (x ∷ xs) h = (h x, all_every P xs h)

-- ---- the length of a filter_map

pub length-filter_map : {X Y : Type 0} (f : X → Option Y) (xs : List X) → length (filter_map f xs) ≤ length xs
length-filter_map f [] = omega arith
length-filter_map f (x ∷ xs) =
    let rest : length (filter_map f xs) ≤ length xs = length-filter_map f xs in
    elim (f x) as (λ o. length (cons_option o (filter_map f xs)) ≤ suc (length xs)) [
      | None ↦ omega arith
      | Some y ↦
          omega arith
    ]

-- ---- filters

-- tests that agree on each element keep the same elements
pub filter_same : {X : Type 0} (p q : X → Bool) (xs : List X) → AllByRecursion (λ x. p x ≡ q x) xs
    → filter p xs ≡ filter q xs
filter_same p q [] h = refl
filter_same p q (x ∷ xs) h = rw (h.0, filter_same p q xs h.1) refl

-- two filters, one after the other, keep the elements that pass both tests
pub filter_twice : {X : Type 0} (p q : X → Bool) (xs : List X) → filter q (filter p xs) ≡ filter (λ x. p x && q x) xs
filter_twice p q [] = refl
filter_twice {X} p q (x ∷ xs) =
    elim (p x) as (λ b. filter q (cond b (x ∷ filter p xs) (filter p xs)) ≡ cond (b && q x)
    (x ∷ filter (λ x. p x && q x) xs) (filter (λ x. p x && q x) xs)) [
      | true ↦ ap (λ (rest : List X). cond (q x) (x ∷ rest) rest) (filter_twice p q xs)
      | false ↦ filter_twice p q xs
    ]

-- a test that each element passes keeps all
pub filter_all : {X : Type 0} (p : X → Bool) (xs : List X) → AllByRecursion (λ x. p x ≡ true) xs → filter p xs ≡ xs
filter_all p [] h = refl
filter_all p (x ∷ xs) h = rw (h.0, filter_all p xs h.1) refl

-- a test that every value passes keeps all
pub filter_whole : {X : Type 0} (p : X → Bool) (xs : List X) → ((x : X) → p x ≡ true) → filter p xs ≡ xs
filter_whole p xs h = filter_all p xs (all_every (λ x. p x ≡ true) xs h)
