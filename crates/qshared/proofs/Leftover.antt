-- The completions that are left in the cells, without the cells.
use Rattle.qshared.proofs.Common.{◌≡◌, ℕ, zero, suc, ◌+◌, ◌<◌, ◌≤◌, List, [], ◌∷◌, ◌++◌, length, map, get_or, refl, ap}
use Rattle.qshared.proofs.Common.{sym, subst, ◌∙◌, cond, Bool, true, false, eqb, inl, inr, arith, Some, AllByRecursion}
use Rattle.qshared.proofs.Common.{cases_Bool, eqb-true, eqb-false, eq-eqb, ne_eqb, true≢false, same_Some, some}
use Rattle.qshared.proofs.Common.{some-injective, some-ne-none, get_elem?, all_more, Completion, Rises, all_at}
use Rattle.qshared.proofs.Common.{among_member, AreBelow, left_for, took, Member, ThreadSeat, Delivery, Call, Extends}
use Rattle.qshared.proofs.Common.{IsSince}
use Rattle.qshared.proofs.Common.{calls_of, AreDue, AreKnown, AreLater, at_once, collected, completions_due, in_turn}
use Rattle.qshared.proofs.Common.{later_due, later_of, of_thread, place, at_map, RiseByThread}
use Rattle.qmodel.specs.Trace.{Trace}
use Rattle.qhandoff.specs.Words as cells
use Rattle.qrules.proofs.Words.Facts.{threads_of}
use Rattle.qshared.proofs.Turns.{extends_since, left_over, once_same}
use Rattle.qshared.proofs.Places.{IsAt, at_among, is_at, place_among, place_at, place_below, place_same}

-- a completion with the index of its cell
abbrev Left : Type 0
Left = ℕ × Completion

-- ---- properties of each element, and order

each : {A : Type 0} (P : A → Type 0) (xs : List A) → ((k : ℕ) (x : A) → get_elem? xs k ≡ some x → P x)
    → AllByRecursion P xs
each P [] of = tt
each P (x ∷ xs) of = (of 0 x refl, each P xs (λ k y at. of (suc k) y at))

-- the indices are in ascending order
abbrev AreRising : List Left → Type 0
AreRising [] = Unit {0}
AreRising (x ∷ xs) = AllByRecursion (λ y. x.0 < y.0) xs × AreRising xs

rising : (xs : List Left) → cells.Rises xs → AreRising xs
rising [] r = tt
rising (x ∷ xs) r = (
  each (λ y. x.0 < y.0) xs (λ k y at. r 0 (suc k) x y refl at (omega arith)),
  rising xs
      (λ j k y z at at' less. r (suc j) (suc k) y z at at' (omega arith)),
)

-- a list of ascending numbers that are at least b and below n has at most n - b elements
many_rising : (b n : ℕ) (xs : List Left) → AllByRecursion (λ x. b ≤ x.0) xs → AllByRecursion (λ x. x.0 < n) xs
    → AreRising xs → b ≤ n → length xs + b ≤ n
many_rising b n [] low below r less = omega (arith, less)
many_rising b n (x ∷ xs) low below r less =
    let here : b ≤ x.0 = low.0 in
    let high : x.0 < n = below.0 in
    let rest : length xs + (x.0 + 1) ≤ n =
    many_rising (x.0 + 1) n xs (all_more _ _ xs r.0 (λ y above. omega (arith, above))) below.1 r.1 (omega arith) in
    omega arith

pub few_left : (n : ℕ) (xs : List Left) → cells.Rises xs → AreBelow n xs → length xs ≤ n
few_left n xs r below = let m =
    many_rising 0 n xs (each (λ x. 0 ≤ x.0) xs (λ k x at. omega arith)) (each (λ x. x.0 < n) xs below) (rising xs r)
    (omega arith) in omega (arith, m)

-- ---- each completion goes to its own thread

own_filtered : (t : ℕ) (X : List Completion) → AllByRecursion (λ x. x.thread ≡ t) (of_thread t X)
own_filtered t [] = tt
own_filtered t (x ∷ X) =
    elim (eqb x.thread t) as
    (λ b. eqb x.thread t ≡ b → AllByRecursion (λ y. y.thread ≡ t) (cond b (x ∷ of_thread t X) (of_thread t X))) [
      | true ↦ λ e. (eqb-true x.thread t e, own_filtered t X)
      | false ↦ λ e. own_filtered t X
    ] refl

all_append : {A : Type 0} (P : A → Type 0) (xs ys : List A) → AllByRecursion P xs → AllByRecursion P ys
    → AllByRecursion P (xs ++ ys)
all_append P [] ys a b = b
all_append P (x ∷ xs) ys a b = (a.0, all_append P xs ys a.1 b)

all_behind : {A : Type 0} (P : A → Type 0) (xs ys : List A) → AllByRecursion P (xs ++ ys) → AllByRecursion P ys
all_behind P [] ys a = a
all_behind P (x ∷ xs) ys a = all_behind P xs ys a.1

own_later : (caller t : ℕ) (X : List Completion) → AllByRecursion (λ x. x.thread ≡ t) (later_of caller t X)
own_later caller t X =
    elim (eqb caller t) as (λ b. AllByRecursion (λ x. x.thread ≡ t) (cond b [] (of_thread t X))) [
      | true ↦ tt
      | false ↦
          own_filtered t X
    ]

own_due : (past : Trace) (t : ℕ) → AllByRecursion (λ x. x.thread ≡ t) (later_due past t)
own_due [] t = tt
own_due (e ∷ past) t = all_append _ (later_due past t) (later_of e.thread t e.completions) (own_due past t)
    (own_later e.thread t e.completions)

-- ---- each completion is left for its own thread

without_head : {A : Type 0} (P : A → Type 0) (b : Bool) (x : A) (xs : List A) → AllByRecursion P (cond b (x ∷ xs) xs)
    → AllByRecursion P xs
without_head P true x xs a = a.1
without_head P false x xs a = a

with_head : {A : Type 0} (P : A → Type 0) (b : Bool) (x : A) (xs : List A) → b ≡ true
    → AllByRecursion P (cond b (x ∷ xs) xs) → P x
with_head P true x xs e a = a.0
with_head P false x xs e a = absurd (true≢false (sym e))

-- a property of all completions that are left for a cell is a property of each of them
left_one : (P : Completion → Type 0) (xs : List Left) (k : ℕ) (x : Left) → get_elem? xs k ≡ some x
    → AllByRecursion P (left_for x.0 xs) → P x.1
left_one P [] k x at all = absurd (some-ne-none x (sym at))
left_one P (y ∷ ys) zero x at all =
    let same : y ≡ x = some-injective y x at in
    subst (λ (z : Left). P z.1) same
    (with_head P (eqb y.0 x.0) y.1 (left_for x.0 ys) (eq-eqb y.0 x.0 (ap (λ (z : Left). z.0) same)) all)
left_one P (y ∷ ys) (suc k) x at all = left_one P ys k x at (without_head P (eqb y.0 x.0) y.1 (left_for x.0 ys) all)

-- ---- without the indices of the cells

-- the completion's thread has this cell
abbrev IsPlaced : List ℕ → Left → Type 0
IsPlaced ts x = place ts x.1.thread ≡ Some x.0

left_same : (ts : List ℕ) (t i : ℕ) → place ts t ≡ Some i → (xs : List Left) → AllByRecursion (IsPlaced ts) xs
    → of_thread t (map (λ x. x.1) xs) ≡ left_for i xs
left_same ts t i at [] all = refl
left_same ts t i at (x ∷ xs) all = elim (cases_Bool (eqb x.1.thread t)) [
  | inl e ↦
      let here : x.0 ≡ i = same_Some x.0 i (sym all.0 ∙ ap (place ts) (eqb-true x.1.thread t e) ∙ at) in
      rw (e, eq-eqb x.0 i here) (ap (λ ys. x.1 ∷ ys) (left_same ts t i at xs all.1))
  | inr e ↦
      let other : eqb x.0 i ≡ false =
      ne_eqb x.0 i (λ s. eqb-false x.1.thread t e (place_same ts x.1.thread t i (all.0 ∙ ap Some s) at)) in
      rw (e, other) (left_same ts t i at xs all.1)
]

-- threads at ascending indices are in ascending order
at_rises : (ts : List ℕ) (u v i j : ℕ) → Rises ts → IsAt ts u i → IsAt ts v j → i < j → u < v
at_rises [] u v i j r a b less = absurd a
at_rises (w ∷ ts) u v zero zero r a b less = absurd (omega arith)
at_rises (w ∷ ts) u v zero (suc j) r a b less = subst (λ k. k < v) a (all_at w v ts r.0 (at_among ts v j b.1))
at_rises (w ∷ ts) u v (suc i) zero r a b less = absurd (omega arith)
at_rises (w ∷ ts) u v (suc i) (suc j) r a b less = at_rises ts u v i j r.1 a.1 b.1 (omega arith)

left_rises : (ts : List ℕ) → Rises ts → (xs : List Left) → AllByRecursion (IsPlaced ts) xs → AreRising xs
    → RiseByThread (map (λ x. x.1) xs)
left_rises ts r [] all up = tt
left_rises ts r (x ∷ xs) all up = (above xs all.1 up.0, left_rises ts r xs all.1 up.1) where
  above : (ys : List Left) → AllByRecursion (IsPlaced ts) ys → AllByRecursion (λ y. x.0 < y.0) ys
      → AllByRecursion (λ y. x.1.thread < y.thread) (map (λ y. y.1) ys)
  above [] a b = tt
  above (y ∷ ys) a b = (
    at_rises ts x.1.thread y.1.thread x.0 y.0 r (is_at ts x.1.thread x.0 all.0)
        (is_at ts y.1.thread y.0 a.0) b.0,
    above ys a.1 b.1,
  )

-- ---- the completions of the history are the completions that were taken and the completions that are left

module _ (ts : List ℕ) (past : Trace) (xs : List Left) (rises : Rises ts) (up : cells.Rises xs)
    (below : AreBelow (length ts) xs)
    (took : ℕ → List Completion) (told : (t i : ℕ) → place ts t ≡ Some i → took i ++ left_for i xs ≡ later_due past t)
  where
    placed : AllByRecursion (IsPlaced ts) xs
    placed = each (IsPlaced ts) xs (λ k x at.
        let t = get_or ts x.0 0 in
        let here : place ts t ≡ Some x.0 = place_at ts x.0 0 rises (below k x at) in
        let own : AllByRecursion (λ y. y.thread ≡ t) (left_for x.0 xs) =
        all_behind _ (took x.0) (left_for x.0 xs)
        (subst (AllByRecursion (λ y. y.thread ≡ t)) (sym (told t x.0 here)) (own_due past t)) in
        ap (place ts) (left_one (λ y. y.thread ≡ t) xs k x at own) ∙ here)

    pub left_known : (roster : List Member) → ts ≡ threads_of roster → AreKnown roster (map (λ x. x.1) xs)
    left_known roster is = known xs placed where
      known : (ys : List Left) → AllByRecursion (IsPlaced ts) ys → AreKnown roster (map (λ x. x.1) ys)
      known [] all = tt
      known (y ∷ ys) all = (
        among_member roster y.1.thread
            (place_among (threads_of roster) y.1.thread y.0 (ap (λ us. place us y.1.thread) (sym is) ∙ all.0)),
        known ys all.1,
      )

    pub left_by_thread : RiseByThread (map (λ x. x.1) xs)
    left_by_thread = left_rises ts rises xs placed (rising xs up)

    pub left_due : (t i : ℕ) → place ts t ≡ Some i → took i ++ of_thread t (map (λ x. x.1) xs) ≡ later_due past t
    left_due t i at = ap (λ ys. took i ++ ys) (left_same ts t i at xs placed) ∙ told t i at

-- ---- all completions of a thread

-- the completions of one thread, by the prefix that its port last saw
pub port_due : (past seen last : Trace) (asked : List Call) (u t : ℕ) (took left : List Completion)
    (pending blocked : Bool) → u ≡ t → Extends past seen → IsSince seen last → calls_of past t ≡ asked
    → calls_of last u ≡ asked
    → AreLater pending (at_once last u) took → AreLater blocked (at_once past t) (later_due past t)
    → in_turn (at_once past t) (later_due past t) ≡ completions_due past t → took ++ left ≡ later_due past t
    → collected last u took ++ left ≡ completions_due past t
port_due past seen last asked u t took left pending blocked same extends since now then mine owed whole told =
    let once : at_once past t ≡ at_once last t =
    once_same past seen last asked t extends (extends_since seen last since) now
    (ap (calls_of last) (sym same) ∙ then) in
    ap (λ v. collected last v took ++ left) same
    ∙ left_over (at_once last t) took left (later_due past t) pending blocked
    (subst (λ v. AreLater pending (at_once last v) took) same mine)
    (subst (λ os. AreLater blocked os (later_due past t)) once owed) told
    ∙ ap (λ os. in_turn os (later_due past t)) (sym once) ∙ whole

module _ {P : Type 0} (seat : P → ThreadSeat Delivery) (mine : P → List Completion) (roster : List Member)
    (past : Trace) (left : List Completion) where
  there : (ports : List P) (i : ℕ) → i < length ports → (p : P) × (get_elem? ports i ≡ some p)
  there [] i below = absurd (omega arith)
  there (p ∷ ports) zero below = (p, refl)
  there (p ∷ ports) (suc i) below = there ports i (omega arith)

  pub at_port : {A : Type 0} (f : P → A) (ports : List P) (i : ℕ) (p : P) (d : A) → get_elem? ports i ≡ some p
      → get_or (map f ports) i d ≡ f p
  at_port f [] i p d e = absurd (some-ne-none p (sym e))
  at_port f (q ∷ ports) zero p d e = ap f (some-injective q p e)
  at_port f (q ∷ ports) (suc i) p d e = at_port f ports i p d e

  -- the completions of all threads
  pub all_due : (ports : List P) → length ports ≡ length (threads_of roster)
      → ((t k : ℕ) (p : P) → get_elem? ports k ≡ some p → place (threads_of roster) t ≡ Some k
      → took (some (seat p)) ++ of_thread t left ≡ later_due past t
      → mine p ++ of_thread t left ≡ completions_due past t)
      → ((t i : ℕ) → place (threads_of roster) t ≡ Some i
      → took (get_elem? (map seat ports) i) ++ of_thread t left ≡ later_due past t)
      → AreDue roster (map mine ports) left past
  all_due ports many each cells t i at =
      let below : i < length (threads_of roster) = place_below (threads_of roster) t i at in
      let p = there ports i (omega (arith, below, many)) in
      ap (λ ys. ys ++ of_thread t left) (at_port mine ports i p.0 [] p.1)
      ∙ each t i p.0 p.1 at (ap (λ o. took o ++ of_thread t left) (sym (at_map seat ports i p.0 p.1)) ∙ cells t i at)
