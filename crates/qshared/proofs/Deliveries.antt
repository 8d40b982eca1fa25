-- Views of deliveries as views of their completions.
use Rattle.qshared.proofs.Common.{◌≡◌, ℕ, zero, suc, ◌<◌, List, [], ◌∷◌, ◌++◌, length, map, set, get_or, refl, ap, sym}
use Rattle.qshared.proofs.Common.{◌∙◌, subst, false, true, Some, length-map, replicate, Completion}
use Rattle.qshared.proofs.Common.{KernelView, CellView, idle_line, line, opened_kernel_view, cancelled_kernel_view}
use Rattle.qshared.proofs.Common.{put_kernel_view, seated_kernel_view, kernel_view, IsBusy, left_for, AreBelow}
use Rattle.qshared.proofs.Common.{inl, inr, Option, Member, eqb, Bool, cond}
use Rattle.std.specs.Prelude.{IfSome, MatchBool, MatchOption}
use Rattle.qshared.specs.Delivered.{completions_in, line_of, view_of, ArePut, IsDelivered}
use Rattle.qshared.specs.declared.delivery.Delivery.{Delivery}
use Rattle.qhandoff.specs.declared.seats.KernelSeat.{KernelSeat}
use Rattle.qhandoff.specs.Words as cells
use Rattle.qshared.proofs.Rows.{map_snoc, origin}
use Rattle.qshared.proofs.Turns.{heads, tails, not_nil}

map_set : {A B : Type 0} (f : A → B) (xs : List A) (i : ℕ) (a : A) → map f (set xs i a) ≡ set (map f xs) i (f a)
map_set f [] i a = refl
map_set f (x ∷ xs) zero a = refl
map_set f (x ∷ xs) (suc i) a = ap (λ ys. f x ∷ ys) (map_set f xs i a)

map_get : {A B : Type 0} (f : A → B) (xs : List A) (i : ℕ) (a : A) → get_or (map f xs) i (f a) ≡ f (get_or xs i a)
map_get f [] i a = refl
map_get f (x ∷ xs) zero a = refl
map_get f (x ∷ xs) (suc i) a = map_get f xs i a

map_replicate : {A B : Type 0} (f : A → B) (n : ℕ) (a : A) → map f (replicate n a) ≡ replicate n (f a)
map_replicate f zero a = refl
map_replicate f (suc n) a = ap (λ ys. f a ∷ ys) (map_replicate f n a)

pub line_is : (d : KernelView Delivery) (i : ℕ) → line (view_of d) i ≡ line_of (line d i)
line_is d i = map_get line_of d.lines i idle_line

pub seated_is : (k n : ℕ) → view_of (seated_kernel_view k n) ≡ seated_kernel_view k n
seated_is k n = ap (λ ls. record { seats = k; lines = ls }) (map_replicate line_of n idle_line)

-- the view of a token has a line for each cell
pub wide_lines : (s : KernelSeat Delivery) → length (kernel_view s).lines ≡ s.seat.table_id.slots
wide_lines s = length-map (cells.kernel_view s).lines line_of ∙ s.knows.1

-- a line is changed
with_is : (d : KernelView Delivery) (i : ℕ) (l : CellView Delivery) (f : CellView Completion → CellView Completion)
    → line_of l ≡ f (line_of (line d i))
    → view_of (record d { lines = set d.lines i l })
    ≡ record (view_of d) { lines = set (view_of d).lines i (f (line (view_of d) i)) }
with_is d i l f e = ap (λ (ls : List (CellView Completion)). record { seats = d.seats; lines = ls })
    (map_set line_of d.lines i l
    ∙ ap (λ z. set (map line_of d.lines) i z) (e ∙ ap f (sym (line_is d i))))

pub opened_is : (d : KernelView Delivery) (i : ℕ) → view_of (opened_kernel_view d i) ≡ opened_kernel_view (view_of d) i
opened_is d i = with_is d i (record (line d i) { opened = true }) (λ z. record z { opened = true }) refl

pub cancelled_is : (d : KernelView Delivery) (i : ℕ)
    → view_of (cancelled_kernel_view d i) ≡ cancelled_kernel_view (view_of d) i
cancelled_is d i = with_is d i (record (line d i) { opened = false }) (λ z. record z { opened = false }) refl

pub put_is : (d : KernelView Delivery) (i : ℕ) (x : Delivery)
    → view_of (put_kernel_view d i x) ≡ put_kernel_view (view_of d) i x.completion
put_is d i x =
    with_is d i (record (line d i) { opened = false; putting = false; put = (line d i).put ++ x ∷ [] })
    (λ z. record z { opened = false; putting = false; put = z.put ++ x.completion ∷ [] })
    (ap (λ (ys : List Completion). record (line_of (line d i)) { opened = false; putting = false; put = ys })
    (map_snoc (λ y. y.completion) (line d i).put x))

none_in : (xs : List Delivery) → completions_in xs ≡ [] → xs ≡ []
none_in [] e = refl
none_in (x ∷ xs) e = absurd (not_nil x.completion (completions_in xs) e)

pub busy_is : (d : KernelView Delivery) (i : ℕ) → IsBusy (line d i) → IsBusy (line (view_of d) i)
busy_is d i b = subst IsBusy (sym (line_is d i)) (elim b [
  | inl opened ↦ inl opened
  | inr full ↦ inr (λ none. full (none_in (line d i).put none))
])

-- the effect of opening a cell
pub opened_told : (b : Bool) (d d' : KernelView Delivery) (i : ℕ)
    → MatchBool b ((d' ≡ opened_kernel_view d i) × ((line d i).opened ≡ false)) ((d' ≡ d) × IsBusy (line d i))
    → MatchBool b ((view_of d' ≡ opened_kernel_view (view_of d) i) × ((line (view_of d) i).opened ≡ false))
    ((view_of d' ≡ view_of d) × IsBusy (line (view_of d) i))
opened_told true d d' i (is, closed) =
    (ap view_of is ∙ opened_is d i, ap (λ (l : CellView Completion). l.opened) (line_is d i) ∙ closed)
opened_told false d d' i (is, busy) = (ap view_of is, busy_is d i busy)

-- ---- the last of a list

last_same : {A : Type 0} (xs ys : List A) (x y : A) → xs ++ x ∷ [] ≡ ys ++ y ∷ [] → x ≡ y
last_same [] [] x y e = heads x y [] [] e
last_same [] (b ∷ ys) x y e = absurd (snoc_some ys y (sym (tails x b [] (ys ++ y ∷ []) e))) where
  snoc_some : {A : Type 0} (ys : List A) (y : A) → ys ++ y ∷ [] ≡ [] → ⊥
  snoc_some [] y e = not_nil y [] e
  snoc_some (z ∷ ys) y e = not_nil z (ys ++ y ∷ []) e
last_same (a ∷ xs) [] x y e = absurd (snoc_some xs x (tails a y (xs ++ x ∷ []) [] e)) where
  snoc_some : {A : Type 0} (ys : List A) (y : A) → ys ++ y ∷ [] ≡ [] → ⊥
  snoc_some [] y e = not_nil y [] e
  snoc_some (z ∷ ys) y e = not_nil z (ys ++ y ∷ []) e
last_same (a ∷ xs) (b ∷ ys) x y e = last_same xs ys x y (tails a b (xs ++ x ∷ []) (ys ++ y ∷ []) e)

-- a delivery may be put
pub may_put : (roster : List Member) (history i : ℕ) (d : KernelView Delivery) (x : Delivery)
    → x.seen.name ≡ history
    → IsDelivered roster i ((line (view_of d) i).put ++ x.completion ∷ []) x.completion x.seen.trace
    → ArePut roster history i ((line d i).put ++ x ∷ [])
may_put roster history i d x name is before y e =
    let same : x ≡ y = last_same (line d i).put before x y e in
    let all : completions_in ((line d i).put ++ x ∷ []) ≡ (line (view_of d) i).put ++ x.completion ∷ [] =
    map_snoc (λ z. z.completion) (line d i).put x
    ∙ ap (λ (z : CellView Completion). z.put ++ x.completion ∷ []) (sym (line_is d i)) in
    subst (λ (z : Delivery). (z.seen.name ≡ history)
    × IsDelivered roster i (completions_in ((line d i).put ++ x ∷ [])) z.completion z.seen.trace) same (
      name,
      subst (λ ys. IsDelivered roster i ys x.completion x.seen.trace) (sym all) is,
    )

-- a delivery that was taken
pub polled : (r : Option Delivery) (x : Delivery) (roster : List Member) (history i : ℕ) (had has : List Delivery)
    → r ≡ Some x → MatchOption r (has ≡ had) (λ y. has ≡ had ++ y ∷ [])
    → IfSome r (λ y. ArePut roster history i has)
    → (has ≡ had ++ x ∷ []) × (x.seen.name ≡ history)
    × IsDelivered roster i (completions_in has) x.completion x.seen.trace
polled r x roster history i had has is took put =
    let more : has ≡ had ++ x ∷ [] =
    subst (λ o. MatchOption o (has ≡ had) (λ y. has ≡ had ++ y ∷ [])) is took in
    let all : ArePut roster history i has = subst (λ o. IfSome o (λ y. ArePut roster history i has)) is put in
    let here = all had x more in (more, here.0, here.1)

-- ---- what is left in the cells

-- the completions that are left, each with the index of its cell
abbrev pub left_of : List (ℕ × Delivery) → List (ℕ × Completion)
left_of xs = map (λ x. (x.0, x.1.completion)) xs

choose : (b : Bool) (x : Delivery) (xs : List Delivery)
    → completions_in (cond b (x ∷ xs) xs) ≡ cond b (x.completion ∷ completions_in xs) (completions_in xs)
choose true x xs = refl
choose false x xs = refl

pub left_is : (t : ℕ) (xs : List (ℕ × Delivery)) → left_for t (left_of xs) ≡ completions_in (left_for t xs)
left_is t [] = refl
left_is t (x ∷ xs) = ap (λ ys. cond (eqb x.0 t) (x.1.completion ∷ ys) ys) (left_is t xs)
    ∙ sym (choose (eqb x.0 t) x.1 (left_for t xs))

pub left_rises : (xs : List (ℕ × Delivery)) → cells.Rises xs → cells.Rises (left_of xs)
left_rises xs r j k x y ex ey h =
    let o = origin (λ (z : ℕ × Delivery). (z.0, z.1.completion)) xs j x ex in
    let p = origin (λ (z : ℕ × Delivery). (z.0, z.1.completion)) xs k y ey in
    subst (λ (z : (ℕ × Completion) × (ℕ × Completion)). z.0.0 < z.1.0) (λ i. (o.2 i, p.2 i)) (r j k o.0 p.0 o.1 p.1 h)

pub left_below : (n : ℕ) (xs : List (ℕ × Delivery)) → AreBelow n xs → AreBelow n (left_of xs)
left_below n xs b k x e =
    let o = origin (λ (z : ℕ × Delivery). (z.0, z.1.completion)) xs k x e in
    subst (λ (z : ℕ × Completion). z.0 < n) o.2 (b k o.0 o.1)

pub left_length : (xs : List (ℕ × Delivery)) → length (left_of xs) ≡ length xs
left_length [] = refl
left_length (x ∷ xs) = ap (λ (n : ℕ). suc n) (left_length xs)

pub left_all : (xs : List (ℕ × Delivery)) → map (λ x. x.1.completion) xs ≡ map (λ x. x.1) (left_of xs)
left_all [] = refl
left_all (x ∷ xs) = ap (λ ys. x.1.completion ∷ ys) (left_all xs)

pub append_in : (xs ys : List Delivery) → completions_in (xs ++ ys) ≡ completions_in xs ++ completions_in ys
append_in [] ys = refl
append_in (x ∷ xs) ys = ap (λ zs. x.completion ∷ zs) (append_in xs ys)

-- what was taken and what is left is what was put
pub left_told : (t : ℕ) (taken : List Delivery) (xs : List (ℕ × Delivery)) (d : KernelView Delivery)
    → taken ++ left_for t xs ≡ (line d t).put
    → completions_in taken ++ left_for t (left_of xs) ≡ (line (view_of d) t).put
left_told t taken xs d e = ap (λ ys. completions_in taken ++ ys) (left_is t xs)
    ∙ sym (append_in taken (left_for t xs)) ∙ ap completions_in e
    ∙ ap (λ (z : CellView Completion). z.put) (sym (line_is d t))
