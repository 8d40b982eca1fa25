-- Completions that are put one after another.
use Rattle.qshared.proofs.Common.{◌≡◌, ℕ, ◌<◌, List, [], ◌∷◌, ◌++◌, length, refl, ap, sym, subst, ◌∙◌, cond, Bool, true}
use Rattle.qshared.proofs.Common.{false, eqb, inl, inr, append-nil, append_assoc, None, Option, Some, ◌||◌}
use Rattle.qshared.proofs.Common.{AllByRecursion, cases_Bool, eqb-true, eqb-false, eq-eqb, ne_eqb, true≢false}
use Rattle.qshared.proofs.Common.{list_any-append, same_Some, Completion, KernelView, CellView, line}
use Rattle.qshared.proofs.Common.{cancelled_kernel_view, put_kernel_view, one, line_else, line_here, gets, AreApart}
use Rattle.qshared.proofs.Common.{later_of, place, of_thread, IsDelivered, MayArrive, MayPut, Handed, Member}
use Rattle.qmodel.specs.Trace.{Trace}
use Rattle.std.proofs.lemmas.List.Elements.{filter-append}
use Rattle.qshared.proofs.Places.{place_same}
use Rattle.qshared.proofs.Turns.{of_none}

pub gets_here : (x : Completion) (t : ℕ) → eqb x.thread t ≡ true → gets (x ∷ []) t ≡ true
gets_here x t e = rw e refl

cond_nil : (b : Bool) → cond b [] (of_thread 0 []) ≡ of_thread 0 []
cond_nil true = refl
cond_nil false = refl

-- a completion that is put for another thread than the caller
pub one_handed : (ts : List ℕ) (caller : ℕ) (x : Completion) (i : ℕ) (d : KernelView Completion)
    → eqb x.thread caller ≡ false → place ts x.thread ≡ Some i → i < length d.lines
    → Handed ts caller (x ∷ []) d (put_kernel_view d i x)
one_handed ts caller x i d foreign at near =
    let l = line d i in
    let l' : CellView Completion = record l { opened = false; putting = false; put = l.put ++ x ∷ [] } in
    let same_place = λ (t j : ℕ) (is : place ts t ≡ Some j) (e : eqb x.thread t ≡ true). same_Some j i
    (sym is ∙ ap (place ts) (sym (eqb-true x.thread t e)) ∙ at) in
    let other_place =
    λ (t j : ℕ) (is : place ts t ≡ Some j) (e : eqb x.thread t ≡ false) (s : j ≡ i). eqb-false x.thread t e
    (place_same ts x.thread t j (subst (λ k. place ts x.thread ≡ Some k) (sym s) at) is) in
    record {
      put = λ t j is. elim (cases_Bool (eqb x.thread t)) [
        | inl e ↦
            let s = same_place t j is e in
            let other : eqb caller t ≡ false =
            ne_eqb caller t (λ c. eqb-false x.thread caller foreign (eqb-true x.thread t e ∙ sym c)) in
            ap (λ z. z.put) (line_here d i l' j s near) ∙ ap (λ k. (line d k).put ++ x ∷ []) (sym s)
            ∙ rw (other, e) refl
        | inr e ↦ ap (λ z. z.put) (line_else d i l' j (other_place t j is e)) ∙ sym (append-nil (line d j).put)
            ∙ ap (λ ys. (line d j).put ++ ys) (rw e (sym (cond_nil (eqb caller t))))
      ];
      opened = λ t j is. elim (cases_Bool (eqb x.thread t)) [
        | inl e ↦ ap (λ z. z.opened) (line_here d i l' j (same_place t j is e) near) ∙ rw e refl
        | inr e ↦ ap (λ z. z.opened) (line_else d i l' j (other_place t j is e)) ∙ rw e refl
      ];
    }

close_puts : (d : KernelView Completion) (i j : ℕ) → i < length d.lines
    → (line (cancelled_kernel_view d i) j).put ≡ (line d j).put
close_puts d i j near =
    let l' : CellView Completion = record (line d i) { opened = false } in
    elim (cases_Bool (eqb j i)) [
      | inl e ↦ ap (λ z. z.put) (line_here d i l' j (eqb-true j i e) near)
          ∙ ap (λ k. (line d k).put) (sym (eqb-true j i e))
      | inr e ↦ ap (λ z. z.put) (line_else d i l' j (eqb-false j i e))
    ]

own_later : (caller t : ℕ) (x : Completion) → eqb x.thread caller ≡ true → later_of caller t (x ∷ []) ≡ []
own_later caller t x own = elim (cases_Bool (eqb x.thread t)) [
  | inl e ↦ let same : eqb caller t ≡ true =
      eq-eqb caller t (sym (eqb-true x.thread caller own) ∙ eqb-true x.thread t e) in rw same refl
  | inr e ↦ rw e (cond_nil (eqb caller t))
]

-- the caller's own completion; the caller's cell is closed
pub own_handed : (ts : List ℕ) (caller : ℕ) (x : Completion) (i : ℕ) (d : KernelView Completion)
    → eqb x.thread caller ≡ true → place ts caller ≡ Some i → i < length d.lines
    → Handed ts caller (x ∷ []) d (cancelled_kernel_view d i)
own_handed ts caller x i d own at near =
    let l' : CellView Completion = record (line d i) { opened = false } in
    let same_place = λ (t j : ℕ) (is : place ts t ≡ Some j) (e : eqb x.thread t ≡ true). same_Some j i
    (sym is ∙ ap (place ts) (sym (eqb-true x.thread t e) ∙ eqb-true x.thread caller own) ∙ at) in
    let other_place =
    λ (t j : ℕ) (is : place ts t ≡ Some j) (e : eqb x.thread t ≡ false) (s : j ≡ i). eqb-false x.thread t e
    (eqb-true x.thread caller own ∙ place_same ts caller t j (subst (λ k. place ts caller ≡ Some k) (sym s) at) is) in
    record {
      put = λ t j is. close_puts d i j near ∙ sym (append-nil (line d j).put)
          ∙ ap (λ ys. (line d j).put ++ ys) (sym (own_later caller t x own));
      opened = λ t j is. elim (cases_Bool (eqb x.thread t)) [
        | inl e ↦ ap (λ z. z.opened) (line_here d i l' j (same_place t j is e) near) ∙ rw e refl
        | inr e ↦ ap (λ z. z.opened) (line_else d i l' j (other_place t j is e)) ∙ rw e refl
      ];
    }

pub none_handed : (ts : List ℕ) (caller : ℕ) (d : KernelView Completion) → Handed ts caller [] d d
none_handed ts caller d =
    record {
      put = λ t i is. sym (append-nil (line d i).put) ∙ ap (λ ys. (line d i).put ++ ys) (sym (cond_nil (eqb caller t)));
      opened = λ t i is. refl;
    }

cond_or : (a b c : Bool) → cond b false (cond a false c) ≡ cond (a || b) false c
cond_or true true c = refl
cond_or true false c = refl
cond_or false b c = refl

pub or_first : (a b : Bool) → (a || b) ≡ false → a ≡ false
or_first true b e = absurd (true≢false e)
or_first false b e = refl

pub or_second : (a b : Bool) → (a || b) ≡ false → b ≡ false
or_second true b e = absurd (true≢false e)
or_second false b e = e

later_append : (caller t : ℕ) (X Y : List Completion)
    → later_of caller t X ++ later_of caller t Y ≡ later_of caller t (X ++ Y)
later_append caller t X Y = elim (cases_Bool (eqb caller t)) [
  | inl e ↦ rw e refl
  | inr e ↦ rw e (sym (filter-append (λ x. eqb x.thread t) X Y))
]

pub more_handed : (ts : List ℕ) (caller : ℕ) (X Y : List Completion) (d d' d'' : KernelView Completion)
    → Handed ts caller X d d' → Handed ts caller Y d' d'' → Handed ts caller (X ++ Y) d d''
more_handed ts caller X Y d d' d'' a b = record {
  put = λ t i is. b.put t i is ∙ ap (λ ys. ys ++ later_of caller t Y) (a.put t i is)
      ∙ append_assoc (line d i).put (later_of caller t X) (later_of caller t Y)
      ∙ ap (λ ys. (line d i).put ++ ys) (later_append caller t X Y);
  opened = λ t i is. b.opened t i is ∙ ap (λ z. cond (gets Y t) false z) (a.opened t i is)
      ∙ cond_or (gets X t) (gets Y t) (line d i).opened
      ∙ ap (λ z. cond z false (line d i).opened) (sym (list_any-append (λ x. eqb x.thread t) X Y));
}

-- a completion that could be put, for a thread that has got none yet, can still be put
pub may_still : (ts : List ℕ) (caller : ℕ) (X : List Completion) (x : Completion) (d d' : KernelView Completion)
    → Handed ts caller X d d' → gets X x.thread ≡ false → MayPut ts d x → MayPut ts d' x
may_still ts caller X x d d' h none m =
    (m.0, m.1, h.opened x.thread m.0 m.1 ∙ ap (λ b. cond b false (line d m.0).opened) none ∙ m.2)

-- a completion that is put after others, none of them for its thread, may as well be put before them
or_turned : (a b : Bool) → (a || (b || false)) ≡ (b || a)
or_turned true true = refl
or_turned true false = refl
or_turned false true = refl
or_turned false false = refl

gets_turned : (t : ℕ) (X : List Completion) (x : Completion) → gets (X ++ x ∷ []) t ≡ gets (x ∷ X) t
gets_turned t X x = list_any-append (λ z. eqb z.thread t) X (x ∷ []) ∙ or_turned (gets X t) (eqb x.thread t)

of_turned : (t : ℕ) (X : List Completion) (x : Completion) → gets X x.thread ≡ false
    → of_thread t (X ++ x ∷ []) ≡ of_thread t (x ∷ X)
of_turned t X x none = elim (cases_Bool (eqb x.thread t)) [
  | inl e ↦
      let empty : of_thread t X ≡ [] = of_none t X (subst (λ u. gets X u ≡ false) (eqb-true x.thread t e) none) in
      filter-append (λ y. eqb y.thread t) X (x ∷ []) ∙ ap (λ ys. ys ++ of_thread t (x ∷ [])) empty
      ∙ rw e (sym (ap (λ ys. x ∷ ys) empty))
  | inr e ↦ filter-append (λ y. eqb y.thread t) X (x ∷ []) ∙ ap (λ ys. of_thread t X ++ ys) (rw e refl)
      ∙ append-nil (of_thread t X) ∙ rw e refl
]

later_turned : (caller t : ℕ) (X : List Completion) (x : Completion) → gets X x.thread ≡ false
    → later_of caller t (X ++ x ∷ []) ≡ later_of caller t (x ∷ X)
later_turned caller t X x none = elim (cases_Bool (eqb caller t)) [
  | inl e ↦ rw e refl
  | inr e ↦ rw e (of_turned t X x none)
]

handed_turned : (ts : List ℕ) (caller : ℕ) (X : List Completion) (x : Completion) (d d' : KernelView Completion)
    → gets X x.thread ≡ false → Handed ts caller (X ++ x ∷ []) d d' → Handed ts caller (x ∷ X) d d'
handed_turned ts caller X x d d' none h = record {
  put = λ t i is. h.put t i is ∙ ap (λ ys. (line d i).put ++ ys) (later_turned caller t X x none);
  opened = λ t i is. h.opened t i is ∙ ap (λ z. cond z false (line d i).opened) (gets_turned t X x);
}

-- ---- the loop, which puts the last completion first

-- some of the completions X are put or are the caller's own, and these, the first of them, are left
pub record Handing (ts : List ℕ) (X : List Completion) (d d' : KernelView Completion) (caller : ℕ)
    (own : Option Completion) (left : List Completion) : Type 0 where
  pub done : List Completion
  pub whole : left ++ done ≡ X
  pub handed : Handed ts caller done d d'
  pub own_is : of_thread caller done ≡ one own

pub handing_start : (ts : List ℕ) (X : List Completion) (d : KernelView Completion) (caller : ℕ)
    → Handing ts X d d caller None X
handing_start ts X d caller =
    record { done = []; whole = append-nil X; handed = none_handed ts caller d; own_is = refl }

pub gets_middle : (X Y : List Completion) (x : Completion) → AreApart (X ++ x ∷ Y) → gets X x.thread ≡ false
gets_middle [] Y x a = refl
gets_middle (y ∷ X) Y x a =
    let parts : gets (X ++ x ∷ Y) y.thread ≡ false = a.0 in
    let later : gets (x ∷ Y) y.thread ≡ false =
    or_second (gets X y.thread) (gets (x ∷ Y) y.thread) (sym (list_any-append (λ z. eqb z.thread y.thread) X (x ∷ Y))
    ∙ parts) in
    let apart : eqb x.thread y.thread ≡ false = or_first (eqb x.thread y.thread) (gets Y y.thread) later in
    rw (turned apart, gets_middle X Y x a.1) refl
  where
    turned : eqb x.thread y.thread ≡ false → eqb y.thread x.thread ≡ false
    turned e = ne_eqb y.thread x.thread (λ s. eqb-false x.thread y.thread e (sym s))

apart_rest : (X Y : List Completion) → AreApart (X ++ Y) → AreApart Y
apart_rest [] Y a = a
apart_rest (x ∷ X) Y a = apart_rest X Y a.1

pub all_middle : (P : Completion → Type 0) (X Y : List Completion) (x : Completion) → AllByRecursion P (X ++ x ∷ Y)
    → P x
all_middle P [] Y x a = a.0
all_middle P (y ∷ X) Y x a = all_middle P X Y x a.1

module _ (ts : List ℕ) (X : List Completion) (d d' : KernelView Completion) (caller : ℕ) (own : Option Completion)
    (x : Completion) (left : List Completion) (h : Handing ts X d d' caller own (left ++ x ∷ [])) where
  split : left ++ x ∷ h.done ≡ X
  split = sym (append_assoc left (x ∷ []) h.done) ∙ h.whole

  fresh : AreApart X → gets h.done x.thread ≡ false
  fresh apart = (apart_rest left (x ∷ h.done) (subst AreApart (sym split) apart)).0

  -- the next completion may be put
  pub handing_next : AreApart X → AllByRecursion (MayPut ts d) X → MayPut ts d' x
  handing_next apart may =
      may_still ts caller h.done x d d' h.handed (fresh apart)
      (all_middle (MayPut ts d) left h.done x (subst (AllByRecursion (MayPut ts d)) (sym split) may))

  -- the next completion is delivered, if it isn't the caller's
  pub handing_arrives : (roster : List Member) (made : Trace) → AreApart X
      → AllByRecursion (MayArrive roster ts caller made d) X → MayArrive roster ts caller made d' x
  handing_arrives roster made apart may = λ foreign i is.
      let none : later_of caller x.thread h.done ≡ [] =
      ap (λ zs. cond (eqb caller x.thread) [] zs) (of_none x.thread h.done (fresh apart))
      ∙ cond_nil (eqb caller x.thread) in
      let same : (line d' i).put ≡ (line d i).put = h.handed.put x.thread i is
      ∙ ap (λ ys. (line d i).put ++ ys) none ∙ append-nil (line d i).put in
      subst (λ ys. IsDelivered roster i (ys ++ x ∷ []) x made) (sym same)
      (all_middle (MayArrive roster ts caller made d) left h.done x
      (subst (AllByRecursion (MayArrive roster ts caller made d)) (sym split) may) foreign i is)

  module _ (i : ℕ) (near : i < length d'.lines) (apart : AreApart X) where
    -- one more completion is put
    pub handing_more : eqb x.thread caller ≡ false → place ts x.thread ≡ Some i
        → Handing ts X d (put_kernel_view d' i x) caller own left
    handing_more foreign at = record {
      done = x ∷ h.done;
      whole = split;
      handed =
          handed_turned ts caller h.done x d (put_kernel_view d' i x) (fresh apart)
          (more_handed ts caller h.done (x ∷ []) d d' (put_kernel_view d' i x) h.handed
          (one_handed ts caller x i d' foreign at near));
      own_is = rw foreign h.own_is;
    }

    -- the caller's own completion is reached
    pub handing_own : eqb x.thread caller ≡ true → place ts caller ≡ Some i
        → Handing ts X d (cancelled_kernel_view d' i) caller (Some x) left
    handing_own is at = record {
      done = x ∷ h.done;
      whole = split;
      handed =
          handed_turned ts caller h.done x d (cancelled_kernel_view d' i) (fresh apart)
          (more_handed ts caller h.done (x ∷ []) d d' (cancelled_kernel_view d' i) h.handed
          (own_handed ts caller x i d' is at near));
      own_is =
          rw is (ap (λ ys. x ∷ ys)
          (of_none caller h.done (subst (λ u. gets h.done u ≡ false) (eqb-true x.thread caller is) (fresh apart))));
    }
