-- Completions that came in the calls' own events and later completions, in the order of the calls.
use Rattle.qshared.proofs.Common.{◌≡◌, ℕ, zero, suc, ◌+◌, ◌-◌, ◌<◌, ◌≤◌, ◌⊎◌, List, [], ◌∷◌, ◌++◌, length}
use Rattle.qshared.proofs.Common.{length-append, take, drop, refl, ap, sym, subst, ◌∙◌, cond, Bool, true, false, eqb}
use Rattle.qshared.proofs.Common.{inl, inr, arith, append-nil, append_assoc, None, Option, Some, MatchOption}
use Rattle.qshared.proofs.Common.{AllByRecursion, all_more, list_any, take-append-drop, drop-append_seam}
use Rattle.qshared.proofs.Common.{cases_Bool, eqb-true}
use Rattle.qshared.proofs.Common.{eq-eqb, true≢false, Completion, gets, AreApart, Extends, Call, IsSince, WaitedBefore}
use Rattle.qshared.proofs.Common.{calls_of, HasWaited, of_thread, at_once, ends_open, in_turn, waits, AreLater}
use Rattle.qmodel.specs.Trace.{Trace}

-- the head and the tail of equal lists
pub heads : {A : Type 0} (x y : A) (xs ys : List A) → x ∷ xs ≡ y ∷ ys → x ≡ y
heads x y xs ys e = ap (λ l. first x l) e where
  first : {A : Type 0} → A → List A → A
  first d [] = d
  first d (z ∷ zs) = z

pub tails : {A : Type 0} (x y : A) (xs ys : List A) → x ∷ xs ≡ y ∷ ys → xs ≡ ys
tails x y xs ys e = ap rest e where
  rest : {A : Type 0} → List A → List A
  rest [] = []
  rest (z ∷ zs) = zs

pub not_nil : {A : Type 0} (x : A) (xs : List A) → x ∷ xs ≡ [] → ⊥
not_nil x xs e = let n : suc (length xs) ≡ zero = ap length e in omega arith

-- ---- lists of completions

pub scratch_once : (once : List (List Completion)) (later : List Completion) (x : Completion) (xs : List Completion)
    → in_turn (once ++ (x ∷ xs) ∷ []) later ≡ in_turn once later ++ x ∷ xs
scratch_once [] later x xs = append-nil (x ∷ xs)
scratch_once ((y ∷ ys) ∷ once) later x xs = ap (λ zs. y ∷ ys ++ zs) (scratch_once once later x xs)
    ∙ sym (append_assoc (y ∷ ys) (in_turn once later) (x ∷ xs))
scratch_once ([] ∷ once) [] x xs = scratch_once once [] x xs
scratch_once ([] ∷ once) (z ∷ later) x xs = ap (λ zs. z ∷ zs) (scratch_once once later x xs)

pub scratch_none : (once : List (List Completion)) (later : List Completion) → length later ≤ waits once
    → in_turn (once ++ [] ∷ []) later ≡ in_turn once later
scratch_none [] [] few = refl
scratch_none [] (z ∷ later) few = absurd (omega arith)
scratch_none ((y ∷ ys) ∷ once) later few = ap (λ zs. y ∷ ys ++ zs) (scratch_none once later few)
scratch_none ([] ∷ once) [] few = scratch_none once [] (omega arith)
scratch_none ([] ∷ once) (z ∷ later) few = ap (λ zs. z ∷ zs) (scratch_none once later (omega arith))

pub scratch_later : (before : List (List Completion)) (later : List Completion) (x : Completion)
    → waits before ≡ length later → in_turn (before ++ [] ∷ []) (later ++ x ∷ []) ≡ in_turn (before ++ [] ∷ []) later
    ++ x ∷ []
scratch_later [] [] x same = refl
scratch_later [] (z ∷ later) x same = absurd (omega arith)
scratch_later ((y ∷ ys) ∷ before) later x same = ap (λ zs. y ∷ ys ++ zs) (scratch_later before later x same)
    ∙ sym (append_assoc (y ∷ ys) (in_turn (before ++ [] ∷ []) later) (x ∷ []))
scratch_later ([] ∷ before) [] x same = absurd (omega arith)
scratch_later ([] ∷ before) (z ∷ later) x same = ap (λ zs. z ∷ zs) (scratch_later before later x (omega arith))

pub waits_none : (once : List (List Completion)) → waits (once ++ [] ∷ []) ≡ waits once + 1
waits_none [] = refl
waits_none ([] ∷ once) = ap suc (waits_none once) ∙ omega arith
waits_none ((y ∷ ys) ∷ once) = waits_none once

pub waits_once : (once : List (List Completion)) (x : Completion) (xs : List Completion)
    → waits (once ++ (x ∷ xs) ∷ []) ≡ waits once
waits_once [] x xs = refl
waits_once ([] ∷ once) x xs = ap suc (waits_once once x xs)
waits_once ((y ∷ ys) ∷ once) x xs = waits_once once x xs

scratch_some : (once : List (List Completion)) (later : List Completion) → 0 < length later → length later ≤ waits once
    → in_turn once later ≡ [] → ⊥
scratch_some [] later some few e = absurd (omega (arith, some, few))
scratch_some ((y ∷ ys) ∷ once) later some few e = not_nil y (ys ++ in_turn once later) e
scratch_some ([] ∷ once) [] some few e = absurd (omega arith)
scratch_some ([] ∷ once) (z ∷ later) some few e = not_nil z (in_turn once later) e

few_later : (once : List (List Completion)) (later : List Completion) (waiting : Bool) → AreLater waiting once later
    → length later ≤ waits once
few_later once later true l = omega (arith, l.0)
few_later once later false l = omega (arith, l.0)

-- the last call didn't complete in its own event
open_end : (once : List (List Completion)) → ends_open once ≡ true → (before : List (List Completion))
    × (once ≡ before ++ [] ∷ [])
open_end [] e = absurd (true≢false (sym e))
open_end ([] ∷ []) e = ([], refl)
open_end ((x ∷ xs) ∷ []) e = absurd (true≢false (sym e))
open_end (xs ∷ ys ∷ once) e = let h = open_end (ys ∷ once) e in (xs ∷ h.0, ap (λ os. xs ∷ os) h.1)

end_open : (once : List (List Completion)) → ends_open (once ++ [] ∷ []) ≡ true
end_open [] = refl
end_open (xs ∷ []) = refl
end_open (xs ∷ ys ∷ once) = end_open (ys ∷ once)

-- if a call of a thread didn't complete in its own event, the thread is blocked or has a completion
pub waited_due : (waiting : Bool) (once : List (List Completion)) (later : List Completion)
    → AreLater waiting once later → 0 < waits once → waiting ≡ false → in_turn once later ≡ [] → ⊥
waited_due true once later l some free e = true≢false free
waited_due false once later l some free e = scratch_some once later (omega (arith, l.0, some)) (omega (arith, l.0)) e

-- a call that blocks is one more, and the last
pub now_waits : (once : List (List Completion)) (later : List Completion) → AreLater false once later
    → AreLater true (once ++ [] ∷ []) later
now_waits once later l = (waits_none once ∙ omega (arith, l.0), λ w. end_open once)

pub still_none : (once : List (List Completion)) (later : List Completion) (x : Completion) (xs : List Completion)
    → AreLater false once later → AreLater false (once ++ (x ∷ xs) ∷ []) later
still_none once later x xs l = (waits_once once x xs ∙ l.0, λ w. absurd (true≢false (sym w)))

-- ---- the completions of one event

pub of_none : (t : ℕ) (X : List Completion) → gets X t ≡ false → of_thread t X ≡ []
of_none t [] none = refl
of_none t (x ∷ X) none = elim (cases_Bool (eqb x.thread t)) [
  | inl e ↦ absurd (true≢false (rw e at none))
  | inr e ↦ rw e (of_none t X (rw e at none))
]

pub of_one : (t : ℕ) (X : List Completion) → AreApart X → gets X t ≡ true → (x : Completion) × (of_thread t X ≡ x ∷ [])
of_one t [] apart some = absurd (true≢false (sym some))
of_one t (x ∷ X) apart some = elim (cases_Bool (eqb x.thread t)) [
  | inl e ↦ (x, rw e (ap (λ zs. x ∷ zs) (of_none t X (subst (λ u. gets X u ≡ false) (eqb-true x.thread t e) apart.0))))
  | inr e ↦ rw e (of_one t X apart.1 (rw e at some))
]

pub gets_of : (t : ℕ) (X : List Completion) (x : Completion) (xs : List Completion) → of_thread t X ≡ x ∷ xs
    → gets X t ≡ true
gets_of t X x xs is = elim (cases_Bool (gets X t)) [
  | inl e ↦ e
  | inr e ↦ absurd (not_nil x xs (sym is ∙ of_none t X e))
]

-- each of these completions is the only one for its thread
pub alone : (X : List Completion) → AreApart X → AllByRecursion (λ x. of_thread x.thread X ≡ x ∷ []) X
alone [] apart = tt
alone (x ∷ X) apart = (
  rw (eq-eqb x.thread x.thread refl) (ap (λ zs. x ∷ zs) (of_none x.thread X apart.0)),
  all_more _ _ X (alone X apart.1) (λ y only.
      elim (cases_Bool (eqb x.thread y.thread)) [
        | inl e ↦ absurd (true≢false (sym (gets_of y.thread X y [] only)
            ∙ ap (gets X) (sym (eqb-true x.thread y.thread e)) ∙ apart.0))
        | inr e ↦ rw e only
      ]),
)

none_gets : (t : ℕ) (Y : List Completion) → gets Y t ≡ true → of_thread t Y ≡ [] → ⊥
none_gets t [] some none = true≢false (sym some)
none_gets t (y ∷ Y) some none = elim (cases_Bool (eqb y.thread t)) [
  | inl e ↦ not_nil y (of_thread t Y) (rw e at none)
  | inr e ↦ none_gets t Y (rw e at some) (rw e at none)
]

any_of : (n t : ℕ) (X : List Completion) → AllByRecursion (λ y. eqb y.call n ≡ true → y.thread ≡ t) X
    → list_any (λ y. eqb y.call n) X ≡ true → gets X t ≡ true
any_of n t [] all any = any
any_of n t (y ∷ Y) all any = elim (cases_Bool (eqb y.call n)) [
  | inl e ↦ rw (eq-eqb y.thread t (all.0 e)) refl
  | inr e ↦ elim (cases_Bool (eqb y.thread t)) [
    | inl s ↦ rw s refl
    | inr s ↦ rw s (any_of n t Y all.1 (rw e at any))
  ]
]

-- the only completion for the thread is the completion of call n, if that call completes and is the thread's
-- own
pub own_number : (n t : ℕ) (x : Completion) (X : List Completion)
    → AllByRecursion (λ y. eqb y.call n ≡ true → y.thread ≡ t) X → list_any (λ y. eqb y.call n) X ≡ true
    → of_thread t X ≡ x ∷ [] → x.call ≡ n
own_number n t x [] all any is = absurd (true≢false (sym any))
own_number n t x (y ∷ Y) all any is = elim (cases_Bool (eqb y.call n)) [
  | inl e ↦ let s : eqb y.thread t ≡ true = eq-eqb y.thread t (all.0 e) in
      ap (λ z. z.call) (sym (heads y x (of_thread t Y) [] (rw s at is))) ∙ eqb-true y.call n e
  | inr e ↦
      let more : list_any (λ z. eqb z.call n) Y ≡ true = rw e at any in
      elim (cases_Bool (eqb y.thread t)) [
        | inl s ↦ absurd (none_gets t Y (any_of n t Y all.1 more) (tails y x (of_thread t Y) [] (rw s at is)))
        | inr s ↦ own_number n t x Y all.1 more (rw s at is)
      ]
]

-- ---- the completions of a thread after an event

-- with the caller's own completion, or with its call still open
pub owed_own : (once : List (List Completion)) (later due ys : List Completion) (blocked : Bool)
    → AreLater false once later → in_turn once later ≡ due
    → ((ys ≡ []) × (blocked ≡ true)) ⊎ ((x : Completion) × (ys ≡ x ∷ []) × (blocked ≡ false))
    → AreLater blocked (once ++ ys ∷ []) (later ++ []) × (in_turn (once ++ ys ∷ []) (later ++ []) ≡ due ++ ys)
owed_own once later due ys blocked l whole cases =
    subst (λ ls. AreLater blocked (once ++ ys ∷ []) ls × (in_turn (once ++ ys ∷ []) ls ≡ due ++ ys))
    (sym (append-nil later)) (elim cases [
      | inl none ↦ rw (none.0, none.1) (
        now_waits once later l,
        scratch_none once later (omega (arith, l.0)) ∙ whole ∙ sym (append-nil due),
      )
      | inr some ↦ rw (some.1, some.2) (
        still_none once later some.0 [] l,
        scratch_once once later some.0 [] ∙ ap (λ zs. zs ++ some.0 ∷ []) whole,
      )
    ])

-- after another thread's event
pub owed_other : (once : List (List Completion)) (later due ys : List Completion) (old blocked : Bool)
    → AreLater old once later → in_turn once later ≡ due
    → ((ys ≡ []) × (blocked ≡ old)) ⊎ ((x : Completion) × (ys ≡ x ∷ []) × (old ≡ true) × (blocked ≡ false))
    → AreLater blocked (once ++ []) (later ++ ys) × (in_turn (once ++ []) (later ++ ys) ≡ due ++ ys)
owed_other once later due ys old blocked l whole cases =
    subst (λ os. AreLater blocked os (later ++ ys) × (in_turn os (later ++ ys) ≡ due ++ ys)) (sym (append-nil once))
    (elim cases [
      | inl none ↦ rw (none.0, none.1, append-nil later, append-nil due) (l, whole)
      | inr some ↦ rw (some.1, some.3) (more (rw (some.2) at l) some.0)
    ])
  where
    more : AreLater true once later → (x : Completion) → AreLater false once (later ++ x ∷ [])
        × (in_turn once (later ++ x ∷ []) ≡ due ++ x ∷ [])
    more w x =
        let p = open_end once (w.1 refl) in
        let many : waits once ≡ waits p.0 + 1 = ap waits p.1 ∙ waits_none p.0 in
        let same : waits p.0 ≡ length later = omega (arith, many, w.0) in (
          (w.0 ∙ sym (length-append later (x ∷ [])) ∙ omega arith, λ b. absurd (true≢false (sym b))),
          ap (λ os. in_turn os (later ++ x ∷ [])) p.1 ∙ scratch_later p.0 later x same
              ∙ ap (λ os. in_turn os later ++ x ∷ []) (sym p.1) ∙ ap (λ zs. zs ++ x ∷ []) whole,
        )

-- ---- the completions that a port collects

pub collects : (once : List (List Completion)) (later : List Completion) (x : Completion) → AreLater true once later
    → AreLater false once (later ++ x ∷ []) × (in_turn once (later ++ x ∷ []) ≡ in_turn once later ++ x ∷ [])
collects once later x l =
    owed_other' (owed_other once later (in_turn once later) (x ∷ []) true false l refl (inr (x, refl, refl, refl)))
  where
    owed_other' : AreLater false (once ++ []) (later ++ x ∷ [])
        × (in_turn (once ++ []) (later ++ x ∷ []) ≡ in_turn once later ++ x ∷ [])
        → AreLater false once (later ++ x ∷ []) × (in_turn once (later ++ x ∷ []) ≡ in_turn once later ++ x ∷ [])
    owed_other' p =
        subst (λ os. AreLater false os (later ++ x ∷ [])
        × (in_turn os (later ++ x ∷ []) ≡ in_turn once later ++ x ∷ [])) (append-nil once) p

-- one completion or none is taken out of the cell
abbrev pub Takes : Option Completion → List Completion → List Completion → Type 0
Takes r before after = MatchOption r (after ≡ before) (λ x. after ≡ before ++ x ∷ [])

pub takes : (once : List (List Completion)) (before after : List Completion) (r : Option Completion) (old new : Bool)
    → Takes r before after → MatchOption r (new ≡ old) (λ x. (old ≡ true) × (new ≡ false)) → AreLater old once before
    → Takes r (in_turn once before) (in_turn once after)
takes once before after None old new is p l = ap (in_turn once) is
takes once before after (Some x) old new is p l = ap (in_turn once) is
    ∙ (collects once before x (subst (λ b. AreLater b once before) p.0 l)).1

-- the completions that a port took and the completions that are left in its cell are all completions
pub left_over : (once : List (List Completion)) (took left later : List Completion) (pending blocked : Bool)
    → AreLater pending once took → AreLater blocked once later → took ++ left ≡ later
    → in_turn once took ++ left ≡ in_turn once later
left_over once took left later pending blocked p l all =
    elim pending as (λ b. AreLater b once took → in_turn once took ++ left ≡ in_turn once later) [
      | true ↦ λ w. one_left left w (omega (arith, few, many, w.0)) all
      | false ↦ λ w. nothing_left left (omega (arith, few, many, w.0)) all
    ] p where
      many : length later ≡ length took + length left
      many = ap length (sym all) ∙ length-append took left

      few : length later ≤ waits once
      few = few_later once later blocked l

      nothing_left : (ys : List Completion) → length ys ≤ 0 → took ++ ys ≡ later
          → in_turn once took ++ ys ≡ in_turn once later
      nothing_left [] n a = append-nil (in_turn once took) ∙ ap (in_turn once) (sym (append-nil took) ∙ a)
      nothing_left (y ∷ ys) n a = absurd (omega arith)

      one_left : (ys : List Completion) → AreLater true once took → length ys ≤ 1 → took ++ ys ≡ later
          → in_turn once took ++ ys ≡ in_turn once later
      one_left [] w n a = nothing_left [] (omega arith) a
      one_left (y ∷ []) w n a = sym (collects once took y w).1 ∙ ap (in_turn once) a
      one_left (y ∷ z ∷ ys) w n a = absurd (omega arith)

-- ---- a longer history without further calls of a thread

calls_more : (more past : Trace) (t : ℕ) → length (calls_of past t) ≤ length (calls_of (more ++ past) t)
calls_more [] past t = omega arith
calls_more (e ∷ more) past t = let h = calls_more more past t in
    let a = length-append (calls_of (more ++ past) t) (cond (eqb e.thread t) (e.call ∷ []) []) in omega (arith, h, a)

once_more : (more past : Trace) (t : ℕ) → length (calls_of (more ++ past) t) ≤ length (calls_of past t)
    → at_once (more ++ past) t ≡ at_once past t
once_more [] past t few = refl
once_more (e ∷ more) past t few = elim (cases_Bool (eqb e.thread t)) [
  | inl is ↦ let a = length-append (calls_of (more ++ past) t) (e.call ∷ []) in
      absurd (omega (arith, calls_more more past t, a, rw is at few))
  | inr other ↦ rw other (append-nil (at_once (more ++ past) t)
      ∙ once_more more past t (rw (other, append-nil (calls_of (more ++ past) t)) at few))
]

pub once_same : (past seen last : Trace) (asked : List Call) (t : ℕ) → Extends past seen → Extends seen last
    → calls_of past t ≡ asked → calls_of last t ≡ asked → at_once past t ≡ at_once last t
once_same past seen last asked t h k now then =
    let all : past ≡ (h.0 ++ k.0) ++ last = h.1 ∙ ap (λ l. h.0 ++ l) k.1 ∙ sym (append_assoc h.0 k.0 last) in
    ap (λ p. at_once p t) all
    ∙ once_more (h.0 ++ k.0) last t (omega (arith, ap length (sym (ap (λ p. calls_of p t) all) ∙ now ∙ sym then)))

-- a history extends another, if the other is the end of its list
pub extends_since : (past last : Trace) → IsSince past last → Extends past last
extends_since past last s = let n = length past - length last in
    (take n past, sym (take-append-drop n past) ∙ ap (λ l. take n past ++ l) s)

pub since_extends : (past last : Trace) → Extends past last → IsSince past last
since_extends past last h =
    let many : length past ≡ length h.0 + length last = ap length h.1 ∙ length-append h.0 last in
    let less : length past - length last ≡ length h.0 = omega (arith, many) in
    ap (λ n. drop n past) less ∙ ap (drop (length h.0)) h.1 ∙ drop-append_seam h.0 last

-- a call in the prefix that didn't complete in its own event is also in the history
pub still_waited : (past seen : Trace) (t : ℕ) → Extends past seen → WaitedBefore seen (calls_of past t) t
    → HasWaited past t
still_waited past seen t h w =
    subst (λ os. 0 < waits os)
    (sym (once_same past seen w.last (calls_of past t) t h (extends_since seen w.last w.since) refl w.calls)) w.waited
