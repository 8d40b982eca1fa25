-- The lists of calls that the threads asked for.
use Rattle.qshared.proofs.Common.{◌≡◌, ℕ, zero, suc, ◌<◌, List, [], ◌∷◌, ◌++◌, map, set, length, get_or, refl, ap, sym}
use Rattle.qshared.proofs.Common.{subst, ◌∙◌, arith, true, false, eqb, inl, inr, append-nil, get_or-set_other, Some}
use Rattle.qshared.proofs.Common.{cases_Bool, eqb-true, eqb-false, true≢false, same_Some, none, some, get_elem?, Member}
use Rattle.qshared.proofs.Common.{Call, Completion, with_event, KernelCalls, Answered, AreCallsOf, calls_of, heard_in}
use Rattle.qshared.proofs.Common.{is_call, place, UnderLock, Admits, Performs, Refuses, Called, Done, Blocked, Refused}
use Rattle.std.proofs.lemmas.List.{get_or-set_same, get_or-map, map-set, set-get_or}
use mathlib.Core.Option as maybe
use Rattle.qrules.proofs.Words.Facts.{threads_of}
use Rattle.qmodel.specs.Trace.{Trace}
use Rattle.qshared.proofs.Places.{place_same}

-- ---- lists of elements

-- a property of each element, of one more element, and of no element
pub each_more : {P : Type 0} (Q : maybe.Option P → Type 0) (xs : List P) (x : P) → ((k : ℕ) → Q (get_elem? xs k))
    → Q (some x) → Q none → (k : ℕ) → Q (get_elem? (xs ++ x ∷ []) k)
each_more Q [] x old now absent zero = now
each_more Q [] x old now absent (suc k) = absent
each_more Q (y ∷ ys) x old now absent zero = old zero
each_more Q (y ∷ ys) x old now absent (suc k) = each_more Q ys x (λ j. old (suc j)) now absent k

pub map_both : {A B C : Type 0} (f : B → C) (g : A → B) (xs : List A) → map f (map g xs) ≡ map (λ x. f (g x)) xs
map_both f g [] = refl
map_both f g (x ∷ xs) = ap (λ ys. f (g x) ∷ ys) (map_both f g xs)

-- if each port has the name at its own index, the names of the ports are all the names
pub names_of : {P : Type 0} (name : P → ℕ) (ports : List P) (names : List ℕ) → length ports ≡ length names
    → ((k : ℕ) (p : P) → get_elem? ports k ≡ some p → get_or names k 0 ≡ name p) → map name ports ≡ names
names_of name [] [] many is = refl
names_of name [] (n ∷ ns) many is = absurd (omega (arith, many))
names_of name (p ∷ ps) [] many is = absurd (omega (arith, many))
names_of name (p ∷ ps) (n ∷ ns) many is = ap (λ m. m ∷ map name ps) (sym (is 0 p refl))
    ∙ ap (λ ms. n ∷ ms) (names_of name ps ns (omega (arith, many)) (λ k q e. is (suc k) q e))

-- the names of a list of halves after one half was changed and kept its name
pub kept_names : (hs : List KernelCalls) (i : ℕ) (h h' : KernelCalls) → i < length hs → h ≡ get_or hs i h
    → h'.name ≡ h.name → map (λ x. x.name) (set hs i h') ≡ map (λ x. x.name) hs
kept_names hs i h h' near is same = map-set (λ x. x.name) hs i h'
    ∙ ap (set (map (λ x. x.name) hs) i) (same ∙ ap (λ x. x.name) is ∙ sym (get_or-map (λ x. x.name) hs i h 0 near))
    ∙ set-get_or (map (λ x. x.name) hs) i 0

-- the list of a half to which a call was added
pub told_list : (hs : List KernelCalls) (i : ℕ) (h h' : KernelCalls) (c : Call) → i < length hs → h ≡ get_or hs i h
    → h'.calls ≡ h.calls ++ c ∷ [] → h'.calls ≡ get_or (map (λ x. x.calls) hs) i [] ++ c ∷ []
told_list hs i h h' c near is told = told
    ∙ ap (λ xs. xs ++ c ∷ []) (ap (λ x. x.calls) is ∙ sym (get_or-map (λ x. x.calls) hs i h [] near))

-- ---- the calls of the threads

pub nothing_heard : (hs : List KernelCalls) → ((k : ℕ) → heard_in (get_elem? hs k) ≡ []) → (i : ℕ)
    → get_or (map (λ h. h.calls) hs) i [] ≡ []
nothing_heard [] empty zero = refl
nothing_heard [] empty (suc i) = refl
nothing_heard (h ∷ hs) empty zero = empty 0
nothing_heard (h ∷ hs) empty (suc i) = nothing_heard hs (λ k. empty (suc k)) i

-- a call that is an event is the last in its own thread's list, and isn't in any other thread's list
pub heard_after : (roster : List Member) (lists : List (List Call)) (past : Trace) (t i : ℕ) (c : Call)
    (X : List Completion) (more : List Call) → place (threads_of roster) t ≡ Some i → i < length lists
    → more ≡ get_or lists i [] ++ c ∷ [] → AreCallsOf roster lists past
    → AreCallsOf roster (set lists i more) (with_event t c X past)
heard_after roster lists past t i c X more at near is are u j there =
    let ts = threads_of roster in
    elim (cases_Bool (eqb t u)) [
      | inl e ↦
          let same : j ≡ i = same_Some j i (sym there ∙ ap (place ts) (sym (eqb-true t u e)) ∙ at) in
          ap (λ k. get_or (set lists i more) k []) same ∙ get_or-set_same lists i more [] near ∙ is
          ∙ ap (λ xs. xs ++ c ∷ []) (ap (λ k. get_or lists k []) (sym same) ∙ are u j there) ∙ rw e refl
      | inr e ↦
          get_or-set_other lists i j more []
          (λ s. eqb-false t u e (place_same ts t u i at (subst (λ k. place ts u ≡ Some k) s there))) ∙ are u j there
          ∙ sym (append-nil (calls_of past u)) ∙ rw e refl
    ]

module _ (roster : List Member) (refuses : Refuses) (admits : Admits) (lists : List (List Call)) (t i : ℕ) (c : Call)
    (old new : UnderLock) (at : place (threads_of roster) t ≡ Some i) where
  pub heard_event : (p : Called) → Performs roster refuses admits old t c p new → is_call p ≡ true → i < length lists
      → (more : List Call) → more ≡ get_or lists i [] ++ c ∷ []
      → AreCallsOf roster lists old.past → AreCallsOf roster (set lists i more) new.past
  heard_event (Done x) p e near more is are =
      subst (AreCallsOf roster (set lists i more)) (sym p.2)
      (heard_after roster lists old.past t i c p.0 more at near is are)
  heard_event Blocked p e near more is are =
      subst (AreCallsOf roster (set lists i more)) (sym p.2)
      (heard_after roster lists old.past t i c p.0 more at near is are)
  heard_event (Refused errno given) p e near more is are = absurd (true≢false (sym e))

  pub heard_refused : (p : Called) → Performs roster refuses admits old t c p new → is_call p ≡ false
      → AreCallsOf roster lists old.past → AreCallsOf roster lists new.past
  heard_refused (Done x) p e are = absurd (true≢false e)
  heard_refused Blocked p e are = absurd (true≢false e)
  heard_refused (Refused errno given) p e are = subst (λ h. AreCallsOf roster lists h.past) (sym p.0) are

  -- the outcome of the call after the history before it
  pub comes : (p : Called) → Performs roster refuses admits old t c p new → (after : Trace) → after ≡ new.past
      → Answered roster refuses admits t c p old.past after
  comes (Done x) p after is = (p.0, record { event = p.1; then = is ∙ p.2 }, p.3)
  comes Blocked p after is = (p.0, record { event = p.1; then = is ∙ p.2 }, p.3)
  comes (Refused errno given) p after is = (p.1, p.2, is ∙ ap (λ h. h.past) p.0)
