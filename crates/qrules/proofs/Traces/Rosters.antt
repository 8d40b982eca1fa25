-- The threads of a roster, in rising number, and the values of a function for them.
use Rattle.qrules.proofs.Common.{◌≡◌, ℕ, ◌<◌, List, [], ◌∷◌, refl, ap, sym, subst, ◌∙◌, cond, arith, true, false, eqb}
use Rattle.qrules.proofs.Common.{filter_map, cons_option, AllByRecursion, option_to_list, member_at, IsRoster, Member}
use Rattle.qrules.proofs.Common.{is_among, Option, None, Some, is_some, ◌||◌}
use Rattle.std.proofs.lemmas.Bool.{eqb-true, ne_eqb, true≢false}
use Rattle.qrules.proofs.Words.Facts.{threads_of}

-- the numbers rise
abbrev pub Rises : List ℕ → Type 0
Rises [] = Unit {0}
Rises (t ∷ ts) = AllByRecursion (λ u. t < u) ts × Rises ts

all_below : (t : ℕ) (roster : List Member) → AllByRecursion (λ m. t < m.thread) roster
    → AllByRecursion (λ u. t < u) (threads_of roster)
all_below t [] h = tt
all_below t (m ∷ roster) h = (h.0, all_below t roster h.1)

pub rises : (roster : List Member) → IsRoster roster → Rises (threads_of roster)
rises [] h = tt
rises (m ∷ roster) h = (all_below m.thread roster h.0, rises roster h.1)

-- a thread is one of the roster's exactly if a member has its number
is_among-member : (roster : List Member) (t : ℕ) → is_some (member_at roster t) ≡ is_among (threads_of roster) t
is_among-member [] t = refl
is_among-member (m ∷ roster) t = grind (arith, is_among-member roster)

pub known : (roster : List Member) (t : ℕ) → is_some (member_at roster t) ≡ true → is_among (threads_of roster) t ≡ true
known roster t h = sym (is_among-member roster t) ∙ h

pub among_member : (roster : List Member) (t : ℕ) → is_among (threads_of roster) t ≡ true
    → is_some (member_at roster t) ≡ true
among_member roster t h = is_among-member roster t ∙ h

pub among : (roster : List Member) (t : ℕ) (m : Member) → member_at roster t ≡ Some m
    → is_among (threads_of roster) t ≡ true
among roster t m e = known roster t (ap is_some e)

-- a thread whose number is less than all of these isn't among them
pub not_among : (ts : List ℕ) (t : ℕ) → AllByRecursion (λ u. t < u) ts → is_among ts t ≡ false
not_among [] t h = refl
not_among (u ∷ ts) t h = let other : eqb u t ≡ false = ne_eqb u t (λ s. let l : t < u = h.0 in omega arith) in
    rw (other, not_among ts t h.1) refl

pub all_at : (t v : ℕ) (ts : List ℕ) → AllByRecursion (λ u. t < u) ts → is_among ts v ≡ true → t < v
all_at t v [] h e = absurd (true≢false (sym e))
all_at t v (u ∷ ts) h e = grind (arith, all_at t v ts)

module _ {Y : Type 0} where
  pub nothing : (ts : List ℕ) (f : ℕ → Option Y) → ((u : ℕ) → f u ≡ None) → filter_map f ts ≡ []
  nothing [] f h = refl
  nothing (u ∷ ts) f h = rw (h u) (nothing ts f h)

  pub filter_map_same : (f g : ℕ → Option Y) (ts : List ℕ) → ((u : ℕ) → f u ≡ g u) → filter_map f ts ≡ filter_map g ts
  filter_map_same f g [] h = refl
  filter_map_same f g (u ∷ ts) h = rw (h u, filter_map_same f g ts h) refl

  none_own : (ts : List ℕ) (t : ℕ) (o : Option Y) → is_among ts t ≡ false
      → filter_map (λ u. cond (eqb u t) o None) ts ≡ []
  none_own [] t o h = refl
  none_own (u ∷ ts) t o h = grind (arith, none_own ts)

  -- only one thread has a value
  pub only_own : (ts : List ℕ) (t : ℕ) (o : Option Y) → Rises ts → is_among ts t ≡ true
      → filter_map (λ u. cond (eqb u t) o None) ts ≡ option_to_list o
  only_own [] t o r h = absurd (true≢false (sym h))
  only_own (u ∷ ts) t o r h =
      elim (eqb u t) as (λ b. eqb u t ≡ b → (b || is_among ts t) ≡ true
      → cons_option (cond b o None) (filter_map (λ u. cond (eqb u t) o None) ts) ≡ option_to_list o) [
        | true ↦ λ same e.
            let none : filter_map (λ u. cond (eqb u t) o None) ts ≡ [] =
            none_own ts t o (subst (λ k. is_among ts k ≡ false) (eqb-true u t same) (not_among ts u r.0)) in
            rw none (elim o as (λ o. cons_option o [] ≡ option_to_list o) [ None ↦ refl | Some x ↦ refl ])
        | false ↦ λ other e. only_own ts t o r.1 e
      ] refl h
