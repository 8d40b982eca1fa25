-- Lists of different numbers.
use Rattle.qrules.proofs.Common.{arith, ◌≡◌, ℕ, ◌<◌, List, [], ◌∷◌, ◌++◌, map, refl, ap, eqb, false, AllDifferent}
use Rattle.qrules.proofs.Common.{filter_map, cons_option, AllByRecursion, Member, IsRoster, Completion, all_append}
use Rattle.qrules.proofs.Common.{Option, None, Some}
use Rattle.std.specs.Option.{option_and_then}
use Rattle.qrules.proofs.Words.Facts.{threads_of}

-- a number isn't among these
abbrev pub IsNoneOf : ℕ → List ℕ → Type 0
IsNoneOf n ns = AllByRecursion (λ m. eqb n m ≡ false) ns

pub different_append : (ns ms : List ℕ) → AllDifferent ns → AllDifferent ms → AllByRecursion (λ n. IsNoneOf n ms) ns
    → AllDifferent (ns ++ ms)
different_append [] ms a b h = b
different_append (n ∷ ns) ms a b h = (all_append (λ m. eqb n m ≡ false) ns ms a.0 h.0, different_append ns ms a.1 b h.1)

pub filter_map_twice : {X Y Z : Type 0} (k : Y → Option Z) (g : X → Option Y) (xs : List X)
    → filter_map k (filter_map g xs) ≡ filter_map (λ x. option_and_then k (g x)) xs
filter_map_twice k g [] = refl
filter_map_twice {X} {Y} {Z} k g (x ∷ xs) =
    elim (g x) as (λ o. filter_map k (cons_option o (filter_map g xs)) ≡ cons_option (option_and_then k o)
    (filter_map (λ x. option_and_then k (g x)) xs)) [
      | None ↦ filter_map_twice k g xs
      | Some y ↦ ap (λ rest. cons_option (k y) rest) (filter_map_twice k g xs)
    ]

pub calls_as : (completions : List Completion)
    → map (λ x. x.call) completions ≡ filter_map (λ x. Some x.call) completions
calls_as completions = grind arith

-- two threads have different numbers by the function
abbrev pub GivesDifferent : (ℕ → Option ℕ) → Type 0
GivesDifferent h = (u v i j : ℕ) → u < v → h u ≡ Some i → h v ≡ Some j → eqb i j ≡ false

none_of_later : (h : ℕ → Option ℕ) (u i : ℕ) (roster : List Member) → GivesDifferent h → h u ≡ Some i
    → AllByRecursion (λ x. u < x.thread) roster → IsNoneOf i (filter_map h (threads_of roster))
none_of_later h u i [] d e later = tt
none_of_later h u i (m ∷ roster) d e later = grind (arith, none_of_later h u i roster)

-- the numbers of the threads of a roster are different
pub different_given : (h : ℕ → Option ℕ) (roster : List Member) → IsRoster roster → GivesDifferent h
    → AllDifferent (filter_map h (threads_of roster))
different_given h [] r d = tt
different_given h (m ∷ roster) r d =
    elim (h m.thread) as (λ o. h m.thread ≡ o → AllDifferent (cons_option o (filter_map h (threads_of roster)))) [
      | None ↦ λ none. different_given h roster r.1 d
      | Some i ↦ λ some. (none_of_later h m.thread i roster d some r.0, different_given h roster r.1 d)
    ] refl

-- numbers that are read of the values of the threads are different
pub different_kept : {Y : Type 0} (k : Y → Option ℕ) (g : ℕ → Option Y) (roster : List Member) → IsRoster roster
    → GivesDifferent (λ u. option_and_then k (g u))
    → AllDifferent (filter_map k (filter_map g (threads_of roster)))
different_kept k g roster r d =
    rw (filter_map_twice k g (threads_of roster)) (different_given (λ u. option_and_then k (g u)) roster r d)
