-- A run that continues.
use Rattle.qscript.proofs.Common.{Completion, Event, GoesOn, List, Run, [], ap, append_assoc, arith, flat_map, length}
use Rattle.qscript.proofs.Common.{open_text, refl, slice_get, suc, sym, with_more, zero, ℕ, ◌++◌, ◌+◌, ◌-◌, ◌<◌, ◌∷◌}
use Rattle.qscript.proofs.Common.{◌≡◌, ◌≤◌}
use Rattle.std.proofs.lemmas.Bool.Decides.{nat_tests}
use Rattle.qscript.specs.Printing.Printed.{call_by, event_text, texts_from, printed}

get_front : {A : Type 0} (xs ys : List A) (k : ℕ) → k < length xs → slice_get (xs ++ ys) k ≡ slice_get xs k
get_front [] ys k h = absurd (omega arith)
get_front (x ∷ xs) ys zero h = refl
get_front (x ∷ xs) ys (suc k) h = get_front xs ys k (omega arith)

-- a longer run has the same call up to an event of the shorter run
same_call : (run : Run) (more : List Event) (event number : ℕ) → event < run.first + length run.events
    → call_by (with_more run more) event number ≡ call_by run event number
same_call run more event number h = grind (arith, nat_tests, get_front run.events more (number - run.first))

same_event : (run : Run) (more : List Event) (event : ℕ) (xs : List Completion) → event < run.first + length run.events
    → event_text (with_more run more) event xs ≡ event_text run event xs
same_event run more event [] h = refl
same_event run more event (x ∷ xs) h = rw (same_call run more event x.call h, same_event run more event xs h) refl

pub same_texts : (run : Run) (more : List Event) (n : ℕ) (es : List Event)
    → n + length es ≤ run.first + length run.events → texts_from (with_more run more) n es ≡ texts_from run n es
same_texts run more n [] h = refl
same_texts run more n (e ∷ es) h =
    rw (same_event run more n e.completions (omega arith), same_texts run more (n + 1) es (omega arith)) refl

pub texts_both : (run : Run) (n : ℕ) (es more : List Event)
    → texts_from run n (es ++ more) ≡ texts_from run n es ++ texts_from run (n + length es) more
texts_both run n [] more = ap (λ m. texts_from run m more) (omega arith)
texts_both run n (e ∷ es) more =
    let place : n + 1 + length es ≡ n + length (e ∷ es) = omega arith in
    rw (texts_both run (n + 1) es more, place)
    (sym (append_assoc (event_text run n e.completions) (texts_from run (n + 1) es)
    (texts_from run (n + length (e ∷ es)) more)))

pub goes_on : GoesOn
unfolding printed
goes_on run more blocked =
    rw (
      texts_both (with_more run more) run.first run.events more,
      same_texts run more run.first run.events (omega arith),
    )
    (append_assoc (texts_from run run.first run.events)
    (texts_from (with_more run more) (run.first + length run.events) more) (flat_map open_text blocked))
