-- The lines of one more event.
use Rattle.qscript.proofs.Common.{Bool, Call, Completion, Event, HasPrinted, List, Printer, Run, Some, [], append-nil}
use Rattle.qscript.proofs.Common.{arith, call_by, ended_text, event_text, false, flat_map, get_or, get_or_past, inl}
use Rattle.qscript.proofs.Common.{inr, length, length-append, length-map, map, map-append, option_map}
use Rattle.qscript.proofs.Common.{refl, shows_at, shows_buffer, shows_own, slice_get, string_bytes, suc, sym, take}
use Rattle.qscript.proofs.Common.{take_more, texts_from, with_more, zero, ℕ, ◌++◌, ◌+◌, ◌-◌, ◌∙◌, ◌∷◌, ◌≡◌}
use Rattle.std.specs.Option.{option_map_or}
use Rattle.std.proofs.lemmas.Bool.Decides.{nat_tests}
use Rattle.std.proofs.lemmas.Option.{slice_get_cases}
use Rattle.qscript.proofs.Output.Extended.{same_texts, texts_both}

-- ---- whether a buffer is printed

shown_same : (es : List Event) (k : ℕ)
    → option_map_or shows_buffer (option_map (λ (e : Event). e.call) (slice_get es k)) false
    ≡ get_or (map shows_own es) k false
shown_same [] k = refl
shown_same (e ∷ es) zero = refl
shown_same (e ∷ es) (suc k) = shown_same es k

-- for calls up to the newest event, the list says whether the buffer is printed
shows_same : (run : Run) (event number : ℕ) → event + 1 ≡ run.first + length run.events
    → option_map_or shows_buffer (call_by run event number) false ≡ shows_at run.first (map shows_own run.events) number
shows_same run event number h =
    grind (
      arith,
      nat_tests,
      shown_same run.events (number - run.first),
      get_or_past (map shows_own run.events) (number - run.first) false,
      length-map run.events shows_own,
    )

-- ---- one more event

event_same : (run : Run) (event : ℕ) (xs : List Completion) → event + 1 ≡ run.first + length run.events
    → event_text run event xs ≡ flat_map
    (λ x. ended_text event x (shows_at run.first (map shows_own run.events) x.call)) xs
event_same run event [] h = refl
event_same run event (x ∷ xs) h = rw (shows_same run event x.call h, event_same run event xs h) refl

-- the lines of a run with one more event
texts_next : (run : Run) (e : Event)
    → texts_from (with_more run (e ∷ [])) run.first (run.events ++ e ∷ []) ≡ texts_from run run.first run.events
    ++ event_text (with_more run (e ∷ [])) (run.first + length run.events) e.completions
texts_next run e =
    rw (
      texts_both (with_more run (e ∷ [])) run.first run.events (e ∷ []),
      same_texts run (e ∷ []) run.first run.events (omega arith),
      append-nil,
    ) refl

pub printed_more : (run : Run) (e : Event) (p q : Printer) (shows : Bool) (completions : List Completion) (event : ℕ)
    (told : List Bool) → HasPrinted run p → event ≡ run.first + length run.events → shows_buffer e.call ≡ shows
    → e.completions ≡ completions
    → q.first ≡ p.first → q.shown.items ≡ p.shown.items ++ shows ∷ [] → told ≡ q.shown.items
    → string_bytes q.text ≡ string_bytes p.text ++ flat_map (λ x. ended_text event x (shows_at p.first told x.call))
    completions
    → HasPrinted (with_more run (e ∷ [])) q
printed_more run e p q shows completions event told h number own ended first shown all text =
    let more = with_more run (e ∷ []) in
    let here : map shows_own (run.events ++ e ∷ []) ≡ q.shown.items = map-append shows_own run.events (e ∷ [])
    ∙ sym (rw (shown, h.shown, own) refl) in
    let newest : (run.first + length run.events) + 1 ≡ run.first + length (run.events ++ e ∷ []) =
    omega (arith, length-append run.events (e ∷ [])) in
    let line : event_text more (run.first + length run.events) e.completions ≡ flat_map
    (λ x. ended_text event x (shows_at p.first told x.call)) completions =
    event_same more (run.first + length run.events) e.completions newest
    ∙ rw (here, number, h.first, ended, all) refl in
    record {
      first = first ∙ h.first;
      shown = sym here;
      text = text ∙ rw (h.text, ← line) (sym (texts_next run e));
    }

-- ---- the events of a trace

-- the event at a place, with its call and its completions
pub next_taken : (es : List Event) (k : ℕ) (call : Call) (completions : List Completion)
    → option_map (λ (e : Event). e.call) (slice_get es k) ≡ Some call
    → option_map (λ (e : Event). e.completions) (slice_get es k) ≡ Some completions
    → (e : Event) × (take (k + 1) es ≡ take k es ++ e ∷ []) × (e.call ≡ call) × (e.completions ≡ completions)
next_taken es k call completions h i = elim (slice_get_cases es k).1 [
  | inl x ↦ (x.0, rw (take_more es k x.0 x.1, x.3) refl, grind (arith, x.2), grind (arith, x.2))
  | inr past ↦ absurd (grind (arith, past.1))
]
