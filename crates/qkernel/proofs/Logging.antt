-- A log of events, by its entries and completions.
use Rattle.qkernel.proofs.Common.{◌≡◌, ℕ, ◌-◌, ◌≤◌, List, [], ◌∷◌, ◌++◌, length, map, take, drop, refl, ap, sym, ◌∙◌}
use Rattle.qkernel.proofs.Common.{arith, slice_range, common_steps, Completion}
use Rattle.std.proofs.lemmas.List.{append-nil, drop-append-le, take-append-drop}
use Rattle.qkernel.specs.declared.trace.Entry.{Entry}
use Rattle.qkernel.specs.LoggedEvents.{entry_call, events_of, logged_by, AllWithin, IsKept}

-- ---- more completions

kept_range : (xs ys : List Completion) (a b : ℕ) → a ≤ b → b ≤ length xs
    → slice_range (xs ++ ys) a b ≡ slice_range xs a b
kept_range xs ys a b l m = grind (arith, common_steps)

kept_events : (xs ys : List Completion) (es : List Entry) → AllWithin xs es → events_of (xs ++ ys) es ≡ events_of xs es
kept_events xs ys [] w = refl
kept_events xs ys (e ∷ es) w = rw (kept_range xs ys e.start e.end w.0.0 w.0.1, kept_events xs ys es w.1) refl

-- ---- a log

-- more completions of the next call
pub logged_more : (es : List Entry) (xs ys : List Completion) (m s r q n : ℕ) → IsKept es xs m s → n ≡ q - length ys
    → logged_by es (xs ++ ys) m s r n ≡ record (logged_by es xs m s r q) {
      completions = drop s xs ++ ys;
      completion_room = q - length ys;
    }
logged_more es xs ys m s r q n h room =
    rw (kept_events xs ys (take m es) h.within, drop-append-le s xs ys h.begun, room) refl

-- if no call is noted, all entries are events
taken_all : (es : List Entry) (m : ℕ) → map entry_call (drop m es) ≡ [] → take m es ≡ es
taken_all es m none = sym (append-nil (take m es)) ∙ ap (λ ys. take m es ++ ys) (sym (no_more (drop m es) none))
    ∙ take-append-drop m es
  where
    no_more : (ys : List Entry) → map entry_call ys ≡ [] → ys ≡ []
    no_more [] e = refl
    no_more (y ∷ ys) e = cc

pub within_all : (es : List Entry) (xs : List Completion) (m s : ℕ) → map entry_call (drop m es) ≡ []
    → IsKept es xs m s → AllWithin xs es
within_all es xs m s none h = rw (taken_all es m none) at h.within

pub events_all : (es : List Entry) (xs : List Completion) (m : ℕ) → map entry_call (drop m es) ≡ []
    → events_of xs es ≡ events_of xs (take m es)
events_all es xs m none = ap (events_of xs) (sym (taken_all es m none))
