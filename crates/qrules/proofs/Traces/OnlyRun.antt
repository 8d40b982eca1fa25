-- If memory doesn't run out, a run is a function of its calls.
use Rattle.qrules.proofs.Common.{arith, ◌≡◌, ℕ, List, [], ◌∷◌, map, refl, ap, sym, subst, NoMemory, Answers, event_call}
use Rattle.qrules.proofs.Common.{HadMemory, IsOnlyRun, AllByRecursion, Member, Call, Completion, Event, Trace}
use Rattle.qrules.proofs.Basics.{Facts, IsLawful, facts_of, followed_by}
use Rattle.qmodel.specs.declared.call.Mark.TheVariants as mark

-- none of these completions is a failure for lack of memory
abbrev Fine : List Completion → Type 0
Fine X = AllByRecursion (λ x. x.mark ≡ mark.Failed NoMemory → ⊥) X

one_answer : (f : Facts) (t : ℕ) (c : Call) (X Y : List Completion) → Answers f t c X → Answers f t c Y → Fine X
    → Fine Y → X ≡ Y
one_answer f t c X Y h e p q = grind arith

-- the prefix of a valid history is valid
lawful_past : (roster : List Member) (past : Trace) (events : List Event) → IsLawful roster (followed_by past events)
    → IsLawful roster past
lawful_past roster past [] l = l
lawful_past roster past (e ∷ events) l = (lawful_past roster (e ∷ past) events l).0

same_event : (t : ℕ) (c : Call) (X : List Completion) (o : Event) → o.thread ≡ t → o.call ≡ c → o.completions ≡ X
    → o ≡ record { thread = t; call = c; completions = X }
same_event t c X o thread call completions = rw (sym thread, sym call, sym completions) refl

only_run-by : (roster : List Member) (past : Trace) (events : List Event) → IsLawful roster (followed_by past events)
    → HadMemory events → (others : List Event)
    → map event_call others ≡ map event_call events → IsLawful roster (followed_by past others) → HadMemory others
    → others ≡ events
only_run-by roster past [] l h [] same m g = refl
only_run-by roster past [] l h (o ∷ others) same m g = cc
only_run-by roster past (e ∷ events) l h [] same m g = cc
only_run-by roster past (e ∷ events) l h (o ∷ others) same m g =
    let first : IsLawful roster (e ∷ past) = lawful_past roster (e ∷ past) events l in
    let other : IsLawful roster (o ∷ past) = lawful_past roster (o ∷ past) others m in
    let told : event_call o ≡ event_call e = cc in
    let thread : o.thread ≡ e.thread = ap (λ p. p.0) told in
    let call : o.call ≡ e.call = ap (λ p. p.1) told in
    let rest : map event_call others ≡ map event_call events = cc in
    let answers : Answers (facts_of roster past) e.thread e.call o.completions =
    subst (λ p. Answers (facts_of roster past) p.0 p.1 o.completions) told other.1.1 in
    let completions : o.completions ≡ e.completions =
    one_answer (facts_of roster past) e.thread e.call o.completions e.completions answers first.1.1 g.0 h.0 in
    let event : o ≡ e = same_event e.thread e.call e.completions o thread call completions in
    let after : others ≡ events =
    only_run-by roster (e ∷ past) events l h.1 others rest
    (subst (λ x. IsLawful roster (followed_by (x ∷ past) others)) event m) g.1 in
    cc

pub only_run : (roster : List Member) (past : Trace) (events : List Event) → IsLawful roster (followed_by past events)
    → IsOnlyRun roster past events
only_run roster past events l h others same m g = grind (arith, only_run-by)
