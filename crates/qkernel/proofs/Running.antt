-- One more call of a run.
use Rattle.qkernel.proofs.Common.{◌≡◌, ℕ, suc, ◌+◌, ◌-◌, ◌<◌, ◌≤◌, ◌^◌, List, [], ◌∷◌, ◌++◌, length, map, reverse, refl}
use Rattle.qkernel.proofs.Common.{ap, sym, subst, ◌∙◌, cond, arith, true, false, Logged, with_next, event_call}
use Rattle.qkernel.proofs.Common.{AnswersAtTraces, Event, Trace, is_some, member_at, IsRoster, Call, Completion, Thread}
use Rattle.qkernel.proofs.Common.{State, blocked_count, members_of}
use Rattle.std.proofs.lemmas.List.{append-nil, reverse-append}
use Rattle.qkernel.specs.Run.{RunsAtTraces, AllKnown, Headline}
use Rattle.qrules.specs.Trace.{followed_by}
use Rattle.qrules.proofs.Traces.OnlyRun.{only_run}
use Rattle.qkernel.proofs.Traces.{followed_push, properties_of, matches_roster}

-- ---- a list of events

runs_none : (s : State) → RunsAtTraces s [] s
runs_none s = λ roster past l st. (l, st)

-- one more event
pub runs_more : (old mid new : State) (events : List Event) (e : Event) → RunsAtTraces old events mid
    → is_some (member_at (members_of mid.threads) e.thread) ≡ true
    → AnswersAtTraces mid e.thread e.call e.completions new
    → RunsAtTraces old (events ++ e ∷ []) new
runs_more old mid new events e run known step = λ roster past l st.
    let now = run roster past l st in
    let next = step roster (followed_by past events) now.0 now.1 in
    let among : is_some (member_at roster e.thread) ≡ true =
    subst (λ r. is_some (member_at r e.thread) ≡ true) (matches_roster roster mid (followed_by past events) now.1)
    known in
    rw (followed_push past events e) ((now.0, (among, next.0)), next.1)

-- ---- the run so far; todo has the calls still to come

abbrev as_event : ℕ × Call → List Completion → Event
as_event q X = record { thread = q.0; call = q.1; completions = X }

told_push : (events : List Event) (q : ℕ × Call) (X : List Completion) (todo : List (ℕ × Call))
    → map event_call (events ++ as_event q X ∷ []) ++ todo ≡ map event_call events ++ q ∷ todo
told_push [] q X todo = refl
told_push (e ∷ events) q X todo = ap (λ qs. event_call e ∷ qs) (told_push events q X todo)

pub record Running (old : State) (calls : List (ℕ × Call)) (now : State) (log : Logged)
    (todo : List (ℕ × Call)) : Type 0 where
  pub ran : RunsAtTraces old log.events now
  pub told : map event_call log.events ++ todo ≡ calls
  pub noted : log.noted ≡ todo
  pub none : log.completions ≡ []
  pub members : members_of now.threads ≡ members_of old.threads
  pub known : AllKnown (members_of old.threads) todo
  pub limit : now.made + length todo ≤ 2 ^ 40
  pub room : length todo + blocked_count now.threads ≤ log.completion_room

pub running_at_start : (old : State) (calls : List (ℕ × Call)) (log : Logged) → AllKnown (members_of old.threads) calls
    → old.made + length calls ≤ 2 ^ 40 → log.noted ≡ calls → log.events ≡ [] → log.completions ≡ []
    → length calls + blocked_count old.threads ≤ log.completion_room → Running old calls old log calls
running_at_start old calls log known limit noted events none room = record {
  ran = rw events (runs_none old);
  told = rw events refl;
  noted = noted;
  none = none;
  members = refl;
  known = known;
  limit = limit;
  room = room;
}

module _ (old : State) (calls : List (ℕ × Call)) (now : State) (log : Logged) (q : ℕ × Call) (todo : List (ℕ × Call))
    (r : Running old calls now log (q ∷ todo)) where
  -- the requirements of the run's next step
  pub next_known : is_some (member_at (members_of now.threads) q.0) ≡ true
  next_known = rw (r.members) r.known.0

  pub next_limit : now.made < 2 ^ 40
  next_limit = let limit : now.made + suc (length todo) ≤ 2 ^ 40 = r.limit in omega arith

  pub next_noted : 0 < length log.noted
  next_noted = rw (r.noted) (omega arith)

  module _ (new : State) (X : List Completion) (step : AnswersAtTraces now q.0 q.1 X new)
      (members : members_of new.threads ≡ members_of now.threads) (made : new.made ≡ now.made + 1)
      (few : length X + blocked_count new.threads ≤ blocked_count now.threads + 1) where
    pub next_room : length X ≤ log.completion_room
    next_room = let room : suc (length todo) + blocked_count now.threads ≤ log.completion_room = r.room in omega arith

    pub running_more : Running old calls new
        (with_next
        (record log { completions = log.completions ++ X; completion_room = log.completion_room - length X })) todo
    running_more =
        let limit : now.made + suc (length todo) ≤ 2 ^ 40 = r.limit in
        let room : suc (length todo) + blocked_count now.threads ≤ log.completion_room = r.room in
        let mine : log.completions ++ X ≡ X = ap (λ ys. ys ++ X) r.none in
        let next : with_next
        (record log { completions = log.completions ++ X; completion_room = log.completion_room - length X })
        ≡ record {
          events = log.events ++ as_event q X ∷ [];
          noted = todo;
          completions = [];
          call_room =
              log.call_room;
          completion_room = log.completion_room - length X;
        } = rw (r.noted, mine) refl in
        rw next (record {
          ran = runs_more old now new log.events (as_event q X) r.ran next_known step;
          told = told_push log.events q X todo ∙ r.told;
          noted = refl;
          none = refl;
          members = members ∙ r.members;
          known = r.known.1;
          limit = omega arith;
          room = omega arith;
        })

-- ---- the whole run

pub blocked_most : (threads : List Thread) → blocked_count threads ≤ length threads
blocked_most [] = omega arith
blocked_most (t ∷ threads) = let rest : blocked_count threads ≤ length threads = blocked_most threads in
    elim (is_some t.open_call) as (λ b. cond b 1 0 + blocked_count threads ≤ suc (length threads)) [
      | true ↦
          omega arith
      | false ↦ omega arith
    ]

pub headline_of : (old new : State) (first : ℕ) (events : List Event) → IsRoster (members_of old.threads)
    → first ≡ old.made + 1 → RunsAtTraces old events new → Headline old (record { first = first; events = events }) new
headline_of old new first events rises is run = λ roster past l st.
    let now = run roster past l st in
    let rising : IsRoster roster = subst IsRoster (matches_roster roster old past st) rises in
    let trace : Trace = followed_by past events in
    record {
      rising = rising;
      first = is ∙ ap (λ f. f.number) st;
      lawful = now.0;
      properties = properties_of roster trace now.0 rising;
      only = only_run roster past events now.0;
      matches = now.1;
    }

pub popped : {X : Type 0} (old new : List X) (x : X) → old ≡ new ++ x ∷ [] → reverse old ≡ x ∷ reverse new
popped old new x e = ap reverse e ∙ reverse-append new (x ∷ [])

-- the run is over
pub all_told : (old : State) (calls : List (ℕ × Call)) (now : State) (log : Logged) → Running old calls now log []
    → map event_call log.events ≡ calls
all_told old calls now log r = sym (append-nil (map event_call log.events)) ∙ r.told
