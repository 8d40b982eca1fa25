-- A kept history after an event: the conditions of `event` are enough to keep its invariant.
use Rattle.qshared.proofs.Common.{◌≡◌, ◌≢◌, ℕ, ◌+◌, ◌-◌, ◌<◌, ◌≤◌, ◌^◌, List, [], ◌∷◌, ◌++◌, length, get_or, set, refl}
use Rattle.qshared.proofs.Common.{ap, sym, subst, ◌∙◌, arith, Bool, true, false, eqb, inl, inr, ◌⊎◌, length-append}
use Rattle.qshared.proofs.Common.{length-set, get_or-set_other, get_or-set_same, None, Some, is_some, AllByRecursion}
use Rattle.qshared.proofs.Common.{cases_Bool, eqb-true, eqb-false, true≢false, none-some, same_Some, none_of, some_of}
use Rattle.qshared.proofs.Common.{TraceFull, NoMemory, member_at, Member, Call, Completion, Answers, refusal_of}
use Rattle.qshared.proofs.Common.{AreApart, gets, followed_by, Event, Trace, GoesToBlocked, blocked_unless_ended}
use Rattle.qshared.proofs.Common.{completions_are_apart, completions_go_to_blocked, IsLawful, facts_of, with_event}
use Rattle.qshared.proofs.Common.{open_call, is_blocked, effect_of, known, Logged, with_next, place, is_down}
use Rattle.qshared.proofs.Common.{HasRoomFor, HasRooms, MayCopy, Copied, IsKept, blocked_same, followed_length}
use Rattle.qshared.proofs.Common.{followed_push}
use Rattle.qbase.specs.declared.errno.Errno.{Errno}
use Rattle.qmodel.specs.declared.call.Call.TheVariants.{Shutdown}
use Rattle.qrules.proofs.Traces.TraceLaws.Lengths.{buffer_brought, after_fits, completion_fits}
use Rattle.qrules.proofs.Words.Facts.{threads_of}
use Rattle.qrules.proofs.Words.Past as old_past
use Rattle.qrules.specs.Lawful as rules
use Rattle.qrules.specs.Outcome as outcome
use Rattle.qrules.proofs.Traces.Past.Ends.{accepted}
use Rattle.qshared.specs.Recorded.{KeptPast, admits_recorded, refuses_recorded}
use Rattle.qshared.proofs.Places.{place_below, place_same, place_some}

-- ---- a call that isn't noted

pub past_length : (events : List Event) → length (followed_by [] events) ≡ length events
past_length events = let a = followed_length [] events in omega (arith, a)

pub refused_kept : (limit : ℕ) (events : List Event) (c : Call) (e : Errno) → c ≢ Shutdown
    → ((e ≡ TraceFull) × (length events + 1 ≡ limit)) ⊎ ((e ≡ NoMemory) × (length events + 1 < limit))
    → refuses_recorded limit (followed_by [] events) c e
refused_kept limit events c e other why = elim why [
  | inl full ↦ subst (refuses_recorded limit (followed_by [] events) c) (sym full.0) (
    ap (λ n. n + 1) (past_length events) ∙ full.1,
    other,
  )
  | inr none ↦ subst (refuses_recorded limit (followed_by [] events) c) (sym none.0) (
    let len = past_length events in omega (arith, len, none.1),
    other,
  )
]

-- the condition under which a call is noted
pub admitted_kept : (limit : ℕ) (log log' : Logged) (c : Call) (room : ℕ) → HasRoomFor limit log' c room
    → log'.events ≡ log.events → admits_recorded limit (followed_by [] log.events) c
admitted_kept limit log log' c room has same = elim has.event [
  | inl shut ↦ inr shut
  | inr r ↦ inl (let len = past_length log.events in omega (arith, len, ap length same, r.0))
]

-- a call that is noted finds room for its event, so there were few events before
pub few_noted : (roster : List Member) (limit : ℕ) (threads rooms : List ℕ) (log : Logged) (c : Call) (room : ℕ)
    (ready : Bool) → IsKept roster limit threads rooms log c room ready
    → is_down (followed_by [] log.events) ≡ false → length (followed_by [] log.events) < 2 ^ 40
few_noted roster limit threads rooms log c room ready h up = let len = past_length log.events in
    let spare = h.spare up in
    let bounded = h.bounded in omega (arith, len, spare.0, bounded)

-- ---- a Shutdown that isn't refused

-- a call that shuts down is a Shutdown
pub is_shutdown : (c : Call) → (effect_of c).shuts_down ≡ true → c ≡ Shutdown
is_shutdown Shutdown e = refl
is_shutdown c e = absurd (true≢false (sym e))

old_shutdown_down : (roster : List Member) (past : Trace) (t : ℕ) (X : List Completion) → old_past.is_down past ≡ false
    → is_some (open_call roster past t) ≡ false → Answers (facts_of roster past) t Shutdown X
    → old_past.is_down (with_event t Shutdown X past) ≡ true
old_shutdown_down roster past t X up idle a = elim a [
  | inl a ↦ rw (accepted roster past t Shutdown X a) refl
  | inr a ↦ absurd (elim (a.cause) [
    | inl is ↦ none-some a.error (sym none ∙ is)
    | inr m ↦ true≢false (sym m.1)
  ])
] where
  none : refusal_of (facts_of roster past) t Shutdown ≡ None
  none = rw (up, none_of (open_call roster past t) idle) refl

pub shutdown_down : (roster : List Member) (past : Trace) (t : ℕ) (X : List Completion) → rules.IsLawful roster past
    → is_down past ≡ false → is_blocked (rules.facts_of roster past) t ≡ false
    → outcome.Answers (rules.facts_of roster past) t Shutdown X → is_down (with_event t Shutdown X past) ≡ true
shutdown_down roster past t X lawful up idle a =
    old_shutdown_down roster past t X up (sym (blocked_same roster past lawful t) ∙ idle) a

-- ---- the conditions of an event

-- the conditions of an event of thread t, whose call was noted and had the completions X
pub record Finds (roster : List Member) (limit : ℕ) (threads rooms : List ℕ) (log : Logged) (c : Call) (room : ℕ)
    (t : ℕ) (X : List Completion) : Type 0 where
  pub kept : IsKept roster limit threads rooms log c room true
  pub lawful : IsLawful roster (followed_by [] log.events)
  pub member : is_some (member_at roster t) ≡ true
  pub idle : is_some (open_call roster (followed_by [] log.events) t) ≡ false
  pub up : is_down (followed_by [] log.events) ≡ false
  pub answers : Answers (facts_of roster (followed_by [] log.events)) t c X

pub finds : (roster : List Member) (limit : ℕ) (threads rooms : List ℕ) (log : Logged) (c : Call) (room : ℕ)
    (ready : Bool) (t : ℕ) (X : List Completion) (v : KeptPast)
    → IsKept roster limit threads rooms log c room ready
    → record { past = followed_by [] log.events; noted = c; ready = ready } ≡ v → v.ready ≡ true
    → is_down v.past ≡ false → rules.IsLawful roster v.past
    → (is_some (member_at roster t) ≡ true) × (is_blocked (rules.facts_of roster v.past) t ≡ false)
    → outcome.Answers (rules.facts_of roster v.past) t v.noted X → Finds roster limit threads rooms log c room t X
finds roster limit threads rooms log c room ready t X v h z =
    subst (λ w. w.ready ≡ true → is_down w.past ≡ false → rules.IsLawful roster w.past
    → (is_some (member_at roster t) ≡ true) × (is_blocked (rules.facts_of roster w.past) t ≡ false)
    → outcome.Answers (rules.facts_of roster w.past) t w.noted X → Finds roster limit threads rooms log c room t X) z
    (λ is up lawful thread answers. record {
      kept = subst (λ b. IsKept roster limit threads rooms log c room b) is h;
      lawful = lawful;
      member = thread.0;
      idle = sym (blocked_same roster (followed_by [] log.events) lawful t) ∙ thread.1;
      up = up;
      answers = answers;
    })

-- a log with one more event
abbrev pub with_event_of : Logged → Event → Logged
with_event_of log e =
    record {
      events = log.events ++ e ∷ [];
      noted = [];
      completions = [];
      call_room = log.call_room - 1;
      completion_room = log.completion_room - length e.completions;
    }

-- completions are put, then their call is noted, and then the call becomes an event
pub next_log : (log copied noted next : Logged) (t : ℕ) (c : Call) (X : List Completion) → (log.noted ≡ [])
    × (log.completions ≡ [])
    → copied ≡ record log { completions = log.completions ++ X; completion_room = log.completion_room - length X }
    → noted ≡ record copied { noted = copied.noted ++ (t, c) ∷ []; call_room = copied.call_room - 1 }
    → next ≡ with_next noted → next ≡ with_event_of log (record { thread = t; call = c; completions = X })
next_log log copied noted next t c X none a b d =
    let put : Logged = record log { completions = X; completion_room = log.completion_room - length X; noted = [] } in
    let start : copied ≡ put =
    a ∙ ap (λ ys. record log { completions = ys ++ X; completion_room = log.completion_room - length X }) none.1
    ∙ ap (λ ys. record log { completions = X; completion_room = log.completion_room - length X; noted = ys }) none.0 in
    let mid : noted ≡ record put { noted = (t, c) ∷ []; call_room = put.call_room - 1 } =
    b ∙ ap (λ (l : Logged). record l { noted = l.noted ++ (t, c) ∷ []; call_room = l.call_room - 1 }) start in
    d ∙ ap with_next mid

module _ (roster : List Member) (limit : ℕ) (threads rooms : List ℕ) (log : Logged) (c : Call) (room : ℕ) (t : ℕ)
    (X : List Completion)
    (f : Finds roster limit threads rooms log c room t X) where
  abbrev past : Trace
  past = followed_by [] log.events

  abbrev e : Event
  e = record { thread = t; call = c; completions = X }

  pub lawful_next : IsLawful roster (e ∷ past)
  lawful_next = (f.lawful, (f.member, f.answers))

  pub past_is : followed_by [] (log.events ++ e ∷ []) ≡ e ∷ past
  past_is = followed_push [] log.events e

  pub apart : AreApart X
  apart = completions_are_apart roster past e f.kept.rises lawful_next

  module _ (i : ℕ) (found : place threads t ≡ Some i) where
    at : place (threads_of roster) t ≡ Some i
    at = ap (λ ts. place ts t) (sym f.kept.threads_are) ∙ found

    long : i < length rooms
    long = let below : i < length (threads_of roster) = place_below (threads_of roster) t i at in
        let sized = f.kept.sized in
        let same : length threads ≡ length (threads_of roster) =
        ap length f.kept.threads_are in omega (arith, below, sized, same)

    room_for : (u j : ℕ) → place (threads_of roster) u ≡ Some j
        → length (buffer_brought roster past t c u) ≤ get_or (set rooms i room) j 0
    room_for u j is = elim (cases_Bool (eqb u t)) [
      | inl e ↦
          let same : j ≡ i = same_Some j i (sym is ∙ ap (place (threads_of roster)) (eqb-true u t e) ∙ at) in
          rw (e, same, get_or-set_same rooms i room 0 long) (f.kept.noted_room refl).buffer
      | inr e ↦
          let other : j ≢ i =
          λ s. eqb-false u t e
          (place_same (threads_of roster) u t i (subst (λ k. place (threads_of roster) u ≡ Some k) s is) at) in
          rw (e, get_or-set_other rooms i j room 0 other) (f.kept.has_rooms u j is)
    ]

    -- each completion may be copied
    pub all_may_copy : AllByRecursion (MayCopy threads (set rooms i room)) X
    all_may_copy = subst (λ ts. AllByRecursion (MayCopy ts (set rooms i room)) X) (sym f.kept.threads_are)
        (both X (completions_go_to_blocked roster past e f.kept.rises lawful_next)
        (completion_fits roster past e f.kept.rises lawful_next)) where
          both : (Y : List Completion) → AllByRecursion (GoesToBlocked roster past t) Y
              → AllByRecursion (λ x. length x.buffer ≤ length (buffer_brought roster past t c x.thread)) Y
              → AllByRecursion (MayCopy (threads_of roster) (set rooms i room)) Y
          both [] a b = tt
          both (x ∷ Y) a b =
              let s =
              some_of (place (threads_of roster) x.thread)
              (place_some (threads_of roster) x.thread (known roster x.thread a.0.known)) in
              let short : length x.buffer ≤ length (buffer_brought roster past t c x.thread) = b.0 in
              let has : length (buffer_brought roster past t c x.thread) ≤ get_or (set rooms i room) s.0 0 =
              room_for x.thread s.0 s.1 in
              ((s.0, s.1, omega arith), both Y a.1 b.1)

    module _ (few : length X ≤ 64) (rooms' : List ℕ) (copied : Copied threads X (set rooms i room) rooms')
        (next : Call) (room' : ℕ) where
      rooms_after : HasRooms roster rooms' (e ∷ past)
      rooms_after u j is = elim (cases_Bool (gets X u)) [
        | inl got ↦
            rw (none_of (open_call roster (e ∷ past) u)
            (blocked_unless_ended roster past e f.kept.rises lawful_next f.idle u ∙ rw got refl)) (omega arith)
        | inr none ↦
            let a = after_fits roster past e lawful_next f.idle u in
            let b = room_for u j is in
            let same : get_or rooms' j 0 ≡ get_or (set rooms i room) j 0 =
            copied.room u j (ap (λ ts. place ts u) f.kept.threads_are ∙ is) none in
            omega (arith, a, b, same)
      ]

      -- the invariant of the log holds again
      pub kept_after : IsKept roster limit threads rooms' (with_event_of log e) next room' false
      kept_after =
          let longer : length (log.events ++ e ∷ []) ≡ length log.events + 1 = length-append log.events (e ∷ []) in
          let before = f.kept.spare f.up in
          record {
            rises = f.kept.rises;
            threads_are = f.kept.threads_are;
            sized = copied.rooms_len ∙ length-set rooms i room ∙ f.kept.sized;
            settled = (refl, refl);
            has_rooms = subst (HasRooms roster rooms') (sym past_is) rooms_after;
            within = omega (arith, before.0, longer);
            spare = λ up'. elim (f.kept.noted_room refl).event [
              | inl shut ↦
                  let down : is_down (e ∷ past) ≡ true =
                  subst (λ k. old_past.is_down (with_event t k X past) ≡ true) (sym shut)
                  (old_shutdown_down roster past t X f.up f.idle
                  (subst (λ k. Answers (facts_of roster past) t k X) shut f.answers)) in
                  absurd (true≢false (sym down ∙ ap is_down (sym past_is) ∙ up'))
              | inr r ↦ (omega (arith, r.0, longer), omega (arith, r.1), omega (arith, r.2, few))
            ];
            noted_room = λ e. absurd (true≢false (sym e));
            bounded = f.kept.bounded;
          }
