-- The laws of ids: of open channels and live connections.
use Rattle.qrules_laws.proofs.Common.{AllByRecursion, Answers, Bool, Call, Completion, Effect, Event, Facts, IsRoster}
use Rattle.qrules_laws.proofs.Common.{List, Member, Trace, [], all_append, all_filter_map, all_more, ap, arith}
use Rattle.qrules_laws.proofs.Common.{attached_connection, attaches, channel_at, completion_of, completion_to, cond}
use Rattle.qrules_laws.proofs.Common.{connection_at, count_to, creates, detaches, completions_of, eqb}
use Rattle.qrules_laws.proofs.Common.{false, inl, inr, is_number, length, length-append, member_at, nat_tests, names}
use Rattle.qrules_laws.proofs.Common.{none-some, one_for, or-true, passes_of, past_follows, refl, row_of, subst, sym}
use Rattle.qrules_laws.proofs.Common.{threads_of, true, was_done, ℕ, ◌++◌, ◌+◌, ◌∙◌, ◌∷◌, ◌≡◌, ◌≤◌}
use Rattle.qrules.proofs.Traces.Rows.{unblocked_same}
use Rattle.std.specs.Prelude.{Option, None, Some, is_some}
use Rattle.qrules.proofs.Words.Lawful as old
use Rattle.qrules.proofs.Words.Past as past_of
use Rattle.qmodel.specs.declared.call.Call.TheVariants as calls
use Rattle.qmodel.specs.declared.call.Mark.{Mark}
use Rattle.qmodel.specs.declared.call.Mark.TheVariants as mark
use Rattle.qrules.proofs.Traces.Calls.Cancelling.{cancel_parts}
use Rattle.qrules.proofs.Traces.Past.Channels.{closes_alone, closes_open}
use Rattle.qrules.proofs.Traces.Past.Live.{count_less, gone_below, live, live_parts, made_above}
use Rattle.qrules.proofs.Traces.Past.Numbers.{made_below}
use Rattle.qrules.specs.Lawful.{IsLawful}
use Rattle.qrules_laws.specs.Ids as laws

-- ---- how many channels are open and connections live

-- neither count is over its limit
abbrev AreFew : ℕ → ℕ → Type 0
AreFew channels connections = (channels ≤ 64) × (connections ≤ 1024)

room : (f : Facts) (t : ℕ) (m : Option Member) (c : Call) → (row_of f t c).refusal ≡ None
    → AreFew f.open_channels f.live_connections
    → AreFew (f.open_channels + one_for (creates m c)) (f.live_connections + one_for (attaches m c))
room f t m c r few = grind (arith, nat_tests)

are_few : (roster : List Member) (past : Trace) → IsRoster roster → old.IsLawful roster past
    → AreFew (past_of.open_channels roster past) (past_of.live_connections roster past)
are_few roster [] r l = (omega arith, omega arith)
are_few roster (e ∷ past) r l =
    let f = old.facts_of roster past in
    let few = are_few roster past r l.0 in
    elim (l.1.1) [
      | inl a ↦
          let k = past_follows true roster past e.thread e.call e.completions r l.0 l.1.0 a in
          let left =
          room f e.thread (member_at roster e.thread) e.call (passes_of f e.thread e.call e.completions a).row few in
          (omega (arith, k.open_channels, left.0), omega (arith, k.live_connections, left.1))
      | inr a ↦
          let k = past_follows false roster past e.thread e.call e.completions r l.0 l.1.0 a in
          (omega (arith, k.open_channels, few.0), omega (arith, k.live_connections, few.1))
    ]

-- ---- each open channel and live connection is counted

module _ {A : Type 0} where
  still_there : (at : ℕ → Option A) (h : ℕ) (ids : List ℕ) → AllByRecursion (λ i. eqb h i ≡ false) ids
      → AllByRecursion (λ i. is_some (at i) ≡ true) ids
      → AllByRecursion (λ i. is_some (cond (eqb h i) None (at i)) ≡ true) ids
  still_there at h [] other there = tt
  still_there at h (i ∷ ids) other there =
      (ap (λ b. is_some (cond b None (at i))) other.0 ∙ there.0, still_there at h ids other.1 there.1)

  counted : (at : ℕ → Option A) (n : ℕ) → ((i : ℕ) → is_some (at i) ≡ true → (1 ≤ i) × (i ≤ n))
      → laws.AtMost (count_to at n) at
  counted at n within [] different there = omega arith
  counted at n within (h ∷ ids) different there =
      let range = within h there.0 in
      let but : ℕ → Option A = λ i. cond (eqb h i) None (at i) in
      omega (
        arith,
        count_less but at n h range.0 range.1 there.0 (λ i _. refl),
        counted but n (λ i is. within i (grind arith)) ids different.1 (still_there at h ids different.0 there.1),
      )

  at_most : (roster : List Member) (make : Option Member → Call → Option A) (ends : Effect → Option ℕ) (past : Trace)
      (n : ℕ) → count_to (live roster make ends past) (length past) ≤ n → laws.AtMost n (live roster make ends past)
  at_most roster make ends past n few ids different there =
      let made = λ (e : Event). make (member_at roster e.thread) e.call in
      let there_is = live roster make ends past in
      omega (
        arith,
        few,
        counted there_is (length past) (λ i is. let k = live_parts roster make ends past i is in
            (made_above made past i k.it k.is_made, made_below made past i k.it k.is_made)) ids different there,
      )

pub channels_are_limited : laws.ChannelsAreLimited
channels_are_limited roster past r l =
    at_most roster creates (λ f. f.destroys) past 64 (are_few roster past r l).0

pub connections_are_limited : laws.ConnectionsAreLimited
connections_are_limited roster past r l =
    at_most roster attaches (λ f. f.detaches) past 1024 (are_few roster past r l).1

-- ---- an id that a completion returns is the number of its call

-- the id of the new channel or connection in a result
abbrev id_in : Mark → Option ℕ
id_in (mark.Channel h) = Some h
id_in (mark.Connection k) = Some k
id_in other = None

ends_no_id : (f : Facts) (t : ℕ) (c : Call) (i u : ℕ) (y : Completion) → (row_of f t c).others u ≡ Some y
    → id_in y.mark ≡ Some i → ⊥
ends_no_id f t (calls.Unblock thread) i u y e is = grind (arith, unblocked_same, cancel_parts)
ends_no_id f t c i u y e is = grind arith

own_id : (f : Facts) (t : ℕ) (c : Call) (i : ℕ) (y : Completion) → (row_of f t c).own ≡ Some y → id_in y.mark ≡ Some i
    → f.number ≡ i
own_id f t c i y e is = grind arith

ids_given : (f : Facts) (t : ℕ) (c : Call) (X : List Completion) (i : ℕ) → Answers f t c X
    → AllByRecursion (λ x. id_in x.mark ≡ Some i → f.number ≡ i) X
ids_given f t c X i (inl a) =
    subst (AllByRecursion (λ x. id_in x.mark ≡ Some i → f.number ≡ i)) (sym a.by_row)
    (all_filter_map (λ x. id_in x.mark ≡ Some i → f.number ≡ i) (completion_to f t c) (threads_of f.roster)
    (λ u y is id. elim (completion_of f t c u y is) [
      | inl h ↦ own_id f t c i y h.1 id
      | inr h ↦ absurd (ends_no_id f t c i u y h.1 id)
    ]))
ids_given f t c X i (inr a) = subst (AllByRecursion (λ x. id_in x.mark ≡ Some i → f.number ≡ i)) (sym a.only) (
  (λ id. absurd (none-some i id)),
  tt,
)

-- so no later completion returns an id that is the number of a past call
never_given : (roster : List Member) (past later : Trace) (i : ℕ) → i ≤ length past
    → old.IsLawful roster (later ++ past) → AllByRecursion (λ x. id_in x.mark ≡ Some i → ⊥) (completions_of later)
never_given roster past [] i below l = tt
never_given roster past (e ∷ later) i below l =
    all_append _ e.completions (completions_of later)
    (all_more _ _ e.completions (ids_given (old.facts_of roster (later ++ past)) e.thread e.call e.completions i l.1.1)
    (λ x number id.
    let same : length (later ++ past) + 1 ≡ i = number id in omega (arith, below, length-append later past)))
    (never_given roster past later i below l.0)

-- ---- destroyed channels and detached connections

still_done : (is : Effect → Bool) (past later : Trace) → was_done is past ≡ true → was_done is (later ++ past) ≡ true
still_done is past [] done = done
still_done is past (e ∷ later) done =
    rw (still_done is past later done) (or-true _)

-- an accepted call that detaches a connection names a live one; such a call attaches none
detaches_live : (f : Facts) (t : ℕ) (c : Call) (k : ℕ) → (row_of f t c).refusal ≡ None → names (detaches c) k ≡ true
    → is_some (f.connection k) ≡ true
detaches_live f t c k r e = grind (arith, nat_tests)

detaches_alone : (m : Option Member) (c : Call) (k : ℕ) → detaches c ≡ Some k → attaches m c ≡ None
detaches_alone m c k e = grind arith

lawful_before : (roster : List Member) (past later : Trace) → old.IsLawful roster (later ++ past)
    → old.IsLawful roster past
lawful_before roster past [] l = l
lawful_before roster past (e ∷ later) l = lawful_before roster past later l.0

never_again : (roster : List Member) (past later after : Trace) (i : ℕ) (given : Mark) → IsLawful roster after
    → after ≡ later ++ past → (old.IsLawful roster past → i ≤ length past) → id_in given ≡ Some i
    → AllByRecursion (λ x. x.mark ≡ given → ⊥) (completions_of later)
never_again roster past later after i given l is below id =
    let lawful : old.IsLawful roster (later ++ past) = subst (old.IsLawful roster) is l in
    all_more _ _ (completions_of later)
    (never_given roster past later i (below (lawful_before roster past later lawful)) lawful)
    (λ x none same. none (ap id_in same ∙ id))

pub destroyed_stays_destroyed : laws.DestroyedStaysDestroyed
destroyed_stays_destroyed past later h gone roster after r l is = (
  ap (λ t. channel_at roster t h) is
      ∙ ap (λ b. cond b None
      (past_of.accepted_at (λ (e : Event). creates (member_at roster e.thread) e.call) (later ++ past) h))
      (still_done (λ e. is_number e.destroys h) past later gone),
  never_again roster past later after h (mark.Channel h) l is (λ lawful.
      gone_below roster creates (λ f. f.destroys) (λ past t c X a h e. let f = old.facts_of roster past in
      closes_open f t c h (passes_of f t c X a).row e) closes_alone past h lawful gone) refl,
)

pub detached_stays_detached : laws.DetachedStaysDetached
detached_stays_detached past later k gone roster after r l is = (
  ap (λ t. connection_at roster t k) is
      ∙ ap (λ b. cond b None (attached_connection roster (later ++ past) k))
      (still_done (λ e. is_number e.detaches k) past later gone),
  never_again roster past later after k (mark.Connection k) l is (λ lawful.
      gone_below roster attaches (λ f. f.detaches) (λ past t c X a k e. let f = old.facts_of roster past in
      detaches_live f t c k (passes_of f t c X a).row e) detaches_alone past k lawful gone) refl,
)
