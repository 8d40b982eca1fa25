-- The threads that get the completions of an event, and the threads that are blocked after it.
use Rattle.qrules.proofs.Common.{arith, ◌≡◌, ◌∙◌, ℕ, ◌+◌, List, [], ◌∷◌, length, refl, ap, sym, subst, cond, Bool, true}
use Rattle.qrules.proofs.Common.{false, eqb, inl, inr, gets, AreApart, is_among, eqb_same, any_filter_map}
use Rattle.qrules.proofs.Common.{any_filter_map_at, all_filter_map, cond_same, filter_map, AllByRecursion, or-true}
use Rattle.qrules.proofs.Common.{member_at, IsRoster, Member, completion_to, row_of, SentItem, Event, Trace, Call}
use Rattle.qrules.proofs.Common.{Completion, OpenCall, Transfer, channel_of, Option, Some, is_some, ◌||◌}
use Rattle.std.proofs.lemmas.Bool.{cases_Bool, eqb-true, ne_eqb, true≢false}
use Rattle.qrules.proofs.Basics.{receipt_of, Received, Facts, threads_of, asks, makes, facts_of, IsLawful}
use Rattle.qrules.proofs.Basics.{completes, open_call, after_receipt, after_unblock, after_write}
use Rattle.qrules.proofs.Basics.{open_call_after, unless, completion_names, ends_own, laws_of, open_known, passes_of}
use Rattle.qrules.proofs.Basics.{Passes, waits_or_ends, Rises, rises, not_among, known}
use Rattle.qrules.proofs.Traces.Past.OpenCalls.{open_accepted, open_refused}
use Rattle.qrules.proofs.Traces.TraceLaws.Completion.{completion_thread}

-- ---- completions by thread

module _ (g : ℕ → Option Completion) (names : (u : ℕ) (y : Completion) → g u ≡ Some y → y.thread ≡ u) where
  -- a thread that isn't among these gets nothing
  gets_none : (ts : List ℕ) (u : ℕ) → is_among ts u ≡ false → gets (filter_map g ts) u ≡ false
  gets_none [] u h = refl
  gets_none (v ∷ ts) u h = grind (arith, gets_none ts)

  apart_by : (ts : List ℕ) → Rises ts → AreApart (filter_map g ts)
  apart_by [] r = tt
  apart_by (v ∷ ts) r = grind (arith, gets_none, not_among, apart_by ts)

  -- a thread among these gets a completion exactly if the function has one for it
  gets_by : (ts : List ℕ) (u : ℕ) → is_among ts u ≡ true → gets (filter_map g ts) u ≡ is_some (g u)
  gets_by ts u among = grind (arith, any_filter_map, any_filter_map_at)

-- each completion of an event goes to a different thread
pub completions_are_apart : (roster : List Member) (past : Trace) (e : Event) → IsRoster roster
    → IsLawful roster (e ∷ past) → AreApart e.completions
completions_are_apart roster past e r l =
    let f = facts_of roster past in
    elim (l.1.1) [
      | inl a ↦ subst AreApart (sym a.by_row)
          (apart_by (completion_to f e.thread e.call)
          (completion_thread f e.thread e.call (laws_of f e.thread e.call e.completions a)) (threads_of roster)
          (rises roster r))
      | inr a ↦ subst AreApart (sym a.only) (refl, tt)
    ]

-- a call of thread u may complete in an event of thread t: u is t, or u is blocked
abbrev pub may_end : List Member → Trace → ℕ → ℕ → Bool
may_end roster past t u = eqb u t || is_some (open_call roster past u)

-- the completion goes to a thread of the roster whose call may complete in an event of thread t
pub record GoesToBlocked (roster : List Member) (past : Trace) (t : ℕ) (x : Completion) : Type 0 where
  pub known : is_some (member_at roster x.thread) ≡ true
  pub may : may_end roster past t x.thread ≡ true

-- a completion of the caller
own_due : (roster : List Member) (past : Trace) (t : ℕ) (y : Completion) → is_some (member_at roster t) ≡ true
    → y.thread ≡ t → GoesToBlocked roster past t y
own_due roster past t y member e =
    record { known = subst (λ u. is_some (member_at roster u) ≡ true) (sym e) member; may = rw (e, eqb_same t) refl }

pub completions_go_to_blocked : (roster : List Member) (past : Trace) (e : Event) → IsRoster roster
    → IsLawful roster (e ∷ past) → AllByRecursion (GoesToBlocked roster past e.thread) e.completions
completions_go_to_blocked roster past e r l =
    let f = facts_of roster past in
    elim (l.1.1) [
      | inl a ↦ subst (AllByRecursion (GoesToBlocked roster past e.thread)) (sym a.by_row)
          (all_filter_map (GoesToBlocked roster past e.thread) (completion_to f e.thread e.call) (threads_of roster)
          (λ v y is.
          elim (completion_names f e.thread e.call v y (laws_of f e.thread e.call e.completions a) is) [
            | inl own ↦ own_due roster past e.thread y l.1.0 own.names.thread
            | inr other ↦ record {
              known =
                  subst (λ u. is_some (member_at roster u) ≡ true) (sym other.names.thread)
                  (open_known roster past v other.names.waiting l.0 other.names.is);
              may = rw (other.names.thread, ap is_some other.names.is) (or-true (eqb v e.thread));
            }
          ]))
      | inr a ↦ subst (AllByRecursion (GoesToBlocked roster past e.thread)) (sym a.only) (
        own_due roster past e.thread _ l.1.0 refl,
        tt,
      )
    ]

-- ---- the threads that are blocked after an event

pub some_receipt : (r : Option Received) (u : ℕ) (o : Option OpenCall) → is_some (after_receipt r u o) ≡ is_some o
some_receipt r u o = grind arith

some_write : (f : Facts) (w : Option Transfer) (u : ℕ) (o : Option OpenCall) → is_some (after_write f w u o) ≡ is_some o
some_write f w u o = grind arith

some_unblock : (m : Option SentItem) (w : Option ℕ) (u : ℕ) (o : Option OpenCall)
    → is_some (after_unblock m w u o) ≡ is_some o
some_unblock m w u o = grind arith

some_unless : (b : Bool) (o : Option OpenCall) → is_some (unless b o) ≡ cond b false (is_some o)
some_unless true o = refl
some_unless false o = refl

-- the caller is blocked unless its call completed
own_blocked : (f : Facts) (t : ℕ) (c : Call) → Passes f t c
    → is_some
    (unless (is_some (row_of f t c).own)
    (after_receipt (receipt_of f t c) t (asks f.number t (channel_of (makes f t c)) c)))
    ≡ cond (is_some (row_of f t c).own) false true
own_blocked f t c p = grind (arith, waits_or_ends)

-- after a call that fails: the state of another thread, or of a caller that wasn't blocked before
refused_blocked : (o : Option OpenCall) (own : Option OpenCall) (t u : ℕ) → (eqb u t ≡ true → o ≡ own)
    → is_some own ≡ false → is_some o ≡ cond (eqb t u || false) false (eqb u t || is_some o)
refused_blocked o own t u same idle = grind arith

accepted_blocked : (f : Facts) (t : ℕ) (c : Call) (u : ℕ) → Passes f t c
    → is_some (open_call_after f t c u) ≡ cond (is_some (completion_to f t c u)) false
    (eqb u t || is_some (f.open_call u))
accepted_blocked f t c u p = grind (arith, own_blocked, some_unblock, some_unless, some_write)

-- no thread outside the roster is blocked
stranger_free : (roster : List Member) (past : Trace) (u : ℕ) → IsLawful roster past
    → is_some (member_at roster u) ≡ false → is_some (open_call roster past u) ≡ false
stranger_free roster past u l none = grind (arith, open_known)

-- the state of a thread of the roster
member_blocked : (roster : List Member) (past : Trace) (e : Event) → IsLawful roster (e ∷ past)
    → is_some (open_call roster past e.thread) ≡ false → (u : ℕ) → is_some (member_at roster u) ≡ true
    → is_some (open_call roster (e ∷ past) u) ≡ cond (gets e.completions u) false (may_end roster past e.thread u)
member_blocked roster past e l idle u member =
    let f = facts_of roster past in
    let t = e.thread in
    let c = e.call in
    elim (l.1.1) [
      | inl a ↦
          let got : gets e.completions u ≡ is_some (completion_to f t c u) =
          rw (a.by_row) (gets_by (completion_to f t c) (completion_thread f t c (laws_of f t c e.completions a))
          (threads_of roster) u (known roster u member)) in
          ap is_some (open_accepted roster past t c e.completions u l.0 l.1.0 a)
          ∙ accepted_blocked f t c u (passes_of f t c e.completions a)
          ∙ ap (λ b. cond b false (may_end roster past t u)) (sym got)
      | inr a ↦ ap is_some (open_refused roster past t c e.completions u a)
          ∙ rw (a.only) (refused_blocked (open_call roster past u) (open_call roster past t) t u
          (λ s. ap (open_call roster past) (eqb-true u t s)) idle)
    ]

pub blocked_unless_ended : (roster : List Member) (past : Trace) (e : Event) → IsRoster roster
    → IsLawful roster (e ∷ past) → is_some (open_call roster past e.thread) ≡ false
    → (u : ℕ) → is_some (open_call roster (e ∷ past) u) ≡ cond (gets e.completions u) false
    (may_end roster past e.thread u)
blocked_unless_ended roster past e r l idle u = elim (cases_Bool (is_some (member_at roster u))) [
  | inl member ↦ member_blocked roster past e l idle u member
  | inr none ↦
      let caller : eqb u e.thread ≡ false =
      ne_eqb u e.thread
      (λ s. true≢false (sym (subst (λ v. is_some (member_at roster v) ≡ true) (sym s) l.1.0) ∙ none)) in
      let free : may_end roster past e.thread u ≡ false = rw caller (stranger_free roster past u l.0 none) in
      stranger_free roster (e ∷ past) u l none
      ∙ sym (ap (cond (gets e.completions u) false) free ∙ cond_same (gets e.completions u) false)
]

-- ---- the event's own call

pub caller_gets_its_own : (roster : List Member) (past : Trace) (e : Event) → IsRoster roster
    → IsLawful roster (e ∷ past) → gets e.completions e.thread ≡ completes e.completions (length past + 1)
caller_gets_its_own roster past e r l =
    let f = facts_of roster past in
    let t = e.thread in
    let c = e.call in
    elim (l.1.1) [
      | inl a ↦
          let got : gets e.completions t ≡ is_some (completion_to f t c t) =
          rw (a.by_row) (gets_by (completion_to f t c) (completion_thread f t c (laws_of f t c e.completions a))
          (threads_of roster) t (known roster t l.1.0)) in
          got ∙ rw (eqb_same t) refl ∙ sym (ends_own roster past t c e.completions l.1.0 a)
      | inr a ↦ rw (a.only, eqb_same t, eqb_same (length past + 1)) refl
    ]
