-- The newest call of a thread, and the completion that the thread waits for.
use Rattle.qshared.proofs.Common.{◌≡◌, ℕ, ◌+◌, ◌≤◌, ◌⊎◌, List, [], ◌∷◌, ◌++◌, length, length-append, refl}
use Rattle.qshared.proofs.Common.{ap, sym, subst, ◌∙◌, Bool, true, false, eqb, inl, inr, arith, append-nil, None}
use Rattle.qshared.proofs.Common.{Option, Some, MatchOption, AllByRecursion, cases_Bool, eqb-true}
use Rattle.qshared.proofs.Common.{eqb-false, eq-eqb, true≢false, none-some, Completion, Call, Extends, IsSince, Member}
use Rattle.qshared.proofs.Common.{calls_of, of_thread, at_once, ends_open, waits, AreLater, place, threads_of}
use Rattle.qshared.proofs.Common.{IsLawful, facts_of, open_call, refusal_of, Answers, completes, Event}
use Rattle.std.specs.Prelude.{IfSome}
use Rattle.std.proofs.lemmas.Bool.{or_parts}
use Rattle.qmodel.specs.Trace.{Trace}
use Rattle.qrules.proofs.Common.{OpenCall, all_filter_map, completion_to}
use Rattle.qrules.proofs.Basics.{Facts, block, completion_names, is_ended, laws_of, number_of, open_parts}
use Rattle.qrules.proofs.Traces.Past.Open.{open_from}
use Rattle.qrules.proofs.Traces.Properties.Sends.{begins_now}
use Rattle.qshared.specs.Delivered.{Arrives, EndsWith, IsAwaited, newest_call}
use Rattle.qshared.specs.declared.history.Prefix.{Prefix}
use Rattle.qshared.proofs.Places.{place_same}
use Rattle.qshared.proofs.Seeing.{on}
use Rattle.qshared.proofs.Turns.{Takes, extends_since, not_nil, since_extends, tails, waits_none, waits_once}

-- ---- the newest call, if it didn't complete in its own event

ends_last : (once : List (List Completion)) (xs : List Completion) → ends_open (once ++ xs ∷ []) ≡ true → xs ≡ []
ends_last [] [] e = refl
ends_last [] (x ∷ xs) e = absurd (true≢false (sym e))
ends_last (ys ∷ []) xs e = ends_last [] xs e
ends_last (ys ∷ zs ∷ once) xs e = ends_last (zs ∷ once) xs e

-- a thread with an open call is refused
not_free : (f : Facts) (t : ℕ) (c : Call) (o : OpenCall) → f.open_call t ≡ Some o → refusal_of f t c ≡ None → ⊥
not_free f t c o is none = grind arith

-- the only completion of an event is for this thread
own_ends : (t : ℕ) (x : Completion) (X : List Completion) → X ≡ x ∷ [] → x.thread ≡ t → of_thread t X ≡ [] → ⊥
own_ends t x X only same none =
    let here : x ∷ [] ≡ of_thread t (x ∷ []) = rw (eq-eqb x.thread t same) refl in
    not_nil x [] (here ∙ sym (ap (of_thread t) only) ∙ none)

-- an event of a thread with an open call completes at once
busy_ends : (roster : List Member) (past : Trace) (e : Event) (t : ℕ) (o : OpenCall) → e.thread ≡ t
    → Answers (facts_of roster past) e.thread e.call e.completions → open_call roster past t ≡ Some o
    → of_thread t e.completions ≡ [] → ⊥
busy_ends roster past e t o same answers is none = elim answers [
  | inl a ↦ not_free (facts_of roster past) e.thread e.call o (ap (open_call roster past) same ∙ is) a.no_refusal
  | inr a ↦ own_ends t _ e.completions a.only same none
]

newest_block : (roster : List Member) (past : Trace) (t : ℕ) (b : OpenCall) → IsLawful roster past
    → block roster past t ≡ Some b → is_ended past (number_of b) ≡ false → ends_open (at_once past t) ≡ true
    → number_of b ≡ newest_call past t
newest_block roster [] t b l is going w = absurd (none-some b is)
newest_block roster (e ∷ past) t b l is going w =
    let before : is_ended past (number_of b) ≡ false =
    (or_parts (completes e.completions (number_of b)) (is_ended past (number_of b)) going).1 in
    elim (cases_Bool (eqb e.thread t)) [
      | inl own ↦
          let none : of_thread t e.completions ≡ [] =
          ends_last (at_once past t) (of_thread t e.completions) (rw own at w) in
          elim (begins_now roster e past t b is) [
            | inl h ↦ h.number ∙ rw own refl
            | inr h ↦ absurd (busy_ends roster past e t _ (eqb-true e.thread t own) l.1.1
                (open_from roster past t b h before) none)
          ]
      | inr other ↦ elim (begins_now roster e past t b is) [
        | inl h ↦ absurd (eqb-false e.thread t other h.thread)
        | inr h ↦
            let w' : ends_open (at_once past t ++ []) ≡ true = rw other at w in
            newest_block roster past t b l.0 h before
            (subst (λ os. ends_open os ≡ true) (append-nil (at_once past t)) w') ∙ rw other refl
      ]
    ]

newest_open : (roster : List Member) (past : Trace) (t : ℕ) (o : OpenCall) → IsLawful roster past
    → open_call roster past t ≡ Some o → ends_open (at_once past t) ≡ true → number_of o ≡ newest_call past t
newest_open roster past t o l is w = let k = open_parts roster past t o is in
    k.number ∙ newest_block roster past t k.block l k.is k.going w

-- a completion for another thread than the event's completes the newest call of its thread, if this call didn't
-- complete in its own event
abbrev pub CompletesNewest : Trace → ℕ → Completion → Type 0
CompletesNewest past caller x = eqb x.thread caller ≡ false → ends_open (at_once past x.thread) ≡ true
    → x.call ≡ newest_call past x.thread

pub complete_newest : (roster : List Member) (past : Trace) (e : Event) → IsLawful roster (e ∷ past)
    → AllByRecursion (CompletesNewest past e.thread) e.completions
complete_newest roster past e l =
    let f = facts_of roster past in
    let P = CompletesNewest past e.thread in
    elim (l.1.1) [
      | inl a ↦ subst (AllByRecursion P) (sym a.by_row)
          (all_filter_map P (completion_to f e.thread e.call) (threads_of roster) (λ v y is.
          elim (completion_names f e.thread e.call v y (laws_of f e.thread e.call e.completions a) is) [
            | inl own ↦ λ apart w. absurd (eqb-false y.thread e.thread apart own.names.thread)
            | inr other ↦ λ apart w. other.names.call ∙ newest_open roster past y.thread other.names.waiting l.0
                (ap (open_call roster past) other.names.thread ∙ other.names.is) w
          ]))
      | inr a ↦ subst (AllByRecursion P) (sym a.only) ((λ apart w. absurd (eqb-false _ _ apart refl)), tt)
    ]

-- ---- two prefixes of one history

waits_more : (once : List (List Completion)) (xs : List Completion) → waits once ≤ waits (once ++ xs ∷ [])
waits_more once [] = let n = waits_none once in omega (arith, n)
waits_more once (x ∷ xs) = let n = waits_once once x xs in omega (arith, n)

waits_longer : (more short : Trace) (t : ℕ) → waits (at_once short t) ≤ waits (at_once (more ++ short) t)
waits_longer [] short t = omega arith
waits_longer (e ∷ more) short t =
    let h : waits (at_once short t) ≤ waits (at_once (more ++ short) t) = waits_longer more short t in
    elim (cases_Bool (eqb e.thread t)) [
      | inl own ↦
          let n = waits_more (at_once (more ++ short) t) (of_thread t e.completions) in
          rw own (omega (arith, h, n))
      | inr other ↦ rw (other, append-nil (at_once (more ++ short) t)) h
    ]

-- if both have the same number of calls that waited, and the newest call of the longer one did, both have the same
-- calls of the thread
same_newest : (more short : Trace) (t : ℕ) → waits (at_once (more ++ short) t) ≡ waits (at_once short t)
    → ends_open (at_once (more ++ short) t) ≡ true
    → (calls_of (more ++ short) t ≡ calls_of short t) × (newest_call (more ++ short) t ≡ newest_call short t)
same_newest [] short t same w = (refl, refl)
same_newest (e ∷ more) short t same w =
    let once = at_once (more ++ short) t in
    elim (cases_Bool (eqb e.thread t)) [
      | inl own ↦
          let none : of_thread t e.completions ≡ [] = ends_last once (of_thread t e.completions) (rw own at w) in
          let many : waits (once ++ of_thread t e.completions ∷ []) ≡ waits (at_once short t) = rw own at same in
          let more_waits : waits (once ++ [] ∷ []) ≡ waits (at_once short t) =
          ap (λ xs. waits (once ++ xs ∷ [])) (sym none) ∙ many in
          let n = waits_none once in
          let h : waits (at_once short t) ≤ waits once = waits_longer more short t in
          absurd (omega (arith, more_waits, n, h))
      | inr other ↦
          let same' : waits (once ++ []) ≡ waits (at_once short t) = rw other at same in
          let w' : ends_open (once ++ []) ≡ true = rw other at w in
          let r = same_newest more short t (ap waits (sym (append-nil once)) ∙ same')
          (subst (λ os. ends_open os ≡ true) (append-nil once) w') in
          rw other (append-nil (calls_of (more ++ short) t) ∙ r.0, r.1)
    ]

suffixes : (m n a b : Trace) → m ++ a ≡ n ++ b → Extends a b ⊎ Extends b a
suffixes [] n a b e = inl (n, e)
suffixes (x ∷ m) [] a b e = inr (x ∷ m, sym e)
suffixes (x ∷ m) (y ∷ n) a b e = suffixes m n a b (tails x y (m ++ a) (n ++ b) e)

one_history : (all a b : Trace) (t : ℕ) → Extends all a → Extends all b
    → waits (at_once a t) ≡ waits (at_once b t) → ends_open (at_once a t) ≡ true → ends_open (at_once b t) ≡ true
    → (calls_of a t ≡ calls_of b t) × (newest_call a t ≡ newest_call b t)
one_history all a b t h k same w v = elim (suffixes h.0 k.0 a b (sym h.1 ∙ k.1)) [
  | inl m ↦ let r = same_newest m.0 b t (ap (λ p. waits (at_once p t)) (sym m.1) ∙ same)
      (subst (λ p. ends_open (at_once p t) ≡ true) m.1 w) in
      (ap (λ p. calls_of p t) m.1 ∙ r.0, ap (λ p. newest_call p t) m.1 ∙ r.1)
  | inr m ↦ let r = same_newest m.0 a t (ap (λ p. waits (at_once p t)) (sym m.1) ∙ sym same)
      (subst (λ p. ends_open (at_once p t) ≡ true) m.1 v) in
      (sym (ap (λ p. calls_of p t) m.1 ∙ r.0), sym (ap (λ p. newest_call p t) m.1 ∙ r.1))
]

-- ---- the completion that a thread waited for

awaits : (roster : List Member) (t i : ℕ) (asked : List Call) (last after : Trace) (took : List Completion)
    (x : Completion) → place (threads_of roster) t ≡ Some i → Extends after last → calls_of last t ≡ asked
    → AreLater true (at_once last t) took → Arrives roster i (took ++ x ∷ []) x after
    → IsAwaited roster t asked last x after
awaits roster t i asked last after took x at extends calls later a =
    let d = a.is in
    let made : Trace = a.made in
    let same : x.thread ≡ t = place_same (threads_of roster) x.thread t i d.thread at in
    let own : AreLater false (at_once made t) (took ++ x ∷ []) =
    subst (λ u. AreLater false (at_once made u) (took ++ x ∷ [])) same d.later in
    let many : length (took ++ x ∷ []) ≡ length took + 1 = length-append took (x ∷ []) in
    let waiting : waits (at_once made t) ≡ waits (at_once last t) = omega (arith, own.0, many, later.0) in
    let r = one_history after made last t a.extends extends waiting
    (subst (λ u. ends_open (at_once made u) ≡ true) same d.waited) (later.1 refl) in
    record {
      made = made;
      extends = a.extends;
      lawful = d.lawful;
      properties = d.properties;
      ends = subst (λ u. EndsWith made u x) same d.ends;
      calls = r.0 ∙ calls;
      call = d.call ∙ ap (newest_call made) same;
      newest = r.1;
    }

-- a port's prefix after it took a completion or none
abbrev pub Learns : Option Completion → Prefix → Prefix → Type 0
Learns r before after = MatchOption r (after ≡ before) (λ x. Extends after.trace before.trace)

extends_learned : (r : Option Completion) (before after : Prefix) → Learns r before after
    → Extends after.trace before.trace
extends_learned None before after l = ([], ap (λ (p : Prefix). p.trace) l)
extends_learned (Some x) before after l = l

pub since_learned : (r : Option Completion) (before after : Prefix) (last : Trace) → Learns r before after
    → IsSince before.trace last → IsSince after.trace last
since_learned r before after last l s =
    since_extends after.trace last
    (on last before.trace after.trace (extends_learned r before after l) (extends_since before.trace last s))

-- what a port knows of the completion that it took
pub awaited : (roster : List Member) (t i : ℕ) (asked : List Call) (last : Trace) (before after : Prefix)
    (r : Option Completion) (had has : List Completion) (old new : Bool)
    → place (threads_of roster) t ≡ Some i → calls_of last t ≡ asked → IsSince before.trace last
    → AreLater old (at_once last t) had → Takes r had has
    → MatchOption r (new ≡ old) (λ x. (old ≡ true) × (new ≡ false)) → Learns r before after
    → IfSome r (λ x. Arrives roster i has x after.trace)
    → IfSome r (λ x. IsAwaited roster t asked last x after.trace)
awaited roster t i asked last before after None had has old new at calls since later takes p l a = tt
awaited roster t i asked last before after (Some x) had has old new at calls since later takes p l a =
    awaits roster t i asked last after.trace had x at
    (on last before.trace after.trace l (extends_since before.trace last since)) calls
    (subst (λ b. AreLater b (at_once last t) had) p.0 later)
    (subst (λ ys. Arrives roster i ys x after.trace) takes a)

-- the same, with the roster and the cell of the port
pub arrives_at : (r : Option Completion) (roster roster' : List Member) (i i' : ℕ) (has : List Completion)
    (after : Trace) → roster ≡ roster' → i ≡ i' → IfSome r (λ x. Arrives roster i has x after)
    → IfSome r (λ x. Arrives roster' i' has x after)
arrives_at r roster roster' i i' has after e is a =
    subst (λ (z : List Member × ℕ). IfSome r (λ x. Arrives z.0 z.1 has x after)) (λ k. (e k, is k)) a
