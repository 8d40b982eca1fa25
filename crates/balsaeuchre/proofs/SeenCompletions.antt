-- A thread has seen the event that completed its call.
use Rattle.std.proofs.Common.{◌≡◌, ◌∙◌, ◌+◌, ◌≤◌, ◌++◌, ◌∷◌, ℕ, List, [], arith, append-nil, ap}
use Rattle.std.proofs.Common.{cond, eqb, false, inl, inr, length, length-append, refl, subst, sym, true}
use Rattle.std.proofs.lemmas.Bool.{cases_Bool, eq-eqb, eqb-true, ne_eqb, true≢false}
use Rattle.std.specs.Prelude.{Err, Ok, Result, Some, option_map, ◌⊎◌}
use Rattle.std.specs.Result.{is_ok}
use Rattle.qtables.specs.declared.member.Member.{Member}
use Rattle.qmodel.specs.declared.call.Call.{Call}
use Rattle.qmodel.specs.declared.call.Completion.{Completion}
use Rattle.qrules.specs.Lawful.{event_call}
use Rattle.qrules.specs.Trace.{event_at, Event, Trace}
use Rattle.qshared.proofs.Seeing.{matches, on}
use Rattle.qshared.proofs.Turns.{heads, tails}
use Rattle.qshared.specs.Answered.{Answered}
use Rattle.qshared.specs.Asking.{calls_of}
use Rattle.qshared.specs.Counting.{is_call}
use Rattle.qshared.specs.Delivered.{EndsWith, IsAwaited, newest_call}
use Rattle.qshared.specs.History.{Extends}
use Rattle.qshared.specs.Performing.{Admits, Refuses}
use Rattle.qshared.specs.declared.called.Called.{Called}
use Rattle.qshared.specs.declared.called.Called.TheVariants as called
use Rattle.balsaeuchre_calls.specs.Coming.{Gives}
use Rattle.balsaeuchre_calls.specs.History.{History}
use Rattle.balsaeuchre_calls.specs.Making.{Comes, Makes}
use Rattle.balsaeuchre_calls.specs.Results.{Reading}
use Rattle.balsaeuchre_calls.specs.declared.endpoint.LastOutcome.{LastOutcome}
use Rattle.balsaeuchre_calls.specs.declared.error.CallError.{CallError}
use Rattle.balsaeuchre_calls.specs.declared.endpoint.LastOutcome.TheVariants as told
use Rattle.balsaeuchre.specs.Completing.{AwaitedAreSeen, ComesAt, CompletionsAreSeen, CompletionsInRealTime}
use Rattle.balsaeuchre.specs.Completing.{HasCompleted, HasReturned}

-- ---- the last of a list

not_longer : {A : Type 0} (xs ys : List A) (y : A) → xs ≡ xs ++ (ys ++ y ∷ []) → ⊥
not_longer xs ys y e =
    let long : length xs ≡ length xs + length (ys ++ y ∷ []) = ap length e ∙ length-append xs (ys ++ y ∷ []) in
    let more : length (ys ++ y ∷ []) ≡ length ys + 1 = length-append ys (y ∷ []) in
    omega (arith, long, more)

last_same : {A : Type 0} (xs ys : List A) (x y : A) → xs ++ x ∷ [] ≡ ys ++ y ∷ [] → x ≡ y
last_same [] [] x y e = heads x y [] [] e
last_same [] (b ∷ ys) x y e = absurd (not_longer [] ys y (tails x b [] (ys ++ y ∷ []) e))
last_same (a ∷ xs) [] x y e = absurd (not_longer [] xs x (sym (tails a y (xs ++ x ∷ []) [] e)))
last_same (a ∷ xs) (b ∷ ys) x y e = last_same xs ys x y (tails a b (xs ++ x ∷ []) (ys ++ y ∷ []) e)

-- ---- the newest call of a thread

newest_below : (past : Trace) (t : ℕ) → newest_call past t ≤ length past
newest_below [] t = omega arith
newest_below (e ∷ past) t =
    let h : newest_call past t ≤ length past = newest_below past t in
    elim (cases_Bool (eqb e.thread t)) [
      | inl own ↦ rw own (omega arith)
      | inr other ↦ rw other (omega (arith, h))
    ]

newest_is : (past : Trace) (t : ℕ) (made : List Call) (c : Call) → calls_of past t ≡ made ++ c ∷ []
    → option_map event_call (event_at past (newest_call past t)) ≡ Some (t, c)
newest_is [] t made c is = absurd (not_longer [] made c is)
newest_is (e ∷ past) t made c is =
    elim (cases_Bool (eqb e.thread t)) [
      | inl own ↦
          let all : calls_of past t ++ e.call ∷ [] ≡ made ++ c ∷ [] = rw own at is in
          let same : e.call ≡ c = last_same (calls_of past t) made e.call c all in
          rw (own, eq-eqb (length past + 1) (length past + 1) refl)
          (ap (λ (z : ℕ × Call). Some z) (λ i. (eqb-true e.thread t own i, same i)))
      | inr other ↦
          let all : calls_of past t ++ [] ≡ made ++ c ∷ [] = rw other at is in
          let few = newest_below past t in
          let apart = ne_eqb (newest_call past t) (length past + 1) (λ s. absurd (omega (arith, s, few))) in
          rw (other, apart) (newest_is past t made c (sym (append-nil (calls_of past t)) ∙ all))
    ]

-- ---- the outcome of a call

pub awaited_are_seen : AwaitedAreSeen
awaited_are_seen roster t made c x was seen w =
    of w.made w.extends w.ends w.calls w.call where
      of : (m : Trace) → Extends seen m → EndsWith m t x → calls_of m t ≡ made ++ c ∷ [] → x.call ≡ newest_call m t
          → HasCompleted t c x seen
      of [] extends ends calls call = absurd ends
      of (e ∷ past) extends ends calls call =
          record {
            event = e;
            past = past;
            extends = extends;
            ends = ends.1;
            call = ap (λ i. option_map event_call (event_at (e ∷ past) i)) call ∙ newest_is (e ∷ past) t made c calls;
          }

of_outcome : (roster : List Member) (refuses : Refuses) (admits : Admits) (t : ℕ) (made : List Call) (c : Call)
    (a : Called) (x : Completion) (before after : List Completion) (past was seen : Trace)
    → Answered roster refuses admits t c a past was
    → Gives (λ x now. IsAwaited roster t (made ++ cond (is_call a) (c ∷ []) []) was x now) a before after was seen
    → after ≡ before ++ x ∷ [] → HasCompleted t c x seen
of_outcome roster refuses admits t made c (called.Refused errno given) x before after past was seen came gives took =
    absurd (not_longer before [] x (sym gives.0 ∙ took))
of_outcome roster refuses admits t made c (called.Done y) x before after past was seen came gives took =
    let same : y ≡ x = last_same before before y x (sym gives.0 ∙ took) in
    let X = came.0 in
    let e : Event = record { thread = t; call = c; completions = X } in
    subst (λ z. HasCompleted t c z seen) same (record {
      event = e;
      past = past;
      extends = ([], gives.1 ∙ came.1.then);
      ends = came.2.only;
      call = rw (eq-eqb y.call (length past + 1) came.2.number) refl;
    })
of_outcome roster refuses admits t made c called.Blocked x before after past was seen came (inl none) took =
    absurd (not_longer before [] x (sym none.0 ∙ took))
of_outcome roster refuses admits t made c called.Blocked x before after past was seen came (inr some) took =
    let same : some.0 ≡ x = last_same before before some.0 x (sym some.1 ∙ took) in
    subst (λ z. HasCompleted t c z seen) same (awaited_are_seen roster t made c some.0 was seen some.3)

pub completions_are_seen : (refuses : Refuses) (admits : Admits) → CompletionsAreSeen refuses admits
completions_are_seen refuses admits roster t made c x before after saw seen came took =
    of_outcome roster refuses admits t made c came.0 x before.taken after.taken came.2.past came.1 seen came.2.holds
    came.4 took

-- a call that returned a value
pub returned : {A : Type 0} {read : Reading A} {refuses : Refuses} {admits : Admits} {roster : List Member} {t : ℕ}
    {made : List Call} {c : Call} {value : A} {before after : History} {saw seen : Trace}
    → CompletionsAreSeen refuses admits
    → ComesAt roster refuses admits t made saw before c seen after → Makes read c before after (Ok value)
    → HasReturned read t c value seen
returned {A} {read} {refuses} {admits} {roster} {t} {made} {c} {value} {before} {after} {saw} {seen} law came makes =
    of after.told makes.comes where
      of : (told : LastOutcome) → Comes read c before after (Ok value) told → HasReturned read t c value seen
      of (told.Refused errno) (asked, taken, is) = absurd (true≢false (ap is_ok is))
      of told.Done (asked, (x, taken, is)) = record {
        completion = x;
        waited = false;
        completed = law roster t made c x before after saw seen came taken;
        reads = is;
      }
      of told.Blocked (asked, (x, taken, is)) = record {
        completion = x;
        waited = true;
        completed = law roster t made c x before after saw seen came taken;
        reads = is;
      }

-- a call with bytes that returned a value
pub returned_with_bytes : {A P Q : Type 0} {read : Reading A} {refuses : Refuses} {admits : Admits}
    {roster : List Member} {t : ℕ} {made : List Call} {c : Call} {value : A} {before after : History} {saw seen : Trace}
    {result : Result A CallError} {e e' : CallError} → CompletionsAreSeen refuses admits
    → ComesAt roster refuses admits t made saw before c seen after ⊎ (P × (result ≡ Err e))
    → Makes read c before after result ⊎ (Q × (result ≡ Err e')) → result ≡ Ok value
    → HasReturned read t c value seen
returned_with_bytes {A} {P} {Q} {read} {refuses} {admits} {roster} {t} {made} {c} {value} {before} {after} law
    (inl came) (inl makes) is =
    returned law came (subst (λ r. Makes read c before after r) is makes)
returned_with_bytes law (inl came) (inr none) is = absurd (true≢false (ap is_ok (sym is ∙ none.1)))
returned_with_bytes law (inr none) makes is = absurd (true≢false (ap is_ok (sym is ∙ none.1)))

-- ---- another thread that learned of it

pub completions_in_real_time : CompletionsInRealTime
completions_in_real_time t c x told seen met h own others =
    let all = on told seen met others own in
    let at = matches h.event h.past (h.event ∷ h.past) told met refl h.extends all in (
      record {
        event = h.event;
        past = h.past;
        extends = on (h.event ∷ h.past) told met all h.extends;
        ends = h.ends;
        call = h.call;
      },
      at.0,
      at.1,
    )

-- the same outcome for a port before it learned the prefix
pub gives_as : {Said Says : Completion → Trace → Type 0} (a : Called) (before between after : List Completion)
    (was seen : Trace) → between ≡ before → ((x : Completion) (p : Trace) → Said x p → Says x p)
    → Gives Said a between after was seen → Gives Says a before after was seen
gives_as (called.Done x) before between after was seen same says gives =
    (gives.0 ∙ ap (λ xs. xs ++ x ∷ []) same, gives.1)
gives_as called.Blocked before between after was seen same says (inl none) = inl (none.0 ∙ same, none.1)
gives_as called.Blocked before between after was seen same says (inr some) =
    inr (some.0, some.1 ∙ ap (λ xs. xs ++ some.0 ∷ []) same, some.2, says some.0 seen some.3)
gives_as (called.Refused errno given) before between after was seen same says gives = (gives.0 ∙ same, gives.1)

pub awaited_as : {roster : List Member} {t u : ℕ} {made asked : List Call} (more : List Call) {last : Trace} → t ≡ u
    → made ≡ asked → (x : Completion) (seen : Trace) → IsAwaited roster t (made ++ more) last x seen
    → IsAwaited roster u (asked ++ more) last x seen
awaited_as {roster} {t} {u} {made} {asked} more {last} same calls x seen w =
    subst (λ (z : ℕ × List Call). IsAwaited roster z.0 (z.1 ++ more) last x seen) (λ i. (same i, calls i)) w
