-- The effect of a call, or of two calls in turn, follows from its outcome.
use Rattle.balsaeuchre_calls.proofs.Common.{Call, CallError, Completion, Done, Completed, Err, Follows, Gives, History}
use Rattle.balsaeuchre_calls.proofs.Common.{Leads, List, Makes, MakesBoth, Ok, Reading, Result, WaitsFor, [], ap}
use Rattle.balsaeuchre_calls.proofs.Common.{done_in, inl, inr, subst}
use Rattle.balsaeuchre_calls.proofs.Common.{completed_in, false, if◌then◌else◌, read_off, refl, sym, told_by, true, ⊤}
use Rattle.balsaeuchre_calls.proofs.Common.{◌++◌, ◌∙◌, ◌∷◌, ◌≡◌}
use Rattle.std.proofs.lemmas.List.{append-nil, append_assoc}
use Rattle.std.proofs.Common.{Bool}
use Rattle.std.proofs.lemmas.Bool.{true≢false}
use Rattle.qbase.specs.declared.errno.Errno.{Errno}
use Rattle.qbase.specs.declared.errno.Errno.TheVariants.{Busy}
use Rattle.balsaeuchre_calls.specs.declared.endpoint.LastOutcome.{LastOutcome}
use Rattle.balsaeuchre_calls.specs.declared.endpoint.LastOutcome.TheVariants.{Refused}
use Rattle.qmodel.specs.declared.call.Mark.{Mark}
use Rattle.qmodel.specs.declared.call.Mark.TheVariants as mark
use Rattle.qshared.specs.declared.called.Called.{Called}
use Rattle.qshared.specs.declared.called.Called.TheVariants as called
use Rattle.qshared.specs.Counting.{OnBusy, is_call, gives, pends}
use Rattle.qshared.specs.TwoCalls.{is_ok}
use Rattle.qrules.specs.Trace.{Trace}
use Rattle.balsaeuchre_calls.proofs.Reading.{makes_off}

-- the endpoint's record after a call with this outcome, as the contract of `Endpoint::call` says
pub record IsAnswer (call : Call) (answer : Called) (before after : History) : Type 0 where
  pub asked : after.asked ≡ before.asked ++ (if is_call answer then call ∷ [] else [])
  pub taken : after.taken ≡ before.taken ++ gives answer
  pub pending : after.pending ≡ pends answer before.pending
  pub told : after.told ≡ told_by answer
  pub busy : OnBusy answer (before.pending ≡ true)

abbrev errno_of : LastOutcome → Errno
errno_of (Refused errno) = errno
errno_of other = Busy

abbrev is_refused : LastOutcome → Bool
is_refused (Refused errno) = true
is_refused other = false

-- the record after the outcome, and the effect of the outcome, are together the effect of the call
pub leads_makes : (call : Call) (answer : Called) {before between after : History} {result : Result Completed CallError}
    → IsAnswer call answer before between → Leads answer between after result
    → Makes completed_in call before after result
leads_makes call (called.Refused errno given) {before} {between} {after} {result} was (same, is) =
    record {
      comes = rw (same, was.told) (was.asked ∙ append-nil before.asked, was.taken ∙ append-nil before.taken, is);
      idle = λ idle. rw same (was.pending ∙ idle);
      busy =
          λ told. subst (λ e. OnBusy (called.Refused e given) (before.pending ≡ true))
          (ap errno_of (sym (ap (λ h. h.told) same ∙ was.told) ∙ told)) was.busy;
    }
leads_makes call (called.Done x) {before} {between} {after} {result} was (same, is) =
    record {
      comes = rw (same, was.told) (was.asked, (x, was.taken, is));
      idle = λ idle. rw same (was.pending ∙ idle);
      busy = λ told. absurd (true≢false (ap is_refused (sym told ∙ (ap (λ h. h.told) same ∙ was.told))));
    }
leads_makes call called.Blocked {before} {between} {after} {result} was (x, took, none, kept, said, is) =
    record {
      comes =
          rw (said ∙ was.told) (
            kept ∙ was.asked,
            (x, took ∙ ap (λ l. l ++ x ∷ []) (was.taken ∙ append-nil before.taken), is),
          );
      idle = λ idle. none;
      busy = λ told. absurd (true≢false (ap is_refused (sym told ∙ (said ∙ was.told))));
    }

-- the kind of the outcome stays the same until the completion is collected
pub leads_told : (answer : Called) (before after : History) (result : Result Completed CallError)
    → Leads answer before after result → after.told ≡ before.told
leads_told (called.Refused errno given) before after result l = ap (λ h. h.told) l.0
leads_told (called.Done x) before after result l = ap (λ h. h.told) l.0
leads_told called.Blocked before after result l = l.4

-- the completions collected with the outcome and after it satisfy `Gives`
pub leads_gives : {Said Says : Completion → Trace → Type 0} (answer : Called) (before : List Completion)
    (between after : History) (was seen : Trace) (result : Result Completed CallError)
    → between.taken ≡ before ++ gives answer → Leads answer between after result
    → WaitsFor Said answer between.taken after.taken was seen
    → ((x : Completion) (p : Trace) → Said x p → Says x p) → Gives Says answer before after.taken was seen
leads_gives (called.Refused errno given) before between after was seen result took l w says =
    (ap (λ h. h.taken) l.0 ∙ took ∙ append-nil before, w)
leads_gives (called.Done x) before between after was seen result took l w says = (ap (λ h. h.taken) l.0 ∙ took, w)
leads_gives called.Blocked before between after was seen result took l w says =
    inr (w.0, w.1 ∙ ap (λ xs. xs ++ w.0 ∷ []) (took ∙ append-nil before), w.2, says w.0 seen w.3)

-- the same for two calls that were both made
pub leads_gives_both : {Said Says : Completion → Trace → Type 0} (x : Completion) (answer : Called)
    (before : List Completion) (between after : History) (was seen : Trace) (result : Result Completed CallError)
    → between.taken ≡ before ++ x ∷ gives answer → Leads answer between after result
    → WaitsFor Said answer between.taken after.taken was seen
    → ((x : Completion) (p : Trace) → Said x p → Says x p)
    → Gives Says answer (before ++ x ∷ []) after.taken was seen
leads_gives_both x answer before between after was seen result took l w says =
    leads_gives answer (before ++ x ∷ []) between after was seen result
    (took ∙ sym (append_assoc before (x ∷ []) (gives answer))) l w says

-- a completion with the result `Ok` has the returned value `Ok`
done_of_ok : (m : Mark) (buffer : List _) → is_ok m ≡ true → Ok tt ≡ done_in false m buffer
done_of_ok mark.Ok buffer ok = refl
done_of_ok other buffer ok = search

-- whether a call succeeded is read from its completion
pub reads_done : {made : Result Completed CallError} {e : Completed} {done said : Result ⊤ CallError} → made ≡ Ok e
    → done ≡ done_in e.waited e.mark e.buffer → done ≡ said → read_off done_in made ≡ said
reads_done is reads says = ap (read_off done_in) is ∙ sym reads ∙ says

-- the endpoint's record after the first of two calls, which succeeded in its own event
abbrev pub after_first : Call → Completion → History → History
after_first call x before =
    record { asked = before.asked ++ call ∷ []; taken = before.taken ++ x ∷ []; pending = before.pending; told = Done }

first_makes : (call : Call) (x : Completion) (before : History) → is_ok x.mark ≡ true
    → Makes done_in call before (after_first call x before) (Ok tt)
first_makes call x before ok =
    record {
      comes = (refl, (x, refl, done_of_ok x.mark x.buffer ok));
      idle = λ idle. idle;
      busy = λ told. absurd (true≢false (ap is_refused (sym told)));
    }

-- the endpoint's record after the second of two calls, as after a call by itself
second_answer : (first second : Call) (x : Completion) (answer : Called) (before after : History)
    → after.asked ≡ before.asked ++ (first ∷ (if is_call answer then second ∷ [] else []))
    → after.taken ≡ before.taken ++ (x ∷ gives answer) → after.pending ≡ pends answer before.pending
    → after.told ≡ told_by answer → OnBusy answer (before.pending ≡ true)
    → IsAnswer second answer (after_first first x before) after
second_answer first second x answer before after asked taken pending told busy =
    record {
      asked = asked ∙ sym (append_assoc before.asked (first ∷ []) (if is_call answer then second ∷ [] else []));
      taken = taken ∙ sym (append_assoc before.taken (x ∷ []) (gives answer));
      pending = pending;
      told = told;
      busy = busy;
    }

-- both calls are made if the endpoint made both in one turn
pub both_make : (first second : Call) (x : Completion) (answer : Called) {before between after : History}
    {result : Result Completed CallError} → is_ok x.mark ≡ true
    → between.asked ≡ before.asked ++ (first ∷ (if is_call answer then second ∷ [] else []))
    → between.taken ≡ before.taken ++ (x ∷ gives answer) → between.pending ≡ pends answer before.pending
    → between.told ≡ told_by answer → OnBusy answer (before.pending ≡ true) → Leads answer between after result
    → MakesBoth completed_in first second before after result
both_make first second x answer {before} {between} {after} {result} ok asked taken pending told busy leads =
    record {
      between = after_first first x before;
      came = Ok tt;
      makes = first_makes first x before ok;
      follows =
          leads_makes second answer
          (second_answer first second x answer before between asked taken pending told busy) leads;
    }

-- only the first is made, and fails
pub first_fails : (first second : Call) (answer : Called)
    (made : Result Completed CallError) {before between after : History}
    {result : Result Completed CallError} {e : CallError} → IsAnswer first answer before between
    → Leads answer between after made → read_off done_in made ≡ Err e
    → result ≡ Err e → MakesBoth completed_in first second before after result
first_fails first second answer made {before} {between} {after} {result} {e} was leads is fails =
    record {
      between = after;
      came = read_off done_in made;
      makes = makes_off done_in (leads_makes first answer was leads);
      follows = rw is (refl, fails);
    }

-- the first is made and succeeds, possibly after a wait, and then the second is made
pub second_makes : (first second : Call) (answer : Called) (made : Result Completed CallError) {given : Call}
    {before between waited after : History} {result : Result Completed CallError}
    → IsAnswer first answer before between → Leads answer between waited made
    → read_off done_in made ≡ Ok tt → given ≡ second → Makes completed_in given waited after result
    → MakesBoth completed_in first second before after result
second_makes first second answer made {given} {before} {between} {waited} {after} {result} was leads is same makes =
    record {
      between = waited;
      came = read_off done_in made;
      makes = makes_off done_in (leads_makes first answer was leads);
      follows = rw (is, ← same) makes;
    }

-- `Follows` holds also with the result that is read from the completion
follows-off : {A : Type 0} (read : Reading A) (call : Call) (came : Result ⊤ CallError) (before after : History)
    (made : Result Completed CallError) → Follows completed_in call came before after made
    → Follows read call came before after (read_off read made)
follows-off read call (Ok done) before after made follows = makes_off read follows
follows-off read call (Err e) before after made (same, is) = (same, ap (read_off read) is)

-- the same for `MakesBoth`: the result is read from the completion of the second call
both-off : {A : Type 0}
    (read : Reading A) {first second : Call} {before after : History} {made : Result Completed CallError}
    → MakesBoth completed_in first second before after made
    → MakesBoth read first second before after (read_off read made)
both-off read {first} {second} {before} {after} {made} m =
    record {
      between = m.between;
      came = m.came;
      makes = m.makes;
      follows = follows-off read second m.came m.between after made m.follows;
    }

-- the same for a result that is read from this completion, e
pub both_read : {A : Type 0} {read : Reading A} {first second one other : Call} {before after : History}
    {made : Result Completed CallError} {e : Completed} {result : Result A CallError}
    → MakesBoth completed_in one other before after made
    → one ≡ first → other ≡ second → made ≡ Ok e → result ≡ read e.waited e.mark e.buffer
    → MakesBoth read first second before after result
both_read {A} {read} {first} {second} {one} {other} {before} {after} {made} {e} {result} m same_one same_other is
    reads =
    let off : result ≡ read_off read made = reads ∙ sym (ap (read_off read) is) in
    rw (← same_one, ← same_other, off) (both-off read m)

-- the same for an error: it is the error of either call
pub both_fail : {A : Type 0} {read : Reading A} {first second one other : Call} {before after : History}
    {made : Result Completed CallError} {e : CallError} {result : Result A CallError}
    → MakesBoth completed_in one other before after made
    → one ≡ first → other ≡ second → made ≡ Err e → result ≡ Err e → MakesBoth read first second before after result
both_fail {A} {read} {first} {second} {one} {other} {before} {after} {made} {e} {result} m same_one same_other is
    fails =
    let off : result ≡ read_off read made = fails ∙ sym (ap (read_off read) is) in
    rw (← same_one, ← same_other, off) (both-off read m)
