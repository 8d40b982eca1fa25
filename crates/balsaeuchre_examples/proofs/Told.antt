-- The history after which a later call is made has the answer that the note reports.
use Rattle.balsaeuchre_examples.proofs.Common.{List, Trace, ap, inl, inr, sym, ◌++◌, ◌∙◌, ◌≡◌}
use Rattle.std.specs.Prelude.{Err, IfOk, Ok, Result, ◌⊎◌}
use Rattle.std.specs.Result.{is_ok}
use Rattle.std.proofs.lemmas.Bool.{true≢false}
use Rattle.qtables.specs.declared.member.Member.{Member}
use Rattle.std.proofs.lemmas.List.{append_assoc}
use Rattle.qmodel.specs.declared.call.Call.{Call}
use Rattle.balsaeuchre.specs.Answered.{AtPast}
use Rattle.balsaeuchre.specs.Completing.{CompletionsInRealTime}
use Rattle.balsaeuchre.specs.Results.{Reading}
use Rattle.balsaeuchre.specs.SeenPast.{Extends}
use Rattle.balsaeuchre_examples.specs.Answered.{AfterAnswer}

-- a history that a port meets after it learned the note has each answer of the note's prefix
pub met_after : {A : Type 0} {read : Reading A} {answer : A} {roster : List Member} {t : _} {made : List Call}
    {before between : Trace} {P : Trace → Type 0} (told : Trace) → CompletionsInRealTime → Extends between before
    → Extends between told → AtPast roster t made between P
    → AtPast roster t made before (AfterAnswer read answer told P)
met_after {A} {read} {answer} {roster} {t} {made} {before} {between} {P} told law own others m =
    let more = m.met.extends in
    record {
      past = m.past;
      met = record {
        lawful = m.met.lawful;
        properties = m.met.properties;
        calls = m.met.calls;
        extends =
            (more.0 ++ own.0, more.1 ∙ ap (λ (l : Trace). more.0 ++ l) own.1 ∙ sym (append_assoc more.0 own.0 before));
      };
      holds = (
        λ u c h. record {
          completion = h.completion;
          waited = h.waited;
          completed = (law u c h.completion told between m.past h.completed others more).0;
          reads = h.reads;
        },
        m.holds,
      );
    }

-- R holds after a call that was made, so it holds if the call returned a value
pub if_made : {A E P Q R : Type 0} {e : E} (r : Result A E) → P ⊎ (Q × (r ≡ Err e)) → (P → R) → IfOk r (λ _. R)
if_made (Ok a) (inl p) f = f p
if_made (Ok a) (inr (q, is)) f = absurd (true≢false (ap is_ok is))
if_made (Err e) made f = tt
