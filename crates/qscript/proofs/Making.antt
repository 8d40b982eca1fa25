-- Calls that are made one after another, and printed at once.
use Rattle.qscript.proofs.Common.{AnswersAtTraces, Call, Event, Events, HasMade, HasPrinted, List, State, [], ap, arith}
use Rattle.qscript.proofs.Common.{event_call, length, length-append, length-map, map-append, member_at, members_of}
use Rattle.qscript.proofs.Common.{refl, runs_more, shows_buffer, sym, true, with_more, ℕ, ◌++◌, ◌+◌, ◌∙◌, ◌∷◌, ◌≡◌}
use Rattle.qscript.proofs.Common.{is_some}
use Rattle.qscript.specs.declared.run.Run.{Run}

-- one more call
pub made_more : (old : State) (calls : List (ℕ × Call)) (run next : Run) (t : ℕ) (c : Call) → HasMade old calls run
    → is_some (member_at (members_of run.kernel.threads) t) ≡ true
    → AnswersAtTraces run.kernel t c next.completions.items next.kernel
    → members_of next.kernel.threads ≡ members_of run.kernel.threads → next.kernel.made ≡ run.kernel.made + 1
    → ((events : Events) (e : Event) → HasPrinted events run.printer
    → run.kernel.made + 1 ≡ events.first + length events.events → shows_buffer e.call ≡ shows_buffer c
    → e.completions ≡ next.completions.items → HasPrinted (with_more events (e ∷ [])) next.printer)
    → HasMade old (calls ++ (t, c) ∷ []) next
made_more old calls run next t c g known step members made more =
    let e : Event = record { thread = t; call = c; completions = next.completions.items } in
    let as_many : length g.ran.events ≡ length calls = sym (length-map g.ran.events event_call)
    ∙ ap length g.ran.made in
    let so_far : Events = record { first = old.made + 1; events = g.ran.events } in
    record {
      ran = record {
        events = g.ran.events ++ e ∷ [];
        ran = runs_more old run.kernel next.kernel g.ran.events e g.ran.ran known step;
        made = map-append event_call g.ran.events (e ∷ []) ∙ ap (λ cs. cs ++ (t, c) ∷ []) g.ran.made;
        text = more so_far e g.ran.text (omega (arith, as_many, g.made)) refl refl;
      };
      members = members ∙ g.members;
      made = omega (arith, made, g.made, length-append calls ((t, c) ∷ []));
    }
