-- The text of a run on a new kernel.
use Rattle.qscript.proofs.Common.{Blocked, Call, HasPrinted, HasRun, IsRoster, IsTextOfRun, List, Member, Printer, Run}
use Rattle.qscript.proofs.Common.{MatchesAt, State, Trace, [], ap, arith, facts_of, headline_of, members_of, refl}
use Rattle.qscript.proofs.Common.{roster_with, sym, ℕ, ◌+◌, ◌∙◌, ◌≡◌, printed}
use Rattle.qkernel.specs.Blocked.{blocked_threads}
use Rattle.qrules.specs.Trace.{followed_by}

same_run : (a b : Run) → a.first ≡ b.first → a.events ≡ b.events → a ≡ b
same_run a b first events = grind (arith, first, events)

-- the text of calls that were made one after another, each printed at once
pub text_of_calls : (roster : List Member) (calls : List (ℕ × Call)) (old new : State) (p : Printer)
    (blocked : List Blocked) (text : List ℕ)
    → MatchesAt (roster_with [] roster) old [] → IsRoster (members_of old.threads) → HasRun old calls new p
    → ((members : List Member) (past : Trace) → MatchesAt members new past
    → blocked ≡ blocked_threads (facts_of members past))
    → ((run : Run) → HasPrinted run p → text ≡ printed run blocked) → IsTextOfRun roster calls text
text_of_calls roster calls old new p blocked text matches rises made left is =
    let run : Run = record { first = old.made + 1; events = made.events } in
    let well = headline_of old new run.first run.events rises refl made.ran (roster_with [] roster) [] tt matches in
    let here = left (roster_with [] roster) (followed_by [] run.events) well.matches in
    record {
      run = run;
      blocked = blocked;
      ran = record {
        rising = well.rising;
        first = well.first;
        made = made.made;
        lawful = well.lawful;
        properties =
            well.properties;
        left = here;
      };
      printed_so = is run made.text;
      only = λ had other others ran held.
          let events = well.only had other.events (ran.made ∙ sym made.made) ran.lawful held in
          let same : others ≡ blocked = ran.left
          ∙ ap (λ es. blocked_threads (facts_of (roster_with [] roster) (followed_by [] es))) events ∙ sym here in
          rw (
            same,
            is run made.text,
          ) (ap (λ r. printed r blocked) (same_run other run (ran.first ∙ sym well.first) events));
    }
