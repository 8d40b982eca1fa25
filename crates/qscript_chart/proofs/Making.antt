-- The rows of a run, made one after another.
use Rattle.qscript_chart.proofs.Common.{AnswersAtTraces, Call, Event, HasRows, List, Member, State, TellsChanges, Trace}
use Rattle.qscript_chart.proofs.Common.{[], ap, append-nil, append_assoc, arrows_from, blocked_from, blocked_threads}
use Rattle.qscript_chart.proofs.Common.{changed_threads, changes_from, event_arrows, event_call, event_thread, facts_of}
use Rattle.qscript_chart.proofs.Common.{filter_map, followed_by, is_some, map, member_at, members_of, refl, row_arrows}
use Rattle.qscript_chart.proofs.Common.{row_blocked, row_changes, row_thread, runs_more, sym, true, ℕ, ◌++◌, ◌∙◌, ◌∷◌}
use Rattle.qscript_chart.proofs.Common.{◌≡◌}
use Rattle.std.proofs.lemmas.List.{map-append}
use Rattle.qmodel.specs.declared.call.Completion.{Completion}
use Rattle.qscript_chart.specs.Arrows.{arrow_of}
use Rattle.qscript_chart.specs.declared.row.ChartRow.{ChartRow}
use Rattle.qscript.specs.Running.{AreBlocked}

-- the arrows of one more event
arrows_push : (before : List ℕ) (events : List Event) (e : Event)
    → arrows_from before (events ++ e ∷ []) ≡ arrows_from before events ++ event_arrows
    (before ++ map event_thread events) e ∷ []
arrows_push before [] e = ap (λ callers. event_arrows callers e ∷ []) (sym (append-nil before))
arrows_push before (x ∷ events) e =
    let after = arrows_push (before ++ x.thread ∷ []) events e in
    let callers = append_assoc before (x.thread ∷ []) (map event_thread events) in
    ap (λ rest. event_arrows before x ∷ rest)
    (after ∙ ap (λ cs. arrows_from (before ++ x.thread ∷ []) events ++ event_arrows cs e ∷ []) callers)

-- the priorities that one more event changed
changes_push : (roster : List Member) (past : Trace) (events : List Event) (e : Event)
    → changes_from roster past (events ++ e ∷ [])
    ≡ changes_from roster past events ++ changed_threads (facts_of roster (followed_by past events))
    (facts_of roster (followed_by past (events ++ e ∷ []))) ∷ []
changes_push roster past [] e = refl
changes_push roster past (x ∷ events) e =
    ap (λ rest. changed_threads (facts_of roster past) (facts_of roster (x ∷ past)) ∷ rest)
    (changes_push roster (x ∷ past) events e)

-- the threads that are blocked after one more event
blocked_push : (roster : List Member) (past : Trace) (events : List Event) (e : Event)
    → blocked_from roster past (events ++ e ∷ []) ≡ blocked_from roster past events ++ blocked_threads
    (facts_of roster (followed_by past (events ++ e ∷ []))) ∷ []
blocked_push roster past [] e = refl
blocked_push roster past (x ∷ events) e =
    ap (λ rest. blocked_threads (facts_of roster (x ∷ past)) ∷ rest) (blocked_push roster (x ∷ past) events e)

-- the rows so far, and the threads that made their calls
pub record Going (old : State) (calls : List (ℕ × Call)) (now : State) (drawn : List ChartRow)
    (threads : List ℕ) : Type 0 where
  pub rows : HasRows old calls now drawn
  pub callers : threads ≡ map event_thread rows.events

-- before the first call there are no rows
pub going_none : (old : State) → Going old [] old [] []
going_none old = record {
  rows = record {
    events = [];
    ran = λ roster past lawful matches. (lawful, matches);
    made = refl;
    threads = refl;
    arrows = refl;
    changes = λ roster past lawful matches. refl;
    blocked = λ roster past lawful matches. refl;
  };
  callers = refl;
}

-- the content of a row: the event of call c of thread t, from the old state to the new one, after calls of
-- the threads of `before`
pub record IsRowOf (old : State) (before : List ℕ) (t : ℕ) (c : Call) (row : ChartRow) (new : State) : Type 0 where
  pub completions : List Completion
  pub known : is_some (member_at (members_of old.threads) t) ≡ true
  pub answers : AnswersAtTraces old t c completions new
  pub thread : row.thread ≡ t
  pub arrows : row.arrows.items ≡ filter_map (arrow_of (before ++ t ∷ []) t) completions
  pub changes : TellsChanges old new row.changes.items
  pub blocked : AreBlocked new row.blocked.items

-- one more row
pub going_more : (old : State) (calls : List (ℕ × Call)) (mid new : State) (rows : List ChartRow) (callers : List ℕ)
    (t : ℕ) (c : Call) (row : ChartRow) → Going old calls mid rows callers
    → IsRowOf mid callers t c row new → Going old (calls ++ (t, c) ∷ []) new (rows ++ row ∷ []) (callers ++ t ∷ [])
going_more old calls mid new rows callers t c row g is =
    let e : Event = record { thread = t; call = c; completions = is.completions } in
    let events = g.rows.events in
    let ran = runs_more old mid new events e g.rows.ran is.known is.answers in
    let own : row_arrows row ≡ event_arrows (map event_thread events) e = is.arrows
    ∙ ap (λ cs. event_arrows cs e) g.callers in
    record {
      rows = record {
        events = events ++ e ∷ [];
        ran = ran;
        made = map-append event_call events (e ∷ []) ∙ ap (λ cs. cs ++ (t, c) ∷ []) g.rows.made;
        threads = map-append row_thread rows (row ∷ []) ∙ ap (λ ts. ts ++ row.thread ∷ []) g.rows.threads
            ∙ ap (λ u. map event_thread events ++ u ∷ []) is.thread ∙ sym (map-append event_thread events (e ∷ []));
        arrows = map-append row_arrows rows (row ∷ []) ∙ ap (λ rest. rest ++ row_arrows row ∷ []) g.rows.arrows
            ∙ ap (λ own. arrows_from [] events ++ own ∷ []) own ∙ sym (arrows_push [] events e);
        changes = λ roster past lawful matches.
            let before = g.rows.ran roster past lawful matches in
            let now = ran roster past lawful matches in
            map-append row_changes rows (row ∷ [])
            ∙ ap (λ cs. cs ++ row_changes row ∷ []) (g.rows.changes roster past lawful matches)
            ∙ ap (λ own. changes_from roster past events ++ own ∷ [])
            (is.changes roster (followed_by past events) (followed_by past (events ++ e ∷ [])) before.1 now.1)
            ∙ sym (changes_push roster past events e);
        blocked = λ roster past lawful matches.
            let now = ran roster past lawful matches in
            map-append row_blocked rows (row ∷ [])
            ∙ ap (λ bs. bs ++ row_blocked row ∷ []) (g.rows.blocked roster past lawful matches)
            ∙ ap (λ own. blocked_from roster past events ++ own ∷ [])
            (is.blocked roster (followed_by past (events ++ e ∷ [])) now.1)
            ∙ sym (blocked_push roster past events e);
      };
      callers = ap (λ cs. cs ++ t ∷ []) g.callers ∙ sym (map-append event_thread events (e ∷ []));
    }
