-- Valid histories: each event has the completions that the rules require after the events before it.
use Rattle.std.specs.Prelude.{◌++◌, ◌+◌, ◌==◌, ◌∷◌, ◌≡◌, if◌then◌else◌}
use Rattle.qrules.specs.Words.{[], is_some, length, map, member_at, option_and_then}
use Rattle.qrules.specs.Words.{option_map_or, option_or, option_to_list, unwrap_or, AllByRecursion}
use Rattle.qrules.specs.Words.{Call, IsTrue, List, Member, NoMemory, None, Option, Some}
use Rattle.qrules.specs.Trace.{followed_by, Event, InEachEvent, Priority, ThreadNo, Trace}
use Rattle.qrules.specs.Facts.{count_to, has_flag, Facts}
use Rattle.qrules.specs.Rule.{SentItem}
use Rattle.qrules.specs.Rules.{effect_of}
use Rattle.qrules.specs.Outcome.{Answers}
use Rattle.qrules.specs.Past.{channel_at, connection_at, first_among, is_accepted, item_among, item_in}
use Rattle.qrules.specs.Past.{items_by_now, open_call_by, pending_among, priority_set_by, was_done}
use Rattle.qrules.specs.Words.mark

-- all items made so far, each as it was made, in rising number, and each thread's current priority
pub record ItemsAndPriorities : Type 0 where
  pub items : List SentItem
  pub priority : ThreadNo → Priority

-- the item that an event makes, given the facts before it
abbrev pub item_made_by : Facts → Event → Trace → Option SentItem
item_made_by f e past = if is_accepted e past then (effect_of e.call).makes f e.thread else None

module _ (roster : List Member) where
  -- the facts after this history, given all items made so far and the threads' priorities. Both depend on the
  -- facts before each event: items_and_priorities finds them event by event, and facts_of uses them here.
  abbrev pub facts_by : Trace → ItemsAndPriorities → Facts
  facts_by past known = let items : List SentItem = items_by_now past known.items in record {
    roster = roster;
    number = length past + 1;
    down = was_done (λ e. e.shuts_down) past;
    channel = channel_at roster past;
    open_channels = count_to (channel_at roster past) (length past);
    connection = connection_at roster past;
    live_connections = count_to (connection_at roster past) (length past);
    open_call = open_call_by past items;
    pending = pending_among past items;
    priority = known.priority;
  }

  -- the priority that thread t takes by event e: the priority that the event sets for t, or the current
  -- priority of the item that t receives, unless the item's channel fixes priorities
  abbrev pub priority_given_by : Event → Trace → List SentItem → ThreadNo → Option Priority
  priority_given_by e past items t = option_or (priority_set_by e past t) (first_among
      (λ x. if x.thread == t then option_and_then (λ r. option_and_then
      (λ m. if has_flag 1 (channel_at roster past m.channel) then None else Some m.item.priority)
      (item_among (items_by_now past items) r.number)) (item_in x.mark) else None) e.completions)

  -- all items made, and the threads' priorities: each accepted event may make an item, and a thread begins
  -- with the priority in the roster
  abbrev pub items_and_priorities : Trace → ItemsAndPriorities
  items_and_priorities [] =
      record { items = []; priority = λ t. option_map_or (λ m. m.priority) (member_at roster t) 0 }
  items_and_priorities (e ∷ past) =
      let known : ItemsAndPriorities = items_and_priorities past in
      let items : List SentItem = known.items ++ option_to_list (item_made_by (facts_by past known) e past) in
      record {
        items = items;
        priority = λ t. unwrap_or (priority_given_by e past items t) (known.priority t);
      }

  -- the facts after this history
  abbrev pub facts_of : Trace → Facts
  facts_of past = facts_by past (items_and_priorities past)

  -- the history is valid: each event is a call of a thread of the roster, and its completions are right for
  -- the call after the events before it
  abbrev pub IsLawful : Trace → Type 0
  IsLawful = InEachEvent (λ past e.
      IsTrue (is_some (member_at roster e.thread)) × Answers (facts_of past) e.thread e.call e.completions)

-- ---- the only run

-- the call of an event, with the thread that made it
abbrev pub event_call : Event → ThreadNo × Call
event_call e = (e.thread, e.call)

-- no call of these events failed for lack of memory
abbrev pub HadMemory : List Event → Type 0
HadMemory events =
    AllByRecursion (λ e. AllByRecursion (λ x. x.mark ≡ mark.Failed NoMemory → ⊥) e.completions) events

-- if these events had memory, no other events with the same calls are valid after this history and had memory
abbrev pub IsOnlyRun : List Member → Trace → List Event → Type 0
IsOnlyRun roster past events =
    HadMemory events → (others : List Event) → map event_call others ≡ map event_call events
    → IsLawful roster (followed_by past others) → HadMemory others → others ≡ events
