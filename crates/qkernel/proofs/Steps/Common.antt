-- Lemmas for the steps of all calls.
use Rattle.qkernel.proofs.Common.{◌≡◌, ℕ, ◌+◌, ◌<◌, ◌≤◌, List, [], ◌∷◌, ◌++◌, length, refl, ap, sym, ◌∙◌, cond, arith}
use Rattle.qkernel.proofs.Common.{true, false, eqb, Option, None, Some, is_some, ◌&&◌, Connection, MayRefuse}
use Rattle.qkernel.proofs.Common.{refusal_of, refusal_completion, receipt_of, names, closes, makes, sets}
use Rattle.qkernel.proofs.Common.{uncancelled_items, items_with_priority_set, pending_after, unreceived_items}
use Rattle.qkernel.proofs.Common.{EndsSettled, none_cancelled, row_passes, is_forceful, row_laws, OpenChannel}
use Rattle.qkernel.proofs.Common.{is_owned_by, leads_to, AllByRecursion, eqb-true, length-map, entry_at, member_at}
use Rattle.qkernel.proofs.Common.{Member, Call, Completion, Channel, Thread, Errno, Item, made_on, ids_of, is_of}
use Rattle.qkernel.proofs.Common.{route_in, channel_in, pending_in, members_of, thread_priority, Facts, is_in_process}
use Rattle.qkernel.proofs.Common.{State, IsSound, Steps, facts_in, open_in}

-- ---- calls that fail in their own event

-- one more call was counted, and at most the room of the channels has changed
pub record Counted (old new : State) : Type 0 where
  pub made : new.made ≡ old.made + 1
  pub down : new.down ≡ old.down
  pub threads : new.threads ≡ old.threads
  pub connections : new.connections ≡ old.connections
  pub ids : ids_of new.channels ≡ ids_of old.channels
  pub channel : (h : ℕ) → channel_in new.channels h ≡ channel_in old.channels h
  pub pending : (h : ℕ) → pending_in new.channels h ≡ pending_in old.channels h

abbrev pub counted : State → State
counted s =
    record { made = s.made + 1; down = s.down; threads = s.threads; channels = s.channels; connections = s.connections }

pub counted_alone : (s : State) → Counted s (counted s)
counted_alone s =
    record {
      made = refl;
      down = refl;
      threads = refl;
      connections = refl;
      ids = refl;
      channel = λ h. refl;
      pending =
          λ h. refl;
    }

pub count_same : (old new : List (ℕ × Channel)) → ids_of new ≡ ids_of old → length new ≡ length old
count_same old new e = sym (length-map new (λ e. e.0)) ∙ ap length e ∙ length-map old (λ e. e.0)

-- a call that fails in its own event is only counted
pub step_refused : (s : State) (t : ℕ) (c : Call) (e : Errno) (X : List Completion) (new : State)
    → MayRefuse (facts_in s) t c e → X ≡ refusal_completion (facts_in s) t c e ∷ [] → Counted s new → Steps s t c X new
step_refused s t c e X new may is counted = (
  false,
  record {
    answer = record { error = e; cause = may; only = is };
    follows = record {
      roster = ap members_of counted.threads;
      number = ap (λ n. n + 1) counted.made;
      down = counted.down;
      channel = counted.channel;
      open_channels = ap (λ n. n + 0) (count_same s.channels new.channels counted.ids);
      connection = λ k. ap (λ cs. entry_at cs k) counted.connections;
      live_connections = ap (λ cs. length cs + 0) counted.connections;
      open_call = λ u. ap (λ ts. open_in ts u) counted.threads;
      pending = counted.pending;
      priority = λ u. ap (λ ts. thread_priority ts u) counted.threads;
    };
  },
)

-- the same if nothing else has changed
pub step_refused_alone : (s : State) (t : ℕ) (c : Call) (e : Errno) (X : List Completion)
    → MayRefuse (facts_in s) t c e → X ≡ refusal_completion (facts_in s) t c e ∷ []
    → Steps s t c X (counted s)
step_refused_alone s t c e X may is = step_refused s t c e X _ may is (counted_alone s)

-- ---- accepted calls

-- the queued items after a call that neither destroys a channel nor cancels a Send that isn't received
pub uncancelled_by : (s : State) (t : ℕ) (c : Call) → EndsSettled (facts_in s) t c → closes c ≡ None → sets c ≡ None
    → (h : ℕ) {x : List Item}
    → x ≡ unreceived_items (receipt_of (facts_in s) t c) h
    (pending_in s.channels h ++ made_on h (makes (facts_in s) t c)) → x ≡ pending_after (facts_in s) t c h
uncancelled_by s t c settled closes_none sets_none h {x} is =
    let f = facts_in s in
    let items = pending_in s.channels h ++ made_on h (makes f t c) in
    is
    ∙ ap (unreceived_items (receipt_of f t c) h) (sym (none_cancelled f t c settled h items))
    ∙ ap (λ o. cond (names o h) [] (unreceived_items (receipt_of f t c) h (uncancelled_items f t c h items)))
    (sym closes_none)
    ∙ ap (λ o. cond (names (closes c) h) []
    (items_with_priority_set f h o (unreceived_items (receipt_of f t c) h (uncancelled_items f t c h items))))
    (sym sets_none)

-- the same for a call that is accepted and cancels no other call
pub uncancelled : (s : State) (t : ℕ) (c : Call) → refusal_of (facts_in s) t c ≡ None → is_forceful c ≡ false
    → closes c ≡ None → sets c ≡ None → (h : ℕ) {x : List Item}
    → x ≡ unreceived_items (receipt_of (facts_in s) t c) h
    (pending_in s.channels h ++ made_on h (makes (facts_in s) t c)) → x ≡ pending_after (facts_in s) t c h
uncancelled s t c passed mild closes_none sets_none h is =
    uncancelled_by s t c ((row_laws (facts_in s) t c (row_passes (facts_in s) t c passed)).ends_settled mild)
    closes_none sets_none h is

-- ---- soundness

pub all_up_to : {X : Type 0} (f : X → ℕ) (n : ℕ) (xs : List X) → AllByRecursion (λ x. f x ≤ n) xs
    → AllByRecursion (λ x. f x ≤ n + 1) xs
all_up_to f n [] h = tt
all_up_to f n (x ∷ xs) h = let here : f x ≤ n = h.0 in (omega arith, all_up_to f n xs h.1)

pub up_to_below : {X : Type 0} (f : X → ℕ) (n : ℕ) (xs : List X) → AllByRecursion (λ x. f x ≤ n) xs
    → AllByRecursion (λ x. f x < n + 1) xs
up_to_below f n [] h = tt
up_to_below f n (x ∷ xs) h = let here : f x ≤ n = h.0 in (omega arith, up_to_below f n xs h.1)

pub ids_below : (n : ℕ) (channels : List (ℕ × Channel)) → AllByRecursion (λ id. id ≤ n) (ids_of channels)
    → AllByRecursion (λ e. e.0 < n + 1) channels
ids_below n [] h = tt
ids_below n (e ∷ channels) h = let here : e.0 ≤ n = h.0 in (omega arith, ids_below n channels h.1)

pub sound_counted : (old new : State) → Counted old new → IsSound old → IsSound new
sound_counted old new counted sound = record {
  few = rw (counted.threads) sound.few;
  roster = rw (counted.threads) sound.roster;
  channel_ids = rw (counted.ids, counted.made) (all_up_to (λ id. id) old.made (ids_of old.channels) sound.channel_ids);
  connection_ids =
      rw (counted.connections, counted.made) (all_up_to (λ e. e.0) old.made old.connections sound.connection_ids);
  connections = rw (counted.connections) sound.connections;
  items =
      λ h. rw (counted.pending h, counted.made)
      (all_up_to (λ item. item.number) old.made (pending_in old.channels h) (sound.items h));
}

pub sound_counted_alone : (s : State) → IsSound s → IsSound (counted s)
sound_counted_alone s = sound_counted s _ (counted_alone s)

-- ---- the caller

pub owned_by_member : (f : Facts) (t : ℕ) (m : Member) (o : Option OpenChannel) → member_at f.roster t ≡ Some m
    → is_owned_by f t o ≡ is_of m.process o
owned_by_member f t m None e = refl
owned_by_member f t m (Some c) e = ap (is_in_process c.owner) e

pub route-leads_to : (s : State) (t : ℕ) (m : Member) (o : Option Connection)
    → member_at (members_of s.threads) t ≡ Some m → leads_to (facts_in s) t o ≡ route_in m.process s.channels o
route-leads_to s t m None e = refl
route-leads_to s t m (Some c) e =
    ap (λ x. cond (is_in_process c.process x && is_some (channel_in s.channels c.channel)) (Some c.channel) None) e

-- a caller that isn't blocked has no open call after a call that doesn't block it
pub stays_free : (threads : List Thread) (t : ℕ) (u : ℕ) → open_in threads t ≡ None
    → open_in threads u ≡ cond (eqb u t) None (open_in threads u)
stays_free threads t u free =
    elim (eqb u t) as (λ b. eqb u t ≡ b → open_in threads u ≡ cond b None (open_in threads u)) [
      | true ↦ λ e. ap (open_in threads) (eqb-true u t e) ∙ free
      | false ↦ λ e. refl
    ] refl
