-- The result of a pass through the threads that cancels their calls one after another.
use Rattle.qkernel_state.proofs.Common.{◌≡◌, ℕ, suc, zero, ◌+◌, ◌<◌, ◌≤◌, List, [], ◌∷◌, ◌++◌, map, length}
use Rattle.qkernel_state.proofs.Common.{length-append, take, drop, set, get_or, append_assoc, Bool, not, ◌&&◌, ◌||◌}
use Rattle.qkernel_state.proofs.Common.{refl, ap, sym, subst, ◌∙◌, cond, arith, true, false, eqb, AllByRecursion}
use Rattle.qkernel_state.proofs.Common.{list_any, cons_option, eqb-true, ne_eqb, true≢false, append-nil, drop_more}
use Rattle.qkernel_state.proofs.Common.{drop_all, take_at, filter_agree, IsRoster, Completion, OpenCall, cancel_call}
use Rattle.qkernel_state.proofs.Common.{cancel_where, is_unread_send, threads_of, Channel, CancelSet, Thread, ids_of}
use Rattle.qkernel_state.proofs.Common.{channel_in, pending_in, members_of, thread_priority, is_cancelled_by}
use Rattle.qkernel_state.proofs.Common.{is_cancelled_open, is_taken_from, is_cancelled_among, completion_for}
use Rattle.qkernel_state.proofs.Common.{with_completion, thread_after_cancelled, Lose, LoseCancelled, AreCancelled}
use Rattle.qkernel_state.proofs.Common.{open_in, filter_whole}
use Rattle.std.specs.Prelude.{Option, None, Some, is_some, filter, filter_map}
use Rattle.qbase.specs.declared.errno.Errno.{Errno}
use Rattle.qkernel_state.proofs.Cancels.Queues.{filter_after}
use Rattle.qkernel_state.proofs.Senders.{own_open}

-- ---- the threads themselves

-- the list with the first i threads changed by f
abbrev pub swept : (Thread → Thread) → ℕ → List Thread → List Thread
swept f zero threads = threads
swept f (suc i) [] = []
swept f (suc i) (t ∷ threads) = f t ∷ swept f i threads

pub swept_at : (f : Thread → Thread) (i : ℕ) (threads : List Thread) (d : Thread)
    → get_or (swept f i threads) i d ≡ get_or threads i d
swept_at f zero threads d = refl
swept_at f (suc i) [] d = refl
swept_at f (suc i) (t ∷ threads) d = swept_at f i threads d

pub swept_on : (f : Thread → Thread) (i : ℕ) (threads : List Thread) (d : Thread) → i < length threads
    → set (swept f i threads) i (f (get_or threads i d)) ≡ swept f (suc i) threads
swept_on f i [] d l = absurd (omega arith)
swept_on f zero (t ∷ threads) d l = refl
swept_on f (suc i) (t ∷ threads) d l = ap (λ ts. f t ∷ ts) (swept_on f i threads d (omega arith))

pub swept_all : (f : Thread → Thread) (threads : List Thread) → swept f (length threads) threads ≡ map f threads
swept_all f [] = refl
swept_all f (t ∷ threads) = ap (λ ts. f t ∷ ts) (swept_all f threads)

-- ---- look-ups by thread number find what the records have

some_cancelled : (is_cancelled : OpenCall → Bool) (e : Errno) (u : ℕ) (o : Option OpenCall)
    → is_some (cancel_where is_cancelled e u o) ≡ is_cancelled_open is_cancelled o
some_cancelled is_cancelled e u None = refl
some_cancelled is_cancelled e u (Some o) =
    elim (is_cancelled o) as (λ b. is_some (cond b (Some (cancel_call e u o)) None) ≡ b) [ true ↦ refl | false ↦ refl ]

module _ (cancel : CancelSet) (e : Errno) where
  left_members : (threads : List Thread) → members_of (map (thread_after_cancelled cancel) threads) ≡ members_of threads
  left_members [] = refl
  left_members (t ∷ threads) = ap (λ ms. t.member ∷ ms) (left_members threads)

  left_level : (threads : List Thread) (v : ℕ)
      → thread_priority (map (thread_after_cancelled cancel) threads) v ≡ thread_priority threads v
  left_level [] v = refl
  left_level (t ∷ threads) v = ap (cond (eqb t.member.thread v) t.priority) (left_level threads v)

  left_calls : (threads : List Thread) (v : ℕ)
      → open_in (map (thread_after_cancelled cancel) threads) v
      ≡ cond (is_some (cancel_where (is_cancelled_by cancel v) e v (open_in threads v))) None (open_in threads v)
  left_calls [] v = refl
  left_calls (t ∷ threads) v =
      elim (eqb t.member.thread v)
      as (λ b. eqb t.member.thread v ≡ b
      → cond b (cond (is_cancelled_open (is_cancelled_by cancel t.member.thread) t.open_call) None t.open_call)
      (open_in (map (thread_after_cancelled cancel) threads) v)
      ≡ cond (is_some (cancel_where (is_cancelled_by cancel v) e v (cond b t.open_call (open_in threads v)))) None
      (cond b t.open_call (open_in threads v))) [
        | true ↦ λ same. ap (λ b. cond b None t.open_call)
            (ap (λ u. is_cancelled_open (is_cancelled_by cancel u) t.open_call) (eqb-true _ _ same)
            ∙ sym (some_cancelled (is_cancelled_by cancel v) e v t.open_call))
        | false ↦ λ other. left_calls threads v
      ] refl

-- the threads after the pass
pub are_cancelled : (cancel : CancelSet) (e : Errno) (threads : List Thread)
    → AreCancelled cancel e threads (map (thread_after_cancelled cancel) threads)
are_cancelled cancel e threads = record {
  members = left_members cancel e threads;
  open_call = left_calls cancel e threads;
  priority = left_level cancel e threads;
}

completions_by : (g : ℕ → Option OpenCall → Option Completion) (open_call : ℕ → Option OpenCall)
    (threads : List Thread) → AllByRecursion (λ x. open_call x.member.thread ≡ x.open_call) threads
    → filter_map (λ u. g u (open_call u)) (threads_of (members_of threads)) ≡ filter_map
    (λ t. g t.member.thread t.open_call) threads
completions_by g open_call [] h = refl
completions_by g open_call (t ∷ threads) h = rw (h.0, completions_by g open_call threads h.1) refl

any_by : (g test : ℕ → Option OpenCall → Bool) (open_call : ℕ → Option OpenCall) (threads : List Thread)
    → ((u : ℕ) (o : Option OpenCall) → g u o ≡ test u o)
    → AllByRecursion (λ x. open_call x.member.thread ≡ x.open_call) threads
    → list_any (λ u. g u (open_call u)) (threads_of (members_of threads)) ≡ list_any
    (λ t. test t.member.thread t.open_call) threads
any_by g test open_call [] same h = refl
any_by g test open_call (t ∷ threads) same h =
    rw (h.0, same t.member.thread t.open_call, any_by g test open_call threads same h.1) refl

-- ---- the rest of the pass

-- the thread is in the list
abbrev pub is_among : ℕ → List Thread → Bool
is_among u threads = list_any (λ t. eqb t.member.thread u) threads

-- the Send of number i on channel h is the open call of one of these threads, isn't received, and is
-- cancelled
abbrev pub goes_among : (ℕ → OpenCall → Bool) → List Thread → ℕ → ℕ → Bool
goes_among is_cancelled threads h i =
    list_any (λ t. is_taken_from (is_cancelled t.member.thread) t.open_call h i) threads

later_apart : (n u : ℕ) (threads : List Thread) → eqb n u ≡ true
    → AllByRecursion (λ m. n < m.thread) (members_of threads) → is_among u threads ≡ false
later_apart n u [] at h = refl
later_apart n u (t ∷ threads) at h =
    let same : n ≡ u = eqb-true n u at in
    let above : n < t.member.thread = h.0 in
    rw (ne_eqb t.member.thread u (λ e. omega arith)) (later_apart n u threads at h.1)

completion_joins : (completions more : List Completion) (completion : Option Completion)
    → with_completion completions completion ++ more ≡ completions ++ cons_option completion more
completion_joins completions more None = refl
completion_joins completions more (Some completion) = append_assoc completions (completion ∷ []) more

module _ (cancel : CancelSet) (e : Errno) (own : Completion) where
  -- the completion that a thread gets
  abbrev pub completion_of : Thread → Option Completion
  completion_of t = completion_for cancel e own t.member.thread t.open_call

  -- the changes so far, followed by the changes of the rest, are the changes of the whole pass
  pub record Sweeps (all rest : List Thread) (first now : List (ℕ × Channel)) (left : Option Completion)
      (completions : List Completion) : Type 0 where
    pub ids : ids_of now ≡ ids_of first
    pub channel : (k : ℕ) → channel_in now k ≡ channel_in first k
    pub pending : (k : ℕ) → filter (λ item. not (goes_among (is_cancelled_by cancel) rest k item.number))
        (pending_in now k)
        ≡ filter (λ item. not (goes_among (is_cancelled_by cancel) all k item.number)) (pending_in first k)
    pub unspent : is_among own.thread rest ≡ true → left ≡ Some own
    pub brings : completions ++ filter_map completion_of rest ≡ filter_map completion_of all
    pub roster : IsRoster (members_of rest)
    pub idle : AllByRecursion (λ t. eqb t.member.thread own.thread ≡ true → t.open_call ≡ None) rest

  idle_all : (open_call : ℕ → Option OpenCall) (threads : List Thread) → open_call own.thread ≡ None
      → AllByRecursion (λ x. open_call x.member.thread ≡ x.open_call) threads
      → AllByRecursion (λ t. eqb t.member.thread own.thread ≡ true → t.open_call ≡ None) threads
  idle_all open_call [] none h = tt
  idle_all open_call (t ∷ threads) none h =
      ((λ at. sym h.0 ∙ ap open_call (eqb-true _ _ at) ∙ none), idle_all open_call threads none h.1)

  pub sweeps_init : (all : List Thread) (first : List (ℕ × Channel)) (completions : List Completion)
      → IsRoster (members_of all) → open_in all own.thread ≡ None → completions ≡ []
      → Sweeps all all first first (Some own) completions
  sweeps_init all first completions roster none empty = record {
    ids = refl;
    channel = λ k. refl;
    pending = λ k. refl;
    unspent = λ h. refl;
    brings = rw empty refl;
    roster = roster;
    idle = idle_all (open_in all) all none (own_open all roster);
  }

  pub sweeps_on : (all rest : List Thread) (x : Thread) (first now next : List (ℕ × Channel))
      (left left-2 completion : Option Completion) (completions : List Completion)
      → Sweeps all (x ∷ rest) first now left completions
      → Lose (is_taken_from (is_cancelled_by cancel x.member.thread) x.open_call) now next
      → left-2 ≡ cond (eqb x.member.thread own.thread) None left
      → completion ≡ cond (eqb x.member.thread own.thread) left
      (cancel_where (is_cancelled_by cancel x.member.thread) e x.member.thread x.open_call)
      → Sweeps all rest first next left-2 (with_completion completions completion)
  sweeps_on all rest x first now next left left-2 completion completions so lose l-2 ends = record {
    ids = lose.ids ∙ so.ids;
    channel = λ k. lose.channel k ∙ so.channel k;
    pending = λ k. ap (filter (λ item. not (goes_among (is_cancelled_by cancel) rest k item.number))) (lose.pending k)
        ∙ filter_after (λ item. is_taken_from (is_cancelled_by cancel x.member.thread) x.open_call k item.number)
        (λ item. goes_among (is_cancelled_by cancel) rest k item.number) (pending_in now k)
        ∙ so.pending k;
    unspent =
        λ h. l-2
        ∙ (elim (eqb x.member.thread own.thread)
        as (λ b. eqb x.member.thread own.thread ≡ b → ((b || is_among own.thread rest) ≡ true → left ≡ Some own)
        → cond b None left ≡ Some own) [
          | true ↦ λ at there. absurd (true≢false (sym h ∙ later_apart _ _ rest at so.roster.0))
          | false ↦ λ apart there. there h
        ] refl so.unspent);
    brings = completion_joins completions (filter_map completion_of rest) completion
        ∙ ap (λ o. completions ++ cons_option o (filter_map completion_of rest))
        (ends ∙ (elim (eqb x.member.thread own.thread)
        as (λ b. ((b || is_among own.thread rest) ≡ true → left ≡ Some own)
        → cond b left (cancel_where (is_cancelled_by cancel x.member.thread) e x.member.thread x.open_call)
        ≡ cond b (Some own) (cancel_where (is_cancelled_by cancel x.member.thread) e x.member.thread x.open_call)) [
          | true ↦ λ there. there refl
          | false ↦ λ there. refl
        ] so.unspent))
        ∙ so.brings;
    roster = so.roster.1;
    idle = so.idle.1;
  }

  -- the completions, when the pass is over
  pub swept_completions : (all : List Thread) (first now : List (ℕ × Channel)) (left : Option Completion)
      (completions : List Completion) → IsRoster (members_of all) → Sweeps all [] first now left completions
      → completions ≡ filter_map (λ u. completion_for cancel e own u (open_in all u)) (threads_of (members_of all))
  swept_completions all first now left completions roster so =
      sym (append-nil completions) ∙ so.brings
      ∙ sym (completions_by (completion_for cancel e own) (open_in all) all (own_open all roster))

  pub swept_channels : (all : List Thread) (first now : List (ℕ × Channel)) (left : Option Completion)
      (completions : List Completion) → IsRoster (members_of all) → Sweeps all [] first now left completions
      → LoseCancelled cancel e all first now
  swept_channels all first now left completions roster so = record {
    ids = so.ids;
    channel = so.channel;
    pending = λ k. sym (filter_whole (λ item. true) (pending_in now k) (λ item. refl)) ∙ so.pending k
        ∙ filter_agree (λ item. not (goes_among (is_cancelled_by cancel) all k item.number))
        (λ item. not (is_cancelled_among cancel e all k item.number))
        (λ item.
        ap not
        (sym (any_by (λ s o. is_unread_send k item.number o && is_some (cancel_where (is_cancelled_by cancel s) e s o))
        (λ s o. is_taken_from (is_cancelled_by cancel s) o k item.number) (open_in all) all
        (λ s o. ap (λ b. is_unread_send k item.number o && b) (some_cancelled (is_cancelled_by cancel s) e s o))
        (own_open all roster))))
        (pending_in first k);
  }

  -- ---- by index

  abbrev pub passed : Thread → Thread
  passed = thread_after_cancelled cancel

  pub passed_on : (all items : List Thread) (i : ℕ) (d y : Thread) → items ≡ swept passed i all → i < length all
      → y ≡ passed (get_or items i d) → set items i y ≡ swept passed (i + 1) all
  passed_on all items i d y is l now =
      ap (λ z. set items i z) now ∙ ap (λ ts. set ts i (passed (get_or ts i d))) is
      ∙ ap (λ t. set (swept passed i all) i (passed t)) (swept_at passed i all d) ∙ swept_on passed i all d l
      ∙ (let more : suc i ≡ i + 1 = omega arith in ap (λ n. swept passed n all) more)

  -- the thread at index i, before the rest
  at_turn : (all items : List Thread) (i : ℕ) (d : Thread) → items ≡ swept passed i all → i < length all
      → drop i all ≡ get_or items i d ∷ drop (i + 1) all
  at_turn all items i d is l = drop_more all i d l
      ∙ ap (λ t. t ∷ drop (i + 1) all) (sym (ap (λ ts. get_or ts i d) is ∙ swept_at passed i all d))

  module _ (all items : List Thread) (i : ℕ) (d : Thread) (first now : List (ℕ × Channel)) (left : Option Completion)
      (completions : List Completion) (is : items ≡ swept passed i all) (l : i < length all)
      (so : Sweeps all (drop i all) first now left completions) (caller : ℕ) (named : caller ≡ own.thread) where
    here : Sweeps all (get_or items i d ∷ drop (i + 1) all) first now left completions
    here = subst (λ rest. Sweeps all rest first now left completions) (at_turn all items i d is l) so

    pub idle_here : eqb (get_or items i d).member.thread caller ≡ true → (get_or items i d).open_call ≡ None
    idle_here at = here.idle.0 (subst (λ n. eqb (get_or items i d).member.thread n ≡ true) named at)

    pub sweeps_step : (next : List (ℕ × Channel)) (left-2 completion : Option Completion)
        (completions-2 : List Completion)
        → Lose (is_taken_from (is_cancelled_by cancel (get_or items i d).member.thread) (get_or items i d).open_call)
        now next
        → left-2 ≡ cond (eqb (get_or items i d).member.thread caller) None left
        → completion ≡ cond (eqb (get_or items i d).member.thread caller) left
        (cancel_where (is_cancelled_by cancel (get_or items i d).member.thread) e (get_or items i d).member.thread
        (get_or items i d).open_call)
        → completions-2 ≡ with_completion completions completion
        → Sweeps all (drop (i + 1) all) first next left-2 completions-2
    sweeps_step next left-2 completion completions-2 lose l-2 ends put =
        subst (λ es. Sweeps all (drop (i + 1) all) first next left-2 es) (sym put)
        (sweeps_on all (drop (i + 1) all) (get_or items i d) first now next left left-2 completion completions here lose
        (l-2 ∙ ap (λ n. cond (eqb (get_or items i d).member.thread n) None left) named)
        (ends ∙ ap (λ n. cond (eqb (get_or items i d).member.thread n) left
        (cancel_where (is_cancelled_by cancel (get_or items i d).member.thread) e (get_or items i d).member.thread
        (get_or items i d).open_call)) named))

  pub at_end : (all : List Thread) (i : ℕ) (first now : List (ℕ × Channel)) (left : Option Completion)
      (completions : List Completion) → length all ≤ i → Sweeps all (drop i all) first now left completions
      → Sweeps all [] first now left completions
  at_end all i first now left completions l so =
      subst (λ rest. Sweeps all rest first now left completions) (drop_all i all l) so

  pub swept_threads : (all items new : List Thread) (i n : ℕ) → items ≡ swept passed i all → i ≡ length all
      → length items ≡ n → take n (items ++ new) ≡ map passed all
  swept_threads all items new i n is end long = take_at items new n long ∙ is ∙ ap (λ j. swept passed j all) end
      ∙ swept_all passed all

pub few_more : (completions : List Completion) (completion : Option Completion)
    → length (with_completion completions completion) ≤ length completions + 1
few_more completions None = omega arith
few_more completions (Some completion) = omega (arith, length-append completions (completion ∷ []))
