-- The receivers of a channel, by the records of their threads.
use Rattle.qkernel_state.proofs.Common.{◌≡◌, ◌<◌, ℕ, List, [], ◌∷◌, refl, ap, sym, ◌∙◌, arith, cond, true, false, eqb}
use Rattle.qkernel_state.proofs.Common.{option_and_then, AllByRecursion, le-ltb, ltb-false, ltb-true, none-some}
use Rattle.qkernel_state.proofs.Common.{same_Some, Item, IsRoster, Completion, OpenCall, Receive, Send, Thread}
use Rattle.qkernel_state.proofs.Common.{threads_of, is_after, wait_on, receipt_completion, takes, receive_in}
use Rattle.qkernel_state.proofs.Common.{later_of_two, newest_in, open_in, members_of, is_among, Option, None, Some}
use Rattle.qkernel_state.proofs.Common.{is_some, not, nat_lt, Bool, ◌||◌, find}
use Rattle.std.specs.Option.{option_map, option_map_or, IfSome}
use Rattle.qmodel.specs.declared.open_call.OpenReceive.{OpenReceive}
use Rattle.qrules.proofs.Traces.Properties.Receivers.{after_less, any_after, newest_parts}
use Rattle.qkernel_state.proofs.Senders.{own_open}

-- ---- the search through the threads, and its result

-- the newest receive of these threads and best; wait has the number of each thread's receive
abbrev top : (ℕ → Option ℕ) → Option (ℕ × ℕ) → List ℕ → Option (ℕ × ℕ)
top wait best [] = best
top wait best (u ∷ ts) = top wait (later_of_two best u (wait u)) ts

-- the same, through the records of threads
abbrev pub newest_by : ℕ → Item → Option (ℕ × ℕ) → List Thread → Option (ℕ × ℕ)
newest_by h item best [] = best
newest_by h item best (t ∷ threads) =
    newest_by h item (later_of_two best t.member.thread (wait_on h item t.open_call)) threads

newest_same : (open_call : ℕ → Option OpenCall) (h : ℕ) (item : Item) (best : Option (ℕ × ℕ)) (threads : List Thread)
    → AllByRecursion (λ x. open_call x.member.thread ≡ x.open_call) threads
    → newest_by h item best threads ≡ top (λ u. wait_on h item (open_call u)) best (threads_of (members_of threads))
newest_same open_call h item best [] w = refl
newest_same open_call h item best (t ∷ threads) w =
    rw (← w.0)
    (newest_same open_call h item (later_of_two best t.member.thread (wait_on h item (open_call t.member.thread)))
    threads w.1)

module _ (wait : ℕ → Option ℕ) where
  -- best is the result if no thread has a later receive, and otherwise it doesn't matter
  top_from : (m u : ℕ) (ts : List ℕ)
      → top wait (Some (m, u)) ts ≡ cond (any_after wait m ts) (top wait None ts) (Some (m, u))
  top_from m u [] = refl
  top_from m u (t ∷ ts) =
      elim (wait t) as (λ o. top wait (later_of_two (Some (m, u)) t o) ts ≡ cond (is_after m o || any_after wait m ts)
      (top wait (later_of_two None t o) ts) (Some (m, u))) [
        | None ↦ top_from m u ts
        | Some n ↦ elim (nat_lt m n)
            as (λ b. nat_lt m n ≡ b → top wait (cond b (Some (n, t)) (Some (m, u))) ts
            ≡ cond (b || any_after wait m ts) (top wait (Some (n, t)) ts) (Some (m, u))) [
              | true ↦ λ less. refl
              | false ↦ λ more. top_from m u ts
                  ∙ (elim (any_after wait m ts)
                  as (λ b. any_after wait m ts ≡ b
                  → cond b (top wait None ts) (Some (m, u)) ≡ cond b (top wait (Some (n, t)) ts) (Some (m, u))) [
                    | true ↦
                        λ some. sym (top_from n t ts
                        ∙ ap (λ b. cond b (top wait None ts) (Some (n, t)))
                        (after_less wait n m ts (ltb-false m n more) some))
                    | false ↦ λ none. refl
                  ] refl)
            ] refl
      ]

  -- thread u has a receive, and no thread of ts has a later receive
  abbrev lasts : List ℕ → ℕ → Bool
  lasts ts u = option_map_or (λ m. not (any_after wait m ts)) (wait u) false

  first_same : (p q : ℕ → Bool) (ns : List ℕ) → ((u : ℕ) → p u ≡ q u) → find p ns ≡ find q ns
  first_same p q [] same = refl
  first_same p q (u ∷ ns) same = rw (same u, first_same p q ns same) refl

  -- a further thread without a receive changes nothing for the others
  more_idle : (t : ℕ) (ts : List ℕ) → wait t ≡ None → (u : ℕ) → lasts (t ∷ ts) u ≡ lasts ts u
  more_idle t ts idle u = rw idle refl

  -- nor does a further thread, if one of the others has a later receive
  more_earlier : (t m : ℕ) (ts : List ℕ) → wait t ≡ Some m → any_after wait m ts ≡ true → (u : ℕ)
      → lasts (t ∷ ts) u ≡ lasts ts u
  more_earlier t m ts is some u =
      rw is (elim (wait u) as (λ o. option_map_or (λ n. not (nat_lt n m || any_after wait n ts)) o false
      ≡ option_map_or (λ n. not (any_after wait n ts)) o false) [
        | None ↦ refl
        | Some n ↦ elim (nat_lt n m)
            as (λ b. nat_lt n m ≡ b → not (b || any_after wait n ts) ≡ not (any_after wait n ts)) [
              | true ↦ λ less. let k : n < m = ltb-true n m less in rw (after_less wait n m ts (omega arith) some) refl
              | false ↦ λ more. refl
            ] refl
      ])

  -- the search finds the thread with the last receive
  pub top_is : (ts : List ℕ) → option_map (λ b. b.1) (top wait None ts) ≡ find (lasts ts) ts
  top_is [] = refl
  top_is (t ∷ ts) =
      elim (wait t) as (λ o. wait t ≡ o
      → option_map (λ b. b.1) (top wait (later_of_two None t o) ts)
      ≡ cond (option_map_or (λ m. not (any_after wait m (t ∷ ts))) o false) (Some t) (find (lasts (t ∷ ts)) ts)) [
        | None ↦ λ idle. top_is ts ∙ sym (first_same (lasts (t ∷ ts)) (lasts ts) ts (more_idle t ts idle))
        | Some m ↦ λ is. ap (option_map (λ (b : ℕ × ℕ). b.1)) (top_from m t ts) ∙ rw (is, le-ltb m m (omega arith)) (
            elim (any_after wait m ts)
            as (λ b. any_after wait m ts ≡ b
            → option_map (λ b. b.1) (cond b (top wait None ts) (Some (m, t))) ≡ cond (not b) (Some t)
            (find (lasts (t ∷ ts)) ts)) [
              | true ↦ λ some. top_is ts ∙ sym (first_same (lasts (t ∷ ts)) (lasts ts) ts (more_earlier t m ts is some))
              | false ↦ λ none. refl
            ] refl)
      ] refl

pub newest_found : (h : ℕ) (item : Item) (threads : List Thread) → IsRoster (members_of threads)
    → option_map (λ b. b.1) (newest_by h item None threads) ≡ newest_in h item threads
newest_found h item threads roster =
    ap (option_map (λ (b : ℕ × ℕ). b.1)) (newest_same (open_in threads) h item None threads (own_open threads roster))
    ∙ top_is (λ u. wait_on h item (open_in threads u)) (threads_of (members_of threads))

-- the newest receiver has a receive on the channel that may take the item
pub newest_receives : (threads : List Thread) (h : ℕ) (item : Item) (r : ℕ) → newest_in h item threads ≡ Some r
    → (m : ℕ) × (wait_on h item (open_in threads r) ≡ Some m)
newest_receives threads h item r e = let k =
    newest_parts (open_in threads) h item (threads_of (members_of threads)) r e in (k.0, k.1.waits)

-- a thread with such a receive is in the list
pub waits_among : (h : ℕ) (item : Item) (m : ℕ) (threads : List Thread) (u : ℕ)
    → wait_on h item (open_in threads u) ≡ Some m → is_among (threads_of (members_of threads)) u ≡ true
waits_among h item m [] u e = absurd (none-some m e)
waits_among h item m (t ∷ threads) u e =
    elim (eqb t.member.thread u) as (λ b. wait_on h item (cond b t.open_call (open_in threads u)) ≡ Some m
    → (b || is_among (threads_of (members_of threads)) u) ≡ true) [
      | true ↦ λ e. refl
      | false ↦ λ e. waits_among h item m threads u e
    ] e

-- the completion of its receive is the thread's own
pub ended_thread : (item : Item) (message : List ℕ) (r : ℕ) (o : Option OpenCall) (y : Completion)
    → takes item message r o ≡ Some y → y.thread ≡ r
ended_thread item message r None y e = absurd (none-some y e)
ended_thread item message r (Some (Send s)) y e = absurd (none-some y e)
ended_thread item message r (Some (Receive x)) y e = sym (ap (λ x. x.thread) (same_Some _ y e))

-- a call that may take an item is a receive
pub waits_receive : (h m : ℕ) (item : Item) (o : Option OpenCall) → wait_on h item o ≡ Some m
    → is_some (option_and_then receive_in o) ≡ true
waits_receive h m item None e = absurd (none-some m e)
waits_receive h m item (Some (Send s)) e = absurd (none-some m e)
waits_receive h m item (Some (Receive r)) e = refl

-- a property of the thread's own receive is a property of the receive that is returned
pub receive_own : (u : ℕ) (o : Option OpenCall) (r : Option OpenReceive) (P : OpenReceive → Type 0)
    → r ≡ option_and_then receive_in o → IfSome r (λ x. x.thread ≡ u)
    → ((x : OpenReceive) → x.thread ≡ u → option_and_then receive_in o ≡ Some x → P x) → IfSome r P
receive_own u o None P had own each = tt
receive_own u o (Some r) P had own each = each r own (sym had)

-- the completion of a receive that takes an item
pub taken_by : (item : Item) (message : List ℕ) (u : ℕ) (o : Option OpenCall) (r : OpenReceive)
    → option_and_then receive_in o ≡ Some r
    → takes item message u o ≡ Some (receipt_completion item message u r.number r.buffer)
taken_by item message u None r e = absurd (none-some r e)
taken_by item message u (Some (Send s)) r e = absurd (none-some r e)
taken_by item message u (Some (Receive x)) r e =
    ap (λ (x : OpenReceive). Some (receipt_completion item message u x.number x.buffer)) (same_Some _ r e)
