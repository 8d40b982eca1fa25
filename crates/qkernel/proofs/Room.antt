-- An event completes at most its own call and calls that were open.
use Rattle.qkernel.proofs.Common.{◌≡◌, ℕ, ◌+◌, ◌≤◌, List, [], ◌∷◌, length, refl, ap, sym, subst, ◌∙◌, cond, arith, Bool}
use Rattle.qkernel.proofs.Common.{true, false, eqb, Option, None, Some, is_some, ◌||◌, ◌&&◌, filter_map, cons_option}
use Rattle.qkernel.proofs.Common.{AllByRecursion, completion_to, Outcome, makes, unblocks, writes, Step, Steps}
use Rattle.qkernel.proofs.Common.{facts_in, Follows, unless, after_receipt, after_write, after_unblock, is_thread}
use Rattle.qkernel.proofs.Common.{held_call, written_call, unblocked_call, row_passes, RowLaws, row_laws, Rises, rises}
use Rattle.qkernel.proofs.Common.{not_among, own_open, option_map, eqb-true, eq-eqb, true≢false, IsRoster, Call}
use Rattle.qkernel.proofs.Common.{Completion, OpenCall, Thread, receipt_of, Received, row_of, SentItem, State, open_in}
use Rattle.qkernel.proofs.Common.{blocked_count, members_of, is_among}
use Rattle.qrules.proofs.Words.Facts.{Facts, sender, threads_of}
use Rattle.qrules.specs.Rule.{Transfer}

-- 1 for Some, and 0 for None
abbrev one : {A : Type 0} → Option A → ℕ
one None = 0
one (Some x) = 1

one_most : {A : Type 0} (o : Option A) → one o ≤ 1
one_most None = omega arith
one_most (Some x) = omega arith

-- the number of these threads that are blocked
opens : (ℕ → Option OpenCall) → List ℕ → ℕ
opens f [] = 0
opens f (u ∷ ts) = one (f u) + opens f ts

length-cons : {A : Type 0} (o : Option A) (xs : List A) → length (cons_option o xs) ≡ one o + length xs
length-cons None xs = omega arith
length-cons (Some x) xs = omega arith

-- the caller's call completes or stays open, and any other thread's open call at most completes
sum_elsewhere : (e : ℕ → Option Completion) (f g : ℕ → Option OpenCall) (t : ℕ) (ts : List ℕ)
    → ((u : ℕ) → eqb u t ≡ false → one (e u) + one (g u) ≤ one (f u)) → is_among ts t ≡ false
    → length (filter_map e ts) + opens g ts ≤ opens f ts
unfolding opens
sum_elsewhere e f g t [] h away = omega arith
sum_elsewhere e f g t (u ∷ ts) h away =
    elim (eqb u t) as (λ b. eqb u t ≡ b → (b || is_among ts t) ≡ false
    → length (cons_option (e u) (filter_map e ts)) + (one (g u) + opens g ts) ≤ one (f u) + opens f ts) [
      | true ↦ λ s a. absurd (true≢false a)
      | false ↦ λ s a.
          let here : one (e u) + one (g u) ≤ one (f u) = h u s in
          let rest : length (filter_map e ts) + opens g ts ≤ opens f ts = sum_elsewhere e f g t ts h a in
          rw (length-cons (e u) (filter_map e ts)) (omega arith)
    ] refl away

sum_all : (e : ℕ → Option Completion) (f g : ℕ → Option OpenCall) (t : ℕ) (ts : List ℕ)
    → ((u : ℕ) → eqb u t ≡ false → one (e u) + one (g u) ≤ one (f u)) → one (e t) + one (g t) ≤ 1 → Rises ts
    → length (filter_map e ts) + opens g ts ≤ opens f ts + 1
unfolding opens
sum_all e f g t [] h own r = omega arith
sum_all e f g t (u ∷ ts) h own r =
    elim (eqb u t) as (λ b. eqb u t ≡ b → length (cons_option (e u) (filter_map e ts)) + (one (g u) + opens g ts)
    ≤ one (f u) + opens f ts + 1) [
      | true ↦ λ s.
          let same : u ≡ t = eqb-true u t s in
          let here : one (e u) + one (g u) ≤ 1 = subst (λ v. one (e v) + one (g v) ≤ 1) (sym same) own in
          let rest : length (filter_map e ts) + opens g ts ≤ opens f ts =
          sum_elsewhere e f g t ts h (subst (λ v. is_among ts v ≡ false) same (not_among ts u r.0)) in
          rw (length-cons (e u) (filter_map e ts)) (omega arith)
      | false ↦ λ s.
          let here : one (e u) + one (g u) ≤ one (f u) = h u s in
          let rest : length (filter_map e ts) + opens g ts ≤ opens f ts + 1 = sum_all e f g t ts h own r.1 in
          rw (length-cons (e u) (filter_map e ts)) (omega arith)
    ] refl

one-map : {A B : Type 0} (k : A → B) (o : Option A) → one (option_map k o) ≡ one o
one-map k None = refl
one-map k (Some x) = refl

one-receipt : (r : Option Received) (u : ℕ) (o : Option OpenCall) → one (after_receipt r u o) ≡ one o
one-receipt None u o = refl
one-receipt (Some r) u o =
    elim (is_thread r.sender u)
    as (λ b. one (cond b (option_map (held_call r.kept) o) o) ≡ one o) [
      | true ↦ one-map (held_call r.kept) o
      | false ↦
          refl
    ]

one-write : (f : Facts) (w : Option Transfer) (u : ℕ) (o : Option OpenCall) → one (after_write f w u o) ≡ one o
one-write f None u o = refl
one-write f (Some w) u o =
    elim (is_thread (sender f w.rcvid) u)
    as (λ b. one (cond b (option_map (written_call w.offset w.bytes) o) o) ≡ one o) [
      | true ↦
          one-map (written_call w.offset w.bytes) o
      | false ↦ refl
    ]

one-unblock : (m : Option SentItem) (w : Option ℕ) (u : ℕ) (o : Option OpenCall) → one (after_unblock m w u o) ≡ one o
one-unblock m None u o = refl
one-unblock m (Some v) u o =
    elim (eqb u v && is_some m)
    as (λ b. one (cond b (option_map unblocked_call o) o) ≡ one o) [ true ↦ one-map unblocked_call o | false ↦ refl ]

one-unless : (y : Option Completion) (o : Option OpenCall) → one y + one (unless (is_some y) o) ≤ 1
one-unless None o = let most : one o ≤ 1 = one_most o in omega arith
one-unless (Some y) o = omega arith

-- ---- a step

opens_same : (f g : ℕ → Option OpenCall) (ts : List ℕ) → ((u : ℕ) → f u ≡ g u) → opens f ts ≡ opens g ts
unfolding opens
opens_same f g [] h = refl
opens_same f g (u ∷ ts) h = rw (h u, opens_same f g ts h) refl

opens_blocked : (f : ℕ → Option OpenCall) (threads : List Thread)
    → AllByRecursion (λ x. f x.member.thread ≡ x.open_call) threads
    → opens f (threads_of (members_of threads)) ≡ blocked_count threads
unfolding opens
opens_blocked f [] h = refl
opens_blocked f (t ∷ threads) h =
    rw (h.0, opens_blocked f threads h.1)
    (elim t.open_call as (λ o. one o + blocked_count threads ≡ cond (is_some o) 1 0 + blocked_count threads) [
      | None ↦
          refl
      | Some o ↦ refl
    ])

module _ (old : State) (t : ℕ) (c : Call) (X : List Completion) (new : State)
    (roster : IsRoster (members_of old.threads)) where
  before : opens (open_in old.threads) (threads_of (members_of old.threads)) ≡ blocked_count old.threads
  before = opens_blocked (open_in old.threads) old.threads (own_open old.threads roster)

  after : members_of new.threads ≡ members_of old.threads
      → opens (open_in new.threads) (threads_of (members_of old.threads)) ≡ blocked_count new.threads
  after same = ap (λ ms. opens (open_in new.threads) (threads_of ms)) (sym same)
      ∙ opens_blocked (open_in new.threads) new.threads (own_open new.threads (subst IsRoster (sym same) roster))

  room_accepted : Outcome true (facts_in old) t c X → Follows (facts_in old) t c true (facts_in new)
      → length X + blocked_count new.threads ≤ blocked_count old.threads + 1
  room_accepted answer follows =
      let passes = row_passes (facts_in old) t c answer.no_refusal in
      let laws = row_laws (facts_in old) t c passes in
      let apart = λ (u : ℕ) (other : eqb u t ≡ false). one_apart u other laws follows in
      let own : one (completion_to (facts_in old) t c t) + one (open_in new.threads t) ≤ 1 =
      rw (follows.open_call t, eq-eqb t t refl) (one-unless (row_of (facts_in old) t c).own _) in
      let sum : length (filter_map (completion_to (facts_in old) t c) (threads_of (members_of old.threads))) + opens
      (open_in new.threads) (threads_of (members_of old.threads)) ≤ opens (open_in old.threads)
      (threads_of (members_of old.threads)) + 1
      = sum_all (completion_to (facts_in old) t c) (open_in old.threads) (open_in new.threads) t
      (threads_of (members_of old.threads)) apart own (rises (members_of old.threads) roster) in
      rw (answer.by_row, ← before, ← after follows.roster) sum
    where
      one_apart : (u : ℕ) → eqb u t ≡ false → RowLaws (facts_in old) t c
          → Follows (facts_in old) t c true (facts_in new)
          → one (completion_to (facts_in old) t c u) + one (open_in new.threads u) ≤ one (open_in old.threads u)
      one_apart u other laws follows = rw (follows.open_call u, other) (
          elim ((row_of (facts_in old) t c).others u)
          as (λ y. (row_of (facts_in old) t c).others u ≡ y
          → one y + one
          (unless (is_some y) (after_unblock (makes (facts_in old) t c) (unblocks c) u
          (after_receipt (receipt_of (facts_in old) t c) u
          (after_write (facts_in old) (writes c) u (open_in old.threads u))))) ≤ one (open_in old.threads u)) [
            | None ↦ λ e. rw (
              one-unblock (makes (facts_in old) t c) (unblocks c) u
                  (after_receipt (receipt_of (facts_in old) t c) u
                  (after_write (facts_in old) (writes c) u (open_in old.threads u))),
              one-receipt (receipt_of (facts_in old) t c) u
                  (after_write (facts_in old) (writes c) u (open_in old.threads u)),
              one-write (facts_in old) (writes c) u (open_in old.threads u),
            ) (omega arith)
            | Some y ↦ λ e. let waits = laws.ends_open u y e in rw (waits.is) (omega arith)
          ] refl)

  room_refused : Outcome false (facts_in old) t c X → Follows (facts_in old) t c false (facts_in new)
      → length X + blocked_count new.threads ≤ blocked_count old.threads + 1
  room_refused answer follows =
      let same : opens (open_in new.threads) (threads_of (members_of old.threads)) ≡ opens (open_in old.threads)
      (threads_of (members_of old.threads)) = opens_same _ _ _ follows.open_call in
      let kept : blocked_count new.threads ≡ blocked_count old.threads = sym (after follows.roster) ∙ same ∙ before in
      rw (answer.only, kept) (omega arith)

  pub steps_room : Steps old t c X new → length X + blocked_count new.threads ≤ blocked_count old.threads + 1
  steps_room step = by step.0 step.1 where
    by : (accepted : Bool) → Step old t c accepted X new
        → length X + blocked_count new.threads ≤ blocked_count old.threads + 1
    by true step = room_accepted step.answer step.follows
    by false step = room_refused step.answer step.follows
