-- The index of a thread in the list of threads, and the changes by a write at this index.
use Rattle.qkernel_state.proofs.Common.{◌≡◌, ℕ, suc, zero, ◌+◌, ◌<◌, List, [], ◌∷◌, length, set, get_or, refl, ap, sym}
use Rattle.qkernel_state.proofs.Common.{subst, ◌∙◌, cond, arith, true, false, eqb, position_from, eqb-true, eqb-false}
use Rattle.qkernel_state.proofs.Common.{eq-eqb, ne_eqb, true≢false, position_from-zero, same_Some, none-some, member_at}
use Rattle.qkernel_state.proofs.Common.{Thread, open_in, seat_in, ChangesOpen, SetsOpen, SetsPriority, Wakes}
use Rattle.qkernel_state.proofs.Common.{members_of, thread_priority, open_at, IsRecordOf, OpenCall, option_map, None}
use Rattle.qkernel_state.proofs.Common.{Some, is_some, Option, unwrap_or}

-- thread u is at index k, and at no index before
abbrev pub IsFirstAt : List Thread → ℕ → ℕ → Type 0
IsFirstAt [] u k = ⊥
IsFirstAt (t ∷ threads) u zero = t.member.thread ≡ u
IsFirstAt (t ∷ threads) u (suc k) = ((eqb t.member.thread u) ≡ false) × IsFirstAt threads u k

-- the index that position_from finds
found_from : (u : ℕ) (threads : List Thread) (i k : ℕ) → position_from (λ t. eqb t.member.thread u) i threads ≡ Some k
    → (j : ℕ) × (k ≡ i + j) × IsFirstAt threads u j
found_from u [] i k e = absurd (none-some k e)
found_from u (t ∷ threads) i k e =
    elim (eqb t.member.thread u)
    as (λ b. eqb t.member.thread u ≡ b → cond b (Some i) (position_from (λ t. eqb t.member.thread u) (i + 1) threads)
    ≡ Some k → (j : ℕ) × (k ≡ i + j) × IsFirstAt (t ∷ threads) u j) [
      | true ↦ λ at e. let same : i ≡ k = same_Some i k e in (0, omega arith, eqb-true t.member.thread u at)
      | false ↦ λ other e. let r = found_from u threads (i + 1) k e in
          let same : k ≡ i + 1 + r.0 = r.1 in
          (suc r.0, omega arith, (other, r.2))
    ] refl e

pub first_at : (u : ℕ) (threads : List Thread) (k : ℕ) → seat_in threads u ≡ Some k → IsFirstAt threads u k
first_at u threads k e =
    let r = found_from u threads 0 k (sym (position_from-zero (λ t. eqb t.member.thread u) threads) ∙ e) in
    subst (IsFirstAt threads u) (let same : k ≡ 0 + r.0 = r.1 in omega arith) r.2

pub first_below : (u : ℕ) (threads : List Thread) (k : ℕ) → IsFirstAt threads u k → k < length threads
first_below u [] k h = absurd h
first_below u (t ∷ threads) zero h = omega arith
first_below u (t ∷ threads) (suc k) h = let below : k < length threads = first_below u threads k h.1 in omega arith

pub first_member : (u : ℕ) (threads : List Thread) (k : ℕ) (d : Thread) → IsFirstAt threads u k
    → member_at (members_of threads) u ≡ Some (get_or threads k d).member
first_member u [] k d h = absurd h
first_member u (t ∷ threads) zero d h = rw (eq-eqb t.member.thread u h) refl
first_member u (t ∷ threads) (suc k) d h = rw h.0 (first_member u threads k d h.1)

pub first_number : (u : ℕ) (threads : List Thread) (k : ℕ) (d : Thread) → IsFirstAt threads u k
    → (get_or threads k d).member.thread ≡ u
first_number u [] k d h = absurd h
first_number u (t ∷ threads) zero d h = h
first_number u (t ∷ threads) (suc k) d h = first_number u threads k d h.1

pub first_open : (u : ℕ) (threads : List Thread) (k : ℕ) (d : Thread) → IsFirstAt threads u k
    → open_in threads u ≡ (get_or threads k d).open_call
first_open u [] k d h = absurd h
first_open u (t ∷ threads) zero d h = rw (eq-eqb t.member.thread u h) refl
first_open u (t ∷ threads) (suc k) d h = rw h.0 (first_open u threads k d h.1)

pub first_level : (u : ℕ) (threads : List Thread) (k : ℕ) (d : Thread) → IsFirstAt threads u k
    → thread_priority threads u ≡ (get_or threads k d).priority
first_level u [] k d h = absurd h
first_level u (t ∷ threads) zero d h = rw (eq-eqb t.member.thread u h) refl
first_level u (t ∷ threads) (suc k) d h = rw h.0 (first_level u threads k d h.1)

-- a write at the index that changes only the open call
pub set_members : (u : ℕ) (threads : List Thread) (k : ℕ) (d x : Thread) → IsFirstAt threads u k
    → x.member ≡ (get_or threads k d).member → members_of (set threads k x) ≡ members_of threads
set_members u [] k d x h m = absurd h
set_members u (t ∷ threads) zero d x h m = ap (λ y. y ∷ members_of threads) m
set_members u (t ∷ threads) (suc k) d x h m = ap (λ ys. t.member ∷ ys) (set_members u threads k d x h.1 m)

pub set_open : (u : ℕ) (threads : List Thread) (k : ℕ) (d x : Thread) (v : ℕ) → IsFirstAt threads u k
    → x.member ≡ (get_or threads k d).member
    → open_in (set threads k x) v ≡ cond (eqb v u) x.open_call (open_in threads v)
set_open u [] k d x v h m = absurd h
set_open u (t ∷ threads) zero d x v h m =
    let same : x.member.thread ≡ u = ap (λ y. y.thread) m ∙ h in
    rw (same, h)
    (elim (eqb u v) as (λ b. eqb u v ≡ b
    → cond b x.open_call (open_in threads v) ≡ cond (eqb v u) x.open_call (cond b t.open_call (open_in threads v))) [
      | true ↦ λ e. rw (eq-eqb v u (sym (eqb-true u v e))) refl
      | false ↦ λ e. rw (ne_eqb v u (λ same. eqb-false u v e (sym same))) refl
    ] refl)
set_open u (t ∷ threads) (suc k) d x v h m =
    elim (eqb t.member.thread v)
    as (λ b. eqb t.member.thread v ≡ b → cond b t.open_call (open_in (set threads k x) v) ≡ cond (eqb v u) x.open_call
    (cond b t.open_call (open_in threads v))) [
      | true ↦ λ e. let other : eqb v u ≡ false = subst (λ w. eqb w u ≡ false) (eqb-true t.member.thread v e) h.0 in
          rw other refl
      | false ↦ λ e. set_open u threads k d x v h.1 m
    ] refl

pub set_priority : (u : ℕ) (threads : List Thread) (k : ℕ) (d x : Thread) (v : ℕ) → IsFirstAt threads u k
    → x.member ≡ (get_or threads k d).member → x.priority ≡ (get_or threads k d).priority
    → thread_priority (set threads k x) v ≡ thread_priority threads v
set_priority u [] k d x v h m p = absurd h
set_priority u (t ∷ threads) zero d x v h m p = rw (ap (λ y. y.thread) m, p) refl
set_priority u (t ∷ threads) (suc k) d x v h m p =
    elim (eqb t.member.thread v)
    as (λ b. cond b t.priority (thread_priority (set threads k x) v) ≡ cond b t.priority (thread_priority threads v)) [
      | true ↦ refl
      | false ↦ set_priority u threads k d x v h.1 m p
    ]

pub sets_open : (u : ℕ) (threads : List Thread) (k : ℕ) (d x : Thread) → IsFirstAt threads u k
    → x.member ≡ (get_or threads k d).member → x.priority ≡ (get_or threads k d).priority
    → SetsOpen u x.open_call threads (set threads k x)
sets_open u threads k d x h m p = record {
  members = set_members u threads k d x h m;
  open_call = λ v. set_open u threads k d x v h m;
  priority = λ v. set_priority u threads k d x v h m p;
}

-- a write at the index that changes the priority
set_any_level : (u : ℕ) (threads : List Thread) (k : ℕ) (d x : Thread) (v : ℕ) → IsFirstAt threads u k
    → x.member ≡ (get_or threads k d).member
    → thread_priority (set threads k x) v ≡ cond (eqb v u) x.priority (thread_priority threads v)
set_any_level u [] k d x v h m = absurd h
set_any_level u (t ∷ threads) zero d x v h m =
    let same : x.member.thread ≡ u = ap (λ y. y.thread) m ∙ h in
    rw (same, h)
    (elim (eqb u v) as (λ b. eqb u v ≡ b
    → cond b x.priority (thread_priority threads v) ≡ cond (eqb v u) x.priority
    (cond b t.priority (thread_priority threads v))) [
      | true ↦ λ e. rw (eq-eqb v u (sym (eqb-true u v e))) refl
      | false ↦ λ e. rw (ne_eqb v u (λ same. eqb-false u v e (sym same))) refl
    ] refl)
set_any_level u (t ∷ threads) (suc k) d x v h m =
    elim (eqb t.member.thread v)
    as (λ b. eqb t.member.thread v ≡ b
    → cond b t.priority (thread_priority (set threads k x) v) ≡ cond (eqb v u) x.priority
    (cond b t.priority (thread_priority threads v))) [
      | true ↦ λ e. let other : eqb v u ≡ false = subst (λ w. eqb w u ≡ false) (eqb-true t.member.thread v e) h.0 in
          rw other refl
      | false ↦ λ e. set_any_level u threads k d x v h.1 m
    ] refl

-- the new priority is the given priority, or the thread's old priority if none is given
level_given : (u : ℕ) (threads : List Thread) (k : ℕ) (d : Thread) (p : Option ℕ) (v : ℕ) → IsFirstAt threads u k
    → cond (eqb v u) (unwrap_or p (get_or threads k d).priority) (thread_priority threads v) ≡ unwrap_or
    (cond (eqb u v) p None) (thread_priority threads v)
level_given u threads k d p v h =
    elim (eqb u v) as (λ b. eqb u v ≡ b
    → cond (eqb v u) (unwrap_or p (get_or threads k d).priority) (thread_priority threads v) ≡ unwrap_or
    (cond b p None) (thread_priority threads v)) [
      | true ↦ λ e. rw (eq-eqb v u (sym (eqb-true u v e)))
          (ap (unwrap_or p) (sym (first_level u threads k d h) ∙ ap (thread_priority threads) (eqb-true u v e)))
      | false ↦ λ e. rw (ne_eqb v u (λ same. eqb-false u v e (sym same))) refl
    ] refl

pub sets_level : (u : ℕ) (threads : List Thread) (k : ℕ) (d x : Thread) (p : Option ℕ) → IsFirstAt threads u k
    → x.member ≡ (get_or threads k d).member → x.open_call ≡ (get_or threads k d).open_call
    → x.priority ≡ unwrap_or p (get_or threads k d).priority → SetsPriority u p threads (set threads k x)
sets_level u threads k d x p h m o q = record {
  members = set_members u threads k d x h m;
  open_call = λ v. set_open u threads k d x v h m
      ∙ ap (λ w. cond (eqb v u) w (open_in threads v)) (o ∙ sym (first_open u threads k d h))
      ∙ (elim (eqb v u) as (λ b. eqb v u ≡ b → cond b (open_in threads u) (open_in threads v) ≡ open_in threads v) [
        | true ↦ λ e. ap (open_in threads) (sym (eqb-true v u e))
        | false ↦ λ e. refl
      ] refl);
  priority = λ v. set_any_level u threads k d x v h m ∙ ap (λ w. cond (eqb v u) w (thread_priority threads v)) q
      ∙ level_given u threads k d p v h;
}

-- the priority is set, and then the open call is taken
pub wakes : (u : ℕ) (p : Option ℕ) (old mid new : List Thread) → SetsPriority u p old mid → SetsOpen u None mid new
    → Wakes u p old new
wakes u p old mid new takes ends = record {
  members = ends.members ∙ takes.members;
  open_call = λ v. ends.open_call v ∙ ap (cond (eqb v u) None) (takes.open_call v);
  priority = λ v. ends.priority v ∙ takes.priority v;
}

-- ---- changes of the open call, and look-ups of the record

-- the open call of the thread at an index is changed
pub changes_open : (u : ℕ) (change : OpenCall → OpenCall) (threads : List Thread) (k : ℕ) (d x : Thread)
    → IsFirstAt threads u k → x.member ≡ (get_or threads k d).member → x.priority ≡ (get_or threads k d).priority
    → x.open_call ≡ option_map change (get_or threads k d).open_call → ChangesOpen u change threads (set threads k x)
changes_open u change threads k d x first m p o =
    let s = sets_open u threads k d x first m p in
    record {
      members = s.members;
      open_call = λ v. s.open_call v
          ∙ (elim (eqb v u) as (λ b. eqb v u ≡ b
          → cond b x.open_call (open_in threads v) ≡ cond b (option_map change (open_in threads v))
          (open_in threads v)) [
            | true ↦ λ same. o ∙ ap (option_map change) (sym (first_open u threads k d first))
                ∙ ap (λ w. option_map change (open_in threads w)) (sym (eqb-true v u same))
            | false ↦ λ other. refl
          ] refl);
      priority = s.priority;
    }

-- the record of the thread at an index
pub record_there : (u : ℕ) (threads : List Thread) (k : ℕ) (d : Thread) → seat_in threads u ≡ Some k
    → IsRecordOf u threads (get_or threads k d)
record_there u threads k d e =
    let first = first_at u threads k e in
    record {
      member = first_member u threads k d first;
      open_call = first_open u threads k d first;
      priority =
          first_level u threads k d first;
    }

-- ---- indices depend only on the members

seat_from : (u : ℕ) (threads : List Thread) (i : ℕ)
    → position_from (λ t. eqb t.member.thread u) i threads ≡ position_from (λ m. eqb m.thread u) i (members_of threads)
seat_from u [] i = refl
seat_from u (t ∷ threads) i = ap (cond (eqb t.member.thread u) (Some i)) (seat_from u threads (i + 1))

seat_by : (u : ℕ) (threads : List Thread)
    → seat_in threads u ≡ position_from (λ m. eqb m.thread u) 0 (members_of threads)
seat_by u threads = position_from-zero (λ t. eqb t.member.thread u) threads ∙ seat_from u threads 0

pub seat_kept : (u : ℕ) (old new : List Thread) → members_of new ≡ members_of old → seat_in new u ≡ seat_in old u
seat_kept u old new e = seat_by u new ∙ ap (position_from (λ m. eqb m.thread u) 0) e ∙ sym (seat_by u old)

-- ---- whether a thread is in the list

found_some : (u : ℕ) (threads : List Thread) (i : ℕ)
    → is_some (position_from (λ t. eqb t.member.thread u) i threads) ≡ is_some (member_at (members_of threads) u)
found_some u [] i = refl
found_some u (t ∷ threads) i =
    elim (eqb t.member.thread u)
    as (λ b. is_some (cond b (Some i) (position_from (λ t. eqb t.member.thread u) (i + 1) threads))
    ≡ is_some (cond b (Some t.member) (member_at (members_of threads) u))) [
      | true ↦ refl
      | false ↦ found_some u threads (i + 1)
    ]

pub is_there : (u : ℕ) (threads : List Thread)
    → is_some (seat_in threads u) ≡ is_some (member_at (members_of threads) u)
is_there u threads = ap is_some (position_from-zero (λ t. eqb t.member.thread u) threads) ∙ found_some u threads 0

-- the open call of the thread at an index
pub call_here : (threads : List Thread) (k : ℕ) (d : Thread) → k < length threads
    → open_at threads k ≡ (get_or threads k d).open_call
call_here [] k d l = absurd (omega arith)
call_here (t ∷ threads) zero d l = refl
call_here (t ∷ threads) (suc k) d l = call_here threads k d (omega arith)

-- a thread that isn't in the roster has no open call
pub unknown_open : (u : ℕ) (threads : List Thread) → is_some (member_at (members_of threads) u) ≡ false
    → open_in threads u ≡ None
unknown_open u [] e = refl
unknown_open u (t ∷ threads) e =
    elim (eqb t.member.thread u) as (λ b. is_some (cond b (Some t.member) (member_at (members_of threads) u)) ≡ false
    → cond b t.open_call (open_in threads u) ≡ None) [
      | true ↦ λ known. absurd (true≢false known)
      | false ↦ λ rest. unknown_open u threads rest
    ] e

-- a thread that has an index is in the roster
pub seat_known : (u : ℕ) (threads : List Thread) (k : ℕ) → seat_in threads u ≡ Some k
    → is_some (member_at (members_of threads) u) ≡ true
seat_known u threads k e = sym (is_there u threads) ∙ ap is_some e
