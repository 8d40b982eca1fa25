-- The index of guesses stays right when the records of threads are written.
use Rattle.qkernel_state.proofs.Common.{◌≡◌, ◌≢◌, ◌<◌, ◌≤◌, ℕ, suc, zero, ◌+◌, List, [], ◌∷◌, length, map, set, get_or}
use Rattle.qkernel_state.proofs.Common.{Bool, ◌&&◌, refl, ap, sym, ◌∙◌, cond, arith, true, false, eqb, option_and_then}
use Rattle.qkernel_state.proofs.Common.{slice_get, IfSome, position_from, option_map, eqb-true, eq-eqb, true≢false}
use Rattle.qkernel_state.proofs.Common.{ltb-true, and_parts, position_from-zero, length-map, same_Some, none-some, has}
use Rattle.qkernel_state.proofs.Common.{IsRoster, OpenCall, Receipt, Receive, Send, held_call, unblocked_call}
use Rattle.qkernel_state.proofs.Common.{written_call, with_buffer, CancelSet, IndexGuesses, Thread, is_cancelled_by}
use Rattle.qkernel_state.proofs.Common.{is_cancelled_open, thread_after_cancelled, members_of, ready_thread, seat_in}
use Rattle.qkernel_state.proofs.Common.{IsIndexed, number_at, open_at, receive_at, opener_at, lay_over, Option, None}
use Rattle.qkernel_state.proofs.Common.{Some, nat_lt}
use Rattle.qtables.specs.declared.member.Member.{Member}
use Rattle.qkernel_state.specs.Index.{is_receive, Forgets, Notes}
use Rattle.qmodel.specs.OpenCalls.{receive_in, thread_of, number_of}
use Rattle.qkernel_state.proofs.Seats.{call_here, first_at, first_below, set_members, IsFirstAt, first_number}
use Rattle.qkernel_state.proofs.Senders.{roster_first}
use Rattle.qrules.proofs.Traces.Past.Open.{held_number, buffer_number, held_thread, buffer_thread}
use Rattle.qrules.specs.Facts.{threads_of}

-- ---- the index of a thread, found by its number

from_first : (u : ℕ) (threads : List Thread) (i k : ℕ) → IsFirstAt threads u k
    → position_from (λ t. eqb t.member.thread u) i threads ≡ Some (i + k)
from_first u [] i k h = absurd h
from_first u (t ∷ threads) i zero h = rw (eq-eqb t.member.thread u h) (ap Some (omega arith))
from_first u (t ∷ threads) i (suc k) h = rw h.0 (from_first u threads (i + 1) k h.1 ∙ ap Some (omega arith))

pub seat_first : (u : ℕ) (threads : List Thread) (k : ℕ) → IsFirstAt threads u k → seat_in threads u ≡ Some k
seat_first u threads k h = position_from-zero (λ t. eqb t.member.thread u) threads ∙ from_first u threads 0 k h
    ∙ ap Some (omega arith)

-- in a roster the thread of the record at k has the index k
pub seat_here : (threads : List Thread) (k : ℕ) (d : Thread) → IsRoster (members_of threads) → k < length threads
    → seat_in threads (get_or threads k d).member.thread ≡ Some k
seat_here threads k d roster l = seat_first _ threads k (roster_first threads k d roster l)

-- ---- open calls by index

written_here : (threads : List Thread) (k : ℕ) (x : Thread) → k < length threads
    → open_at (set threads k x) k ≡ x.open_call
written_here [] k x l = absurd (omega arith)
written_here (t ∷ threads) zero x l = refl
written_here (t ∷ threads) (suc k) x l = written_here threads k x (omega arith)

written_elsewhere : (threads : List Thread) (k j : ℕ) (x : Thread) → j ≢ k
    → open_at (set threads k x) j ≡ open_at threads j
written_elsewhere [] k j x other = refl
written_elsewhere (t ∷ threads) zero zero x other = absurd (other refl)
written_elsewhere (t ∷ threads) zero (suc j) x other = refl
written_elsewhere (t ∷ threads) (suc k) zero x other = refl
written_elsewhere (t ∷ threads) (suc k) (suc j) x other = written_elsewhere threads k j x (λ e. other (ap suc e))

call_written : (threads : List Thread) (k j : ℕ) (x : Thread) → k < length threads
    → open_at (set threads k x) j ≡ cond (eqb j k) x.open_call (open_at threads j)
call_written threads k j x l =
    elim (eqb j k) as (λ b. eqb j k ≡ b → open_at (set threads k x) j ≡ cond b x.open_call (open_at threads j)) [
      | true ↦ λ same. ap (open_at (set threads k x)) (eqb-true j k same) ∙ written_here threads k x l
      | false ↦ λ apart. written_elsewhere threads k j x (λ e. true≢false (sym (eq-eqb j k e) ∙ apart))
    ] refl

-- the number of an open call, and the number of an open receive
abbrev pub call_number : Option OpenCall → Option ℕ
call_number o = option_map number_of o

abbrev pub receive_number : Option OpenCall → Option ℕ
receive_number o = option_map (λ r. r.number) (option_and_then receive_in o)

-- the thread that an open call names
abbrev pub opener : Option OpenCall → Option ℕ
opener o = option_map thread_of o

pub receive_numbered : (o : Option OpenCall) (n : ℕ) → receive_number o ≡ Some n → call_number o ≡ Some n
receive_numbered None n e = absurd (none-some n e)
receive_numbered (Some (Send s)) n e = absurd (none-some n e)
receive_numbered (Some (Receive r)) n e = e

members_length : (old new : List Thread) → members_of new ≡ members_of old → length new ≡ length old
members_length old new e = sym (length-map new (λ t. t.member)) ∙ ap length e ∙ length-map old (λ t. t.member)

-- ---- fewer calls are open

pub indexed_fewer : (old new : List Thread) (index after : IndexGuesses) → IsIndexed old index
    → members_of new ≡ members_of old → (after.rising ≡ index.rising) → (after.latest ≡ index.latest)
    → (after.newest ≡ index.newest) → (after.last ≡ index.last)
    → ((k n : ℕ) → receive_at new k ≡ Some n → has index.receivers k ≡ true → has after.receivers k ≡ true)
    → ((k n : ℕ) → number_at new k ≡ Some n → number_at old k ≡ Some n)
    → ((k n : ℕ) → receive_at new k ≡ Some n → receive_at old k ≡ Some n)
    → ((k n : ℕ) → opener_at new k ≡ Some n → opener_at old k ≡ Some n) → IsIndexed new after
indexed_fewer old new index after i members rising latest newest last stays numbers receives openers = record {
  few = rw (members_length old new members) i.few;
  roster = rw members i.roster;
  own = λ k u e. rw members (i.own k u (openers k u e));
  receivers = λ k n e. stays k n e (i.receivers k n (receives k n e));
  latest = λ r k n e. rw latest (i.latest (sym rising ∙ r) k n (numbers k n e));
  apart = λ r j k n a b. i.apart (sym rising ∙ r) j k n (numbers j n a) (numbers k n b);
  others =
      λ r k n e other. rw newest (i.others (sym rising ∙ r) k n (receives k n e) (λ same. other (same ∙ sym last)));
}

-- a write that leaves the thread its open call's number, or takes the open call away
written_at : (f : Option OpenCall → Option ℕ) (threads : List Thread) (k : ℕ) (d x : Thread) → k < length threads
    → ((n : ℕ) → f x.open_call ≡ Some n → f (get_or threads k d).open_call ≡ Some n)
    → (j n : ℕ) → f (open_at (set threads k x) j) ≡ Some n → f (open_at threads j) ≡ Some n
written_at f threads k d x l less j n e =
    elim (eqb j k) as (λ b. eqb j k ≡ b → f (cond b x.open_call (open_at threads j)) ≡ Some n
    → f (open_at threads j) ≡ Some n) [
      | true ↦ λ same is. rw (eqb-true j k same, call_here threads k d l) (less n is)
      | false ↦ λ other is. is
    ] refl (sym (ap f (call_written threads k j x l)) ∙ e)

pub indexed_written : (threads : List Thread) (k : ℕ) (d x : Thread) (index : IndexGuesses) → IsIndexed threads index
    → k < length threads → members_of (set threads k x) ≡ members_of threads
    → ((n : ℕ) → call_number x.open_call ≡ Some n → call_number (get_or threads k d).open_call ≡ Some n)
    → ((n : ℕ) → receive_number x.open_call ≡ Some n → receive_number (get_or threads k d).open_call ≡ Some n)
    → ((n : ℕ) → opener x.open_call ≡ Some n → opener (get_or threads k d).open_call ≡ Some n)
    → IsIndexed (set threads k x) index
indexed_written threads k d x index i l members numbers receives openers =
    indexed_fewer threads (set threads k x) index index i members refl refl refl refl (λ j n e h. h)
    (written_at call_number threads k d x l numbers) (written_at receive_number threads k d x l receives)
    (written_at opener threads k d x l openers)

pub indexed_freed : (threads : List Thread) (k : ℕ) (d x : Thread) (index after : IndexGuesses)
    → IsIndexed threads index → Forgets k index after → k < length threads
    → members_of (set threads k x) ≡ members_of threads → x.open_call ≡ None → IsIndexed (set threads k x) after
indexed_freed threads k d x index after i f l members none =
    indexed_fewer threads (set threads k x) index after i members f.rising f.latest f.newest f.last
    (λ j n e h. elim (eqb j k) as (λ b. eqb j k ≡ b → receive_number (cond b x.open_call (open_at threads j)) ≡ Some n
    → has after.receivers j ≡ true) [
      | true ↦ λ same is. absurd (none-some n (rw none at is))
      | false ↦ λ other is. f.receivers j (λ same. true≢false (sym (eq-eqb j k same) ∙ other)) ∙ h
    ] refl (sym (ap receive_number (call_written threads k j x l)) ∙ e))
    (written_at call_number threads k d x l (λ n is. absurd (none-some n (rw none at is))))
    (written_at receive_number threads k d x l (λ n is. absurd (none-some n (rw none at is))))
    (written_at opener threads k d x l (λ n is. absurd (none-some n (rw none at is))))

-- ---- one more call is open

receiving : (call : OpenCall) (n : ℕ) → receive_number (Some call) ≡ Some n → (is_receive call ≡ true)
    × (number_of call ≡ n)
receiving (Send s) n e = absurd (none-some n e)
receiving (Receive r) n e = (refl, same_Some _ n e)

module _ (threads : List Thread) (k : ℕ) (x : Thread) (call : OpenCall) (index after : IndexGuesses)
    (i : IsIndexed threads index) (notes : Notes k call index after) (l : k < length threads)
    (opens : x.open_call ≡ Some call) where
  -- the call at an index is the new call at k, and the old call elsewhere
  at_place : (f : Option OpenCall → Option ℕ) (j n : ℕ) → f (open_at (set threads k x) j) ≡ Some n
      → f (cond (eqb j k) (Some call) (open_at threads j)) ≡ Some n
  at_place f j n e = rw opens at (sym (ap f (call_written threads k j x l)) ∙ e)

  rose : after.rising ≡ true → (index.rising ≡ true) × (index.latest < (number_of call))
  rose r = let both = and_parts index.rising (nat_lt index.latest (number_of call)) (sym notes.rising ∙ r) in
      (both.0, ltb-true index.latest (number_of call) both.1)

  noted_own : slice_get (threads_of (members_of threads)) k ≡ Some (thread_of call)
      → members_of (set threads k x) ≡ members_of threads → (j u : ℕ) → opener_at (set threads k x) j ≡ Some u
      → slice_get (threads_of (members_of (set threads k x))) j ≡ Some u
  noted_own its members j u e =
      rw members
      (elim (eqb j k) as (λ b. eqb j k ≡ b → opener (cond b (Some call) (open_at threads j)) ≡ Some u
      → slice_get (threads_of (members_of threads)) j ≡ Some u) [
        | true ↦ λ same is. ap (slice_get (threads_of (members_of threads))) (eqb-true j k same) ∙ its ∙ is
        | false ↦ λ other is. i.own j u is
      ] refl (at_place opener j u e))

  noted_receiver : (j n : ℕ) → receive_at (set threads k x) j ≡ Some n → has after.receivers j ≡ true
  noted_receiver j n e = notes.receivers j
      ∙ (elim (eqb j k) as (λ b. eqb j k ≡ b → receive_number (cond b (Some call) (open_at threads j)) ≡ Some n
      → cond (is_receive call && b) true (has index.receivers j) ≡ true) [
        | true ↦ λ same is. rw (receiving call n is).0 refl
        | false ↦ λ other is. rw (i.receivers j n is)
            (elim (is_receive call && false) as (λ b. cond b true true ≡ true) [ true ↦ refl | false ↦ refl ])
      ] refl (at_place receive_number j n e))

  noted_latest : after.rising ≡ true → (j n : ℕ) → number_at (set threads k x) j ≡ Some n → n ≤ after.latest
  noted_latest r j n e =
      rw notes.latest
      (elim (eqb j k) as (λ b. call_number (cond b (Some call) (open_at threads j)) ≡ Some n → n ≤ (number_of call)) [
        | true ↦ λ is. let same : (number_of call) ≡ n = same_Some _ n is in omega arith
        | false ↦ λ is. let old : n ≤ index.latest = i.latest (rose r).0 j n is in
            let more : index.latest < (number_of call) = (rose r).1 in omega arith
      ] (at_place call_number j n e))

  noted_apart : after.rising ≡ true → (j m n : ℕ) → number_at (set threads k x) j ≡ Some n
      → number_at (set threads k x) m ≡ Some n → j ≡ m
  noted_apart r j m n a b =
      elim (eqb j k) as (λ p. eqb j k ≡ p → call_number (cond p (Some call) (open_at threads j)) ≡ Some n → j ≡ m) [
        | true ↦ λ first is. elim (eqb m k)
            as (λ q. eqb m k ≡ q → call_number (cond q (Some call) (open_at threads m)) ≡ Some n → j ≡ m) [
              | true ↦ λ second also. eqb-true j k first ∙ sym (eqb-true m k second)
              | false ↦ λ second also. let same : (number_of call) ≡ n = same_Some _ n is in
                  let old : n ≤ index.latest =
                  i.latest (rose r).0 m n also in
                  let more : index.latest < (number_of call) = (rose r).1 in
                  absurd (omega arith)
            ] refl (at_place call_number m n b)
        | false ↦ λ first is. elim (eqb m k)
            as (λ q. eqb m k ≡ q → call_number (cond q (Some call) (open_at threads m)) ≡ Some n → j ≡ m) [
              | true ↦ λ second also. let same : (number_of call) ≡ n = same_Some _ n also in
                  let old : n ≤ index.latest =
                  i.latest (rose r).0 j n is in
                  let more : index.latest < (number_of call) = (rose r).1 in
                  absurd (omega arith)
              | false ↦ λ second also. i.apart (rose r).0 j m n is also
            ] refl (at_place call_number m n b)
      ] refl (at_place call_number j n a)

  noted_others : after.rising ≡ true → (j n : ℕ) → receive_at (set threads k x) j ≡ Some n → j ≢ after.last
      → n < after.newest
  noted_others r j n e other =
      rw notes.newest
      (elim (is_receive call) as
      (λ p. is_receive call ≡ p → j ≢ cond p k index.last → n < cond p (number_of call) index.newest) [
        | true ↦ λ it elsewhere. elim (eqb j k)
            as (λ b. eqb j k ≡ b → receive_number (cond b (Some call) (open_at threads j)) ≡ Some n
            → n < (number_of call)) [
              | true ↦ λ same is. absurd (elsewhere (eqb-true j k same))
              | false ↦ λ apart is. let old : n ≤ index.latest =
                  i.latest (rose r).0 j n (receive_numbered (open_at threads j) n is) in
                  let more : index.latest < (number_of call) = (rose r).1 in omega arith
            ] refl (at_place receive_number j n e)
        | false ↦ λ it elsewhere. elim (eqb j k)
            as (λ b. eqb j k ≡ b → receive_number (cond b (Some call) (open_at threads j)) ≡ Some n
            → n < index.newest) [
              | true ↦ λ same is. absurd (true≢false (sym (receiving call n is).0 ∙ it))
              | false ↦ λ apart is. i.others (rose r).0 j n is elsewhere
            ] refl (at_place receive_number j n e)
      ] refl (λ same. other (same ∙ sym notes.last)))

pub indexed_blocked : (threads : List Thread) (k : ℕ) (x : Thread) (call : OpenCall) (index after : IndexGuesses)
    → IsIndexed threads index → Notes k call index after → k < length threads
    → members_of (set threads k x) ≡ members_of threads → x.open_call ≡ Some call
    → slice_get (threads_of (members_of threads)) k ≡ Some (thread_of call) → IsIndexed (set threads k x) after
indexed_blocked threads k x call index after i notes l members opens its = record {
  few = rw (members_length threads (set threads k x) members) i.few;
  roster = rw members i.roster;
  own = noted_own threads k x call index after i notes l opens its members;
  receivers = noted_receiver threads k x call index after i notes l opens;
  latest = noted_latest threads k x call index after i notes l opens;
  apart = noted_apart threads k x call index after i notes l opens;
  others = noted_others threads k x call index after i notes l opens;
}

-- ---- no call is open

ready_open : (members : List Member) (k : ℕ) → open_at (map ready_thread members) k ≡ None
ready_open [] k = refl
ready_open (m ∷ members) zero = refl
ready_open (m ∷ members) (suc k) = ready_open members k

ready_members : (members : List Member) → members_of (map ready_thread members) ≡ members
ready_members [] = refl
ready_members (m ∷ members) = ap (λ ms. m ∷ ms) (ready_members members)

pub indexed_new : (members : List Member) (index : IndexGuesses) → length members ≤ 64 → IsRoster members
    → IsIndexed (map ready_thread members) index
indexed_new members index few roster = record {
  few = rw (length-map members ready_thread) few;
  roster = rw (ready_members members) roster;
  own = λ k u e. absurd (none-some u (sym (ap opener (ready_open members k)) ∙ e));
  receivers = λ k n e. absurd (none-some n (sym (ap receive_number (ready_open members k)) ∙ e));
  latest = λ r k n e. absurd (none-some n (sym (ap call_number (ready_open members k)) ∙ e));
  apart = λ r j k n a b. absurd (none-some n (sym (ap call_number (ready_open members j)) ∙ a));
  others = λ r k n e other. absurd (none-some n (sym (ap receive_number (ready_open members k)) ∙ e));
}

-- ---- changes of a call that keep its number, its thread, and whether it is a receive

pub record KeepsCall (change : OpenCall → OpenCall) : Type 0 where
  pub number : (o : OpenCall) → number_of (change o) ≡ number_of o
  pub receive : (o : OpenCall) → receive_number (Some (change o)) ≡ receive_number (Some o)
  pub thread : (o : OpenCall) → thread_of (change o) ≡ thread_of o

kept_number : (change : OpenCall → OpenCall) → KeepsCall change → (o : Option OpenCall)
    → call_number (option_map change o) ≡ call_number o
kept_number change keeps None = refl
kept_number change keeps (Some o) = ap Some (keeps.number o)

kept_receive : (change : OpenCall → OpenCall) → KeepsCall change → (o : Option OpenCall)
    → receive_number (option_map change o) ≡ receive_number o
kept_receive change keeps None = refl
kept_receive change keeps (Some o) = keeps.receive o

kept_opener : (change : OpenCall → OpenCall) → KeepsCall change → (o : Option OpenCall)
    → opener (option_map change o) ≡ opener o
kept_opener change keeps None = refl
kept_opener change keeps (Some o) = ap Some (keeps.thread o)

held_receive : (kept : Receipt) (o : OpenCall) → receive_number (Some (held_call kept o)) ≡ receive_number (Some o)
held_receive kept (Send s) = refl
held_receive kept (Receive r) = refl

pub keeps_held : (kept : Receipt) → KeepsCall (held_call kept)
keeps_held kept = record { number = held_number kept; receive = held_receive kept; thread = held_thread kept }

written_receive : (f : List ℕ → List ℕ) (o : OpenCall)
    → receive_number (Some (with_buffer f o)) ≡ receive_number (Some o)
written_receive f (Send s) = refl
written_receive f (Receive r) = refl

pub keeps_written : (offset : ℕ) (bytes : List ℕ) → KeepsCall (written_call offset bytes)
keeps_written offset bytes = let f = λ (b : List ℕ). lay_over b offset bytes in
    record { number = buffer_number f; receive = written_receive f; thread = buffer_thread f }

unblocked_number : (o : OpenCall) → number_of (unblocked_call o) ≡ number_of o
unblocked_number (Send s) = refl
unblocked_number (Receive r) = refl

unblocked_receive : (o : OpenCall) → receive_number (Some (unblocked_call o)) ≡ receive_number (Some o)
unblocked_receive (Send s) = refl
unblocked_receive (Receive r) = refl

unblocked_thread : (o : OpenCall) → thread_of (unblocked_call o) ≡ thread_of o
unblocked_thread (Send s) = refl
unblocked_thread (Receive r) = refl

pub keeps_unblocked : KeepsCall unblocked_call
keeps_unblocked = record { number = unblocked_number; receive = unblocked_receive; thread = unblocked_thread }

-- ---- by the index that is written

-- the thread at an index
thread_here : (threads : List Thread) (k : ℕ) (d : Thread) → k < length threads
    → slice_get (threads_of (members_of threads)) k ≡ Some (get_or threads k d).member.thread
thread_here [] k d l = absurd (omega arith)
thread_here (t ∷ threads) zero d l = refl
thread_here (t ∷ threads) (suc k) d l = thread_here threads k d (omega arith)

seated : (threads : List Thread) (u k : ℕ) (d : Thread) → seat_in threads u ≡ Some k
    → slice_get (threads_of (members_of threads)) k ≡ Some u
seated threads u k d at = thread_here threads k d (first_below u threads k (first_at u threads k at))
    ∙ ap Some (first_number u threads k d (first_at u threads k at))

-- the open call of the thread at an index is the thread's own
pub own_call : (threads : List Thread) (u k : ℕ) (d : Thread) (index : IndexGuesses) (o : OpenCall)
    → IsIndexed threads index → seat_in threads u ≡ Some k → (get_or threads k d).open_call ≡ Some o → thread_of o ≡ u
own_call threads u k d index o i at is =
    same_Some (thread_of o) u
    (sym (i.own k (thread_of o)
    (ap opener (call_here threads k d (first_below u threads k (first_at u threads k at)) ∙ is)))
    ∙ seated threads u k d at)

pub own_if : (threads : List Thread) (u k : ℕ) (d : Thread) (index : IndexGuesses) → IsIndexed threads index
    → seat_in threads u ≡ Some k → (o : Option OpenCall) → o ≡ (get_or threads k d).open_call
    → IfSome o (λ call. thread_of call ≡ u)
own_if threads u k d index i at None is = tt
own_if threads u k d index i at (Some o) is = own_call threads u k d index o i at (sym is)

module _ (threads : List Thread) (u k : ℕ) (d x : Thread) (index : IndexGuesses) (i : IsIndexed threads index)
    (at : seat_in threads u ≡ Some k) (member : x.member ≡ (get_or threads k d).member) where
  within : k < length threads
  within = first_below u threads k (first_at u threads k at)

  members : members_of (set threads k x) ≡ members_of threads
  members = set_members u threads k d x (first_at u threads k at) member

  -- the open call doesn't change
  pub indexed_same : x.open_call ≡ (get_or threads k d).open_call → IsIndexed (set threads k x) index
  indexed_same same = indexed_written threads k d x index i within members (λ n e. rw same at e) (λ n e. rw same at e)
      (λ n e. rw same at e)

  -- the open call changes, but keeps its number, its thread, and whether it is a receive
  pub indexed_changed : (change : OpenCall → OpenCall) → KeepsCall change
      → x.open_call ≡ option_map change (get_or threads k d).open_call → IsIndexed (set threads k x) index
  indexed_changed change keeps is = indexed_written threads k d x index i within members
      (λ n e. sym (kept_number change keeps (get_or threads k d).open_call) ∙ sym (ap call_number is) ∙ e)
      (λ n e. sym (kept_receive change keeps (get_or threads k d).open_call) ∙ sym (ap receive_number is) ∙ e)
      (λ n e. sym (kept_opener change keeps (get_or threads k d).open_call) ∙ sym (ap opener is) ∙ e)

  -- the thread is no longer blocked
  pub indexed_ended : (after : IndexGuesses) → Forgets k index after → x.open_call ≡ None
      → IsIndexed (set threads k x) after
  indexed_ended after f none = indexed_freed threads k d x index after i f within members none

  -- the thread is blocked
  pub indexed_opened : (call : OpenCall) (after : IndexGuesses) → Notes k call index after → x.open_call ≡ Some call
      → thread_of call ≡ u → IsIndexed (set threads k x) after
  indexed_opened call after notes opens its =
      indexed_blocked threads k x call index after i notes within members opens
      (seated threads u k d at ∙ ap Some (sym its))

-- ---- calls are cancelled

cancelled_less : (f : Option OpenCall → Option ℕ) (is_cancelled : OpenCall → Bool) (o : Option OpenCall) (n : ℕ)
    → f None ≡ None → f (cond (is_cancelled_open is_cancelled o) None o) ≡ Some n → f o ≡ Some n
cancelled_less f is_cancelled o n none e =
    elim (is_cancelled_open is_cancelled o) as (λ b. f (cond b None o) ≡ Some n → f o ≡ Some n) [
      | true ↦ λ is. absurd (none-some n (sym none ∙ is))
      | false ↦ λ is. is
    ] e

cancelled_at : (f : Option OpenCall → Option ℕ) (cancel : CancelSet) (threads : List Thread) (k n : ℕ) → f None ≡ None
    → f (open_at (map (thread_after_cancelled cancel) threads) k) ≡ Some n → f (open_at threads k) ≡ Some n
cancelled_at f cancel [] k n none e = e
cancelled_at f cancel (t ∷ threads) zero n none e =
    cancelled_less f (is_cancelled_by cancel t.member.thread) t.open_call n none e
cancelled_at f cancel (t ∷ threads) (suc k) n none e = cancelled_at f cancel threads k n none e

pub indexed_cancelled : (cancel : CancelSet) (threads : List Thread) (index : IndexGuesses) → IsIndexed threads index
    → members_of (map (thread_after_cancelled cancel) threads) ≡ members_of threads
    → IsIndexed (map (thread_after_cancelled cancel) threads) index
indexed_cancelled cancel threads index i members =
    indexed_fewer threads (map (thread_after_cancelled cancel) threads) index index i members refl refl refl refl
    (λ k n e h. h)
    (λ k n e. cancelled_at call_number cancel threads k n refl e)
    (λ k n e. cancelled_at receive_number cancel threads k n refl e)
    (λ k n e. cancelled_at opener cancel threads k n refl e)
