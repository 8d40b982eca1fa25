-- The thread whose open call is a Send of this number, by its index and by its thread number.
use Rattle.qkernel_state.proofs.Common.{◌≡◌, ℕ, suc, zero, ◌+◌, ◌<◌, List, [], ◌∷◌, length, get_or, refl, ap, sym}
use Rattle.qkernel_state.proofs.Common.{subst, ◌∙◌, cond, arith, true, false, eqb, option_and_then, position_from}
use Rattle.qkernel_state.proofs.Common.{AllByRecursion, eqb-true, eq-eqb, ne_eqb, true≢false}
use Rattle.qkernel_state.proofs.Common.{position_from-zero, same_Some, none-some, IsRoster, Channel, OpenCall, Receive}
use Rattle.qkernel_state.proofs.Common.{Send, OpenSend, Thread, threads_of, is_send, sender_among, message_in}
use Rattle.qkernel_state.proofs.Common.{is_sending, open_in, seat_in, sender_in, sent_call, message_from, ChangesOpen}
use Rattle.qkernel_state.proofs.Common.{ChangesSender, members_of, channel_in, number_at, is_of, Option, None, Some}
use Rattle.qkernel_state.proofs.Common.{Result, Bool, is_some, find, position}
use Rattle.std.specs.Option.{ok_or, option_map, IfNone, IfSome, option_map_or}
use Rattle.std.specs.Result.{IfErr, IfOk}
use Rattle.qrules.proofs.Words.Items.{Finish, answer_completion}
use Rattle.qmodel.specs.OpenCalls.{send_in, number_of}
use Rattle.qkernel_state.specs.Held.{is_held_in, is_held_of}
use Rattle.qkernel_state.proofs.Seats.{call_here, first_at, first_number, IsFirstAt, first_open}

-- ---- each thread is blocked in the call of its own record

later_own : (s : Thread) (threads rest : List Thread)
    → AllByRecursion (λ m. s.member.thread < m.thread) (members_of rest)
    → AllByRecursion (λ x. open_in threads x.member.thread ≡ x.open_call) rest
    → AllByRecursion (λ x. open_in (s ∷ threads) x.member.thread ≡ x.open_call) rest
later_own s threads [] l h = tt
later_own s threads (x ∷ rest) l h =
    let other : eqb s.member.thread x.member.thread ≡ false =
    ne_eqb _ _ (λ e. let below : s.member.thread < x.member.thread = l.0 in omega arith) in
    (rw other (h.0), later_own s threads rest l.1 h.1)

pub own_open : (threads : List Thread) → IsRoster (members_of threads)
    → AllByRecursion (λ x. open_in threads x.member.thread ≡ x.open_call) threads
own_open [] r = tt
own_open (s ∷ threads) r =
    (rw (eq-eqb s.member.thread s.member.thread refl) refl, later_own s threads threads r.0 (own_open threads r.1))

-- the sender of message i, found in the records
abbrev pub sender_by : ℕ → List Thread → Option ℕ
sender_by i [] = None
sender_by i (t ∷ threads) = cond (is_send i t.open_call) (Some t.member.thread) (sender_by i threads)

sender_same : (open_call : ℕ → Option OpenCall) (i : ℕ) (threads : List Thread)
    → AllByRecursion (λ x. open_call x.member.thread ≡ x.open_call) threads
    → sender_among open_call i (threads_of (members_of threads)) ≡ sender_by i threads
sender_same open_call i [] h = refl
sender_same open_call i (t ∷ threads) h = rw (h.0, sender_same open_call i threads h.1) refl

pub sender_in-by : (i : ℕ) (threads : List Thread) → IsRoster (members_of threads)
    → sender_in threads i ≡ sender_by i threads
sender_in-by i threads r = sender_same (open_in threads) i threads (own_open threads r)

-- ---- by index

-- the Send of number i is the open call at index k, and at no index before
abbrev pub IsSenderAt : List Thread → ℕ → ℕ → Type 0
IsSenderAt [] i k = ⊥
IsSenderAt (t ∷ threads) i zero = is_send i t.open_call ≡ true
IsSenderAt (t ∷ threads) i (suc k) = (is_send i t.open_call ≡ false) × IsSenderAt threads i k

found_from : (i : ℕ) (threads : List Thread) (n k : ℕ) → position_from (λ t. is_send i t.open_call) n threads ≡ Some k
    → (j : ℕ) × (k ≡ n + j) × IsSenderAt threads i j
found_from i [] n k e = absurd (none-some k e)
found_from i (t ∷ threads) n k e =
    elim (is_send i t.open_call)
    as (λ b. is_send i t.open_call ≡ b → cond b (Some n) (position_from (λ t. is_send i t.open_call) (n + 1) threads)
    ≡ Some k → (j : ℕ) × (k ≡ n + j) × IsSenderAt (t ∷ threads) i j) [
      | true ↦ λ at e. let same : n ≡ k = same_Some n k e in (0, omega arith, at)
      | false ↦ λ other e. let r = found_from i threads (n + 1) k e in
          let same : k ≡ n + 1 + r.0 = r.1 in
          (suc r.0, omega arith, (other, r.2))
    ] refl e

pub sender_at : (i : ℕ) (threads : List Thread) (k : ℕ) → position (λ t. is_send i t.open_call) threads ≡ Some k
    → IsSenderAt threads i k
sender_at i threads k e =
    let r = found_from i threads 0 k (sym (position_from-zero (λ t. is_send i t.open_call) threads) ∙ e) in
    subst (IsSenderAt threads i) (let same : k ≡ 0 + r.0 = r.1 in omega arith) r.2

none_from : (i : ℕ) (threads : List Thread) (n : ℕ) → position_from (λ t. is_send i t.open_call) n threads ≡ None
    → sender_by i threads ≡ None
none_from i [] n e = refl
none_from i (t ∷ threads) n e =
    elim (is_send i t.open_call)
    as (λ b. cond b (Some n) (position_from (λ t. is_send i t.open_call) (n + 1) threads) ≡ None
    → cond b (Some t.member.thread) (sender_by i threads) ≡ None) [
      | true ↦ λ e. absurd (none-some n (sym e))
      | false ↦ λ e. none_from i threads (n + 1) e
    ] e

pub no_sender : (i : ℕ) (threads : List Thread) → position (λ t. is_send i t.open_call) threads ≡ None
    → sender_by i threads ≡ None
no_sender i threads e = none_from i threads 0 (sym (position_from-zero (λ t. is_send i t.open_call) threads) ∙ e)

pub sender_is : (i : ℕ) (threads : List Thread) (k : ℕ) (d : Thread) → IsSenderAt threads i k
    → sender_by i threads ≡ Some (get_or threads k d).member.thread
sender_is i [] k d h = absurd h
sender_is i (t ∷ threads) zero d h = rw h refl
sender_is i (t ∷ threads) (suc k) d h = rw h.0 (sender_is i threads k d h.1)

pub sender_below : (i : ℕ) (threads : List Thread) (k : ℕ) → IsSenderAt threads i k → k < length threads
sender_below i [] k h = absurd h
sender_below i (t ∷ threads) zero h = omega arith
sender_below i (t ∷ threads) (suc k) h = let below : k < length threads = sender_below i threads k h.1 in omega arith

above_all : (n : ℕ) (threads : List Thread) (k : ℕ) (d : Thread)
    → AllByRecursion (λ m. n < m.thread) (members_of threads) → k < length threads
    → n < (get_or threads k d).member.thread
above_all n [] k d h l = absurd (omega arith)
above_all n (t ∷ threads) zero d h l = h.0
above_all n (t ∷ threads) (suc k) d h l = above_all n threads k d h.1 (omega arith)

-- in a roster the thread of the record at k is first found at k
pub roster_first : (threads : List Thread) (k : ℕ) (d : Thread) → IsRoster (members_of threads) → k < length threads
    → IsFirstAt threads (get_or threads k d).member.thread k
roster_first [] k d r l = absurd (omega arith)
roster_first (t ∷ threads) zero d r l = refl
roster_first (t ∷ threads) (suc k) d r l = (
  ne_eqb _ _
      (λ e. let above : t.member.thread < (get_or threads k d).member.thread =
      above_all t.member.thread threads k d r.0 (omega arith) in omega arith),
  roster_first threads k d r.1 (omega arith),
)

-- ---- the open call of the sender is changed

module _ (i : ℕ) (threads : List Thread) (k : ℕ) (d : Thread) (r : IsRoster (members_of threads))
    (at : position (λ t. is_send i t.open_call) threads ≡ Some k) where
  there : IsSenderAt threads i k
  there = sender_at i threads k at

  pub sender_there : sender_in threads i ≡ Some (get_or threads k d).member.thread
  sender_there = sender_in-by i threads r ∙ sender_is i threads k d there

  pub first_there : IsFirstAt threads (get_or threads k d).member.thread k
  first_there = roster_first threads k d r (sender_below i threads k there)

  pub call_there : sent_call threads i ≡ (get_or threads k d).open_call
  call_there = rw sender_there (first_open _ threads k d first_there)

  pub message_there : message_from threads i ≡ message_in (get_or threads k d).open_call
  message_there = ap message_in call_there

-- ---- a sender that was found by a guess

send_number : (i : ℕ) (o : Option OpenCall) → is_send i o ≡ true → option_map number_of o ≡ Some i
send_number i None e = absurd (true≢false (sym e))
send_number i (Some (Send s)) e = ap Some (eqb-true s.number i e)
send_number i (Some (Receive r)) e = absurd (true≢false (sym e))

-- no other thread before it sends the same message, if no two open calls have the same number
pub sender_alone : (i : ℕ) (threads : List Thread) (k : ℕ) (d : Thread) → k < length threads
    → is_send i (get_or threads k d).open_call ≡ true
    → ((j m n : ℕ) → number_at threads j ≡ Some n → number_at threads m ≡ Some n → j ≡ m)
    → sender_by i threads ≡ Some (get_or threads k d).member.thread
sender_alone i [] k d l sends apart = absurd (omega arith)
sender_alone i (t ∷ threads) zero d l sends apart = rw sends refl
sender_alone i (t ∷ threads) (suc k) d l sends apart =
    elim (is_send i t.open_call)
    as (λ b. is_send i t.open_call ≡ b
    → cond b (Some t.member.thread) (sender_by i threads) ≡ Some (get_or threads k d).member.thread) [
      | true ↦ λ first. let same : 0 ≡ suc k =
          apart 0 (suc k) i (send_number i t.open_call first)
          (ap (option_map number_of) (call_here threads k d (omega arith)) ∙ send_number i _ sends) in
          absurd (omega arith)
      | false ↦ λ other. sender_alone i threads k d (omega arith) sends
          (λ j m n a b. let same : suc j ≡ suc m = apart (suc j) (suc m) n a b in omega arith)
    ] refl

-- the sender is the thread that has this index
pub sender_seated : (i : ℕ) (threads : List Thread) (k u : ℕ) → IsRoster (members_of threads)
    → position (λ t. is_send i t.open_call) threads ≡ Some k → seat_in threads u ≡ Some k → sender_in threads i ≡ Some u
sender_seated i [] k u r at seat = absurd (sender_at i [] k at)
sender_seated i (t ∷ threads) k u r at seat = sender_there i (t ∷ threads) k t r at
    ∙ ap Some (first_number u (t ∷ threads) k t (first_at u (t ∷ threads) k seat))

-- ---- by the thread that sends it

pub changes_none : (i : ℕ) (change : OpenCall → OpenCall) (threads : List Thread) → sender_in threads i ≡ None
    → ChangesSender i change threads threads
changes_none i change threads none = record { members = refl; open_call = λ v. rw none refl; priority = λ v. refl }

pub message_none : (i : ℕ) (threads : List Thread) → sender_in threads i ≡ None → message_from threads i ≡ []
message_none i threads none = rw none refl

pub message_sent : (i u : ℕ) (threads : List Thread) → sender_in threads i ≡ Some u
    → message_from threads i ≡ message_in (open_in threads u)
message_sent i u threads sent = rw sent refl

pub changes_sender : (i u : ℕ) (change : OpenCall → OpenCall) (old new : List Thread) → sender_in old i ≡ Some u
    → ChangesOpen u change old new → ChangesSender i change old new
changes_sender i u change old new sent c =
    record { members = c.members; open_call = λ v. rw sent (c.open_call v); priority = c.priority }

pub held_none : (channels : List (ℕ × Channel)) (p i : ℕ) (threads : List Thread) → sender_in threads i ≡ None
    → is_held_in threads channels p i ≡ false
held_none channels p i threads none = rw none refl

pub held_sent : (channels : List (ℕ × Channel)) (p i u : ℕ) (threads : List Thread) → sender_in threads i ≡ Some u
    → is_held_in threads channels p i ≡ option_map_or (is_held_of channels p) (open_in threads u) false
held_sent channels p i u threads sent = rw sent refl

pub call_sent : (i u : ℕ) (threads : List Thread) → sender_in threads i ≡ Some u
    → sent_call threads i ≡ open_in threads u
call_sent i u threads sent = rw sent refl

-- the sender of message i is blocked in the Send of number i
pub sends_it : (threads : List Thread) (i u : ℕ) → sender_in threads i ≡ Some u → is_send i (open_in threads u) ≡ true
sends_it threads i u e = found (threads_of (members_of threads)) e where
  found : (ts : List ℕ) → sender_among (open_in threads) i ts ≡ Some u → is_send i (open_in threads u) ≡ true
  found [] e = absurd (none-some u e)
  found (v ∷ ts) e =
      elim (is_send i (open_in threads v))
      as (λ b. is_send i (open_in threads v) ≡ b → cond b (Some v) (sender_among (open_in threads) i ts) ≡ Some u
      → is_send i (open_in threads u) ≡ true) [
        | true ↦ λ is e. subst (λ w. is_send i (open_in threads w) ≡ true) (same_Some v u e) is
        | false ↦ λ is e. found ts e
      ] refl e

send_there : (i : ℕ) (o : Option OpenCall) → is_send i o ≡ true → is_some (option_and_then send_in o) ≡ true
send_there i None e = absurd (true≢false (sym e))
send_there i (Some (Send s)) e = refl
send_there i (Some (Receive r)) e = absurd (true≢false (sym e))

pub send_of_sender : (threads : List Thread) (i u : ℕ) → sender_in threads i ≡ Some u
    → is_some (option_and_then send_in (open_in threads u)) ≡ true
send_of_sender threads i u sent = send_there i (open_in threads u) (sends_it threads i u sent)

-- a value that is Some isn't None
pub there_not_none : {A : Type 0} (o : Option A) (P : Type 0) → is_some o ≡ true → IfNone o P
there_not_none None P some = absurd (true≢false (sym some))
there_not_none (Some x) P some = tt

-- if there is a Send, the result is Ok, and a property of the thread's own Send is a property of the result
pub send_taken : {E : Type 0} (u : ℕ) (o : Option OpenCall) (s : Option OpenSend) (e : E) (r : Result OpenSend E)
    (P : OpenSend → Type 0) → r ≡ ok_or s e → s ≡ option_and_then send_in o → IfSome s (λ x. x.thread ≡ u)
    → ((x : OpenSend) → x.thread ≡ u → option_and_then send_in o ≡ Some x → P x) → IfOk r P
send_taken u o None e r P is had own each = rw is tt
send_taken u o (Some s) e r P is had own each = rw is (each s own (sym had))

-- and the result isn't an error
pub never_err : {A E : Type 0} (o : Option A) (e : E) (r : Result A E) (P : E → Type 0) → r ≡ ok_or o e
    → is_some o ≡ true → IfErr r P
never_err None e r P is some = absurd (true≢false (sym some))
never_err (Some x) e r P is some = rw is tt

-- the completion of a Send that gets a reply
pub answered_by : (finish : Finish) (u : ℕ) (o : Option OpenCall) (s : OpenSend) → option_and_then send_in o ≡ Some s
    → answer_completion finish u o
    ≡ Some
    (record { call = s.number; thread = u; mark = (finish s.reply_buffer).0; buffer = (finish s.reply_buffer).1 })
answered_by finish u None s e = absurd (none-some s e)
answered_by finish u (Some (Receive r)) s e = absurd (none-some s e)
answered_by finish u (Some (Send x)) s e =
    ap (λ (x : OpenSend). Some
    (record { call = x.number; thread = u; mark = (finish x.reply_buffer).0; buffer = (finish x.reply_buffer).1 }))
    (same_Some _ s e)

-- ---- the sender is blocked in a Send

found_passes : (p : ℕ → Bool) (us : List ℕ) (u : ℕ) → find p us ≡ Some u → p u ≡ true
found_passes p [] u e = absurd (none-some u e)
found_passes p (v ∷ us) u e =
    elim (p v) as (λ b. p v ≡ b → cond b (Some v) (find p us) ≡ Some u → p u ≡ true) [
      | true ↦ λ passes e. ap p (sym (same_Some v u e)) ∙ passes
      | false ↦ λ _ e. found_passes p us u e
    ] refl e

is_sent : (i : ℕ) (o : Option OpenCall) → is_send i o ≡ true → is_sending o ≡ true
is_sent i None e = absurd (true≢false (sym e))
is_sent i (Some (Send s)) e = refl
is_sent i (Some (Receive r)) e = absurd (true≢false (sym e))

pub sender_sends : (i u : ℕ) (threads : List Thread) → sender_in threads i ≡ Some u
    → is_sending (open_in threads u) ≡ true
sender_sends i u threads e =
    is_sent i (open_in threads u)
    (found_passes (λ v. is_send i (open_in threads v)) (threads_of (members_of threads)) u e)
