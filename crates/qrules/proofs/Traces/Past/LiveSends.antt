-- Each open Send is over a live connection: a call that detaches a connection completes all Sends over it.
use Rattle.qrules.proofs.Common.{arith, ◌≡◌, ℕ, List, [], ◌∷◌, ap, sym, ◌∙◌, cond, Bool, true, false, eqb, inl, inr}
use Rattle.qrules.proofs.Common.{none-some, same_Some, member_at, Member, row_of, unblocked_call, Trace, Call, OpenCall}
use Rattle.qrules.proofs.Common.{channel_of, Option, None, Some, is_some}
use Rattle.std.proofs.lemmas.Bool.{true≢false}
use Rattle.qrules.proofs.Basics.{Facts, is_for_answer, asks, attaches, detaches, makes, unblocks, writes, facts_of}
use Rattle.qrules.proofs.Basics.{IsLawful, attached_connection, connection_at, open_call, receipt_of, names}
use Rattle.qrules.proofs.Basics.{after_receipt, after_unblock, after_write, connection_after, open_call_after, put_at}
use Rattle.qrules.proofs.Basics.{unless, passes_of, refused, Passes, buffer_answer, held_for_answer}
use Rattle.qrules.proofs.Traces.Past.Before.{Lasts, before_other, before_receipt, unless_is}
use Rattle.qrules.proofs.Traces.Past.Connections.{connection_accepted, connection_refused, live_attached}
use Rattle.qrules.proofs.Traces.Past.OpenCalls.{open_accepted, open_refused}
use Rattle.qrules.proofs.Traces.Properties.Answers.{over, sends_over}
use Rattle.qrules.proofs.Traces.Properties.Sends.{buffer_over, held_over}

-- ---- by each call's row

-- a call that detaches a connection doesn't block
detaches_only : (n t h : ℕ) (c : Call) (b : OpenCall) (k : ℕ) → names (detaches c) k ≡ true → asks n t h c ≡ Some b → ⊥
detaches_only n t h c b k d e = grind arith

-- a call that detaches a connection completes each Send over it
detaching_ends : (f : Facts) (t : ℕ) (c : Call) (u : ℕ) (o : OpenCall) → f.open_call u ≡ Some o
    → is_for_answer o ≡ true → names (detaches c) (over o) ≡ true → is_some ((row_of f t c).others u) ≡ true
detaching_ends f t c u o is answer d = grind arith

-- ---- properties that last while a call is open

unblocked_over : (w : OpenCall) → over (unblocked_call w) ≡ over w
unblocked_over w = grind arith

lasts_over : Lasts over
lasts_over = record { held = held_over; buffer = buffer_over; unblocked = unblocked_over }

unblocked_answer : (w : OpenCall) → is_for_answer (unblocked_call w) ≡ is_for_answer w
unblocked_answer w = grind arith

lasts_answer : Lasts is_for_answer
lasts_answer = record { held = held_for_answer; buffer = buffer_answer; unblocked = unblocked_answer }

-- a record stays there unless it is removed
pub stays_open : {A : Type 0} (d : Bool) (o : Option A) (n : ℕ) (at : ℕ → Option A) (h : ℕ) → is_some (at h) ≡ true
    → (d ≡ true → ⊥) → is_some (cond d None (put_at o n at h)) ≡ true
stays_open {A} o n at h e never q7 = grind arith

-- ---- after one more event

-- each open Send is over a live connection
abbrev pub GoLive : Facts → Type 0
GoLive f = (u : ℕ) (o : OpenCall) → f.open_call u ≡ Some o → is_for_answer o ≡ true
    → is_some (f.connection (over o)) ≡ true

live_after : (f : Facts) (t : ℕ) (c : Call) → Passes f t c → GoLive f → (u : ℕ) (o : OpenCall)
    → open_call_after f t c u ≡ Some o → is_for_answer o ≡ true → is_some (connection_after f t c (over o)) ≡ true
live_after f t c p live u o is answer =
    let R = row_of f t c in
    let there =
    λ (k : ℕ) (some : is_some (f.connection k) ≡ true) (never : names (detaches c) k ≡ true → ⊥). stays_open
    (names (detaches c) k) (attaches (member_at f.roster t) c) f.number f.connection k some never in
    elim (eqb u t)
    as (λ b.
    cond b (unless (is_some R.own) (after_receipt (receipt_of f t c) u (asks f.number t (channel_of (makes f t c)) c)))
    (unless (is_some (R.others u))
    (after_unblock (makes f t c) (unblocks c) u
    (after_receipt (receipt_of f t c) u (after_write f (writes c) u (f.open_call u))))) ≡ Some o
    → is_some (connection_after f t c (over o)) ≡ true) [
      | true ↦ λ e.
          let x =
          unless_is (is_some R.own) (after_receipt (receipt_of f t c) u (asks f.number t (channel_of (makes f t c)) c))
          o e in
          let b =
          before_receipt over held_over (receipt_of f t c) u (asks f.number t (channel_of (makes f t c)) c) o x.1 in
          let a =
          before_receipt is_for_answer held_for_answer (receipt_of f t c) u
          (asks f.number t (channel_of (makes f t c)) c) o x.1 in
          let began : is_for_answer b.call ≡ true =
          ap (λ (w : OpenCall). is_for_answer w) (same_Some b.call a.call (sym b.is ∙ a.is)) ∙ a.same ∙ answer in
          let s = sends_over f t (channel_of (makes f t c)) c b.call p b.is began in
          ap (λ k. is_some (connection_after f t c k)) (sym b.same)
          ∙ there (over b.call) (ap is_some s.is_connection)
          (λ d. detaches_only f.number t (channel_of (makes f t c)) c b.call (over b.call) d b.is)
      | false ↦ λ e.
          let x =
          unless_is (is_some (R.others u))
          (after_unblock (makes f t c) (unblocks c) u
          (after_receipt (receipt_of f t c) u (after_write f (writes c) u (f.open_call u)))) o e in
          let d = before_other over lasts_over f t c u o x.1 in
          let a = before_other is_for_answer lasts_answer f t c u o x.1 in
          let waited : is_for_answer d.call ≡ true =
          ap (λ (w : OpenCall). is_for_answer w) (same_Some d.call a.call (sym d.is ∙ a.is)) ∙ a.same ∙ answer in
          ap (λ k. is_some (connection_after f t c k)) (sym d.same)
          ∙ there (over d.call) (live u d.call d.is waited)
          (λ named. true≢false (sym (detaching_ends f t c u d.call d.is waited named) ∙ x.0))
    ] is

pub live_over : (roster : List Member) (past : Trace) → IsLawful roster past → GoLive (facts_of roster past)
live_over roster [] l u o is answer = absurd (none-some o is)
live_over roster (e ∷ past) l u o is answer = elim (l.1.1) [
  | inl a ↦
      ap is_some (connection_accepted roster past e.thread e.call e.completions (over o) l.0 a)
      ∙ live_after (facts_of roster past) e.thread e.call
      (passes_of (facts_of roster past) e.thread e.call e.completions a) (live_over roster past l.0) u o
      (sym (open_accepted roster past e.thread e.call e.completions u l.0 l.1.0 a) ∙ is) answer
  | inr a ↦
      ap is_some (connection_refused roster e past (over o) (refused roster past e.thread e.call e.completions a))
      ∙ live_over roster past l.0 u o (sym (open_refused roster past e.thread e.call e.completions u a) ∙ is) answer
]

-- the connection of an open Send is as it was attached
pub over_attached : (roster : List Member) (past : Trace) (u : ℕ) (o : OpenCall) → IsLawful roster past
    → open_call roster past u ≡ Some o → is_for_answer o ≡ true
    → connection_at roster past (over o) ≡ attached_connection roster past (over o)
over_attached roster past u o l is answer = live_attached roster past (over o) (live_over roster past l u o is answer)
