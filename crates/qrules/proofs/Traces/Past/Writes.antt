-- The reply buffers of messages after one more event.
use Rattle.qrules.proofs.Common.{◌≡◌, ℕ, ◌+◌, ◌<◌, ◌≤◌, List, [], ◌∷◌, length, refl, ◌∙◌, arith, Bool, true, false, eqb}
use Rattle.qrules.proofs.Common.{inl, inr, ne_eqb, Member, Outcome, with_buffer, is_thread, Event, Trace, Call}
use Rattle.qrules.proofs.Common.{Completion, OpenCall, Transfer, Option, None, Some}
use Rattle.qrules.proofs.Basics.{Facts, sender, threads_of, number_of, facts_of, IsLawful, with_event, open_call}
use Rattle.qrules.proofs.Basics.{refuses, with_writes, filled, with_receipt, asks, writes, buffer_after_write}
use Rattle.qrules.proofs.Basics.{after_write, accepted, laws_of, refused, open_below, open_thread, call_laws}
use Rattle.qrules.proofs.Basics.{sender_sends}

-- ---- a reply buffer

pub writes_refused : (e : Event) (past : Trace) (i : ℕ) (b : List ℕ) → refuses e.completions (length past + 1) ≡ true
    → with_writes (e ∷ past) i b ≡ with_writes past i b
writes_refused e past i b r = rw r refl

pub writes_accepted : (e : Event) (past : Trace) (i : ℕ) (b : List ℕ) → refuses e.completions (length past + 1) ≡ false
    → with_writes (e ∷ past) i b ≡ buffer_after_write (writes e.call) i (with_writes past i b)
writes_accepted e past i b r = rw r refl

-- a call that writes nothing doesn't change the buffer
pub writes_nothing : (e : Event) (past : Trace) (i : ℕ) (b : List ℕ) → writes e.call ≡ None
    → with_writes (e ∷ past) i b ≡ with_writes past i b
writes_nothing e past i b none = grind arith

-- ---- an open call

-- the call with its reply buffer changed by f
abbrev pub changed : (List ℕ → List ℕ) → OpenCall → OpenCall
changed f o = with_buffer f o

change_same : (f g : List ℕ → List ℕ) (o : OpenCall) → ((b : List ℕ) → f b ≡ g b) → changed f o ≡ changed g o
change_same f g o h = grind arith

pub filled_refused : (e : Event) (past : Trace) (o : OpenCall) → refuses e.completions (length past + 1) ≡ true
    → filled (e ∷ past) o ≡ filled past o
filled_refused e past o r = change_same (with_writes (e ∷ past) (number_of o)) (with_writes past (number_of o)) o
    (λ b. writes_refused e past (number_of o) b r)

pub filled_accepted : (e : Event) (past : Trace) (o : OpenCall) → refuses e.completions (length past + 1) ≡ false
    → filled (e ∷ past) o ≡ changed (buffer_after_write (writes e.call) (number_of o)) (filled past o)
filled_accepted e past o r = grind arith

-- ---- with a receipt

pub receipt_written : (f : Facts) (w : Option Transfer) (u i priority : ℕ) (unblocked : Bool) (r : Option ℕ)
    (o : OpenCall) → number_of (with_receipt priority unblocked r o) ≡ i
    → ((x : Transfer) → w ≡ Some x → is_thread (sender f x.rcvid) u ≡ eqb x.rcvid i)
    → Some (with_receipt priority unblocked r (changed (buffer_after_write w i) o)) ≡ after_write f w u
    (Some (with_receipt priority unblocked r o))
receipt_written f w u i priority unblocked r o number h = grind arith

-- ---- the thread whose buffer is written over

-- the sender of the message that is written to is the thread whose open call has the message's number
pub written_sender : (roster : List Member) (past : Trace) (t : ℕ) (c : Call) (X : List Completion) (u : ℕ)
    (o : OpenCall) (x : Transfer) → Outcome true (facts_of roster past) t c X → open_call roster past u ≡ Some o
    → writes c ≡ Some x
    → is_thread (sender (facts_of roster past) x.rcvid) u ≡ eqb x.rcvid (number_of o)
written_sender roster past t c X u o x a is written =
    grind (
      arith,
      (laws_of (facts_of roster past) t c X a).writes_sent x written,
      sender_sends (open_call roster past) x.rcvid (threads_of roster),
      open_thread roster past u,
    )

-- nothing has been written to a later message
pub writes_beyond : (roster : List Member) (past : Trace) (i : ℕ) (b : List ℕ) → IsLawful roster past → length past < i
    → with_writes past i b ≡ b
writes_beyond roster [] i b l h = refl
writes_beyond roster (e ∷ past) i b l h = elim l.1.1 [
  | inl a ↦
      let rest : with_writes past i b ≡ b = writes_beyond roster past i b l.0 (omega arith) in
      writes_accepted e past i b (accepted roster past e.thread e.call e.completions a)
      ∙ (elim (writes e.call) as (λ w. writes e.call ≡ w → buffer_after_write w i (with_writes past i b) ≡ b) [
        | None ↦ λ is. rest
        | Some x ↦ λ is.
            let s = (laws_of (facts_of roster past) e.thread e.call e.completions a).writes_sent x is in
            let k = sender_sends (open_call roster past) x.rcvid (threads_of roster) s.0 s.1 in
            let below : (number_of k.waiting) ≤ length past = open_below roster past s.0 k.waiting k.is in
            rw (ne_eqb x.rcvid i (λ same. omega (arith, k.number))) rest
      ] refl)
  | inr a ↦ writes_refused e past i b (refused roster past e.thread e.call e.completions a)
      ∙ writes_beyond roster past i b l.0 (omega arith)
]

-- nothing has been written over the buffer of a call that just blocked its thread
pub filled_fresh : (roster : List Member) (past : Trace) (t h : ℕ) (c : Call) (X : List Completion) (o : OpenCall)
    → IsLawful roster past → refuses X (length past + 1) ≡ false → asks (length past + 1) t h c ≡ Some o
    → (number_of o) ≡ length past + 1
    → filled (with_event t c X past) o ≡ o
filled_fresh roster past t h c X o l r asked number =
    grind (
      arith,
      writes_accepted (record { thread = t; call = c; completions = X }) past (number_of o),
      call_laws c,
      writes_beyond roster past (number_of o),
    )
