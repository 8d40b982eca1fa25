-- Pulse as a step of the kernel.
use Rattle.qrules.proofs.Words.Made.{pulse_over}
use Rattle.qkernel.proofs.Common.{pulse_same, ◌≡◌, ℕ, ◌+◌, List, [], ◌∷◌, refl, ap, ◌∙◌, true, false, inl, inr, ℤ}
use Rattle.qkernel.proofs.Common.{int_lt, pos, None, Some, Pulse, refusal_completion, pulse_item, ends_receiver}
use Rattle.qkernel.proofs.Common.{pulse_receipt, refusal_if_full, has_to_wait, newest_receiver, Again, Badf, Inval}
use Rattle.qkernel.proofs.Common.{NoMemory, entry_at, member_at, Member, Completion, MayRefuse, route_in, has_room}
use Rattle.qkernel.proofs.Common.{route, State, Steps, facts_in, newest_in, open_in, members_of}
use lib.Signed.{lt_z}
use Rattle.qkernel.proofs.Steps.Common.{counted, step_refused_alone, route-leads_to}
use Rattle.qkernel.proofs.Steps.Delivering.{some_sent, some_way}
use Rattle.qkernel.proofs.Steps.Telling.{Tells}

-- ---- the tests of the code and of the queue

-- a code of at least 0
pub natural : (code : ℤ) → lt_z code (pos 0) ≡ false → int_lt code (pos 0) ≡ false
natural code e = e

-- ---- failures

module _ (s : State) (t coid priority : ℕ) (code value : ℤ) (m : Member)
    (known : member_at (members_of s.threads) t ≡ Some m) (up : s.down ≡ false)
    (free : open_in s.threads t ≡ None) where
  -- the call fails if the channel's queue is full, or if there is no memory to queue the pulse
  pub pulse_full : (h : ℕ) → route_in m.process s.channels (entry_at s.connections coid) ≡ Some h
      → int_lt code (pos 0) ≡ false → has_room s.channels h ≡ false
      → MayRefuse (facts_in s) t (Pulse coid priority code value) Again
  pulse_full h found positive refusal_if_full =
      let there : route (facts_in s) t coid ≡ Some h = route-leads_to s t m (entry_at s.connections coid) known
      ∙ found in
      inl (rw (up, free, there, positive, refusal_if_full) refl)

  pub pulse_memory : (h : ℕ) → route_in m.process s.channels (entry_at s.connections coid) ≡ Some h
      → int_lt code (pos 0) ≡ false → has_room s.channels h ≡ true
      → newest_in h (pulse_item (s.made + 1) priority code value) s.threads ≡ None
      → MayRefuse (facts_in s) t (Pulse coid priority code value) NoMemory
  pulse_memory h found positive room nobody =
      let there : route (facts_in s) t coid ≡ Some h = route-leads_to s t m (entry_at s.connections coid) known
      ∙ found in
      let none : newest_receiver (facts_in s) h (pulse_item (s.made + 1) priority code value) ≡ None = nobody in
      inr (
        rw (up, free, there, positive, room) refl,
        ap (has_to_wait (facts_in s))
            (some_sent s t coid m h known found (pulse_item (s.made + 1) priority code value)) ∙ rw none refl,
        refl,
      )

-- ---- a pulse that is sent

pub tells_pulse : (s : State) (t coid priority : ℕ) (code value : ℤ) (m : Member) (h : ℕ)
    → member_at (members_of s.threads) t ≡ Some m → s.down ≡ false → open_in s.threads t ≡ None
    → route_in m.process s.channels (entry_at s.connections coid) ≡ Some h → int_lt code (pos 0) ≡ false
    → refusal_if_full (facts_in s) h ≡ None
    → Tells s t (Pulse coid priority code value)
    (Some (record { item = pulse_item (s.made + 1) priority code value; channel = h }))
tells_pulse s t coid priority code value m h known up free found positive room =
    let there : route (facts_in s) t coid ≡ Some h = some_way s t coid m h known found in
    let sent = some_sent s t coid m h known found (pulse_item (s.made + 1) priority code value) in
    record {
      quiet =
          record {
            closes_none = refl;
            detaches_none = refl;
            stays_up = refl;
            creates_none = rw known refl;
            attaches_none = rw known refl;
            sets_none = refl;
            writes_none = refl;
          };
      passed = rw (up, free, there, positive, room) refl;
      made = sent;
      own = refl;
      ends = λ u. pulse_same (facts_in s) (pulse_over (facts_in s) coid priority code value) u
          ∙ ap (λ o. ends_receiver (facts_in s) o u) sent;
      receipt = ap (pulse_receipt (facts_in s)) sent;
    }
