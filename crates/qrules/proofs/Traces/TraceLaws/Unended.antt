-- A call that may block and hasn't completed is the newest blocking call of its thread.
use Rattle.qrules.proofs.Common.{arith, ◌≡◌, ℕ, ◌+◌, List, [], ◌∷◌, length, refl, sym, subst, ◌∙◌, cond, true, false}
use Rattle.qrules.proofs.Common.{eqb, waiter, channel_of, number_of, none-some, Member, Event, Trace, Call, OpenCall}
use Rattle.qrules.proofs.Common.{Option, None, Some, is_some}
use Rattle.std.proofs.lemmas.Bool.{eqb-true, or_parts}
use Rattle.qrules.proofs.Basics.{may_wait, IsLawful, completes, is_accepted, is_ended, accepted_at, block}
use Rattle.qrules.proofs.Basics.{item_of, asks, call_laws}
use Rattle.qrules.proofs.Traces.Properties.Messages.{block_stays}

pub asks_any : (n t h : ℕ) (c : Call) → is_some (asks n t h c) ≡ may_wait c
asks_any n t h c = grind arith

-- ---- a call that blocks its thread

-- the event is accepted, and is a call of thread t that may block
record Begins (roster : List Member) (e : Event) (past : Trace) (t : ℕ) : Type 0 where
  pub accepted : is_accepted e past ≡ true
  pub thread : e.thread ≡ t
  pub block : OpenCall
  pub asked : asks (length past + 1) t (channel_of (item_of roster e past)) e.call ≡ Some block

waiter_waits : (e : Event) (t : ℕ) → waiter e ≡ Some t → (may_wait e.call ≡ true) × (e.thread ≡ t)
waiter_waits e t is = grind arith

some_block : (o : Option OpenCall) → is_some o ≡ true → (b : OpenCall) × (o ≡ Some b)
some_block o e = grind arith

begins : (roster : List Member) (e : Event) (past : Trace) (t : ℕ) → cond (is_accepted e past) (waiter e) None ≡ Some t
    → Begins roster e past t
begins roster e past t is =
    elim (is_accepted e past)
    as (λ b. is_accepted e past ≡ b → cond b (waiter e) None ≡ Some t → Begins roster e past t) [
      | true ↦ λ accepted at.
          let m = waiter_waits e t at in
          let b = some_block (asks (length past + 1) t (channel_of (item_of roster e past)) e.call)
          (asks_any (length past + 1) t (channel_of (item_of roster e past)) e.call ∙ m.0) in
          record { accepted = accepted; thread = m.1; block = b.0; asked = b.1 }
      | false ↦ λ refused at. absurd (none-some t at)
    ] refl is

begun_newest : (roster : List Member) (e : Event) (past : Trace) (t : ℕ) (k : Begins roster e past t)
    → block roster (e ∷ past) t ≡ Some k.block
begun_newest roster e past t k = grind arith

-- ---- the newest blocking call

abbrev newest_of : List Member → Trace → ℕ → Option OpenCall
newest_of roster past u = block roster past u

-- call i is the newest blocking call of thread t
pub record IsBlock (roster : List Member) (past : Trace) (t i : ℕ) : Type 0 where
  pub block : OpenCall
  pub is : newest_of roster past t ≡ Some block
  pub number : (number_of block) ≡ i

pub unended_newest : (roster : List Member) (past : Trace) (t i : ℕ) → IsLawful roster past
    → accepted_at waiter past i ≡ Some t → is_ended past i ≡ false → IsBlock roster past t i
unended_newest roster [] t i l is going = absurd (none-some t is)
unended_newest roster (e ∷ past) t i l is going =
    elim (eqb i (length past + 1))
    as (λ b. eqb i (length past + 1) ≡ b
    → cond b (cond (is_accepted e past) (waiter e) None) (accepted_at waiter past i) ≡ Some t
    → IsBlock roster (e ∷ past) t i) [
      | true ↦ λ same at.
          let k = begins roster e past t at in
          record {
            block = k.block;
            is = begun_newest roster e past t k;
            number =
                ((call_laws e.call).asks_one (length past + 1) t
                (channel_of (item_of roster e past)) k.block k.asked).number ∙ sym (eqb-true _ _ same);
          }
      | false ↦ λ other at.
          let before : is_ended past i ≡ false =
          (or_parts (completes e.completions i) (is_ended past i) going).1 in
          let k = unended_newest roster past t i l.0 at before in
          record {
            block = k.block;
            is = block_stays roster e past t k.block l k.is
                (subst (λ j. is_ended past j ≡ false) (sym k.number) before);
            number = k.number;
          }
    ] refl is
