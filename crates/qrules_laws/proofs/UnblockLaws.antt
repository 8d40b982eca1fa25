-- At most one unblock pulse is made for a message.
use Rattle.qrules_laws.proofs.Common.{Call, List, Member, None, OldFacts, Send, SentItem, Some, Trace, [], ap, arith}
use Rattle.qrules_laws.proofs.Common.{cond, count_by, eqb-true, false, is_unblock_for, is_unblocked, item_accepted}
use Rattle.qrules_laws.proofs.Common.{item_of, items, makes, number_of, open_parts, option_to_list, refl, subst}
use Rattle.qrules_laws.proofs.Common.{sum_by-append, sym, true, true≢false, unblocked_among, unblocked_among_now}
use Rattle.qrules_laws.proofs.Common.{unblocks, ℕ, ◌+◌, ◌∙◌, ◌∷◌, ◌≡◌}
use Rattle.qrules.proofs.Words.Lawful as old
use Rattle.qmodel.specs.declared.call.Call.TheVariants as calls
use Rattle.qrules.proofs.Traces.Calls.{call_laws}
use Rattle.qrules.proofs.Traces.Calls.Unblock.{due_parts}
use Rattle.qrules.proofs.Traces.Past.Unblocked.{none_unblocked}
use Rattle.qrules.specs.Properties.{items}
use Rattle.qrules_laws.specs.Pending as laws
use Rattle.qrules_laws.proofs.Lists.{count_cons}

unblock_is : (c : Call) (v : ℕ) → unblocks c ≡ Some v → c ≡ calls.Unblock v
unblock_is c v e = grind arith

-- if an unblock pulse is made for a message, none was made for it before
first_for : (roster : List Member) (past : Trace) (t : ℕ) (c : Call) (i : ℕ) (m : SentItem)
    → makes (old.facts_of roster past) t c ≡ Some m → is_unblock_for i m.item.what ≡ true
    → is_unblocked roster past i ≡ false
first_for roster past t c i m made is =
    let f : OldFacts = old.facts_of roster past in
    elim (unblocks c) as (λ w. unblocks c ≡ w → is_unblocked roster past i ≡ false) [
      | None ↦ λ none. absurd (true≢false (sym is ∙ (call_laws c).unblocks_none none f t m made i))
      | Some v ↦ λ some.
          let d = due_parts f (f.open_call v) m (subst (λ c. makes f t c ≡ Some m) (unblock_is c v some) made) in
          let p = open_parts roster past v (Send d.send) d.is in
          let n : ℕ = number_of p.block in
          let number : n ≡ i = sym p.number
          ∙ eqb-true _ _ (ap (λ (m : SentItem). is_unblock_for i m.item.what) d.made ∙ is) in
          subst (λ i. is_unblocked roster past i ≡ false) number
          (grind (arith, none_unblocked roster past n, p.same, d.held, d.first))
    ] refl

-- how many of the items are unblock pulses for message i
abbrev pulses_for : ℕ → List SentItem → ℕ
pulses_for i items = count_by (λ m. is_unblock_for i m.item.what) items

none_counted : (i : ℕ) (items : List SentItem) → unblocked_among items i ≡ false → pulses_for i items ≡ 0
none_counted i [] e = refl
none_counted i (m ∷ items) e =
    grind (arith, count_cons (λ (m : SentItem). is_unblock_for i m.item.what) m items, none_counted i items)

pub one_unblock_pulse : laws.OneUnblockPulse
one_unblock_pulse roster [] r l i = omega arith
one_unblock_pulse roster (e ∷ past) r l i =
    let first : (m : SentItem) → item_of roster e past ≡ Some m → is_unblock_for i m.item.what ≡ true
    → pulses_for i (items roster past) ≡ 0 =
    λ m is pulse. none_counted i (items roster past)
    (sym (unblocked_among_now past (items roster past) i)
    ∙ first_for roster past e.thread e.call i m (item_accepted roster e past m is).1 pulse) in
    let all : pulses_for i (items roster (e ∷ past)) ≡ pulses_for i (items roster past) + pulses_for i
    (option_to_list (item_of roster e past)) =
    sum_by-append (λ m. cond (is_unblock_for i m.item.what) 1 0) (items roster past)
    (option_to_list (item_of roster e past)) in
    grind (arith, all, first, one_unblock_pulse roster past r l.0 i)
