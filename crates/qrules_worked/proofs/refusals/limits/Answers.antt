use Rattle.std.proofs.Common.{inl, refl}
use Rattle.std.specs.Prelude.{[], ◌∷◌, ◌≡◌, IsTrue, List, None, filter_map, is_some}
use Rattle.qtables.specs.Members.{member_at}
use Rattle.qtables.specs.declared.member.Member.{Member}
use Rattle.qrules.specs.Facts.{threads_of}
use Rattle.qrules.specs.Lawful.{IsLawful, facts_of}
use Rattle.qrules.specs.Outcome.{refusal_of}
use Rattle.qrules.specs.Trace.{InEachEvent, Trace, followed_by}
use Rattle.qrules.proofs.Words.Outcome.{completion_to}
use Rattle.qrules_worked.specs.Limits.{channels}
use Rattle.qrules_worked.specs.Setting.{roster}
use Rattle.qrules_worked.proofs.refusals.limits.Goals as goal

-- each event is of a thread of the roster, and its call is accepted
abbrev AreAccepted : List Member → Trace → Type 0
AreAccepted members = InEachEvent (λ past e. IsTrue (is_some (member_at members e.thread))
    × ((refusal_of (facts_of members past) e.thread e.call ≡ None)
    × (e.completions ≡ filter_map (completion_to (facts_of members past) e.thread e.call) (threads_of members))))

accepted_lawful : (members : List Member) (past : Trace) → AreAccepted members past → IsLawful members past
accepted_lawful members [] a = tt
accepted_lawful members (e ∷ past) a = (
  accepted_lawful members past a.0,
  (a.1.0, inl (record { no_refusal = a.1.1.0; by_row = a.1.1.1 })),
)

-- one more event
next : {P A B C : Type 0} {x : A} {y : B} {z : C} → P → P × ((x ≡ x) × ((y ≡ y) × (z ≡ z)))
next p = (p, (refl, (refl, refl)))

pub returns-clause-channels : goal.returns-clause-channels
returns-clause-channels c = accepted_lawful roster (followed_by [] channels) (
    next (next (next (next (next (next (next (next (
    next (next (next (next (next (next (next (next (
    next (next (next (next (next (next (next (next (
    next (next (next (next (next (next (next (next (
    next (next (next (next (next (next (next (next (
    next (next (next (next (next (next (next (next (
    next (next (next (next (next (next (next (next (
    next (next (next (next (next (next (next (next (
    next (
    tt))))))))))))))))))))))))))))))))))))))))))))))))))))))))))))))))))
