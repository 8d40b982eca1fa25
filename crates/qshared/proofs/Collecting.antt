-- The completions that a port collects, call by call.
use Rattle.qshared.proofs.Common.{◌≡◌, ℕ, List, [], ◌∷◌, ◌++◌, refl, ap, sym, subst, ◌∙◌, cond, Bool, true, false}
use Rattle.qshared.proofs.Common.{append-nil, arith, eq-eqb, Member, Call, Completion, Extends, Answered, IsMet}
use Rattle.qshared.proofs.Common.{calls_of, gives, is_call, pends, AreLater, at_once, collected, Admits, Refuses}
use Rattle.qshared.proofs.Common.{Called, Done, Blocked, Refused}
use Rattle.qmodel.specs.Trace.{Trace}
use Rattle.qshared.proofs.Turns.{now_waits, once_same, still_none, scratch_none, scratch_once}

module _ (roster : List Member) (refuses : Refuses) (admits : Admits) (t : ℕ) (c : Call) (asked : List Call)
    (seen last past after : Trace)
    (met : IsMet roster t asked seen past) (since : Extends seen last) (calls : calls_of last t ≡ asked)
    (took : List Completion) (pending : Bool)
    (later : AreLater pending (at_once last t) took) where
  same : at_once past t ≡ at_once last t
  same = once_same past seen last asked t met.extends since met.calls calls

  pub calls_after : (p : Called) → Answered roster refuses admits t c p past after
      → calls_of after t ≡ asked ++ cond (is_call p) (c ∷ []) []
  calls_after (Done x) came = ap (λ p. calls_of p t) came.1.then
      ∙ rw (eq-eqb t t refl) (ap (λ cs. cs ++ c ∷ []) met.calls)
  calls_after Blocked came = ap (λ p. calls_of p t) came.1.then
      ∙ rw (eq-eqb t t refl) (ap (λ cs. cs ++ c ∷ []) met.calls)
  calls_after (Refused errno given) came = ap (λ p. calls_of p t) came.2 ∙ met.calls ∙ sym (append-nil asked)

  pub later_after : (p : Called) → Answered roster refuses admits t c p past after
      → (is_call p ≡ true → pending ≡ false)
      → AreLater (pends p pending) (at_once after t) took × (collected after t took ≡ collected last t took ++ gives p)
  later_after (Done x) came idle =
      let once : at_once after t ≡ at_once last t ++ (x ∷ []) ∷ [] = ap (λ p. at_once p t) came.1.then
      ∙ rw (eq-eqb t t refl, came.2.only) (ap (λ os. os ++ (x ∷ []) ∷ []) same) in
      let l = subst (λ b. AreLater b (at_once last t) took) (idle refl) later in
      rw (once, idle refl) (still_none (at_once last t) took x [] l, scratch_once (at_once last t) took x [])
  later_after Blocked came idle =
      let once : at_once after t ≡ at_once last t ++ [] ∷ [] = ap (λ p. at_once p t) came.1.then
      ∙ rw (eq-eqb t t refl, came.2.none) (ap (λ os. os ++ [] ∷ []) same) in
      let l = subst (λ b. AreLater b (at_once last t) took) (idle refl) later in
      rw once (
        now_waits (at_once last t) took l,
        scratch_none (at_once last t) took (omega (arith, l.0))
            ∙ sym (append-nil (collected last t took)),
      )
  later_after (Refused errno given) came idle =
      rw (ap (λ p. at_once p t) came.2 ∙ same) (later, sym (append-nil (collected last t took)))
