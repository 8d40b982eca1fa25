use Rattle.std.proofs.Common.{ap, refl, rules, ◌≡◌, ◌∷◌, [], ℕ, sym, ◌∙◌}
use Rattle.std.specs.Prelude.{option_map, Some, List}
use Rattle.std.proofs.lemmas.Option.{same_Some}
use Rattle.qqueue.specs.Best.{best_of}
use Rattle.qqueue.specs.declared.item.Kind.TheVariants.{Any, PulseOnly}
use Rattle.qtables.specs.declared.member.Member.{Member}
use Rattle.qmodel.specs.declared.call.Completion.{Completion}
use Rattle.qrules.specs.Properties.{request_of, takeable, TakesBest}
use Rattle.qrules.specs.Rule.{ReceiveRequest}
use Rattle.qrules.specs.Trace.{Event, Trace}
use Rattle.qrules_worked.proofs.broken.best_first.Goals as goal

-- the received item is the best item that a call with this request could take
best_by : (roster : List Member) (past : Trace) (e : Event) (x : Completion) (i : ℕ) (request : ReceiveRequest)
    → TakesBest roster past e x i → request_of (e ∷ past) x.call ≡ Some request
    → option_map (λ item. item.number) (best_of request.kind (takeable roster past e request.channel)) ≡ Some i
best_by roster past e x i request t is =
    ap (λ (r : ReceiveRequest). option_map (λ item. item.number) (best_of r.kind (takeable roster past e r.channel)))
    (same_Some request t.request (sym is ∙ t.call)) ∙ t.best

pub returns-clause-lesser : goal.returns-clause-lesser
returns-clause-lesser c = λ p. let q =
    best_by _ _ _ _ 4 (record { channel = 1; kind = Any; buffer = [] }) (p.1.0 4 refl) refl in search rules

pub returns-clause-later : goal.returns-clause-later
returns-clause-later c = λ p. let q =
    best_by _ _ _ _ 6 (record { channel = 1; kind = Any; buffer = [] }) (p.1.0 6 refl) refl in search rules

pub returns-clause-by_a_pulse_receive : goal.returns-clause-by_a_pulse_receive
returns-clause-by_a_pulse_receive c = λ p. let q =
    best_by _ _ _ _ 4 (record { channel = 1; kind = PulseOnly; buffer = [] }) (p.1.0 4 refl) refl in search rules

pub returns-clause-on_another_channel : goal.returns-clause-on_another_channel
returns-clause-on_another_channel c = λ p. let q =
    best_by _ _ _ _ 4 (record { channel = 5; kind = Any; buffer = [] }) (p.1.0 4 refl) refl in search rules

pub returns-clause-raised_passed_over : goal.returns-clause-raised_passed_over
returns-clause-raised_passed_over c = λ p. let q =
    best_by _ _ _ _ 6 (record { channel = 1; kind = Any; buffer = [] }) (p.1.0 6 refl) refl in search rules
