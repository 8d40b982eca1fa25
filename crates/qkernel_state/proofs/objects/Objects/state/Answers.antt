use Rattle.qkernel_state.proofs.Common.{ap, sym, ◌∙◌, option_map_or}
use Rattle.qbase.specs.declared.state.ThreadState.TheVariants.{Ready}
use Rattle.qrules.specs.Rules.Threads.{state_in}
use Rattle.qkernel_state.proofs.objects.Objects.state.Goals as goal

pub returns-in-None : goal.returns-in-None
returns-in-None c = sym (ap (λ o. option_map_or state_in o Ready) (c.record.ensures.open_call ∙ c.in-None.is))

pub returns-in-Some : goal.returns-in-Some
returns-in-Some c = c.state_of.ensures
    ∙ sym (ap (λ o. option_map_or state_in o Ready) (c.record.ensures.open_call ∙ c.in-Some.is))
