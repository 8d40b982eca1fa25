use Rattle.balsaeuchre.proofs.MarkLaws.{completions_fit, fitting_is_expected, never_unexpected}
use Rattle.balsaeuchre.proofs.fitting.results_fit_calls.Goals as goal

pub returns-clause-fit : goal.returns-clause-fit
returns-clause-fit c = completions_fit

pub returns-clause-expected : goal.returns-clause-expected
returns-clause-expected c = fitting_is_expected

pub returns-clause-never : goal.returns-clause-never
returns-clause-never c = never_unexpected
