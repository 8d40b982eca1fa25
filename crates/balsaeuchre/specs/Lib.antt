-- The definitions in the contracts that a caller sees.
-- how the bytes of a message, a reply or a read are copied and counted
pub use Rattle.qbase.specs.Copying
-- rosters
pub use Rattle.qtables.specs.Members
-- the rules of the calls, the history, valid histories and their properties
pub use Rattle.qrules.specs.Words as RuleWords
pub use Rattle.qrules.specs.Trace
pub use Rattle.qrules.specs.Facts
pub use Rattle.qrules.specs.Rule
pub use Rattle.qrules.specs.Rules
pub use Rattle.qrules.specs.Outcome
pub use Rattle.qrules.specs.Past
pub use Rattle.qrules.specs.Lawful
pub use Rattle.qrules.specs.Properties
-- the kernel after its history, and a run of calls
pub use Rattle.qkernel_state.specs.Thread
pub use Rattle.qkernel.specs.Kernel
pub use Rattle.qkernel.specs.LentCall
pub use Rattle.qkernel.specs.Matching
pub use Rattle.qkernel.specs.Run
pub use Rattle.qkernel.specs.Blocked
-- the shared kernel and its ports
pub use Rattle.qshared.specs.History as SeenPast
pub use Rattle.qhandoff.specs.Words
pub use Rattle.qshared.specs.Answered
pub use Rattle.qshared.specs.Asking
pub use Rattle.qshared.specs.Collected
pub use Rattle.qshared.specs.Counting
pub use Rattle.qshared.specs.Delivered
pub use Rattle.qshared.specs.Due
pub use Rattle.qshared.specs.Names
pub use Rattle.qshared.specs.Naming
pub use Rattle.qshared.specs.Performing
pub use Rattle.qshared.specs.TwoCalls
pub use Rattle.qshared.specs.Unrecorded
-- the calls under QNX's names: the record of an endpoint, the effect of a call, and how its result is read
pub use Rattle.balsaeuchre_calls.specs.History
pub use Rattle.balsaeuchre_calls.specs.Errors
pub use Rattle.balsaeuchre_calls.specs.Results
pub use Rattle.balsaeuchre_calls.specs.Making
pub use Rattle.balsaeuchre_calls.specs.Coming
pub use Rattle.balsaeuchre_calls.specs.Timing
pub use Rattle.balsaeuchre_calls.specs.Closing
-- the laws
pub mod Completing
pub mod Fitting
pub use Rattle.qrules_laws.specs.Lawful as LawForms
pub use Rattle.qrules_laws.specs.Completions
pub use Rattle.qrules_laws.specs.OpenCalls
pub use Rattle.qrules_laws.specs.Pending
pub use Rattle.qrules_laws.specs.Ids
pub use Rattle.qrules_laws.specs.Properties as PropertyLaws
pub use Rattle.qshared.specs.HistoryLaws
