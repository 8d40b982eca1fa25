-- The names of the library, of the rules and of the calls that the worked runs use. The module defines none
-- itself.
pub use Rattle.qbase.specs.declared.errno.Errno.TheVariants.{Badf, Busy, Down, Intr, Inval, Srch}
pub use Rattle.qbase.specs.declared.state.ThreadState.TheVariants.{Ready, ReceiveBlocked, ReplyBlocked}
pub use Rattle.qbase.specs.declared.state.ThreadState.TheVariants.{SendBlocked}
pub use Rattle.qmodel.specs.declared.call.Call.TheVariants.{ChannelCreate, ChannelDestroy, ConnectAttach}
pub use Rattle.qmodel.specs.declared.call.Call.TheVariants.{ConnectDetach, Error, Info, PrioritySet, Pulse}
pub use Rattle.qmodel.specs.declared.call.Call.TheVariants.{Read, Receive, ReceivePulse, Reply, Send}
pub use Rattle.qmodel.specs.declared.call.Call.TheVariants.{Shutdown, State, Unblock, Write}
pub use Rattle.qmodel.specs.declared.call.Completion.{Completion}
pub use Rattle.qmodel.specs.declared.open_call.Blocked.{Blocked}
pub use Rattle.qrules.specs.Facts.{Facts}
pub use Rattle.qrules.specs.Lawful.{facts_of}
pub use Rattle.qrules.specs.Trace.{Event, Trace, followed_by}
pub use Rattle.qtables.specs.declared.member.Member.{Member}
pub use Rattle.qrules_worked.specs.Runs.{blocked, ended, event, flags_of, info, member, with_completions}
pub use Rattle.qrules_worked.specs.Setting.{connected, roster}
pub use Rattle.std.specs.Prelude.{List, [], count_by, negsuc, pos, replicate, ℕ}
