-- The names of the library, of the tables and of the calls that the definitions use. The module defines none
-- itself.
-- A module `declared` has the types of the Rattle code as the prover sees them: bytes are a list of numbers.
pub use Rattle.std.specs.Prelude.{not, Bool, true, false, IsTrue, ℕ, ℤ, pos, nat_lt, int_lt, bit_and}
pub use Rattle.std.specs.Prelude.{Option, None, Some, is_some, unwrap_or, option_map, option_and_then}
pub use Rattle.std.specs.Prelude.{option_to_list, MatchOption, IsSomeAnd}
pub use Rattle.std.specs.Option.{option_map_or, option_or}
pub use Rattle.std.specs.Prelude.{List, [], length, drop, reverse, map, filter, find, filter_map, flat_map}
pub use Rattle.std.specs.Prelude.{count_by, fold, slice_get}
pub use Rattle.std.specs.List.{AllByRecursion, list_any, reduce}
pub use Rattle.std.specs.Ordering.{int_eq}
pub use Rattle.qbase.specs.Copying.{laid_count, lay_over}
pub use Rattle.qbase.specs.declared.errno.Errno.{Errno}
pub use Rattle.qbase.specs.declared.errno.Errno.TheVariants.{Again, Badf, Busy, Down}
pub use Rattle.qbase.specs.declared.errno.Errno.TheVariants.{Intr, Inval, NoMemory, Srch}
pub use Rattle.qbase.specs.declared.flags.ChannelFlags.{ChannelFlags}
pub use Rattle.qbase.specs.declared.state.ThreadState.{ThreadState}
pub use Rattle.qbase.specs.declared.state.ThreadState.TheVariants.{Ready, SendBlocked, ReplyBlocked}
pub use Rattle.qbase.specs.declared.state.ThreadState.TheVariants.{ReceiveBlocked}
pub use Rattle.qqueue.specs.Best.{best_of, is_pulse, may_take, with_priority}
pub use Rattle.qqueue.specs.declared.item.Item.{Item}
pub use Rattle.qqueue.specs.declared.item.Kind.{Kind}
pub use Rattle.qqueue.specs.declared.item.Kind.TheVariants.{Any, PulseOnly}
pub use Rattle.qqueue.specs.declared.item.What.{What}
pub use Rattle.qqueue.specs.declared.item.What.TheVariants.{Message, User}
pub use Rattle.qqueue.specs.declared.item.What.TheVariants as what
pub use Rattle.qtables.specs.Members.{member_at}
pub use Rattle.qtables.specs.declared.connection.Connection.{Connection}
pub use Rattle.qtables.specs.declared.member.Member.{Member}
pub use Rattle.qmodel.specs.declared.call.Call.{Call}
pub use Rattle.qmodel.specs.declared.call.Call.TheVariants as calls
pub use Rattle.qmodel.specs.declared.call.Completion.{Completion}
pub use Rattle.qmodel.specs.declared.call.Info.{Info}
pub use Rattle.qmodel.specs.declared.call.Mark.{Mark}
pub use Rattle.qmodel.specs.declared.call.Mark.TheVariants as mark
