-- Names of other crates and of the definitions, which many of these proofs use.
pub use Rattle.qbase.proofs.Lists.{all_append, all_filter, all_filter_map, all_map, all_more, all_passing}
pub use Rattle.qbase.proofs.Lists.{any_filter_map, any_filter_map_at, any_never, any_only, cond_same, eqb_either}
pub use Rattle.qbase.proofs.Lists.{eqb_same, filter_all, filter_same, filter_twice, filter_whole, is_among, none_of}
pub use Rattle.qbase.proofs.Lists.{or_none, some_of}
pub use Rattle.qbase.specs.Copying.{laid_count, lay_over}
pub use Rattle.qbase.specs.declared.errno.Errno.{Errno}
pub use Rattle.qbase.specs.declared.errno.Errno.TheVariants.{Badf, Busy, Down, Intr, Inval, NoMemory, Srch}
pub use Rattle.qmodel.specs.OpenCalls.{buffer_in, number_of, thread_of}
pub use Rattle.qmodel.specs.Trace.{CallNo, ChannelId, ConnectionId, Event, OpenChannel, Priority, ProcessNo, ReceiveId}
pub use Rattle.qmodel.specs.Trace.{SentItem, ThreadNo, Trace}
pub use Rattle.qmodel.specs.declared.call.Call.{Call}
pub use Rattle.qmodel.specs.declared.call.Call.TheVariants.{ChannelCreate, ChannelDestroy, ConnectAttach, ConnectDetach}
pub use Rattle.qmodel.specs.declared.call.Call.TheVariants.{Error, Info, PrioritySet, Pulse, Read, ReceivePulse, Reply}
pub use Rattle.qmodel.specs.declared.call.Call.TheVariants.{Shutdown, State, Unblock, Write}
pub use Rattle.qmodel.specs.declared.call.Completion.{Completion}
pub use Rattle.qmodel.specs.declared.call.Mark.{Mark}
pub use Rattle.qmodel.specs.declared.open_call.OpenCall.{OpenCall}
pub use Rattle.qmodel.specs.declared.open_call.OpenCall.TheVariants.{Receive, Send}
pub use Rattle.qmodel.specs.declared.open_call.Receipt.{Receipt}
pub use Rattle.qqueue.proofs.OrderLaws.{best-at, none-may}
pub use Rattle.qqueue.specs.Best.{best_of, first_of_two, is_pulse, may_take, with_priority, without_item}
pub use Rattle.qqueue.specs.Contents.{IsRising}
pub use Rattle.qqueue.specs.declared.item.Item.{Item}
pub use Rattle.qqueue.specs.declared.item.Kind.{Kind}
pub use Rattle.qqueue.specs.declared.item.Kind.TheVariants.{Any, PulseOnly}
pub use Rattle.qrules.specs.Delivery.{cancel_call, deliver, delivery_of, is_on, newest_receiver, cancel_where}
pub use Rattle.qrules.specs.Delivery.{receipt_completion, refusal_if_full, is_last_wait, wait_on}
pub use Rattle.qrules.specs.Records.{is_over, buffer_of_open, disconnect_item, error_mark, held_call, is_after}
pub use Rattle.qrules.specs.Records.{is_for_receipt, is_newest, is_thread, is_unread_send, message_in, message_of}
pub use Rattle.qrules.specs.Records.{newest_receiver_among, reply_buffer_in, sender_among, takes, takes_into}
pub use Rattle.qrules.specs.Records.{tells_disconnect, tells_unblock, unblocked_call, with_buffer, written_call}
pub use Rattle.qrules.specs.Facts.{Facts, OpenReceive, OpenSend, has_flag, holds, receive_in, receive_of, route}
pub use Rattle.qrules.specs.Facts.{send_in, send_of}
pub use Rattle.qrules.specs.Lawful.{HadMemory, IsOnlyRun, event_call, facts_of, item_made_by, items_and_priorities}
pub use Rattle.qrules.specs.Outcome.{Answers, refusal_of}
pub use Rattle.qrules.proofs.Words.Outcome.{MayRefuse, completion_to, Outcome, row_of}
pub use Rattle.qrules.specs.Past.{ReceivedItem, item_among, waiter}
pub use Rattle.qrules.proofs.Words.Made.{channel_of, pulse_over}
pub use Rattle.qrules.specs.Properties.{AllDifferent, AnsweredToSender, AnswersIts, BestFirst}
pub use Rattle.qrules.specs.Properties.{CopiedExactly, HasProperties, IsCopied, IsEarliest, IsShut, ReceivedOnce}
pub use Rattle.qrules.specs.Properties.{SentOrder, ShutForGood, TakesBest, TakesSent, buffer_at, connection_of}
pub use Rattle.qrules.specs.Properties.{is_answer, items, message_at, number_received, request_of, takeable}
pub use Rattle.qrules.specs.Rule.{Effect, PriorityChange, ReceiveRequest, Transfer, buffer_of, own_completion}
pub use Rattle.qrules.specs.Rules.{effect_of}
pub use Rattle.qrules.specs.Rules.Connections.{disconnect_pulse}
pub use Rattle.qrules.specs.Rules.Held.{info_of, refusal_unless_held}
pub use Rattle.qrules.specs.Rules.Unblock.{unblock_pulse}
pub use Rattle.qrules.specs.Trace.{AreApart, InEachEvent, call_at, completions_of, event_at, gets, thread_at}
pub use Rattle.qtables.specs.Members.{IsRoster, member_at}
pub use Rattle.qtables.specs.declared.connection.Connection.{Connection}
pub use Rattle.qtables.specs.declared.member.Member.{Member}
pub use Rattle.std.proofs.Common.{Bool, List, Option, [], ap, append-nil, arith, cond, eq-eqb, eqb, false, inl, inr}
pub use Rattle.std.proofs.Common.{is_some, length, map, option_and_then, refl, subst, suc, sym, true, true≢false, zero}
pub use Rattle.std.proofs.Common.{ℕ, ◌++◌, ◌+◌, ◌<◌, ◌∙◌, ◌∷◌, ◌≡◌, ◌≢◌, ◌≤◌, ◌⊎◌}
pub use Rattle.std.proofs.Math.Bool.{and-false, or-false, or-true}
pub use Rattle.std.proofs.lemmas.Bool.{and_parts, cases_Bool, cases_eq, eqb-false, eqb-true, ne_eqb, not-true}
pub use Rattle.std.proofs.lemmas.List.{map-append}
pub use Rattle.std.proofs.lemmas.List.Elements.{filter-append, filter_agree, filter_map-append}
pub use Rattle.std.proofs.lemmas.Option.{cond_some, none-some, option_and_then_some, same_Some, some_pair_parts}
pub use Rattle.std.specs.List.{AllByRecursion, cons_option, filter_map, list_any}
pub use Rattle.std.specs.Option.{option_map, option_map_or, option_or, option_to_list}
pub use Rattle.std.specs.Ordering.{int_eq}
pub use Rattle.std.specs.Prelude.{None, Some, count_by, filter, find, if◌then◌else◌, int_lt, nat_lt, not, pos}
pub use Rattle.std.specs.Prelude.{unwrap_or, ℤ, ◌&&◌, ◌==◌, ◌||◌}
