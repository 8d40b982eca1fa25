-- Names of other crates and of the definitions, which many of these proofs use.
pub use Rattle.qbase.proofs.Lists.{eqb_either, filter_twice, filter_whole, is_among, length-filter_map, or_none}
pub use Rattle.qbase.specs.ByteSet.{HasNone, IsGreatest, has}
pub use Rattle.qbase.specs.Copying.{laid_count, lay_over}
pub use Rattle.qmodel.specs.OpenCalls.{receive_in, send_in}
pub use Rattle.qmodel.specs.declared.call.Completion.{Completion}
pub use Rattle.qmodel.specs.declared.open_call.OpenCall.{OpenCall}
pub use Rattle.qmodel.specs.declared.open_call.OpenCall.TheVariants.{Receive, Send}
pub use Rattle.qmodel.specs.declared.open_call.OpenSend.{OpenSend}
pub use Rattle.qmodel.specs.declared.open_call.Receipt.{Receipt}
pub use Rattle.qqueue.specs.Best.{may_take, with_item_priority, with_priority, without_item}
pub use Rattle.qqueue.specs.declared.item.Item.{Item}
pub use Rattle.qrules.proofs.Words.Facts.{is_send, number_of, threads_of}
pub use Rattle.qrules.specs.Delivery.{cancel_call, receipt_completion, cancel_where, wait_on}
pub use Rattle.qrules.specs.Records.{held_call, is_after, is_unread_send, message_in, reply_buffer_in}
pub use Rattle.qrules.specs.Records.{sender_among, takes, unblocked_call, with_buffer, written_call}
pub use Rattle.qkernel_state.specs.Cancelling.{AreCancelled, Lose, LoseCancelled, call_if_cancelled, completion_for}
pub use Rattle.qkernel_state.specs.Cancelling.{is_cancelled_among, is_cancelled_by, is_cancelled_open, is_taken_from}
pub use Rattle.qkernel_state.specs.Cancelling.{thread_after_cancelled, unread_on_by, with_completion}
pub use Rattle.qkernel_state.specs.Channel.{ClosesIn, SetsItems, ids_of, is_of, own_channel_in, route_in}
pub use Rattle.qkernel_state.specs.Contents.{channel_in, items_waiting_on, members_of, open_channel_of, pending_in}
pub use Rattle.qkernel_state.specs.Contents.{thread_priority}
pub use Rattle.qkernel_state.specs.Thread.{ChangesOpen, ChangesSender, SetsOpen, SetsPriority, Wakes, is_sending}
pub use Rattle.qkernel_state.specs.Thread.{later_of_two, message_from, newest_in, open_in, ready_thread, seat_in}
pub use Rattle.qkernel_state.specs.Thread.{sender_in, sent_call}
pub use Rattle.qkernel_state.specs.Threads.{IsIndexed, IsRecordOf, IsSeatIn, newer_of, newest_of, number_and_thread}
pub use Rattle.qkernel_state.specs.Threads.{number_at, open_at, opener_at, receive_at}
pub use Rattle.qkernel_state.specs.Unread.{MovesUnread, unread_in}
pub use Rattle.qkernel_state.specs.declared.cancelling.CancelSet.{CancelSet}
pub use Rattle.qkernel_state.specs.declared.channel.Channel.{Channel}
pub use Rattle.qkernel_state.specs.declared.index.IndexGuesses.{IndexGuesses}
pub use Rattle.qkernel_state.specs.declared.thread.Thread.{Thread}
pub use Rattle.qtables.specs.Entries.{entry_at, with_record, without_entry}
pub use Rattle.qtables.specs.Members.{IsRoster, member_at}
pub use Rattle.std.proofs.Common.{Bool, IfSome, List, Some, [], ap, append_assoc, arith, cond, drop, eqb, false, get_or}
pub use Rattle.std.proofs.Common.{inr, is_some, length, length-append, map, not, option_and_then, refl, set, slice_get}
pub use Rattle.std.proofs.Common.{subst, suc, sym, take, true, zero, ℕ, ◌&&◌, ◌++◌, ◌+◌, ◌-◌, ◌<◌, ◌||◌, ◌∙◌, ◌∷◌, ◌≡◌}
pub use Rattle.std.proofs.Common.{◌≢◌, ◌≤◌}
pub use Rattle.std.proofs.Math.Bool.{and-false, and-true}
pub use Rattle.std.proofs.lemmas.Bool.{and_left, and_parts, and_right, eq-eqb, eqb-false, eqb-true, le-ltb, lt-ltb}
pub use Rattle.std.proofs.lemmas.Bool.{ltb-false, ltb-true, ne_eqb, not_from_false, true≢false}
pub use Rattle.std.proofs.lemmas.Iterator.Adapters.{position_from-zero}
pub use Rattle.std.proofs.lemmas.List.{append-nil, at_drop_more, drop_all, drop_more, length-map, take_all, take_at}
pub use Rattle.std.proofs.lemmas.List.Elements.{filter_agree}
pub use Rattle.std.proofs.lemmas.Option.{none-some, same_Some}
pub use Rattle.std.proofs.lemmas.Result.{err_from_is_err_and}
pub use Rattle.std.specs.List.{AllByRecursion, cons_option, filter_map, list_any, position_from}
pub use Rattle.std.specs.Option.{option_map, option_map_or, option_or}
pub use Rattle.std.specs.Prelude.{None, OnSome, Option, Result, filter, find, insert, nat_lt, position, unwrap_or}
