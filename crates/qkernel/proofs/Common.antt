-- Names of other crates and of the definitions, which many of these proofs use.
pub use Rattle.qbase.proofs.Lists.{all_append, all_filter, all_filter_map, all_map, all_more, cond_same, eqb_either}
pub use Rattle.qbase.proofs.Lists.{eqb_same, filter_twice, is_among, or_none}
pub use Rattle.qbase.specs.Copying.{laid_count, lay_over}
pub use Rattle.qbase.specs.declared.errno.Errno.{Errno}
pub use Rattle.qbase.specs.declared.errno.Errno.TheVariants.{Again, Badf, Busy, Down, Intr, Inval, NoMemory, Srch}
pub use Rattle.qbase.specs.declared.state.ThreadState.TheVariants.{Ready}
pub use Rattle.qkernel.specs.EventLog.{Logged, with_next}
pub use Rattle.qkernel.specs.Kernel.{IsSound, State}
pub use Rattle.qkernel.specs.Private.Steps.{Step, Steps, facts_in}
pub use Rattle.qkernel.specs.Matching.{AnswersAtTraces, InfoAtTraces, LeavesIfRefused, MatchesAt}
pub use Rattle.qmodel.specs.Trace.{Event, OpenChannel, SentItem, Trace}
pub use Rattle.qmodel.specs.declared.call.Call.{Call}
pub use Rattle.qmodel.specs.declared.call.Call.TheVariants.{ChannelCreate, ChannelDestroy, ConnectAttach, ConnectDetach}
pub use Rattle.qmodel.specs.declared.call.Call.TheVariants.{Error, Info, PrioritySet, Pulse, Read, Receive}
pub use Rattle.qmodel.specs.declared.call.Call.TheVariants.{ReceivePulse, Reply, Send, Shutdown, Unblock, Write}
pub use Rattle.qmodel.specs.declared.call.Completion.{Completion}
pub use Rattle.qmodel.specs.declared.open_call.OpenCall.{OpenCall}
pub use Rattle.qmodel.specs.declared.open_call.Receipt.{Receipt}
pub use Rattle.qqueue.specs.Best.{best_of, is_pulse, with_priority, without_item}
pub use Rattle.qqueue.specs.declared.item.Item.{Item}
pub use Rattle.qrules.proofs.Messages.{message_same, reply_buffer_same}
pub use Rattle.qrules.proofs.Traces.Calls.{row_laws}
pub use Rattle.qrules.proofs.Traces.Calls.Delivering.{ForAnItem, met_item, met_settled, sent_way}
pub use Rattle.qrules.proofs.Traces.Parts.{connection_between, connections_between, due_pulse_of_open, due_pulse_over}
pub use Rattle.qrules.proofs.Traces.Parts.{error_finish, is_held_for, is_own, is_owned_by, leads_to, reply_finish}
pub use Rattle.qrules.proofs.Traces.Past.Cancels.{EndsSettled, none_cancelled}
pub use Rattle.qrules.proofs.Traces.Past.Ends.{completion_names, laws_of, row_passes}
pub use Rattle.qrules.proofs.Traces.Past.Laws.{IsSettled, RowLaws, is_forceful}
pub use Rattle.qrules.proofs.Traces.Rosters.{Rises, among, filter_map_same, not_among, nothing, only_own, rises}
pub use Rattle.qrules.proofs.Traces.Rows.{answer_same, pulse_same, sent_same, unblocked_same}
pub use Rattle.qrules.proofs.Words.Effects.{attaches, closes, creates, detaches, makes, sets, shuts_down, unblocks}
pub use Rattle.qrules.proofs.Words.Effects.{writes}
pub use Rattle.qrules.proofs.Words.Facts.{Facts, count_to, owns, route, threads_of}
pub use Rattle.qrules.proofs.Words.Items.{Finish, Received, answer_completion, ends_receiver, ends_sender}
pub use Rattle.qrules.proofs.Words.Items.{ends_unblocked, info_completion, item_in, item_sent_over, message_numbered}
pub use Rattle.qrules.proofs.Words.Items.{names, own_receipt, pulse_item, pulse_receipt, receipt_of, receipt_when_taken}
pub use Rattle.qrules.proofs.Words.Items.{refusal_completion, unblock_item, refusal_if_full_for}
pub use Rattle.qrules.proofs.Words.Past.{is_failure, made_on, open_call, priority_in}
pub use Rattle.qrules.proofs.Words.Step.{Follows, after_receipt, after_unblock, after_write, is_cancelled}
pub use Rattle.qrules.proofs.Words.Step.{items_with_priority_set, one_for, pending_after, priority_taken, put_at}
pub use Rattle.qrules.proofs.Words.Step.{uncancelled_items, unless, unreceived_items}
pub use Rattle.qrules.specs.Delivery.{cancel_call, has_to_wait, newest_receiver, receipt_completion, refusal_if_full}
pub use Rattle.qrules.specs.Delivery.{cancel_where}
pub use Rattle.qrules.specs.Records.{is_over, blocked_thread, disconnect_item, held_call, info_of_open, is_fixed}
pub use Rattle.qrules.specs.Records.{is_thread, is_unread_send, receive_of, reply_buffer_in, sender_among, takes}
pub use Rattle.qrules.specs.Records.{tells_disconnect, tells_unblock, unblocked_call, written_call}
pub use Rattle.qrules.specs.Facts.{holds, is_blocked, message, number_of, sender, is_in_process}
pub use Rattle.qrules.specs.Lawful.{IsLawful, event_call, facts_of}
pub use Rattle.qrules.specs.Outcome.{Answers, refusal_of}
pub use Rattle.qrules.proofs.Words.Outcome.{MayRefuse, completion_to, Outcome, row_of}
pub use Rattle.qrules.specs.Rules.Held.{info_of, refusal_unless_held}
pub use Rattle.qrules.specs.Rules.Threads.{state_in}
pub use Rattle.qkernel_state.proofs.ChannelWrites.{sets_items, sets_queue}
pub use Rattle.qkernel_state.proofs.Inserting.{completions_fewer, inserted_among, own_first, own_one, two_completions}
pub use Rattle.qkernel_state.proofs.Receivers.{ended_thread, newest_receives, taken_by, waits_among}
pub use Rattle.qkernel_state.proofs.Seats.{seat_kept, unknown_open}
pub use Rattle.qkernel_state.proofs.Senders.{answered_by, call_sent, changes_sender, held_sent, own_open}
pub use Rattle.qkernel_state.specs.Cancelling.{AreCancelled, LoseCancelled, completion_for, is_cancelled_among}
pub use Rattle.qkernel_state.specs.Cancelling.{is_cancelled_by}
pub use Rattle.qkernel_state.specs.Channel.{ClosesIn, SetsItems, ids_of, is_of, own_channel_in, route_in}
pub use Rattle.qkernel_state.specs.Completions.{with_completion_if, with_completion_in_place}
pub use Rattle.qkernel_state.specs.Held.{guarded_message_in, is_held_in, is_held_of}
pub use Rattle.qkernel_state.specs.Contents.{channel_in, items_waiting_on, members_of, open_channel_of, pending_in}
pub use Rattle.qkernel_state.specs.Contents.{thread_priority}
pub use Rattle.qkernel_state.specs.Pulses.{IsLeft, IsMet, IsSent, IsSentIfDue, IsTurnedAway, has_room}
pub use Rattle.qkernel_state.specs.Thread.{ChangesOpen, ChangesSender, HandsOver, SetsOpen, SetsPriority, Wakes}
pub use Rattle.qkernel_state.specs.Thread.{blocked_count, message_from, newest_in, open_in, ready_thread, sender_in}
pub use Rattle.qkernel_state.specs.Thread.{sent_call}
pub use Rattle.qkernel_state.specs.declared.cancelling.CancelSet.TheVariants.{All, Of, On, Over}
pub use Rattle.qkernel_state.specs.declared.channel.Channel.{Channel}
pub use Rattle.qkernel_state.specs.declared.thread.Thread.{Thread}
pub use Rattle.qtables.specs.Entries.{IsRising, entry_at, without_entry}
pub use Rattle.qtables.specs.Members.{IsRoster, member_at}
pub use Rattle.qtables.specs.declared.connection.Connection.{Connection}
pub use Rattle.qtables.specs.declared.member.Member.{Member}
pub use Rattle.std.proofs.Common.{Bool, List, [], add-zero, ap, append-nil, arith, cond, drop, eqb, false, get_or, inl}
pub use Rattle.std.proofs.Common.{inr, length, length-append, map, option_and_then, refl, reverse, subst, suc, sym}
pub use Rattle.std.proofs.Common.{take, true, w32, w64, w8, zero, ℕ, ◌++◌, ◌+◌, ◌-◌, ◌<◌, ◌^◌, ◌∙◌, ◌∷◌, ◌≡◌, ◌≢◌, ◌≤◌}
pub use Rattle.std.proofs.Math.Bool.{and-false, and_comm}
pub use Rattle.std.proofs.lemmas.Bool.{and_parts, eq-eqb, eqb-false, eqb-true, lt-ltb, ne_eqb, not-false, not-true}
pub use Rattle.std.proofs.lemmas.Bool.{true≢false}
pub use Rattle.std.proofs.lemmas.Grind.{common_steps, take_at_read}
pub use Rattle.std.proofs.lemmas.Int.{to_z-of_z}
pub use Rattle.std.proofs.lemmas.List.{length-map, reverse-reverse, take_all}
pub use Rattle.std.proofs.lemmas.List.Elements.{filter_agree, filter_map-append}
pub use Rattle.std.proofs.lemmas.Option.{none-some, same_Some}
pub use Rattle.std.proofs.lemmas.Result.{err_from_is_err_and}
pub use Rattle.std.specs.List.{AllByRecursion, cons_option, filter_map, list_any}
pub use Rattle.std.specs.Option.{option_copied_mut, option_map, option_map_or, option_or, option_to_list}
pub use Rattle.std.specs.Prelude.{IfSome, None, Option, Some, count_by, filter, int_lt, is_some, nat_lt, not, pos}
pub use Rattle.std.specs.Prelude.{slice_range, unwrap_or, ℤ, ◌&&◌, ◌||◌}
