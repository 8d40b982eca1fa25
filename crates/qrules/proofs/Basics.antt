-- Names from the proofs below, which many of the proofs above use.
pub use Rattle.qrules.proofs.Messages.{message_same, reply_buffer_same}
pub use Rattle.qrules.proofs.Traces.Calls.{call_laws}
pub use Rattle.qrules.proofs.Traces.Calls.Cancelling.{IsCancelledCall, cancel_parts}
pub use Rattle.qrules.proofs.Traces.Calls.ConnectDetach.{detach_ends}
pub use Rattle.qrules.proofs.Traces.Calls.Delivering.{sent_item, sent_way}
pub use Rattle.qrules.proofs.Traces.Calls.Held.{IsHeldFor, SenderEnds, answering, finished_held, has_sender, held_for}
pub use Rattle.qrules.proofs.Traces.Calls.Held.{sender_ends}
pub use Rattle.qrules.proofs.Traces.Calls.PrioritySet.{sets_alone}
pub use Rattle.qrules.proofs.Traces.Calls.Taking.{given_is, given_received, receipt_from}
pub use Rattle.qrules.proofs.Traces.Parts.{error_finish, is_own, is_owned_by, reply_finish}
pub use Rattle.qrules.proofs.Traces.Past.CurrentPriority.{among_now, now, refused_sets_none, sets_none}
pub use Rattle.qrules.proofs.Traces.Past.CurrentPriority.{unblocked_among_now, worth_beyond, worth_newest, worth_set}
pub use Rattle.qrules.proofs.Traces.Past.CurrentPriority.{worth_stays}
pub use Rattle.qrules.proofs.Traces.Past.Ends.{accepted, block_known, completion_names, ended_below, ends_other}
pub use Rattle.qrules.proofs.Traces.Past.Ends.{ends_own, laws_of, not_ended, open_known, other_below, passes_of}
pub use Rattle.qrules.proofs.Traces.Past.Ends.{refused, refused_ends}
pub use Rattle.qrules.proofs.Traces.Past.Items.{IsPending, Stands, before_earlier, before_newest, item_accepted}
pub use Rattle.qrules.proofs.Traces.Past.Items.{item_answer, item_at, item_below, item_earlier, item_found, item_made}
pub use Rattle.qrules.proofs.Traces.Past.Items.{item_message, item_newest, item_priority, items_on, made_by}
pub use Rattle.qrules.proofs.Traces.Past.Items.{pending_all, pending_each, pending_is, pending_priorities}
pub use Rattle.qrules.proofs.Traces.Past.Items.{priority_earlier, priority_newest, standing_is, matches_all, staying}
pub use Rattle.qrules.proofs.Traces.Past.Items.{staying_all}
pub use Rattle.qrules.proofs.Traces.Past.Laws.{IsReceipt, IsReceived, IsSettled, Passes, RowLaws, is_settled}
pub use Rattle.qrules.proofs.Traces.Past.Numbers.{block_asked, block_below, block_fresh, blocks, blocks_thread}
pub use Rattle.qrules.proofs.Traces.Past.Numbers.{call_earlier, call_newest, made_below, made_beyond}
pub use Rattle.qrules.proofs.Traces.Past.Open.{IsOpen, buffer_answer, buffer_number, buffer_on, filled_answer}
pub use Rattle.qrules.proofs.Traces.Past.Open.{filled_settled, held_for_answer, held_on, is_unblocked, kept}
pub use Rattle.qrules.proofs.Traces.Past.Open.{kept_number, open_below, open_from, open_is, open_parts, open_receipt}
pub use Rattle.qrules.proofs.Traces.Past.Open.{open_thread, receipt_for_answer}
pub use Rattle.qrules.proofs.Traces.Past.Senders.{send_from, send_parts, sender_found, sender_sends}
pub use Rattle.qrules.proofs.Traces.Past.Waits.{may_wait, some_map, waits_or_ends}
pub use Rattle.qrules.proofs.Traces.Properties.Rows.Delivering.{Delivers, delivery_meets}
pub use Rattle.qrules.proofs.Traces.Properties.Rows.Receiving.{ReceiveTakes, receive_takes}
pub use Rattle.qrules.proofs.Traces.Rosters.{Rises, known, not_among, rises}
pub use Rattle.qrules.proofs.Traces.Routes.{has_way, leads_over}
pub use Rattle.qrules.proofs.Traces.Rows.{answer_same, pulse_same, sent_same, unblocked_same}
pub use Rattle.qrules.proofs.Words.Effects.{asks, attaches, closes, creates, detaches, makes, sets, thread_of_send}
pub use Rattle.qrules.proofs.Words.Effects.{unblocks, writes}
pub use Rattle.qrules.proofs.Words.Facts.{Facts, count_to, is_for_answer, is_send, message, number_of, owns}
pub use Rattle.qrules.proofs.Words.Facts.{reply_buffer, route, sender, threads_of}
pub use Rattle.qrules.proofs.Words.Items.{Finish, Received, buffer_after_write, ends_receiver, ends_sender}
pub use Rattle.qrules.proofs.Words.Items.{ends_unblocked, info_completion, item_in, item_sent_over, message_item}
pub use Rattle.qrules.proofs.Words.Items.{message_numbered, names, own_receipt, priority_set_for, pulse_item}
pub use Rattle.qrules.proofs.Words.Items.{pulse_receipt, receipt_of, receipt_when_sent, receiver, refusal_completion}
pub use Rattle.qrules.proofs.Words.Items.{sender_for}
pub use Rattle.qrules.proofs.Words.Lawful.{IsLawful, facts_of, followed_by, with_event}
pub use Rattle.qrules.proofs.Words.Past.{accepted_at, attached_connection, block, carried_priority, channel_at}
pub use Rattle.qrules.proofs.Words.Past.{connection_at, copied_count_among, copied_count_in, copied_count_of}
pub use Rattle.qrules.proofs.Words.Past.{current_priority, filled, first_among, completes, is_accepted}
pub use Rattle.qrules.proofs.Words.Past.{is_destroyed, is_ended, is_gone, is_received, is_unblock_for, item_among}
pub use Rattle.qrules.proofs.Words.Past.{item_of, items, items_by_now, live_connections, made_on, open_call}
pub use Rattle.qrules.proofs.Words.Past.{open_channels, pending_items, priority_before, priority_from_completion}
pub use Rattle.qrules.proofs.Words.Past.{priority_of_item, priority_of_thread, priority_set_by, refuses, sender_of}
pub use Rattle.qrules.proofs.Words.Past.{unblocked_among, unless_ended, was_done, with_receipt, with_writes}
pub use Rattle.qrules.proofs.Words.Step.{Follows, after_receipt, after_unblock, after_write, channel_after}
pub use Rattle.qrules.proofs.Words.Step.{connection_after, is_cancelled, items_with_priority_set, one_for}
pub use Rattle.qrules.proofs.Words.Step.{open_call_after, pending_after, priority_after, priority_taken, put_at}
pub use Rattle.qrules.proofs.Words.Step.{uncancelled_items, unless, unreceived_items}
