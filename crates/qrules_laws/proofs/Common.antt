-- Names of other crates and of the definitions, which many of these proofs use.
pub use Rattle.qbase.proofs.Lists.{all_append, all_filter_map, all_more, eqb_same, is_among, none_of}
pub use Rattle.qrules_laws.specs.Pending.{FirstGoesFirst, HasPriority, TakesBeside, is_message_of}
pub use Rattle.qmodel.specs.Trace.{Event, SentItem, Trace}
pub use Rattle.qmodel.specs.declared.call.Call.{Call}
pub use Rattle.qmodel.specs.declared.call.Completion.{Completion}
pub use Rattle.qmodel.specs.declared.open_call.OpenCall.{OpenCall}
pub use Rattle.qmodel.specs.declared.open_call.OpenCall.TheVariants.{Receive, Send}
pub use Rattle.qqueue.specs.Best.{best_of, is_pulse, may_take, with_priority}
pub use Rattle.qqueue.specs.Order.{comes_before}
pub use Rattle.qqueue.specs.declared.item.Item.{Item}
pub use Rattle.qqueue.specs.declared.item.Kind.{Kind}
pub use Rattle.qrules.proofs.Traces.Past.Cancels.{none_cancelled, pulse_unread, sent_by, unread_elsewhere}
pub use Rattle.qrules.proofs.Traces.Past.CurrentPriority.{now, refused_sets_none, unblocked_among_now, worth_newest}
pub use Rattle.qrules.proofs.Traces.Past.CurrentPriority.{worth_set, worth_stays}
pub use Rattle.qrules.proofs.Traces.Past.Ends.{accepted, ended_below, ends_own, laws_of, passes_of}
pub use Rattle.qrules.proofs.Traces.Past.Follows.{past_follows}
pub use Rattle.qrules.proofs.Traces.Past.Items.{IsPending, Stands, before_earlier, item_accepted, item_at, item_below}
pub use Rattle.qrules.proofs.Traces.Past.Items.{item_earlier, item_made, item_newest, item_priority, items_on, made_by}
pub use Rattle.qrules.proofs.Traces.Past.Items.{pending_all, pending_each, pending_is, standing_is, matches_all}
pub use Rattle.qrules.proofs.Traces.Past.Items.{staying}
pub use Rattle.qrules.proofs.Traces.Past.Laws.{Passes}
pub use Rattle.qrules.proofs.Traces.Past.Moves.{map_same, mover, mover_what}
pub use Rattle.qrules.proofs.Traces.Past.Open.{is_unblocked, kept_number, open_from, open_own, open_parts, open_receipt}
pub use Rattle.qrules.proofs.Traces.Past.Pending.{items_more, made_all, stays_gone}
pub use Rattle.qrules.proofs.Traces.Past.Rising.{takeable_rises}
pub use Rattle.qrules.proofs.Traces.Past.Waits.{may_wait, waits_or_ends}
pub use Rattle.qrules.proofs.Traces.Properties.BestFirst.{best_first}
pub use Rattle.qrules.proofs.Traces.Properties.Connections.{item_over, takeable_priorities}
pub use Rattle.qrules.proofs.Traces.Properties.Events.{is_accepted_by, is_refused_by, outcome_of}
pub use Rattle.qrules.proofs.Traces.Properties.Receipts.{TakesOne, completion_of, takes_one}
pub use Rattle.qrules.proofs.Traces.Properties.Sends.{begins_now, made_newest, made_stays, open_on}
pub use Rattle.qrules.proofs.Traces.Properties.ShutForGood.{shut_for_good, waits_on_open}
pub use Rattle.qrules.proofs.Traces.TraceLaws.Held.{held_sender, taken_matches}
pub use Rattle.qrules.proofs.Traces.TraceLaws.Lengths.{open_calls_keep_length}
pub use Rattle.qrules.proofs.Words.Effects.{attaches, closes, creates, detaches, makes, sets, shuts_down}
pub use Rattle.qrules.proofs.Words.Effects.{thread_of_send, unblocks}
pub use Rattle.qrules.proofs.Words.Facts.{Facts, Facts as OldFacts, count_to, number_of, threads_of}
pub use Rattle.qrules.proofs.Words.Items.{Received, names, receipt_of}
pub use Rattle.qrules.proofs.Words.Lawful.{IsLawful, facts_of}
pub use Rattle.qrules.proofs.Words.Past.{accepted_at, block, current_priority, completes, is_accepted}
pub use Rattle.qrules.proofs.Words.Past.{is_destroyed, is_down, is_ended, is_gone, is_received, is_unblock_for, item_of}
pub use Rattle.qrules.proofs.Words.Past.{items, made_on, open_call, pending_items, priority_before, priority_of_thread}
pub use Rattle.qrules.proofs.Words.Past.{sender_of, unblocked_among}
pub use Rattle.qrules.proofs.Words.Step.{is_cancelled, items_with_priority_set, one_for, open_call_after, pending_after}
pub use Rattle.qrules.proofs.Words.Step.{priority_taken, uncancelled_items, unreceived_items}
pub use Rattle.qrules.specs.Delivery.{newest_receiver, refusal_if_full, wait_on}
pub use Rattle.qrules.specs.Outcome.{Answers}
pub use Rattle.qrules.proofs.Words.Outcome.{completion_to, Outcome, row_of}
pub use Rattle.qrules.specs.Past.{attached_connection, channel_at, connection_at, is_number, waiter, was_done}
pub use Rattle.qrules.specs.Properties.{TakesBest, number_received, takeable}
pub use Rattle.qrules.specs.Records.{is_for_receipt, is_unread_send, pulses_among}
pub use Rattle.qrules.specs.Rule.{Effect, PriorityChange, ReceiveRequest}
pub use Rattle.qrules.specs.Trace.{RiseByThread, completions_of}
pub use Rattle.qtables.specs.Members.{IsRoster, member_at}
pub use Rattle.qtables.specs.declared.member.Member.{Member}
pub use Rattle.std.proofs.Common.{Bool, List, [], ap, arith, cond, eqb, false, inl, inr, length, map, option_and_then}
pub use Rattle.std.proofs.Common.{refl, subst, sym, true, ℕ, ◌++◌, ◌+◌, ◌<◌, ◌∙◌, ◌∷◌, ◌≡◌, ◌≢◌, ◌≤◌}
pub use Rattle.std.proofs.Math.Bool.{and-true, or-true}
pub use Rattle.std.proofs.lemmas.Bool.Decides.{nat_tests}
pub use Rattle.std.proofs.lemmas.Bool.{and_from, eq-eqb, eqb-true, false_from_ne_true, not-true, or_parts, true≢false}
pub use Rattle.std.proofs.lemmas.List.{append-nil, length-append}
pub use Rattle.std.proofs.lemmas.List.Sums.{sum_by-append, sum_by-cons}
pub use Rattle.std.proofs.lemmas.Option.{none-some, same_Some}
pub use Rattle.std.specs.List.{AllByRecursion, cons_option, filter_map, list_any}
pub use Rattle.std.specs.Option.{option_map, option_map_or, option_to_list}
pub use Rattle.std.specs.Prelude.{None, Option, Some, count_by, filter, is_some, not, ◌&&◌}
