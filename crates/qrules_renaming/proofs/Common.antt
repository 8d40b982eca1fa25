-- Names of other crates and of the definitions, which many of these proofs use.
pub use Rattle.qbase.proofs.Lists.{eqb_either, is_among, none_of, some_of}
pub use Rattle.qbase.specs.declared.errno.Errno.{Errno}
pub use Rattle.qbase.specs.declared.errno.Errno.TheVariants.{Busy, Down}
pub use Rattle.qmodel.specs.Trace.{Event, SentItem, Trace}
pub use Rattle.qmodel.specs.declared.call.Call.{Call}
pub use Rattle.qmodel.specs.declared.call.Completion.{Completion}
pub use Rattle.qmodel.specs.declared.open_call.OpenCall.{OpenCall}
pub use Rattle.qmodel.specs.declared.open_call.OpenCall.TheVariants.{Receive, Send}
pub use Rattle.qqueue.specs.Best.{best_of, is_pulse}
pub use Rattle.qqueue.specs.declared.item.Item.{Item}
pub use Rattle.qqueue.specs.declared.item.Kind.{Kind}
pub use Rattle.qqueue.specs.declared.item.Kind.TheVariants.{Any, PulseOnly}
pub use Rattle.qqueue.specs.declared.item.What.{What}
pub use Rattle.qrules_renaming.specs.Private.Laws.{CallsAreApart, IsAs, Keeps, KeepsCounts, KeepsReceivers}
pub use Rattle.qrules_renaming.specs.Private.Laws.{OutcomesAreAs, RowsAreAs, StepsAreAs}
pub use Rattle.qrules_renaming.specs.Private.Renaming.{facts_as, open_as, received_as, sent_as, with_number, written_as}
pub use Rattle.qrules_renaming.specs.Renaming.{Exchange, IsThen, KeepsRoster, Renaming, call_as, channel_as}
pub use Rattle.qrules_renaming.specs.Renaming.{completion_as, connection_as, completion_of, completions_as, event_as}
pub use Rattle.qrules_renaming.specs.Renaming.{in_order, item_as, mark_as, member_as, receive_as, send_as, what_as}
pub use Rattle.qrules.proofs.Once.{follows_once}
pub use Rattle.qrules.proofs.Traces.Parts.{connection_between, error_finish, is_own, reply_finish}
pub use Rattle.qrules.proofs.Traces.Past.Follows.{past_follows}
pub use Rattle.qrules.proofs.Traces.Past.Waits.{some_map}
pub use Rattle.qrules.proofs.Words.Effects.{asks, makes}
pub use Rattle.qrules.proofs.Words.Facts.{Facts, count_to, owns, route, threads_of}
pub use Rattle.qrules.proofs.Words.Items.{Finish, Received, is_after, is_last_wait, is_newest, message_item}
pub use Rattle.qrules.proofs.Words.Items.{own_receipt, pulse_receipt, receipt_in, receipt_of, receipt_of_best}
pub use Rattle.qrules.proofs.Words.Items.{receipt_when_sent, receipt_when_taken, receiver, sender_for, wait_on}
pub use Rattle.qrules.proofs.Words.Lawful.{IsLawful, facts_of}
pub use Rattle.qrules.proofs.Words.Past.{channel_at, connection_at, made_on, open_call}
pub use Rattle.qrules.proofs.Words.Step.{Follows, after_receipt, after_unblock, after_write, call_left_by}
pub use Rattle.qrules.proofs.Words.Step.{channel_after, connection_after, is_cancelled, is_thread, is_unread_send}
pub use Rattle.qrules.proofs.Words.Step.{items_with_priority_set, open_call_after, other_call_after, own_call_after}
pub use Rattle.qrules.proofs.Words.Step.{pending_after, priority_after, uncancelled_items, unless, unreceived_items}
pub use Rattle.qrules.specs.Delivery.{deliver, newest_receiver, receipt_completion, refusal_if_full}
pub use Rattle.qrules.specs.Facts.{OpenReceive, holds, receive_in, receive_of}
pub use Rattle.qrules.specs.Outcome.{Answers, refusal_of}
pub use Rattle.qrules.proofs.Words.Outcome.{MayRefuse, completion_to, Outcome, row_of}
pub use Rattle.qrules.proofs.Words.Made.{channel_of, pulse_over}
pub use Rattle.qrules.specs.Rule.{PriorityChange, Transfer}
pub use Rattle.qrules.specs.Rules.Connections.{disconnect_pulse}
pub use Rattle.qrules.specs.Rules.Held.{answer_row, refusal_unless_held}
pub use Rattle.qrules.specs.Rules.Unblock.{unblock_pulse}
pub use Rattle.qtables.specs.Members.{IsRoster, member_at}
pub use Rattle.qtables.specs.declared.connection.Connection.{Connection}
pub use Rattle.qtables.specs.declared.member.Member.{Member}
pub use Rattle.std.proofs.Common.{Bool, List, [], ap, arith, cond, eqb, false, filter, inl, inr, length, map, refl}
pub use Rattle.std.proofs.Common.{subst, suc, sym, true, zero, ℕ, ℤ, ◌++◌, ◌+◌, ◌<◌, ◌∙◌, ◌∷◌, ◌≡◌, ◌≢◌, ◌≤◌, ◌⊎◌}
pub use Rattle.std.proofs.lemmas.Bool.Decides.{nat_tests}
pub use Rattle.std.proofs.lemmas.Bool.{and_parts, eqb-true, false_from_ne_true, true≢false}
pub use Rattle.std.specs.List.{cons_option, filter_map, list_any}
pub use Rattle.std.specs.Option.{option_and_then, option_map, option_map_or}
pub use Rattle.std.specs.Prelude.{None, Option, Some, find, is_some, nat_lt, not, ◌&&◌}
