-- Names of other crates and of the definitions, which many of these proofs use.
pub use Rattle.atomic_table.proofs.Lists.{at_index, at_map}
pub use Rattle.qbase.proofs.Lists.{all_more, is_among, none_of, some_of}
pub use Rattle.qbase.specs.declared.errno.Errno.TheVariants.{Busy, NoMemory, TraceFull}
pub use Rattle.qhandoff.proofs.Changes.{line_else, line_here, there}
pub use Rattle.qhandoff.specs.Rule.{idle_line, line}
pub use Rattle.qhandoff.specs.Steps.{IsBusy, cancelled_kernel_view, opened_kernel_view, put_kernel_view}
pub use Rattle.qhandoff.specs.Steps.{seated_kernel_view}
pub use Rattle.qhandoff.specs.Words.{AreBelow, IsRow, cells_id, count, kernel_id, left_for, one, thread_id, thread_of}
pub use Rattle.qhandoff.specs.declared.seats.ThreadSeat.{ThreadSeat}
pub use Rattle.qhandoff.specs.declared.view.KernelView.{KernelView}
pub use Rattle.qhandoff.specs.declared.view.CellView.{CellView}
pub use Rattle.qkernel.proofs.Traces.{blocked_same, followed_length, followed_push, properties_of, matches_down}
pub use Rattle.qkernel.proofs.Traces.{matches_made, matches_roster}
pub use Rattle.qkernel.specs.EventLog.{Logged, with_next}
pub use Rattle.qkernel.specs.Kernel.{IsSound, State}
pub use Rattle.qkernel.specs.Matching.{AnswersAtTraces, MatchesAt}
pub use Rattle.qmodel.specs.declared.call.Call.{Call}
pub use Rattle.qmodel.specs.declared.call.Completion.{Completion}
pub use Rattle.qshared.specs.History.{Extends}
pub use Rattle.qshared.specs.declared.asking.KernelCalls.{KernelCalls}
pub use Rattle.qshared.specs.declared.delivery.Delivery.{Delivery}
pub use Rattle.qrules.proofs.Traces.Rosters.{Rises, all_at, among_member, known, rises}
pub use Rattle.qrules.proofs.Traces.TraceLaws.Blocked.{GoesToBlocked, blocked_unless_ended, caller_gets_its_own}
pub use Rattle.qrules.proofs.Traces.TraceLaws.Blocked.{completions_are_apart, completions_go_to_blocked, may_end}
pub use Rattle.qrules.proofs.Words.Lawful.{IsLawful, facts_of, with_event}
pub use Rattle.qrules.proofs.Words.Past.{open_call}
pub use Rattle.qrules.specs.Facts.{is_blocked, threads_of}
pub use Rattle.qrules.specs.Outcome.{Answers, refusal_of}
pub use Rattle.qrules.specs.Rules.{effect_of}
pub use Rattle.qrules.specs.Trace.{AreApart, Event, Trace, followed_by, gets, thread_at}
pub use Rattle.qshared.specs.Answered.{Answered, IsMet}
pub use Rattle.qshared.specs.Asking.{AreCallsOf, IsSince, WaitedBefore, asked_in, calls_of, heard_in}
pub use Rattle.qshared.specs.Counting.{gives, is_call, pends}
pub use Rattle.qshared.specs.Delivered.{Arrives, IsAwaited, IsDelivered, completions_in, kernel_view, newest_call}
pub use Rattle.qshared.specs.Delivered.{origin_of, taken, took, view_of}
pub use Rattle.qshared.specs.Due.{AreDue, AreKnown, AreLater, HasWaited, IsOwed, at_once, collected, completions_due}
pub use Rattle.qshared.specs.Due.{ends_open, in_turn, later_due, later_of, of_thread, place, waits}
pub use Rattle.qshared.specs.Past.{AreSeen, RiseByThread, completes, is_down}
pub use Rattle.qshared.specs.Performing.{Admits, IsEvent, IsFree, IsReason, IsServed, Performs, Refuses, outcome}
pub use Rattle.qshared.specs.Private.Putting.{Handed, MayArrive, MayPut}
pub use Rattle.qshared.specs.Private.Recorded.{Copied, HasRoomFor, HasRooms, IsKept, MayCopy}
pub use Rattle.qshared.specs.UnderLock.{Agrees, IsUnderLock, UnderLock}
pub use Rattle.qshared.specs.declared.called.Called.{Called}
pub use Rattle.qshared.specs.declared.called.Called.TheVariants.{Blocked, Done, Refused}
pub use Rattle.qkernel_state.proofs.Seats.{is_there, seat_kept}
pub use Rattle.qkernel_state.specs.Contents.{members_of}
pub use Rattle.qtables.specs.Members.{IsRoster, member_at}
pub use Rattle.qtables.specs.declared.member.Member.{Member}
pub use Rattle.std.proofs.Common.{Bool, List, [], ap, append-nil, append_assoc, arith, cond, drop, eqb, false, get_or}
pub use Rattle.std.proofs.Common.{get_or-set_other, get_or-set_same, inl, inr, length, length-append, length-set, map}
pub use Rattle.std.proofs.Common.{refl, reverse, rules, set, subst, suc, sum, sym, take, true, vec_capacity, zero, ℕ}
pub use Rattle.std.proofs.Common.{◌++◌, ◌+◌, ◌-◌, ◌<◌, ◌^◌, ◌∙◌, ◌∷◌, ◌≡◌, ◌≢◌, ◌≤◌, ◌⊎◌}
pub use Rattle.std.proofs.Math.Seq.{drop-append_seam, drop-cons, take-append_seam}
pub use Rattle.std.proofs.lemmas.Bool.{cases_Bool, eq-eqb, eqb-false, eqb-true, ne_eqb, true≢false}
pub use Rattle.std.proofs.lemmas.Grind.{common_steps}
pub use Rattle.std.proofs.lemmas.Iterator.Adapters.{YieldsList-from_vec, position_from-zero}
pub use Rattle.std.proofs.lemmas.List.{get_or-map, length-map, map-set, set-get_or, take-append-drop}
pub use Rattle.std.proofs.lemmas.List.Folds.{list_any-append}
pub use Rattle.std.proofs.lemmas.Option.{none-some, same_Some}
pub use Rattle.std.specs.List.{AllByRecursion, list_any, position_from}
pub use Rattle.std.specs.Prelude.{MatchOption, None, Option, Some, is_none, is_some, replicate, ◌||◌}
pub use lib.ListN.{get_elem?}
pub use mathlib.Core.Option.{none, some, some-injective, some-ne-none}
