-- Names of other crates and of the definitions, which many of these proofs use.
pub use Rattle.qscript_chart.specs.Changes.{change_since, changed_threads, level_of, priority_in}
pub use Rattle.qscript_chart.specs.Rows.{HasRows, TellsChanges, arrows_from, blocked_from, changes_from, event_arrows}
pub use Rattle.qscript_chart.specs.Rows.{event_thread, row_arrows, row_blocked, row_changes, row_thread}
pub use Rattle.qkernel.proofs.Running.{headline_of, runs_more}
pub use Rattle.qkernel.specs.Blocked.{blocked_threads}
pub use Rattle.qkernel.specs.Kernel.{State, facts_in}
pub use Rattle.qkernel.specs.Matching.{AnswersAtTraces, MatchesAt}
pub use Rattle.qmodel.specs.Trace.{Event, Run, Trace}
pub use Rattle.qmodel.specs.declared.call.Call.{Call}
pub use Rattle.qrules.specs.Lawful.{event_call, facts_of}
pub use Rattle.qrules.specs.Trace.{followed_by}
pub use Rattle.qscript.specs.Enrolled.{AllJoin, roster_with}
pub use Rattle.qkernel_state.specs.Contents.{members_of, thread_priority}
pub use Rattle.qtables.specs.Members.{IsRoster, member_at}
pub use Rattle.qtables.specs.declared.member.Member.{Member}
pub use Rattle.std.proofs.Common.{List, [], ap, append-nil, append_assoc, arith, cond, eqb, false, length, map, refl}
pub use Rattle.std.proofs.Common.{rules, subst, sym, take, true, ℕ, ◌++◌, ◌+◌, ◌<◌, ◌∙◌, ◌∷◌, ◌≡◌}
pub use Rattle.std.specs.List.{AllByRecursion, filter_map}
pub use Rattle.std.specs.Option.{option_map, option_map_or}
pub use Rattle.std.specs.Prelude.{None, Some, find, is_some, ◌==◌}
pub use Rattle.std.specs.Vec.Iter.{into_iter_items, into_iter_len}
