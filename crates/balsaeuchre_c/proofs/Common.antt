-- Names of other crates and of the definitions, which many of these proofs use.
pub use Rattle.balsaeuchre_c.specs.Calling.{Informs, OfEachRow, Restores, brought_at}
pub use Rattle.balsaeuchre_c.specs.Rows.{Fills, Tells, told_bytes, told_of}
pub use Rattle.balsaeuchre_c.specs.WriteRows.{IsTold, TellsAt, buffers, start_of}
pub use Rattle.balsaeuchre_c.specs.declared.row.Row.{Row}
pub use Rattle.core.proofs.alloc.Calls.{token}
pub use Rattle.qbase.proofs.Lengths.{lay_length}
pub use Rattle.qkernel.proofs.Common.{AllByRecursion, Answers, Bool, Call, Completion, ConnectDetach, Event, Facts}
pub use Rattle.qkernel.proofs.Common.{IsLawful, IsRoster, Item, List, Member, None, OpenCall, Option, Outcome, Pulse}
pub use Rattle.qkernel.proofs.Common.{Read, Send, SentItem, Some, State, Trace, Unblock, Write, [], all_filter_map, ap}
pub use Rattle.qkernel.proofs.Common.{append-nil, arith, best_of, common_steps, completion_to, drop, eq-eqb, eqb}
pub use Rattle.qkernel.proofs.Common.{facts_of, false, info_of, info_of_open, inl, inr, is_pulse, is_some, item_in}
pub use Rattle.qkernel.proofs.Common.{laid_count, laws_of, lay_over, length, length-append, makes, member_at, ne_eqb}
pub use Rattle.qkernel.proofs.Common.{none-some, number_of, open_call, option_and_then, pulse_same, receipt_completion}
pub use Rattle.qkernel.proofs.Common.{refl, row_of, same_Some, sender, sent_same, sent_way, subst, sym, take}
pub use Rattle.qkernel.proofs.Common.{threads_of, true, unblocked_same, ℕ, ◌++◌, ◌+◌, ◌-◌, ◌<◌, ◌∙◌, ◌∷◌, ◌≡◌}
pub use Rattle.qrules.proofs.Basics.{Delivers, call_laws, copied_count_of, delivery_meets, detach_ends, ended_below}
pub use Rattle.qrules.proofs.Basics.{ends_other, ends_own, filled, completes, is_ended, is_for_answer}
pub use Rattle.qrules.proofs.Basics.{is_unblocked, kept, kept_number, open_from, open_known, open_parts, passes_of}
pub use Rattle.qrules.proofs.Basics.{priority_of_item, receipt_for_answer, receive_takes, sender_sends, with_event}
pub use Rattle.qrules.proofs.Basics.{with_receipt}
pub use Rattle.qrules.proofs.Common.{HasProperties, IsCopied, Kind, Mark, ReceiveRequest, TakesBest, buffer_at}
pub use Rattle.qrules.proofs.Common.{buffer_of, effect_of, message_at, request_of, some_of}
pub use Rattle.std.proofs.Common.{IfOk, Result, T, append_assoc, below_more, drop-drop, drop-set-lt, get_or-set_same}
pub use Rattle.std.proofs.Common.{length-set, length-take-le, min, option_map, slice_get, take-append-drop}
pub use Rattle.std.proofs.Math.Seq.{drop-append_seam, take-append-add, take-append_seam, take-length}
pub use Rattle.std.proofs.lemmas.Bool.Decides.{leb_tells}
pub use Rattle.std.proofs.lemmas.Grind.{flat_map-append}
pub use Rattle.std.proofs.lemmas.List.{drop_all, take-append-le}
pub use Rattle.std.proofs.lemmas.Option.{slice_get_read, slice_get_within}
pub use Rattle.std_alloc.proofs.BoxSteps.Form.{B, Bx, D, P, R, args, box_ty, box_typed, handle, word, τ}
pub use Rattle.std_alloc.proofs.BoxSteps.Steps.{box_in, box_out}
pub use Rattle.std_alloc.specs.Box.Ownership.{box_owns}
pub use base.Fml.{Fml, GName, Lft, Share, flft, fsep, ftrue}
pub use base.Fraction.{full_share}
pub use base.Logic.{SProp, emp, ent, fst∗, id⊢, sep, via}
pub use contract.BorrowLft.{⊑_static, ◌⊑◌}
pub use contract.Monad.{Fun, fact, fact_i}
unfoldable pub use contract.Running.{tables, tables_of}
pub use denote.Exit.{no, yes}
pub use denote.RattleType.{RattleType, owns}
pub use denote.RawPtr.{block_ptr}
pub use denote.Signature.{mut_ref_to, plain}
pub use denote.Steps.{heard, nothing, only, opens}
pub use denote.Triple.Call.{calls_at_last}
pub use denote.Triple.Spec.{triple_of}
pub use denote.Triple.Statement.{Contract, Triple}
pub use denote.Triple.Table.{entered}
pub use denote.Triple.Walked.{Goes-dropped, Goes-spent_ref, Stays, ends_at, says, stay_dropped, walk_Meets, walk_of}
pub use denote.Triple.Walked.{walked}
pub use mir.Raw.{raw as bare}
pub use mir.Syntax.{assign, copy, dnil, impl, named, place, return, rv_opd, seq, tcons, tnil}
pub use mir.Val.{Val, WT, has_ty, vptr}
pub use prog.Memory.{Memory}
pub use prog.Routine.{Routine}
pub use prog.Wp.{Calls, Env, Loops, Tables, WpFn}
pub use seplogic.Ra.Ura.{Ura}
pub use sound.WpLaws.{WpFn-mono, fm_of}
pub use types.ByLocal.{alloc_all, env, free_all, get, get_in, lands_last, look_at, pass_all, sets, sets_last, through}
pub use types.Kit.{ !, at_ret, await, by, done, feq_i, fjoin, fpack, frame, fsplit, fsplit3, group, join, keep, later}
pub use types.Kit.{move, pick, qed, raw, rewrite, some, split, split3, suffices, use1, ‵, ◌$◌, ◌∵◌, ◌⊛◌}
pub use types.Logic.{Logic, sem}
pub use types.Part.{look_in, sub, whole}
pub use types.Run.{addr, and_then, blocks, enter, exec, first, fld, load, no_more, of_opd, returns, stop}
