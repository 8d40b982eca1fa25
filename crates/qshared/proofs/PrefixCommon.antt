-- Names of other crates and of the definitions, which many of these proofs use.
pub use Rattle.qmodel.specs.Trace.{Event, Trace}
pub use Rattle.qshared.specs.Halves.{calls_coded, heard_owns}
pub use Rattle.qshared.specs.History.{Extends, history_owns, longer, pasts, seen_owns}
pub use Rattle.qshared.specs.contracts.history.Prefix.{the_row, the_type}
pub use Rattle.std.proofs.Common.{Bool, List, [], ap, arith, cond, false, leb, leb-false, leb-true, length, refl}
pub use Rattle.std.proofs.Common.{reverse, subst, sym, true, ℕ, ◌++◌, ◌∙◌, ◌∷◌, ◌≡◌, ◌≤◌}
pub use Rattle.std.proofs.raw_atomic.Walks.{leaves, proved}
pub use base.Fml.{Fml, Lft, fbor, feq, flft, fsep, ftrue}
pub use base.Logic.{SProp, apply∗, emp, emp∗, ent, ex, fst∗, guard, id⊢, mono∗, sep, snd∗, via, wand}
pub use contract.Monad.{Fun, fact, fact_i, fact_use}
pub use contract.Running.{tables}
pub use denote.Builtin.{RefOf}
pub use denote.Exit.{yes}
pub use denote.Laws.{Are, Ises, owns_show, showss}
pub use denote.Opens.{unhide}
pub use denote.Param.{number}
pub use denote.Param.Send.{IsSend, IsSync, sendable}
pub use denote.RattleType.{RattleType, Valss, owns}
pub use denote.Ref.{mut_Tells, mut_vals, shr_Tells, shr_vals}
pub use denote.Signature.{plain, types_at}
pub use denote.Steps.{closes, nothing, opens}
pub use denote.Struct.Lending.{Lends, of_Lends}
pub use denote.Struct.Struct.{Struct, within}
pub use denote.Triple.Clauses.{Clauses, Ended, closing}
pub use denote.Triple.Entry.{alive, on_entry}
pub use denote.Triple.Spec.{Meets, triple_of}
pub use denote.Triple.Table.{entered}
pub use denote.Triple.Walked.{Goes-dropped, Goes-ref, Stays, ends_at, says, stay_dropped, stay_ref, walk_Meets, walk_of}
pub use mir.Syntax.{Fn, named}
pub use mir.Val.{Val, of_list, vcons, vnil, vptr, vstruct, vunit}
pub use prog.Memory.{Memory}
pub use prog.Model.{Model}
pub use prog.Routine.{Routine}
pub use prog.Wp.{Calls, Loops, Tables, WpFn}
pub use seplogic.Ra.Ura.{Ura}
pub use sound.WpLaws.{WpFn-mono}
pub use types.ByLocal.{alloc_all, free_all, get, look_at, pass_all, sets}
pub use types.Kit.{ !, Goal, Item, Seq, Step, await, by, check, done, drop, feq_i, feq_l, fjoin, fjoin3, fpack, frame}
pub use types.Kit.{fsplit, fsplit3, given, join, keep, later, learn, move, now, pick, prop, qed, raw, regoal, rewrite}
pub use types.Kit.{some, split, step, suffices, updating, use0, use1, use2, ‵, ◌$◌, ◌∵◌, ◌⊛◌}
pub use types.Logic.{Logic, lfts, sem}
pub use types.Part.{agg}
pub use types.Run.{and_then, enter, no_more, of_opd, returns, unit_lit}
pub use types.Tokens.{name_agree, name_new, name_set}
