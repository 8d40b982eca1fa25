-- `with` picks the trace of the new history. Assumes `Logic`.
use Rattle.qshared.proofs.PrefixCommon.{List, [], ◌∷◌, ◌++◌, refl, Ura, Fn, Val, vptr, SProp, ent, Memory, Routine}
use Rattle.qshared.proofs.PrefixCommon.{Calls, Loops, WpFn, Tables, Fun, WpFn-mono, Logic, ‵, raw, ◌⊛◌, prop, ◌$◌, ◌∵◌}
use Rattle.qshared.proofs.PrefixCommon.{ !, qed, move, keep, drop, split, fsplit, fjoin, feq_l, regoal, suffices, done}
use Rattle.qshared.proofs.PrefixCommon.{agg, enter, returns, no_more, alloc_all, pass_all, free_all, look_at, sets, yes}
use Rattle.qshared.proofs.PrefixCommon.{owns, RefOf, plain, types_at, nothing, Clauses, Ended, closing, alive, Meets}
use Rattle.qshared.proofs.PrefixCommon.{triple_of, entered, says, Stays, stay_dropped, walk_of, ends_at, walk_Meets}
use Rattle.qshared.proofs.PrefixCommon.{Goes-dropped, number}
use contract.Running.{tables, tables_of}
use Rattle.qshared.proofs.Walks.{none, none_made}
use Rattle.qshared.specs.contracts.ghost_trace.GhostTrace as GhostTrace
use Rattle.std.specs.contracts.snapshot.Snapshot as Snapshot
use Rattle.qbase.specs.contracts.ids.ThreadNo as ThreadNo
use Rattle.qmodel.specs.contracts.call.Call as Call
use Rattle.qmodel.specs.contracts.call.Completion as Completion
use Rattle.arrayvec.specs.contracts.array_vec.ArrayVec as ArrayVec
use Rattle.std.specs.contracts.alloc.Global as Global
use Rattle.qrules.proofs.Words.Lawful.{with_event}
use Rattle.qshared.specs.contracts.ghost_trace.GhostTrace.with as F
use Rattle.qshared.specs.contracts.ghost_trace.GhostTrace.with.Key.{name as #self}
use Rattle.qshared.proofs.ghost_trace.GhostTrace.with.Statement as stated
use Rattle.qshared.proofs.ghost_trace.GhostTrace.with.Code as code

abbrev function : Fn
function = code.function

abbrev ended : Ended
ended = F.ended

abbrev stayed : Stays ended.signature.params ended.kept
stayed = (stay_dropped _ yes, (stay_dropped _ yes, (stay_dropped _ yes, (stay_dropped _ yes, tt))))

module _ {M : Type 1} {𝓤 : Ura M} (𝓛 : Logic 𝓤) (at_mem : Memory → SProp 𝓤) (run : Routine → Fun 𝓤) where
  open 𝓛 use {H}

  abbrev held : Clauses 𝓤 ended
  held = F.clauses 𝓛 at_mem run

  module _ (C : Calls 𝓤 H) (Λ : Loops 𝓤 H) (z : (walk_of 𝓛 ended stayed held).Ghost) where
    abbrev Post : Val → SProp 𝓤
    Post = (walk_of 𝓛 ended stayed held).post z

    abbrev toks : SProp 𝓤
    toks = alive 𝓛 ended.signature z.0.0 z.0.1

    walks : ent 𝓤 ((walk_of 𝓛 ended stayed held).pre z)
        (WpFn 𝓤 H C Λ function ((walk_of 𝓛 ended stayed held).args z) Post)
    walks =
        let a = z.0.3 in
        let vss = z.0.4 in
        let u : Val = vptr a.0.ref_ptr.0 a.0.ref_ptr.1 in
        let v : Val = vptr a.1.0.ref_ptr.0 a.1.0.ref_ptr.1 in
        let w : Val = vptr a.1.1.0.ref_ptr.0 a.1.1.0.ref_ptr.1 in
        let x : Val = vptr a.1.1.1.0.ref_ptr.0 a.1.1.1.0.ref_ptr.1 in
        let past : (GhostTrace.the_row).Denot =
        record { trace = with_event a.1.0.now a.1.1.0.now.value a.1.1.1.0.now.items a.0.now.trace } in
        qed 𝓛 ((raw toks ⊛ ‵ (owns (types_at ended.signature.params z.0.0) a vss)) ∷ raw ((held z.0.0 a).requires z.1)
        ∷ []) ∵
        keep ! (0 ∷ []) $ split ! $ move ! (1 ∷ []) $ fsplit ! $ fsplit ! $ feq_l !
        (λ is₀. drop ! $ fsplit ! $ fsplit ! $ feq_l !
        (λ is₁. drop ! $ fsplit ! $ fsplit ! $ feq_l !
        (λ is₂. drop ! $ fsplit ! $ fsplit ! $ feq_l ! (λ is₃. drop ! $ drop ! $
        regoal !
        (λ (us : List Val). prop (WpFn 𝓤 H C Λ function (us ++ (vss.1.0 ++ (vss.1.1.0 ++ (vss.1.1.1.0 ++ [])))) Post))
        is₀ refl $
        regoal !
        (λ (us : List Val). prop (WpFn 𝓤 H C Λ function ((u ∷ []) ++ (us ++ (vss.1.1.0 ++ (vss.1.1.1.0 ++ [])))) Post))
        is₁ refl $
        regoal !
        (λ (us : List Val). prop (WpFn 𝓤 H C Λ function ((u ∷ []) ++ ((v ∷ []) ++ (us ++ (vss.1.1.1.0 ++ [])))) Post))
        is₂ refl $
        regoal !
        (λ (us : List Val). prop (WpFn 𝓤 H C Λ function ((u ∷ []) ++ ((v ∷ []) ++ ((w ∷ []) ++ (us ++ [])))) Post)) is₃
        refl $
        enter ! C Λ function (u ∷ v ∷ w ∷ x ∷ []) Post $ alloc_all !
        (λ l. pass_all ! refl ((tt, tt), ((tt, tt), ((tt, tt), ((tt, tt), tt)))) $
        sets ! (agg ! (no_more !)) refl (tt, tt) $
        nothing ! $ none_made ! $ fjoin ! $
        returns ! (look_at ! 0 refl) $ free_all ! refl $
        suffices ! _ (ends_at 𝓛 ended stayed held z none past (tt, (tt, (tt, (tt, tt)))) (
          tt,
          (tt, (tt, (tt, tt))),
        )) $ says ! refl $
        nothing ! $ nothing ! $ fjoin ! $ nothing ! $ fjoin ! $ nothing ! $ fjoin ! $ nothing ! $ fjoin ! $ move !
        (2 ∷ 0 ∷ 1 ∷ []) $ done !)))))

  meets : (𝓣 : Tables 𝓤 H) → Meets 𝓛 ended.signature (WpFn 𝓤 H 𝓣.C 𝓣.Λ function) (closing 𝓛 ended held)
  meets 𝓣 =
      walk_Meets 𝓛 ended stayed (
        Goes-dropped 𝓛 4 (RefOf (0 ∷ []) tt (plain (λ _. GhostTrace.the_row)) (λ _. tt)) yes (λ κs x f. refl),
        (
          Goes-dropped 𝓛 4 (RefOf (1 ∷ []) tt (plain (λ _. ThreadNo.the_row)) (λ _. tt)) yes (λ κs x f. refl),
          (
            Goes-dropped 𝓛 4 (RefOf (2 ∷ []) tt (plain (λ _. Snapshot.the_row Call.the_row)) (λ _. tt)) yes
                (λ κs x f. refl),
            (
              Goes-dropped 𝓛 4
                  (RefOf (3 ∷ []) tt (plain (λ _. ArrayVec.the_row Completion.the_row (number 64) Global.the_row))
                  (λ _. tt)) yes (λ κs x f. refl),
              tt,
            ),
          ),
        ),
      ) held
      (WpFn 𝓤 H 𝓣.C 𝓣.Λ function) (WpFn-mono 𝓤 H 𝓛.laws 𝓣 function) (walks 𝓣.C 𝓣.Λ)

pub with_spec : {M : Type 1} → stated.statement M
unfolding tables_of
with_spec 𝓤 𝓛 𝓜 𝓡 wired =
    let 𝓣 : Tables 𝓤 𝓛.H = tables_of 𝓤 𝓛.H 𝓜 (tables 𝓤 𝓛.H 𝓜 𝓡 𝓡.env) in
    entered 𝓤 𝓛.H (triple_of 𝓛 ended.signature (closing 𝓛 ended (held 𝓛 𝓜.mem 𝓡.returns))) 𝓣.C 𝓣.Λ #self function
    (code.unfolded 𝓤 𝓛.H 𝓜 𝓡 wired) (meets 𝓛 𝓜.mem 𝓡.returns 𝓣)
