-- `ask` sets the name that both halves track. Assumes `Logic`.
use Rattle.qshared.proofs.PrefixCommon.{◌≡◌, List, [], ◌∷◌, ◌++◌, ℕ, ap, refl, sym, subst, Ura, Fn, Val, vunit, vptr}
use Rattle.qshared.proofs.PrefixCommon.{SProp, ent, via, fst∗, snd∗, Fml, ftrue, flft, WpFn, Model, Logic, sem}
use Rattle.qshared.proofs.PrefixCommon.{fact_use, WpFn-mono, ‵, raw, ◌⊛◌, ◌$◌, ◌∵◌, !, qed, by, move, keep, drop, split}
use Rattle.qshared.proofs.PrefixCommon.{join, fsplit, fsplit3, fjoin, fjoin3, suffices, frame, feq_i, rewrite}
use Rattle.qshared.proofs.PrefixCommon.{name_agree, name_set, unit_lit, of_opd, returns, enter, alloc_all, pass_all}
use Rattle.qshared.proofs.PrefixCommon.{free_all, look_at, sets, yes, RattleType, owns, RefOf, Are, Ises, owns_show}
use Rattle.qshared.proofs.PrefixCommon.{showss, types_at, plain, nothing, opens, closes, Clauses, Ended, closing}
use Rattle.qshared.proofs.PrefixCommon.{on_entry, alive, Meets, triple_of, entered, Stays, stay_dropped, stay_ref}
use Rattle.qshared.proofs.PrefixCommon.{walk_of, ends_at, Goes-dropped, Goes-ref, walk_Meets, calls_coded, heard_owns}
use contract.Running.{Running, MachineTables, tables, tables_of}
use contract.CodeStep
use Rattle.qshared.proofs.PrefixFacts.{hears_last, tells_all}
use Rattle.std.specs.contracts.snapshot.Snapshot as Snapshot
use Rattle.qmodel.specs.declared.call.Call.{Call as Asking}
use Rattle.qmodel.specs.contracts.call.Call as Call
use Rattle.qshared.specs.contracts.asking.PortCalls as PortCalls
use Rattle.qshared.specs.contracts.asking.KernelCalls as KernelCalls
use Rattle.qshared.specs.contracts.asking.PortCalls.ask as F
use Rattle.qshared.specs.contracts.asking.PortCalls.ask.Key.{name as #self}
use Rattle.qshared.proofs.asking.PortCalls.ask.Statement as stated
use Rattle.qshared.proofs.asking.PortCalls.ask.Code as code

abbrev function : Fn
function = code.function

abbrev ended : Ended
ended = F.ended

abbrev A : RattleType
A = PortCalls.the_row

abbrev B : RattleType
B = KernelCalls.the_row

abbrev stayed : Stays ended.signature.params ended.kept
stayed = (stay_ref (0 ∷ []) tt (plain (λ _. A)), (stay_ref (1 ∷ []) tt (plain (λ _. B)), (stay_dropped _ yes, tt)))

module _ {M : Type 1} {𝓤 : Ura M} (𝓛 : Logic 𝓤) (𝓜 : Model 𝓤 𝓛.H) (𝓡 : Running 𝓤 𝓛.H 𝓜) where
  open 𝓛 use {H}

  abbrev 𝓣 : MachineTables 𝓤 H 𝓜
  𝓣 = tables 𝓤 H 𝓜 𝓡 𝓡.env

  abbrev held : Clauses 𝓤 ended
  held = F.clauses 𝓛 𝓜.mem 𝓡.returns

  module _ (z : (walk_of 𝓛 ended stayed held).Ghost) where
    abbrev Vss : Type 0
    Vss = List Val × (List Val × (List Val × Unit {0}))

    abbrev At : Vss → (walk_of 𝓛 ended stayed held).Ghost
    At vss = ((z.0.0, z.0.1, z.0.2, z.0.3, vss), z.1)

    abbrev Goes : Vss → Type 1
    Goes vss =
        ent 𝓤 ((walk_of 𝓛 ended stayed held).pre (At vss))
        (WpFn 𝓤 H 𝓣.C 𝓣.Λ function ((walk_of 𝓛 ended stayed held).args (At vss))
        ((walk_of 𝓛 ended stayed held).post (At vss)))

    abbrev a : A.Denot
    a = z.0.3.0.now

    abbrev b : B.Denot
    b = z.0.3.1.0.now

    abbrev c : Asking
    c = z.0.3.1.1.0.now.value

    abbrev u : Val
    u = vptr z.0.3.0.ref_ptr.0 z.0.3.0.ref_ptr.1

    abbrev v : Val
    v = vptr z.0.3.1.0.ref_ptr.0 z.0.3.1.0.ref_ptr.1

    abbrev w : Val
    w = vptr z.0.3.1.1.0.ref_ptr.0 z.0.3.1.1.0.ref_ptr.1

    abbrev passed : Vss
    passed = (u ∷ [], (v ∷ [], (w ∷ [], tt)))

    abbrev args : Fml
    args = owns (types_at ended.signature.params z.0.0) z.0.3 passed

    abbrev asked : SProp 𝓤
    asked = (held z.0.0 z.0.3).requires z.1

    walks : Goes passed
    walks =
        let r = z.0.3.0 in
        let s = z.0.3.1.0 in
        let a' : A.Denot = record { name = a.name; calls = a.calls ++ c ∷ [] } in
        let b' : B.Denot =
        record { name = b.name; calls = a.calls ++ c ∷ [] } in
        qed 𝓛 (((‵ (flft z.0.0.0 z.0.1.0) ⊛ ‵ (flft z.0.0.1.0 z.0.1.1.0) ⊛ ‵
        (flft z.0.0.1.1.0 z.0.1.1.1.0) ⊛ ‵ ftrue) ⊛ ‵ args) ∷ raw asked ∷ []) ∵
        move ! (1 ∷ []) $ hears_last !
        (λ named. split ! $ split ! $ move ! (1 ∷ []) $ split ! $ move !
        (3 ∷ []) $ fsplit ! $ fsplit3 ! $ drop ! $ move ! (2 ∷ []) $ fsplit ! $ fsplit3 ! $ drop ! $
        keep ! (3 ∷ 4 ∷ 7 ∷ 0 ∷ 1 ∷ 5 ∷ 6 ∷ []) $ enter ! 𝓣.C 𝓣.Λ function (u ∷ v ∷ w ∷ []) _ $ alloc_all !
        (λ l. pass_all ! refl ((tt, tt), ((tt, tt), ((tt, tt), tt))) $
        opens ! tt A r.ref_ptr.0 r.ref_ptr.1
        (λ cs. move ! (5 ∷ 6 ∷ 7 ∷ []) $ opens ! tt B s.ref_ptr.0 s.ref_ptr.1
        (λ ds. move ! (1 ∷ []) $ fsplit ! $ move ! (7 ∷ []) $ fsplit ! $ move ! (1 ∷ 3 ∷ []) $
        rewrite ! 1 (λ (n : ℕ). ‵ (heard_owns n b.calls)) {x = a.name} {y = b.name} (sym named) refl $
        name_agree ! calls_coded (λ same. name_set ! tt (calls_coded.code (a.calls ++ c ∷ [])) $
        rewrite ! 1 (λ (n : ℕ). ‵ (heard_owns n b'.calls)) {x = b.name} {y = a.name} named refl $
        move ! (2 ∷ 0 ∷ []) $ fjoin ! $ move ! (2 ∷ 1 ∷ []) $ fjoin ! $
        move ! (2 ∷ 0 ∷ 3 ∷ 4 ∷ 5 ∷ []) $ closes ! tt B b' ds s.ref_ptr.0 s.ref_ptr.1 $ move !
        (4 ∷ 3 ∷ 5 ∷ 6 ∷ 7 ∷ []) $ closes ! tt A a' cs r.ref_ptr.0 r.ref_ptr.1 $
        sets ! (of_opd ! (unit_lit !)) refl (tt, tt) $ returns ! (look_at ! 0 refl) $ free_all ! refl $ suffices ! _
        (ends_at 𝓛 ended stayed held (At passed) vunit tt (a', (b', (tt, tt))) (tt, (tt, (tt, tt)))) $
        feq_i ! (List Val) (u ∷ []) (u ∷ []) refl $ fjoin3 ! $ move ! (2 ∷ 3 ∷ []) $ feq_i ! (List Val) (v ∷ [])
        (v ∷ []) refl $ fjoin3 ! $ nothing ! $ nothing ! $ fjoin ! $ move ! (1 ∷ 0 ∷ []) $ fjoin ! $ move !
        (1 ∷ 0 ∷ []) $ fjoin ! $
        feq_i ! (List Val) (vunit ∷ []) (vunit ∷ []) refl $ move ! (1 ∷ 0 ∷ []) $ join ! $ move !
        (2 ∷ 3 ∷ []) $ join ! $ move ! (2 ∷ 0 ∷ []) $ join ! $ join ! $ frame ! $
        by ! (tells_all 𝓤 ((a.name ≡ a.name) ∷ (b.name ≡ b.name) ∷ (a.calls ≡ b.calls) ∷ (a'.calls ≡ a.calls ++ c ∷ [])
        ∷ (b'.calls ≡ b.calls ++ c ∷ []) ∷ [])
        (refl, (refl, (same, (refl, ap (λ xs. xs ++ c ∷ []) same))))))))))

  meets : Meets 𝓛 ended.signature (WpFn 𝓤 H 𝓣.C 𝓣.Λ function) (closing 𝓛 ended held)
  unfolding tables_of contract.CodeStep.c_Tables
  meets =
      walk_Meets 𝓛 ended stayed (
        Goes-ref 𝓛 3 0 tt (plain (λ _. A)),
        (
          Goes-ref 𝓛 3 1 tt (plain (λ _. B)),
          (
            Goes-dropped 𝓛 3 (RefOf (2 ∷ []) tt (plain (λ _. Snapshot.the_row Call.the_row)) (λ _. tt)) yes
                (λ κs x f. refl),
            tt,
          ),
        ),
      ) held
      (WpFn 𝓤 H 𝓣.C 𝓣.Λ function) (WpFn-mono 𝓤 H 𝓛.laws (tables_of 𝓤 H 𝓜 𝓣) function)
      (λ z. let a = z.0.3 in
      let vss = z.0.4 in
      let Rs : List RattleType = types_at ended.signature.params z.0.0 in
      let On : SProp 𝓤 = on_entry 𝓛 ended.signature z.0.0 z.0.1 a vss in
      fact_use 𝓤 (Are Rs (Ises Rs) a vss)
      (via 𝓤 (sem 𝓛 (owns Rs a vss))
      (via 𝓤 On (fst∗ 𝓤 On (asked z)) (snd∗ 𝓤 (alive 𝓛 ended.signature z.0.0 z.0.1) (sem 𝓛 (owns Rs a vss))))
      (owns_show 𝓛 Rs (Ises Rs) (showss 𝓛 Rs) a vss)) (λ are.
      subst (Goes z) (λ i. (sym are.0.0 i, (sym are.1.0.0 i, (sym are.1.1.0.0 i, tt)))) (walks z)))

pub ask_spec : {M : Type 1} → stated.statement M
ask_spec 𝓤 𝓛 𝓜 𝓡 wired = let 𝓣' = tables 𝓤 𝓛.H 𝓜 𝓡 𝓡.env in
    entered 𝓤 𝓛.H (triple_of 𝓛 ended.signature (closing 𝓛 ended (held 𝓛 𝓜 𝓡))) 𝓣'.C 𝓣'.Λ #self function
    (code.unfolded 𝓤 𝓛.H 𝓜 𝓡 wired) (meets 𝓛 𝓜 𝓡)
