-- `agree` reads the name that both halves track. Assumes `Logic`.
use Rattle.qshared.proofs.PrefixCommon.{◌≡◌, List, [], ◌∷◌, ℕ, refl, sym, subst, Ura, Fn, Val, vunit, vptr, SProp, ent}
use Rattle.qshared.proofs.PrefixCommon.{via, fst∗, snd∗, Fml, ftrue, flft, WpFn, Model, Logic, sem, fact_use, WpFn-mono}
use Rattle.qshared.proofs.PrefixCommon.{‵, raw, ◌⊛◌, ◌$◌, ◌∵◌, !, qed, by, move, keep, drop, split, join, fsplit}
use Rattle.qshared.proofs.PrefixCommon.{fsplit3, fjoin, fjoin3, suffices, frame, feq_i, rewrite, name_agree, unit_lit}
use Rattle.qshared.proofs.PrefixCommon.{of_opd, returns, enter, alloc_all, pass_all, free_all, look_at, sets}
use Rattle.qshared.proofs.PrefixCommon.{RattleType, owns, Are, Ises, owns_show, showss, types_at, plain, nothing, opens}
use Rattle.qshared.proofs.PrefixCommon.{closes, Clauses, Ended, closing, on_entry, alive, Meets, triple_of, entered}
use Rattle.qshared.proofs.PrefixCommon.{Stays, stay_ref, walk_of, ends_at, Goes-ref, walk_Meets, calls_coded}
use Rattle.qshared.proofs.PrefixCommon.{heard_owns}
use contract.Running.{Running, MachineTables, tables, tables_of}
use contract.CodeStep
use Rattle.qshared.proofs.PrefixFacts.{hears_last, tells_all}
use Rattle.qshared.specs.contracts.asking.PortCalls as PortCalls
use Rattle.qshared.specs.contracts.asking.KernelCalls as KernelCalls
use Rattle.qshared.specs.contracts.asking.PortCalls.agree as F
use Rattle.qshared.specs.contracts.asking.PortCalls.agree.Key.{name as #self}
use Rattle.qshared.proofs.asking.PortCalls.agree.Statement as stated
use Rattle.qshared.proofs.asking.PortCalls.agree.Code as code

abbrev function : Fn
function = code.function

abbrev ended : Ended
ended = F.ended

abbrev A : RattleType
A = PortCalls.the_row

abbrev B : RattleType
B = KernelCalls.the_row

abbrev stayed : Stays ended.signature.params ended.kept
stayed = (stay_ref (0 ∷ []) tt (plain (λ _. A)), (stay_ref (1 ∷ []) tt (plain (λ _. B)), tt))

module _ {M : Type 1} {𝓤 : Ura M} (𝓛 : Logic 𝓤) (𝓜 : Model 𝓤 𝓛.H) (𝓡 : Running 𝓤 𝓛.H 𝓜) where
  open 𝓛 use {H}

  abbrev 𝓣 : MachineTables 𝓤 H 𝓜
  𝓣 = tables 𝓤 H 𝓜 𝓡 𝓡.env

  abbrev held : Clauses 𝓤 ended
  held = F.clauses 𝓛 𝓜.mem 𝓡.returns

  module _ (z : (walk_of 𝓛 ended stayed held).Ghost) where
    abbrev Vss : Type 0
    Vss = List Val × (List Val × Unit {0})

    abbrev At : Vss → (walk_of 𝓛 ended stayed held).Ghost
    At vss = ((z.0.0, z.0.1, z.0.2, z.0.3, vss), z.1)

    abbrev Goes : Vss → Type 1
    Goes vss =
        ent 𝓤 ((walk_of 𝓛 ended stayed held).pre (At vss))
        (WpFn 𝓤 H 𝓣.C 𝓣.Λ function ((walk_of 𝓛 ended stayed held).args (At vss))
        ((walk_of 𝓛 ended stayed held).post (At vss)))

    abbrev a : A.Denot
    a = z.0.3.0.now

    abbrev b : B.Denot
    b = z.0.3.1.0.now

    abbrev u : Val
    u = vptr z.0.3.0.ref_ptr.0 z.0.3.0.ref_ptr.1

    abbrev v : Val
    v = vptr z.0.3.1.0.ref_ptr.0 z.0.3.1.0.ref_ptr.1

    abbrev passed : Vss
    passed = (u ∷ [], (v ∷ [], tt))

    abbrev args : Fml
    args = owns (types_at ended.signature.params z.0.0) z.0.3 passed

    abbrev asked : SProp 𝓤
    asked = (held z.0.0 z.0.3).requires z.1

    walks : Goes passed
    walks =
        let r = z.0.3.0 in
        let s = z.0.3.1.0 in
        qed 𝓛 (((‵ (flft z.0.0.0 z.0.1.0) ⊛ ‵ (flft z.0.0.1.0 z.0.1.1.0) ⊛ ‵ ftrue) ⊛ ‵ args) ∷ raw asked ∷ []) ∵
        move ! (1 ∷ []) $ hears_last !
        (λ named. split ! $ split ! $ move ! (1 ∷ []) $ split ! $ move !
        (3 ∷ []) $ fsplit ! $ fsplit3 ! $ drop ! $ move ! (2 ∷ []) $ fsplit ! $ fsplit3 ! $ drop ! $
        keep ! (3 ∷ 4 ∷ 7 ∷ 0 ∷ 1 ∷ 5 ∷ 6 ∷ []) $ enter ! 𝓣.C 𝓣.Λ function (u ∷ v ∷ []) _ $ alloc_all !
        (λ l. pass_all ! refl ((tt, tt), ((tt, tt), tt)) $
        opens ! tt A r.ref_ptr.0 r.ref_ptr.1
        (λ cs. move ! (5 ∷ 6 ∷ 7 ∷ []) $ opens ! tt B s.ref_ptr.0 s.ref_ptr.1
        (λ ds. move ! (1 ∷ []) $ fsplit ! $ move ! (7 ∷ []) $ fsplit ! $ move ! (1 ∷ 3 ∷ []) $
        rewrite ! 1 (λ (n : ℕ). ‵ (heard_owns n b.calls)) {x = a.name} {y = b.name} (sym named) refl $
        name_agree ! calls_coded (λ same.
        rewrite ! 1 (λ (n : ℕ). ‵ (heard_owns n b.calls)) {x = b.name} {y = a.name} named refl $
        move ! (2 ∷ 0 ∷ []) $ fjoin ! $ move ! (2 ∷ 1 ∷ []) $ fjoin ! $
        move ! (2 ∷ 0 ∷ 3 ∷ 4 ∷ 5 ∷ []) $ closes ! tt B b ds s.ref_ptr.0 s.ref_ptr.1 $ move !
        (4 ∷ 3 ∷ 5 ∷ 6 ∷ 7 ∷ []) $ closes ! tt A a cs r.ref_ptr.0 r.ref_ptr.1 $
        sets ! (of_opd ! (unit_lit !)) refl (tt, tt) $ returns ! (look_at ! 0 refl) $ free_all ! refl $ suffices ! _
        (ends_at 𝓛 ended stayed held (At passed) vunit tt (a, (b, tt)) (tt, (tt, tt))) $
        feq_i ! (List Val) (u ∷ []) (u ∷ []) refl $ fjoin3 ! $ move ! (2 ∷ 3 ∷ []) $ feq_i ! (List Val) (v ∷ [])
        (v ∷ []) refl $ fjoin3 ! $ nothing ! $ move ! (1 ∷ 0 ∷ []) $ fjoin ! $ move ! (1 ∷ 0 ∷ []) $ fjoin ! $
        feq_i ! (List Val) (vunit ∷ []) (vunit ∷ []) refl $ move ! (1 ∷ 0 ∷ []) $ join ! $ move !
        (2 ∷ 3 ∷ []) $ join ! $ move ! (2 ∷ 0 ∷ []) $ join ! $ join ! $ frame ! $
        by ! (tells_all 𝓤 ((a ≡ a) ∷ (b ≡ b) ∷ (a.calls ≡ b.calls) ∷ []) (refl, (refl, same))))))))

  meets : Meets 𝓛 ended.signature (WpFn 𝓤 H 𝓣.C 𝓣.Λ function) (closing 𝓛 ended held)
  unfolding tables_of contract.CodeStep.c_Tables
  meets =
      walk_Meets 𝓛 ended stayed (Goes-ref 𝓛 2 0 tt (plain (λ _. A)), (Goes-ref 𝓛 2 1 tt (plain (λ _. B)), tt)) held
      (WpFn 𝓤 H 𝓣.C 𝓣.Λ function) (WpFn-mono 𝓤 H 𝓛.laws (tables_of 𝓤 H 𝓜 𝓣) function)
      (λ z. let a = z.0.3 in
      let vss = z.0.4 in
      let Rs : List RattleType = types_at ended.signature.params z.0.0 in
      let On : SProp 𝓤 = on_entry 𝓛 ended.signature z.0.0 z.0.1 a vss in
      fact_use 𝓤 (Are Rs (Ises Rs) a vss)
      (via 𝓤 (sem 𝓛 (owns Rs a vss))
      (via 𝓤 On (fst∗ 𝓤 On (asked z)) (snd∗ 𝓤 (alive 𝓛 ended.signature z.0.0 z.0.1) (sem 𝓛 (owns Rs a vss))))
      (owns_show 𝓛 Rs (Ises Rs) (showss 𝓛 Rs) a vss)) (λ are.
      subst (Goes z) (λ i. (sym are.0.0 i, (sym are.1.0.0 i, tt))) (walks z)))

pub agree_spec : {M : Type 1} → stated.statement M
agree_spec 𝓤 𝓛 𝓜 𝓡 wired = let 𝓣' = tables 𝓤 𝓛.H 𝓜 𝓡 𝓡.env in
    entered 𝓤 𝓛.H (triple_of 𝓛 ended.signature (closing 𝓛 ended (held 𝓛 𝓜 𝓡))) 𝓣'.C 𝓣'.Λ #self function
    (code.unfolded 𝓤 𝓛.H 𝓜 𝓡 wired) (meets 𝓛 𝓜 𝓡)
