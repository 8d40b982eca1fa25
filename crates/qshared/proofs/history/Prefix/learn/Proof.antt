-- `learn` keeps the longer of two prefixes of one history.
use Rattle.qshared.proofs.PrefixCommon.{◌≡◌, List, [], ◌∷◌, ℕ, refl, sym, proved, leaves, named, Val, vunit, vptr, Fml}
use Rattle.qshared.proofs.PrefixCommon.{ftrue, fsep, flft, tables, ‵, raw, given, learn, ◌⊛◌, ◌$◌, ◌∵◌, !, qed, by}
use Rattle.qshared.proofs.PrefixCommon.{move, keep, drop, split, fsplit, fsplit3, fjoin, fjoin3, use0, use2, rewrite}
use Rattle.qshared.proofs.PrefixCommon.{feq_i, unit_lit, of_opd, returns, enter, alloc_all, pass_all, free_all, look_at}
use Rattle.qshared.proofs.PrefixCommon.{sets, RefOf, yes, unhide, owns, mut_vals, mut_Tells, shr_vals, shr_Tells}
use Rattle.qshared.proofs.PrefixCommon.{types_at, plain, nothing, opens, closes, Stays, stay_dropped, stay_ref, walk_of}
use Rattle.qshared.proofs.PrefixCommon.{Goes-dropped, Goes-ref, Extends, longer, seen_owns}
use Rattle.qshared.proofs.PrefixFacts.{facts, hears_last, tells_all}
use Rattle.qshared.proofs.Pasts.{Learned, learns}
use Rattle.qshared.specs.contracts.history.Prefix as Prefix
use Rattle.qshared.specs.contracts.history.Prefix.learn.{ended, clauses}
use Rattle.qshared.specs.contracts.history.Prefix.learn.Key.{name as #self}
use Rattle.qshared.proofs.history.Prefix.learn.Statement.{statement}
use Rattle.qshared.proofs.history.Prefix.learn.Code as code

pub learn_spec : {M : Type 1} → statement M
learn_spec 𝓤 𝓛 𝓜 𝓡 wired =
    let 𝓣 = tables 𝓤 𝓛.H 𝓜 𝓡 𝓡.env in
    let c = clauses 𝓛 𝓜.mem 𝓡.returns in
    let A = Prefix.the_row in
    let other = RefOf (1 ∷ []) tt (plain (λ _. A)) (λ _. tt) in
    let stayed : Stays ended.signature.params ended.kept =
    (stay_ref (0 ∷ []) tt (plain (λ _. A)), (stay_dropped other yes, tt)) in
    proved 𝓛 ended stayed c 𝓜 𝓡 (
      Goes-ref 𝓛 2 0 tt (plain (λ _. A)),
      (Goes-dropped 𝓛 2 other yes (λ κs x f. refl), tt),
    ) #self code.function (code.unfolded 𝓤 𝓛.H 𝓜 𝓡 wired)
    (λ κs. (mut_vals, (shr_vals, tt))) (λ κs. (mut_Tells (named 0) κs.0 A, (shr_Tells (named 1) κs.1.0 A, tt)))
    (λ κs qs bounds a gh are.
    let r = a.0 in
    let d = r.now in
    let e = a.1.0.now in
    let d' : A.Denot =
    record { name = d.name; trace = longer d.trace e.trace } in
    let u : Val = vptr r.ref_ptr.0 r.ref_ptr.1 in
    let v : Val = vptr a.1.0.ref_ptr.0 a.1.0.ref_ptr.1 in
    let y : (walk_of 𝓛 ended stayed c).Ghost = ((κs, qs, bounds, a, (u ∷ [], (v ∷ [], tt))), gh) in
    let toks : Fml = fsep (flft κs.0 qs.0) (fsep (flft κs.1.0 qs.1.0) ftrue) in
    let told : List (Type 0) =
    (d.name ≡ d.name) ∷ (d'.trace ≡ longer d.trace e.trace) ∷ Extends d'.trace d.trace ∷ Extends d'.trace e.trace
    ∷ [] in
    qed 𝓛 ((‵ toks ⊛ ‵ (owns (types_at ended.signature.params κs) a y.0.4)) ∷ raw ((c κs a).requires gh) ∷ []) ∵
    move ! (1 ∷ []) $ hears_last !
    (λ one. split ! $ fsplit ! $ move ! (1 ∷ []) $ fsplit ! $ move ! (3 ∷ []) $ fsplit ! $ fsplit3 ! $ move !
    (3 ∷ []) $ fsplit ! $ fsplit ! $ keep ! (1 ∷ 4 ∷ 5 ∷ 6 ∷ 7 ∷ 8 ∷ []) $
    enter ! 𝓣.C 𝓣.Λ code.function (u ∷ v ∷ []) _ $ alloc_all ! (λ l. pass_all ! refl ((tt, tt), ((tt, tt), tt)) $
    unhide ! $ fsplit ! $ drop ! $ rewrite ! 0 (λ (n : ℕ). ‵ (seen_owns n e.trace)) {x = d.name} {y = e.name}
    (sym one) refl $
    move ! (1 ∷ 2 ∷ 5 ∷ []) $ opens ! tt A r.ref_ptr.0 r.ref_ptr.1
    (λ cs. move ! (1 ∷ []) $ fsplit ! $ move ! (1 ∷ 6 ∷ []) $
    use2 𝓛 (given (Learned 𝓛 d.trace e.trace) (‵ (seen_owns d.name d'.trace)))
    (learns 𝓛 d.name d.trace e.trace) $ learn ! (λ extends. move ! (1 ∷ 0 ∷ []) $ fjoin ! $
    move ! (1 ∷ 0 ∷ 2 ∷ 3 ∷ 4 ∷ []) $ closes ! tt A d' cs r.ref_ptr.0 r.ref_ptr.1 $ sets ! (of_opd ! (unit_lit !)) refl
    (tt, tt) $ feq_i ! (List Val) (vunit ∷ []) (vunit ∷ []) refl $
    move ! (4 ∷ 5 ∷ []) $ fjoin ! $ move ! (4 ∷ 0 ∷ []) $ fjoin ! $ nothing ! $ nothing ! $ fjoin ! $ feq_i !
    (List Val) (u ∷ []) (u ∷ []) refl $ move ! (0 ∷ 4 ∷ 5 ∷ []) $ fjoin3 ! $ fjoin ! $
    use0 𝓛 (raw (facts 𝓤 told)) (tells_all 𝓤 told (refl, (refl, (extends.0, extends.1)))) $
    returns ! (look_at ! 0 refl) $ free_all ! refl $ keep ! (2 ∷ 1 ∷ 3 ∷ 0 ∷ []) $ by !
    (leaves 𝓛 ended stayed c y vunit tt (d', (tt, tt)) (tt, (tt, tt))))))))
