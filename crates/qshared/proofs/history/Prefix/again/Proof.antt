-- `again` duplicates a prefix.
use Rattle.qshared.proofs.PrefixCommon.{◌≡◌, [], ◌∷◌, refl, proved, leaves, named, Val, vptr, emp, fact, fact_i, tables}
use Rattle.qshared.proofs.PrefixCommon.{‵, raw, ◌⊛◌, ◌$◌, ◌∵◌, !, qed, by, keep, drop, split, fsplit, fjoin, use0, agg}
use Rattle.qshared.proofs.PrefixCommon.{no_more, returns, enter, alloc_all, pass_all, free_all, look_at, sets, RefOf}
use Rattle.qshared.proofs.PrefixCommon.{yes, unhide, owns, shr_vals, shr_Tells, types_at, plain, nothing, alive, Stays}
use Rattle.qshared.proofs.PrefixCommon.{stay_dropped, walk_of, Goes-dropped}
use Rattle.qshared.proofs.Walks.{none, none_made}
use Rattle.qshared.specs.contracts.history.Prefix as Prefix
use Rattle.qshared.specs.contracts.history.Prefix.again.{ended, clauses}
use Rattle.qshared.specs.contracts.history.Prefix.again.Key.{name as #self}
use Rattle.qshared.proofs.history.Prefix.again.Statement.{statement}
use Rattle.qshared.proofs.history.Prefix.again.Code as code

pub again_spec : {M : Type 1} → statement M
again_spec 𝓤 𝓛 𝓜 𝓡 wired =
    let 𝓣 = tables 𝓤 𝓛.H 𝓜 𝓡 𝓡.env in
    let c = clauses 𝓛 𝓜.mem 𝓡.returns in
    let self = RefOf (0 ∷ []) tt (plain (λ _. Prefix.the_row)) (λ _. tt) in
    let stayed : Stays ended.signature.params ended.kept = (stay_dropped self yes, tt) in
    proved 𝓛 ended stayed c 𝓜 𝓡 (Goes-dropped 𝓛 1 self yes (λ κs x f. refl), tt) #self code.function
    (code.unfolded 𝓤 𝓛.H 𝓜 𝓡 wired)
    (λ κs. (shr_vals, tt)) (λ κs. (shr_Tells (named 0) κs.0 Prefix.the_row, tt)) (λ κs qs bounds a gh are.
    let s = a.0.now in
    let p : Val = vptr a.0.ref_ptr.0 a.0.ref_ptr.1 in
    let y : (walk_of 𝓛 ended stayed c).Ghost =
    ((κs, qs, bounds, a, (p ∷ [], tt)), gh) in
    qed 𝓛 ((raw (alive 𝓛 ended.signature κs qs) ⊛ ‵ (owns (types_at ended.signature.params κs) a y.0.4)) ∷ raw
    ((c κs a).requires gh) ∷ []) ∵
    split ! $ keep ! (1 ∷ 0 ∷ []) $ fsplit ! $ fsplit ! $ keep ! (1 ∷ 3 ∷ []) $ unhide ! $ fsplit ! $ drop ! $
    enter ! 𝓣.C 𝓣.Λ code.function (p ∷ []) _ $ alloc_all ! (λ l. pass_all ! refl ((tt, tt), tt) $
    sets ! (agg ! (no_more !)) refl (tt, tt) $ none_made ! $ fjoin ! $
    use0 𝓛 (raw (fact 𝓤 (s ≡ s))) (fact_i 𝓤 (s ≡ s) (emp 𝓤) refl) $ nothing ! $ nothing ! $ fjoin ! $
    returns ! (look_at ! 0 refl) $ free_all ! refl $ keep ! (3 ∷ 0 ∷ 2 ∷ 1 ∷ []) $ by !
    (leaves 𝓛 ended stayed c y none s (tt, tt) (tt, tt))))
