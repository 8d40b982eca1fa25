-- `halves` makes the name that both halves track. Assumes `Logic`.
use Rattle.qshared.proofs.PrefixCommon.{◌≡◌, List, [], ◌∷◌, ◌++◌, refl, Ura, Fn, Val, vstruct, vcons, vnil, of_list}
use Rattle.qshared.proofs.PrefixCommon.{SProp, ent, feq, fsep, Memory, Routine, Calls, Loops, WpFn, Tables, Fun}
use Rattle.qshared.proofs.PrefixCommon.{WpFn-mono, Logic, ‵, raw, ◌⊛◌, ◌$◌, ◌∵◌, !, qed, by, move, keep, drop, split}
use Rattle.qshared.proofs.PrefixCommon.{join, fjoin, fjoin3, fpack, feq_i, suffices, frame, name_new, agg, enter}
use Rattle.qshared.proofs.PrefixCommon.{returns, no_more, and_then, alloc_all, pass_all, free_all, look_at, get, sets}
use Rattle.qshared.proofs.PrefixCommon.{RattleType, Valss, owns, types_at, nothing, Clauses, Ended, closing, alive}
use Rattle.qshared.proofs.PrefixCommon.{Meets, triple_of, entered, Stays, walk_of, ends_at, walk_Meets, calls_coded}
use contract.Running.{tables, tables_of}
use Rattle.qshared.proofs.Walks.{none, none_made}
use Rattle.qshared.proofs.PrefixFacts.{tells_all}
use Rattle.qshared.specs.contracts.asking.PortCalls as PortCalls
use Rattle.qshared.specs.contracts.asking.KernelCalls as KernelCalls
use Rattle.qshared.specs.contracts.asking.halves as F
use Rattle.qshared.specs.contracts.asking.halves.Key.{name as #self}
use Rattle.qshared.proofs.asking.halves.Statement as stated
use Rattle.qshared.proofs.asking.halves.Code as code

abbrev function : Fn
function = code.function

abbrev ended : Ended
ended = F.ended

abbrev A : RattleType
A = PortCalls.the_row

abbrev B : RattleType
B = KernelCalls.the_row

abbrev both : Val
both = vstruct (vcons none (vcons none vnil))

abbrev stayed : Stays ended.signature.params ended.kept
stayed = tt

module _ {M : Type 1} {𝓤 : Ura M} (𝓛 : Logic 𝓤) (at_mem : Memory → SProp 𝓤) (run : Routine → Fun 𝓤) where
  open 𝓛 use {H}

  abbrev held : Clauses 𝓤 ended
  held = F.clauses 𝓛 at_mem run

  module _ (C : Calls 𝓤 H) (Λ : Loops 𝓤 H) (z : (walk_of 𝓛 ended stayed held).Ghost) where
    abbrev Post : Val → SProp 𝓤
    Post = (walk_of 𝓛 ended stayed held).post z

    abbrev toks : SProp 𝓤
    toks = alive 𝓛 ended.signature z.0.0 z.0.1

    walks : ent 𝓤 ((walk_of 𝓛 ended stayed held).pre z)
        (WpFn 𝓤 H C Λ function ((walk_of 𝓛 ended stayed held).args z) Post)
    walks =
        let a = z.0.3 in
        let vss = z.0.4 in
        qed 𝓛 ((raw toks ⊛ ‵ (owns (types_at ended.signature.params z.0.0) a vss)) ∷ raw ((held z.0.0 a).requires z.1)
        ∷ []) ∵
        keep ! (0 ∷ []) $ split ! $ move ! (1 ∷ []) $ drop ! $
        enter ! C Λ function [] Post $ alloc_all ! (λ l. pass_all ! refl tt $
        name_new ! tt (calls_coded.code []) (λ γ.
        let asked : A.Denot = record { name = γ; calls = [] } in
        let heard : B.Denot = record { name = γ; calls = [] } in
        sets ! (agg ! (no_more !)) refl (tt, tt) $ sets ! (agg ! (no_more !)) refl (tt, tt) $
        sets ! (agg ! (and_then ! (get ! refl) (and_then ! (get ! refl) (no_more !)))) refl (tt, (tt, (tt, tt))) $
        none_made ! $ fjoin ! $ move ! (1 ∷ []) $ none_made ! $ fjoin ! $
        returns ! (look_at ! 0 refl) $ free_all ! refl $
        suffices ! _ (ends_at 𝓛 ended stayed held z both (asked, heard) tt tt) $
        nothing ! $ move ! (2 ∷ 1 ∷ 0 ∷ []) $ fjoin3 ! $ feq_i ! (List Val) (both ∷ []) (both ∷ []) refl $ fjoin ! $
        fpack ! (Valss (A ∷ B ∷ []))
        (λ vss. fsep (feq (List Val) (both ∷ []) (vstruct (of_list (vss.0 ++ (vss.1.0 ++ []))) ∷ []))
        (owns (A ∷ B ∷ []) (asked, (heard, tt)) vss)) (none ∷ [], (none ∷ [], tt)) $
        nothing ! $ join ! $ move ! (1 ∷ []) $ join ! $ frame ! $ by !
        (tells_all 𝓤 ((γ ≡ γ) ∷ (asked.calls ≡ []) ∷ (heard.calls ≡ []) ∷ []) (refl, (refl, refl)))))

  meets : (𝓣 : Tables 𝓤 H) → Meets 𝓛 ended.signature (WpFn 𝓤 H 𝓣.C 𝓣.Λ function) (closing 𝓛 ended held)
  meets 𝓣 =
      walk_Meets 𝓛 ended stayed tt held
      (WpFn 𝓤 H 𝓣.C 𝓣.Λ function) (WpFn-mono 𝓤 H 𝓛.laws 𝓣 function) (walks 𝓣.C 𝓣.Λ)

pub halves_spec : {M : Type 1} → stated.statement M
unfolding tables_of
halves_spec 𝓤 𝓛 𝓜 𝓡 wired =
    let 𝓣 : Tables 𝓤 𝓛.H = tables_of 𝓤 𝓛.H 𝓜 (tables 𝓤 𝓛.H 𝓜 𝓡 𝓡.env) in
    entered 𝓤 𝓛.H (triple_of 𝓛 ended.signature (closing 𝓛 ended (held 𝓛 𝓜.mem 𝓡.returns))) 𝓣.C 𝓣.Λ #self function
    (code.unfolded 𝓤 𝓛.H 𝓜 𝓡 wired) (meets 𝓛 𝓜.mem 𝓡.returns 𝓣)
