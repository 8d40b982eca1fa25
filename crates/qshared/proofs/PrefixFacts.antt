-- Facts that a walk gets at its start and gives at its end. Assumes `Logic`.
use Rattle.qshared.proofs.PrefixCommon.{List, [], ◌∷◌, Ura, SProp, ent, sep, emp, id⊢, via, emp∗, mono∗, ftrue, Logic}
use Rattle.qshared.proofs.PrefixCommon.{fact, fact_i, Item, Goal, Seq, ‵, raw, ◌⊛◌, given, ◌$◌, drop, split, learn}
use Rattle.qshared.proofs.PrefixCommon.{use1}
use borrow.Fn.Claims.{AllOf}

module _ {M : Type 1} {𝓤 : Ura M} {𝓛 : Logic 𝓤} {K : Type 0} {Γ : List (Item 𝓤)} where
  pub hears_last : K → {G : Goal 𝓤 𝓛.H} {φ : Type 0} → (φ → Seq K 𝓛 Γ G) → Seq K 𝓛 (raw (fact 𝓤 φ) ∷ Γ) G
  hears_last t {G} {φ} k = use1 𝓛 (given φ (‵ ftrue)) (id⊢ 𝓤 _) $ learn t (λ x. drop t $ k x)

module _ {M : Type 1} (𝓤 : Ura M) where
  abbrev pub facts : List (Type 0) → SProp 𝓤
  facts [] = emp 𝓤
  facts (φ ∷ []) = fact 𝓤 φ
  facts (φ ∷ ψ ∷ φs) = sep 𝓤 (fact 𝓤 φ) (facts (ψ ∷ φs))

  pub tells_all : (φs : List (Type 0)) → AllOf φs → ent 𝓤 (emp 𝓤) (facts φs)
  tells_all [] all = id⊢ 𝓤 (emp 𝓤)
  tells_all (φ ∷ []) all = fact_i 𝓤 φ (emp 𝓤) all
  tells_all (φ ∷ ψ ∷ φs) all =
      via 𝓤 (sep 𝓤 (emp 𝓤) (emp 𝓤)) (emp∗ 𝓤 (emp 𝓤)) (mono∗ 𝓤 (fact_i 𝓤 φ (emp 𝓤) all.0) (tells_all (ψ ∷ φs) all.1))
