-- Histories with a common prefix, and the steps of a history that only grows. Assumes `Logic`.
use Rattle.qshared.proofs.PrefixCommon.{◌≡◌, List, [], ◌∷◌, ◌++◌, ℕ, ◌≤◌, Bool, true, false, reverse, length, leb, cond}
use Rattle.qshared.proofs.PrefixCommon.{refl, sym, ap, ◌∙◌, arith, leb-true, leb-false, Ura, SProp, ent, sep, emp, ex}
use Rattle.qshared.proofs.PrefixCommon.{guard, wand, via, apply∗, Lft, Fml, fbor, Logic, sem, lfts, ‵, raw, ◌⊛◌, some}
use Rattle.qshared.proofs.PrefixCommon.{given, later, ◌$◌, ◌∵◌, !, qed, by, move, keep, drop, split, learn, pick, check}
use Rattle.qshared.proofs.PrefixCommon.{use1, use2, await, updating, now, done, Lends, Event, Trace, Extends, longer}
use Rattle.qshared.proofs.PrefixCommon.{pasts, history_owns, seen_owns}
use Rattle.std.proofs.lemmas.List.{reverse-append, reverse-reverse, length-reverse}
use mathlib.Core.List.{IsPrefix}
use base.Fraction.{full_share}
use base.Growing.{Least, at_least, prefix_refl}
use types.Owned.{basic}
use types.Growing as growing
use denote.Sharing.{said}

pub extends : (past seen : Trace) → IsPrefix (reverse seen) (reverse past) → Extends past seen
extends past seen h = (
  reverse h.0,
  sym (reverse-reverse past)
      ∙ (ap reverse (sym h.1) ∙
      (reverse-append (reverse seen) h.0 ∙ ap (λ (l : Trace). reverse h.0 ++ l) (reverse-reverse seen))),
)

pub one_more : (e : Event) (past : Trace) → IsPrefix (reverse past) (reverse (e ∷ past))
one_more e past = (reverse (e ∷ []), sym (reverse-append (e ∷ []) past))

tail : {X : Type 0} → List X → List X
tail [] = []
tail (x ∷ xs) = xs

head : {X : Type 0} → X → List X → X
head d [] = d
head d (x ∷ xs) = x

-- of two prefixes of one list, the shorter is a prefix of the longer
pub shorter : {X : Type 0} → (a b c : List X) → IsPrefix a c → IsPrefix b c → length a ≤ length b → IsPrefix a b
unfolding tail head
shorter [] b c h k short = (b, refl)
shorter (x ∷ a) [] c h k short = absurd (omega arith)
shorter (x ∷ a) (y ∷ b) c h k short =
    let e : x ≡ y = ap (head x) (h.1 ∙ sym k.1) in
    let t = shorter a b (tail c) (h.0, ap tail h.1) (k.0, ap tail k.1) (omega arith) in
    (t.0, λ i. e i ∷ t.1 i)

module _ {M : Type 1} {𝓤 : Ura M} (𝓛 : Logic 𝓤) where
  abbrev had : ℕ → Trace → SProp 𝓤
  had n a = sem 𝓛 (seen_owns n a)

  abbrev pub Learned : Trace → Trace → Type 0
  Learned a b = Extends (longer a b) a × Extends (longer a b) b

  -- the owner of the history sees all of it, and it extends every prefix that was seen before
  pub looks : (n : ℕ) (past seen : Trace)
      → ent 𝓤 (sep 𝓤 (sem 𝓛 (history_owns n past)) (had n seen))
      (guard 𝓤 (Extends past seen) (sep 𝓤 (sem 𝓛 (history_owns n past)) (had n past)))
  looks n past seen = qed 𝓛 (‵ (history_owns n past) ∷ ‵ (seen_owns n seen) ∷ []) ∵
      use2 𝓛 (given (IsPrefix (reverse seen) (reverse past)) (‵ (history_owns n past) ⊛ ‵ (seen_owns n seen)))
      (growing.latest_bounds pasts 𝓛 full_share n (reverse past) (reverse seen)) $
      learn ! (λ p. check ! (extends past seen p) $ split ! $ move ! (1 ∷ []) $ drop ! $ by !
      (growing.latest_shows pasts 𝓛 full_share n (reverse past) (reverse past) (prefix_refl (reverse past))))

  -- the history without events
  pub begins : ent 𝓤 (emp 𝓤) (𝓛.H.⇛ (ex 𝓤 (λ (n : ℕ). sem 𝓛 (history_owns n []))))
  begins = via 𝓤 _ (growing.latest_new pasts 𝓛 []) (basic 𝓛 _)

  pub shows : (n : ℕ) (past : Trace)
      → ent 𝓤 (sem 𝓛 (history_owns n past)) (sep 𝓤 (sem 𝓛 (history_owns n past)) (had n past))
  shows n past = growing.latest_shows pasts 𝓛 full_share n (reverse past) (reverse past) (prefix_refl (reverse past))

  -- one more event
  pub adds : (n : ℕ) (past : Trace) (e : Event)
      → ent 𝓤 (sem 𝓛 (history_owns n past)) (𝓛.H.⇛ (sem 𝓛 (history_owns n (e ∷ past))))
  adds n past e = via 𝓤 _ (growing.latest_grows pasts 𝓛 n (reverse past) (reverse (e ∷ past)) (one_more e past))
      (basic 𝓛 _)

  -- a prefix can be duplicated
  pub twice : (n : ℕ) (a : Trace) → ent 𝓤 (had n a) (sep 𝓤 (had n a) (had n a))
  twice n a = growing.at_least_dup pasts 𝓛 n (reverse a)

  picks : (n : ℕ) (a b : Trace) (t : Bool) → leb (length a) (length b) ≡ t → (c : List Event) → IsPrefix (reverse a) c
      → IsPrefix (reverse b) c
      → ent 𝓤 (sep 𝓤 (had n a) (had n b))
      (guard 𝓤 (Extends (cond t b a) a × Extends (cond t b a) b) (had n (cond t b a)))
  picks n a b true is c h k = qed 𝓛 (‵ (seen_owns n a) ∷ ‵ (seen_owns n b) ∷ []) ∵ drop ! $
      check ! (
        extends b a
            (shorter (reverse a) (reverse b) c h k
            (omega (arith, length-reverse a, length-reverse b, leb-true (length a) (length b) is))),
        extends b b (prefix_refl (reverse b)),
      ) $ done !
  picks n a b false is c h k = qed 𝓛 (‵ (seen_owns n a) ∷ ‵ (seen_owns n b) ∷ []) ∵ keep ! (0 ∷ []) $
      check ! (
        extends a a (prefix_refl (reverse a)),
        extends a b
            (shorter (reverse b) (reverse a) c k h
            (omega (arith, length-reverse a, length-reverse b, leb-false (length a) (length b) is))),
      ) $ done !

  -- of two prefixes that were seen, the longer extends the other
  pub learns : (n : ℕ) (a b : Trace) → ent 𝓤 (sep 𝓤 (had n a) (had n b)) (guard 𝓤 (Learned a b) (had n (longer a b)))
  learns n a b = qed 𝓛 (‵ (seen_owns n a) ∷ ‵ (seen_owns n b) ∷ []) ∵
      use1 𝓛 (‵ (seen_owns n a) ⊛ ‵ (seen_owns n a)) (twice n a) $ split ! $ move ! (2 ∷ []) $
      use1 𝓛 (‵ (seen_owns n b) ⊛ ‵ (seen_owns n b)) (twice n b) $ split ! $ move ! (2 ∷ 0 ∷ []) $
      use2 𝓛 (some (λ (c : List Event). given (Least IsPrefix (reverse a) (reverse b) c) (‵ (at_least pasts n c))))
      (growing.at_least_join pasts 𝓛 n (reverse a) (reverse b)) $
      pick !
      (λ c. learn ! (λ h. drop ! $ move ! (1 ∷ 0 ∷ []) $ by ! (picks n a b (leb (length a) (length b)) refl c h.0 h.1)))

-- a resource that can be duplicated can be lent for any lifetime
pub lends_twice : {M : Type 1} {𝓤 : Ura M} (𝓛 : Logic 𝓤) (P : Fml) → ent 𝓤 (sem 𝓛 P) (sep 𝓤 (sem 𝓛 P) (sem 𝓛 P))
    → (l : Lft) → Lends 𝓛 P (said P) l
lends_twice {𝓤 = 𝓤} 𝓛 P dup l κ ts inc sp = let Back = 𝓛.H.⇛ (sep 𝓤 (𝓛.A.bor κ P) (lfts 𝓛 ts)) in
    qed 𝓛 (‵ (fbor κ P) ∷ raw (lfts 𝓛 ts) ∷ []) ∵ updating ! $ use2 𝓛 (later (‵ P ⊛ raw (wand 𝓤 (sem 𝓛 P) Back)))
    (𝓛.more.bor_acc_by κ ts P sp) $ await ! tt $ split ! $
    use1 𝓛 (‵ P ⊛ ‵ P) dup $ split ! $ move ! (0 ∷ 2 ∷ []) $
    use2 𝓛 (later (‵ (fbor κ P) ⊛ raw (lfts 𝓛 ts))) (apply∗ 𝓤 (sem 𝓛 P) Back) $ await ! tt $ split ! $ drop ! $ move !
    (1 ∷ 0 ∷ []) $ now ! $ done !
