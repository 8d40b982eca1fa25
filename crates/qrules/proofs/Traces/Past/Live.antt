-- Channels and connections alike: what was made under a number, and hasn't been ended since.
use Rattle.qrules.proofs.Common.{◌≡◌, ℕ, zero, suc, ◌+◌, ◌≤◌, List, [], ◌∷◌, length, refl, ap, sym, ◌∙◌, cond, arith}
use Rattle.qrules.proofs.Common.{Bool, true, false, eqb, inl, inr, Effect, none-some, member_at, Member, Outcome, Event}
use Rattle.qrules.proofs.Common.{Trace, Call, Completion, cond_same, eqb_same, effect_of, Option, None, Some, is_some}
use Rattle.qrules.proofs.Common.{◌||◌}
use Rattle.std.proofs.lemmas.Bool.{or_cases, true≢false}
use Rattle.qrules.proofs.Basics.{count_to, facts_of, IsLawful, with_event, accepted_at, refuses, was_done, names}
use Rattle.qrules.proofs.Basics.{put_at, one_for, accepted, refused, made_beyond, made_below}

-- a made thing has a number of at least 1
pub made_above : {A : Type 0} (make : Event → Option A) (past : Trace) (i : ℕ) (x : A)
    → accepted_at make past i ≡ Some x → 1 ≤ i
made_above make [] i x e = absurd (none-some x e)
made_above {A} make (e ∷ past) i x is = grind (arith, made_above make past i x)

-- nothing has the number of the next event
late : {A : Type 0} (make : Event → Option A) (past : Trace) (i : ℕ)
    → cond (eqb i (length past + 1)) None (accepted_at make past i) ≡ accepted_at make past i
late make past i = grind (arith, made_beyond make past i)

-- a call that fails makes nothing
pub made_refused : {A : Type 0} (make : Event → Option A) (e : Event) (past : Trace) (i : ℕ)
    → refuses e.completions (length past + 1) ≡ true → accepted_at make (e ∷ past) i ≡ accepted_at make past i
made_refused make e past i r = rw (r, late make past i) refl

-- ---- counts

pub count_same : {A : Type 0} (p q : ℕ → Option A) (n : ℕ) → ((k : ℕ) → k ≤ n → p k ≡ q k) → count_to p n ≡ count_to q n
count_same p q zero h = refl
count_same p q (suc n) h = rw (h (n + 1) (omega arith), count_same p q n (λ k l. h k (omega arith))) refl

-- one fewer is counted if one is removed
pub count_less : {A : Type 0} (p q : ℕ → Option A) (n h : ℕ) → 1 ≤ h → h ≤ n → is_some (q h) ≡ true
    → ((k : ℕ) → k ≤ n → p k ≡ cond (eqb h k) None (q k)) → count_to p n + 1 ≡ count_to q n
count_less p q zero h above below there less = absurd (omega arith)
count_less {A} p q (suc n) h above below there less =
    let last : h ≡ n + 1 → count_to p n ≡ count_to q n = λ e. count_same p q n (λ k l. grind (arith, less k)) in
    let rest : h ≤ n → count_to p n + 1 ≡ count_to q n =
    λ e. count_less p q n h above e there (λ k l. less k (omega arith)) in
    grind (arith, less (n + 1), last, rest)

-- one more may be counted at the end
count_put : {A : Type 0} (p q : ℕ → Option A) (o : Option A) (n : ℕ) → q (n + 1) ≡ None
    → ((k : ℕ) → k ≤ n + 1 → p k ≡ put_at o (n + 1) q k) → count_to p (suc n) ≡ count_to q n + one_for o
count_put {A} p q o n none put = grind (arith, count_same p q n)

-- no more are counted if there is nothing at the end
count_over : {A : Type 0} (p : ℕ → Option A) (n : ℕ) → p (n + 1) ≡ None → count_to p (suc n) ≡ count_to p n
count_over p n none = rw none (omega arith)

one_fewer : (x y z : ℕ) → x ≡ y → y + 1 ≡ z → x + 1 ≡ z + 0
one_fewer x y z same less = omega (arith, same, less)

-- ---- live things

-- make gives the thing that a call of a member makes, and ends the number that an effect ends
module _ {A : Type 0} (roster : List Member) (make : Option Member → Call → Option A) (ends : Effect → Option ℕ) where
  -- the thing that was made under number i, ended or not
  abbrev pub made : Trace → ℕ → Option A
  made past i = accepted_at (λ e. make (member_at roster e.thread) e.call) past i

  -- the thing of number i has been ended
  abbrev pub is_gone : Trace → ℕ → Bool
  is_gone past i = was_done (λ f. names (ends f) i) past

  -- the thing of number i, if it was made and hasn't been ended
  abbrev pub live : Trace → ℕ → Option A
  live past i = cond (is_gone past i) None (made past i)

  pub gone_refused : (e : Event) (past : Trace) (i : ℕ) → refuses e.completions (length past + 1) ≡ true
      → is_gone (e ∷ past) i ≡ is_gone past i
  gone_refused e past i r = rw r refl

  pub gone_accepted : (e : Event) (past : Trace) (i : ℕ) → refuses e.completions (length past + 1) ≡ false
      → is_gone (e ∷ past) i ≡ (names (ends (effect_of e.call)) i || is_gone past i)
  gone_accepted e past i r = rw r refl

  -- a live thing was made, and hasn't been ended
  pub record IsLive (past : Trace) (i : ℕ) : Type 0 where
    pub standing : is_gone past i ≡ false
    pub it : A
    pub is_made : made past i ≡ Some it

  pub live_parts : (past : Trace) (i : ℕ) → is_some (live past i) ≡ true → IsLive past i
  live_parts past i e = grind arith

  -- nothing has the number of the next event
  live_beyond : (past : Trace) → live past (length past + 1) ≡ None
  live_beyond past =
      ap (cond (is_gone past (length past + 1)) None)
      (made_beyond (λ e. make (member_at roster e.thread) e.call) past (length past + 1) (omega arith))
      ∙ cond_same (is_gone past (length past + 1)) None

  pub live_refused : (e : Event) (past : Trace) (i : ℕ) → refuses e.completions (length past + 1) ≡ true
      → live (e ∷ past) i ≡ live past i
  live_refused e past i r =
      ap (λ b. cond b None (made (e ∷ past) i)) (gone_refused e past i r)
      ∙ ap (cond (is_gone past i) None) (made_refused (λ e. make (member_at roster e.thread) e.call) e past i r)

  pub count_live_refused : (e : Event) (past : Trace) → refuses e.completions (length past + 1) ≡ true
      → count_to (live (e ∷ past)) (length (e ∷ past)) ≡ count_to (live past) (length past)
  count_live_refused e past r =
      grind (
        arith,
        live_refused e past (length past + 1) r,
        live_beyond past,
        count_same (live (e ∷ past)) (live past) (length past),
        live_refused e past,
      )

  -- an accepted call that ends a thing ends a live one, and makes none
  module _ (ends_live : (past : Trace) (t : ℕ) (c : Call) (X : List Completion)
      → Outcome true (facts_of roster past) t c X → (i : ℕ) → names (ends (effect_of c)) i ≡ true
      → is_some (live past i) ≡ true)
      (ends_alone : (m : Option Member) (c : Call) (i : ℕ) → ends (effect_of c) ≡ Some i → make m c ≡ None) where
    -- a thing that was ended has the number of an event
    pub gone_below : (past : Trace) (i : ℕ) → IsLawful roster past → is_gone past i ≡ true → i ≤ length past
    gone_below [] i l e = absurd (true≢false (sym e))
    gone_below (e ∷ past) i l is = elim (l.1.1) [
      | inl a ↦
          elim (or_cases (names (ends (effect_of e.call)) i) (is_gone past i)
          (sym (gone_accepted e past i (accepted roster past e.thread e.call e.completions a)) ∙ is)) [
            | inl now ↦
                let o = live_parts past i (ends_live past e.thread e.call e.completions a i now) in
                let below : i ≤ length past = made_below _ past i o.it o.is_made in
                omega arith
            | inr before ↦ let below : i ≤ length past = gone_below past i l.0 before in omega arith
          ]
      | inr a ↦ let below : i ≤ length past =
          gone_below past i l.0 (sym (gone_refused e past i (refused roster past e.thread e.call e.completions a))
          ∙ is) in omega arith
    ]

    -- a thing that is made under a new number hasn't been ended
    unended : (past : Trace) (i : ℕ) → IsLawful roster past → (o : Option A)
        → cond (is_gone past i) None (put_at o (length past + 1) (made past) i) ≡ put_at o (length past + 1)
        (live past) i
    unended past i l o = grind (arith, gone_below past i l)

    pub live_accepted : (past : Trace) (t : ℕ) (c : Call) (X : List Completion) (i : ℕ) → IsLawful roster past
        → Outcome true (facts_of roster past) t c X
        → live (with_event t c X past) i ≡ cond (names (ends (effect_of c)) i) None
        (put_at (make (member_at roster t) c) (length past + 1) (live past) i)
    live_accepted past t c X i l a =
        let e : Event = record { thread = t; call = c; completions = X } in
        let r : refuses X (length past + 1) ≡ false = accepted roster past t c X a in
        grind (arith, gone_accepted e past i r, late, unended past i l (make (member_at roster t) c))

    pub count_live_accepted : (past : Trace) (t : ℕ) (c : Call) (X : List Completion) → IsLawful roster past
        → Outcome true (facts_of roster past) t c X
        → count_to (live (with_event t c X past)) (length (with_event t c X past)) + one_for (ends (effect_of c))
        ≡ count_to (live past) (length past) + one_for (make (member_at roster t) c)
    count_live_accepted past t c X l a =
        let after = live (with_event t c X past) in
        let new = make (member_at roster t) c in
        elim (ends (effect_of c))
        as (λ o. ends (effect_of c) ≡ o
        → count_to after (suc (length past)) + one_for o ≡ count_to (live past) (length past) + one_for new) [
          | None ↦ λ none.
              let put : count_to after (suc (length past)) ≡ count_to (live past) (length past) + one_for new =
              count_put after (live past) new (length past) (live_beyond past)
              (λ k _. live_accepted past t c X k l a
              ∙ ap (λ o. cond (names o k) None (put_at new (length past + 1) (live past) k)) none) in
              omega (arith, put)
          | Some i ↦ λ some.
              let made_none : new ≡ None = ends_alone (member_at roster t) c i some in
              let at = λ (k : ℕ). live_accepted past t c X k l a
              ∙ ap (λ o. cond (names o k) None (put_at new (length past + 1) (live past) k)) some
              ∙ ap (λ o. cond (eqb i k) None (put_at o (length past + 1) (live past) k)) made_none in
              let named : names (ends (effect_of c)) i ≡ true = ap (λ o. names o i) some ∙ eqb_same i in
              let there : is_some (live past i) ≡ true = ends_live past t c X a i named in
              let o = live_parts past i there in
              let below : i ≤ length past =
              made_below (λ e. make (member_at roster e.thread) e.call) past i o.it o.is_made in
              let above : 1 ≤ i = made_above (λ e. make (member_at roster e.thread) e.call) past i o.it o.is_made in
              let top : after (length past + 1) ≡ None = at (length past + 1)
              ∙ ap (cond (eqb i (length past + 1)) None) (live_beyond past)
              ∙ cond_same (eqb i (length past + 1)) None in
              let less : count_to after (length past) + 1 ≡ count_to (live past) (length past) =
              count_less after (live past) (length past) i above below there (λ k _. at k) in
              let over : count_to after (suc (length past)) ≡ count_to after (length past) =
              count_over after (length past) top in
              one_fewer _ _ _ over less ∙ ap (λ o. count_to (live past) (length past) + one_for o) (sym made_none)
        ] refl
