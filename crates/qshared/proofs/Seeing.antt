-- The prefixes of the history that were seen.
use Rattle.qshared.proofs.Common.{◌≡◌, ℕ, ◌+◌, ◌<◌, List, [], ◌∷◌, ◌++◌, length, reverse, take, refl, ap, sym, subst}
use Rattle.qshared.proofs.Common.{◌∙◌, arith, eqb, sum, Some, eq-eqb, ne_eqb, take-append_seam, get_elem?, followed_by}
use Rattle.qshared.proofs.Common.{Extends, AreSeen}
use Rattle.std.proofs.lemmas.List.Sums.{sum_by-append}
use Rattle.std.proofs.lemmas.List.{append_assoc, reverse-append, reverse-reverse}
use Rattle.qmodel.specs.Trace.{Event, Trace}
use Rattle.qshared.specs.HistoryLaws.{InRealTime, IsBeginning}
use Rattle.qrules.specs.Trace.{event_at}
use Rattle.qshared.proofs.Rows.{each_pushed, map_snoc}

pub on : (a b c : Trace) → Extends c b → Extends b a → Extends c a
on a b c h k = (h.0 ++ k.0, h.1 ∙ ap (λ (l : Trace). h.0 ++ l) k.1 ∙ sym (append_assoc h.0 k.0 a))

later : (e : Event) (past more : Trace) → (event_at (more ++ e ∷ past) (length past + 1) ≡ Some e)
    × (length past < length (more ++ e ∷ past))
later e past [] = (rw (eq-eqb (length past + 1) (length past + 1) refl) refl, omega arith)
later e past (x ∷ more) =
    let h = later e past more in
    let other = ne_eqb (length past + 1) (length (more ++ e ∷ past) + 1) (λ s. absurd (omega (arith, s, h.1))) in
    (rw other h.0, omega (arith, h.1))

pub matches : InRealTime
matches e past after seen met is h k =
    let t = on (e ∷ past) seen met k (subst (Extends seen) is h) in
    subst (λ (m : Trace). (event_at m (length past + 1) ≡ Some e) × (length past < length m)) (sym t.1)
    (later e past t.0)

reversed : (past : Trace) (events : List Event) → followed_by past events ≡ reverse events ++ past
reversed past [] = refl
reversed past (e ∷ events) = reversed (e ∷ past) events
    ∙ sym (ap (λ (l : Trace). l ++ past) (reverse-append (e ∷ []) events) ∙ append_assoc (reverse events) (e ∷ []) past)

nil : (l : Trace) → l ++ [] ≡ l
nil [] = refl
nil (x ∷ l) = ap (λ (m : Trace). x ∷ m) (nil l)

length_reverse : (l : Trace) → length (reverse l) ≡ length l
length_reverse l = Rattle.std.proofs.lemmas.List.length-reverse l

pub beginning : IsBeginning
beginning events seen h =
    let all : reverse events ≡ h.0 ++ seen = sym (nil (reverse events)) ∙ sym (reversed [] events) ∙ h.1 in
    let parts : events ≡ reverse seen ++ reverse h.0 = sym (reverse-reverse events) ∙ ap reverse all
    ∙ reverse-append h.0 seen in
    let first : take (length seen) events ≡ reverse seen =
    ap (take (length seen)) parts ∙ ap (λ n. take n (reverse seen ++ reverse h.0)) (sym (length_reverse seen))
    ∙ take-append_seam (reverse seen) (reverse h.0) in
    ap (followed_by []) first ∙ reversed [] (reverse seen) ∙ nil (reverse (reverse seen)) ∙ reverse-reverse seen

-- one more prefix was seen
pub seen_more : {P : Type 0} (f : P → Trace) (past : Trace) (xs : List P) (x : P)
    → AreSeen past (Rattle.std.proofs.Common.map f xs) → Extends past (f x)
    → AreSeen past (Rattle.std.proofs.Common.map f (xs ++ x ∷ []))
seen_more f past xs x old now k s at =
    each_pushed (λ (y : Trace). Extends past y) (Rattle.std.proofs.Common.map f xs) (f x) old now k s
    (ap (λ (ys : List Trace). get_elem? ys k) (sym (map_snoc f xs x)) ∙ at)

pub sum_more : (xs : List ℕ) (n : ℕ) → sum (xs ++ n ∷ []) ≡ sum xs + n
sum_more xs n = sum_by-append (λ (k : ℕ). k) xs (n ∷ []) ∙ ap (λ k. sum xs + k) (omega arith)
