-- The cells are made, their tokens are split off and joined, and the cells are closed.
use Rattle.qhandoff.proofs.Common.{◌≡◌, ◌≢◌, ℕ, zero, suc, ◌*◌, ◌<◌, List, [], ◌∷◌, ◌++◌, length, replicate, map}
use Rattle.qhandoff.proofs.Common.{get_or, set, sym, refl, ap, ◌∙◌, subst, ⊎_elim, ◌⊎◌, inl, inr, arith, Option, None}
use Rattle.qhandoff.proofs.Common.{length-set, length-append, none, some, some-injective, some-ne-none, get_elem?}
use Rattle.qhandoff.proofs.Common.{length-replicate, Splits, opening, at_set, set_here, at_longer, CellView, KernelView}
use Rattle.qhandoff.proofs.Common.{ThreadView, View, Kernel, Thread, Joined, KeepsRule, Fits, Settled, Knows, idle_line}
use Rattle.qhandoff.proofs.Common.{new_thread_view, word_of, first_view, seated_kernel_view, seats_one_more}
use Rattle.qhandoff.proofs.Common.{next_thread_view}
use mathlib.Core.Option as maybe
use Rattle.qhandoff.proofs.Changes.{St, there}
use Rattle.qhandoff.proofs.Allowed.{Sat}

pub at_end : {A : Type 0} → (l : List A) (a b : A) (j : ℕ) → get_elem? (l ++ a ∷ []) j ≡ some b
    → (get_elem? l j ≡ some b) ⊎ ((j ≡ length l) × (a ≡ b))
at_end [] a b zero e = inr (refl, some-injective a b e)
at_end [] a b (suc j) e = absurd (some-ne-none b (sym e))
at_end (x ∷ xs) a b zero e = inl e
at_end (x ∷ xs) a b (suc j) e = ⊎_elim (λ h. inl h) (λ h. inr (ap suc h.0, h.1)) (at_end xs a b j e)

all_at_home : {A : Type 0} → (n i : ℕ) (a : A) → i < n → get_elem? (map some (replicate n a)) i ≡ some (some a)
all_at_home zero i a h = absurd (omega arith)
all_at_home (suc n) zero a h = refl
all_at_home (suc n) (suc i) a h = all_at_home n i a (omega arith)

full_shelf : {A : Type 0} → (n : ℕ) (a : A) → length (map some (replicate n a)) ≡ n
full_shelf zero a = refl
full_shelf (suc n) a = ap suc (full_shelf n a)

line_at_first : {A : Type 0} → (n t : ℕ) (a : A) → get_or (replicate n a) t a ≡ a
line_at_first zero t a = refl
line_at_first (suc n) zero a = refl
line_at_first (suc n) (suc t) a = line_at_first n t a

module _ {T : Type 0} where
  knows_first : (n j : ℕ) (v : View T) → get_elem? (first_view n ∷ []) j ≡ some v
      → Knows (seated_kernel_view 0 n) new_thread_view j v
  knows_first n zero v e = subst (Knows (seated_kernel_view 0 n) new_thread_view 0) (some-injective _ v e) (refl, refl)
  knows_first n (suc j) v e = absurd (some-ne-none v (sym e))

module _ {T : Type 0} {P : ℕ → List T → Type 0} where
  starts_here : (n : ℕ) → KeepsRule {T = T} P n (opening (replicate (n * 8) 0) (replicate n None) (first_view n))
  starts_here n = record {
    kernel_view = seated_kernel_view 0 n;
    thread_view = new_thread_view;
    words = length-replicate (n * 8) 0;
    slots = full_shelf n None;
    lines = length-replicate n idle_line;
    kernel = refl;
    seats = refl;
    unmade = λ t h. (refl, ap (λ l. l.taken) (line_at_first n t idle_line));
    each_cell =
        λ t h. subst (λ (z : ℕ × CellView T
        × maybe.Option (maybe.Option (Option T))). Fits z.0 z.1 (new_thread_view t) z.2
        × Settled z.1.taken (new_thread_view t))
        (λ i. (
          sym (line_at_first (n * 8) (word_of t) 0) i,
          sym (line_at_first n t idle_line) i,
          sym (all_at_home n t None h) i,
        )) ((refl, refl, refl, refl, refl), tt);
    allowed = λ t. inl (ap (λ l. l.put) (line_at_first n t idle_line));
    each_seat = knows_first n;
  }

  pub starts : (n : ℕ) (words : List ℕ) → words ≡ replicate (n * 8) 0
      → KeepsRule {T = T} P n (opening words (replicate n None) (first_view n))
  starts n words e = subst (λ ws. KeepsRule {T = T} P n (opening ws (replicate n None) (first_view n))) (sym e)
      (starts_here n)

module _ {T : Type 0} where
  knows_more : (d : KernelView T) (thread_view : ℕ → ThreadView T) (k j : ℕ) (v : View T) → j ≢ 0
      → Knows d thread_view j v
      → Knows (record d { seats = k }) thread_view j v
  knows_more d thread_view k j (Kernel e) n q = absurd (n q.0)
  knows_more d thread_view k j (Thread h) n q = q
  knows_more d thread_view k j Joined n q = tt

  abbrev wider : List (View T) → KernelView T → List (View T)
  wider views d = set views 0 (Kernel (record d { seats = suc d.seats })) ++ Thread (new_thread_view d.seats) ∷ []

module _ {T : Type 0} {P : ℕ → List T → Type 0} where
  splits_step : (n : ℕ) (s : St T) (k : KeepsRule P n s)
      → KeepsRule P n record { words = s.words; homes = s.homes; views = wider s.views k.kernel_view }
  splits_step n s k = let d = k.kernel_view in
      let d' : KernelView T = record d { seats = suc d.seats } in
      let vs = set s.views 0 (Kernel d') in
      let long : length vs ≡ suc d.seats = length-set s.views 0 (Kernel d') ∙ k.seats in
      let new = k.unmade d.seats (omega arith) in record {
        kernel_view = d';
        thread_view = k.thread_view;
        words = k.words;
        slots = k.slots;
        lines = k.lines;
        kernel =
            at_longer vs (Thread (new_thread_view d.seats) ∷ []) 0 (Kernel d')
            (set_here s.views 0 (Kernel d') (there s.views 0 _ k.kernel));
        seats = omega (arith, length-append vs (Thread (new_thread_view d.seats) ∷ []), long);
        unmade = λ t h. k.unmade t (omega arith);
        each_cell = k.each_cell;
        allowed = k.allowed;
        each_seat = λ j v e. ⊎_elim
            (λ old. ⊎_elim (λ (q : (j ≡ 0) × (Kernel d' ≡ v)). subst (Knows d' k.thread_view j) q.1 (q.0, refl))
            (λ (q : (j ≢ 0) × (get_elem? s.views j ≡ some v)). knows_more d k.thread_view (suc d.seats) j v q.0
            (k.each_seat j v q.1)) (at_set s.views 0 j (Kernel d') v old))
            (λ (q : (j ≡ length vs) × (Thread (new_thread_view d.seats) ≡ v)). subst (Knows d' k.thread_view j) q.1 (
              q.0 ∙ long,
              sym new.0,
              new.1,
            )) (at_end vs (Thread (new_thread_view d.seats)) v j e);
      }

  splits_here : (n id : ℕ) (d : KernelView T)
      → Splits (KeepsRule P n) id (Kernel d) (seats_one_more (Kernel d)) (next_thread_view (Kernel d))
  splits_here n id d s k at = let q = k.each_seat id (Kernel d) at in
      subst (λ (z : ℕ × KernelView T). KeepsRule P n record {
        words = s.words;
        homes = s.homes;
        views =
            set s.views z.0 (Kernel (record z.1 { seats = suc z.1.seats })) ++ Thread (new_thread_view z.1.seats) ∷ [];
      }) (λ i. (sym q.0 i, sym q.1 i)) (splits_step n s k)

  pub split_allowed : (n id : ℕ) (m : Sat T) (d : KernelView T) → m ≡ (Kernel d, [])
      → Splits (KeepsRule P n) id m.0 (seats_one_more m.0) (next_thread_view m.0)
  split_allowed n id m d e =
      subst (λ v. Splits (KeepsRule P n) id v (seats_one_more v) (next_thread_view v)) (ap (λ (z : Sat T). z.0) (sym e))
      (splits_here n id d)
