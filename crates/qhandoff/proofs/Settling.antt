-- The tokens are joined, and the cells are closed.
use Rattle.qhandoff.proofs.Common.{◌≡◌, ◌≢◌, ℕ, zero, suc, ◌<◌, false, List, [], ◌∷◌, ◌++◌, length, get_or, set, sym}
use Rattle.qhandoff.proofs.Common.{refl, ap, ◌∙◌, subst, ⊎_elim, arith, Option, Some, None, length-set, append-nil}
use Rattle.qhandoff.proofs.Common.{none, some, some-injective, some-ne-none, get_elem?, Joins, Final, Seen, at_set}
use Rattle.qhandoff.proofs.Common.{set_here, set_else, CellView, KernelView, ThreadView, View, Kernel, Thread, Joined}
use Rattle.qhandoff.proofs.Common.{KeepsRule, Fits, Settled, Knows, line, with_line, word_of, joined_views}
use Rattle.qhandoff.proofs.Common.{joined_kernel_view, one}
use mathlib.Core.Option as maybe
use Rattle.qhandoff.proofs.Changes.{St, allowed_stays, there, line_else, line_here, cells_stay, CellOk, still_empty}
use Rattle.qhandoff.proofs.Changes.{still_has}
use Rattle.qhandoff.proofs.Allowed.{Sat}

module _ {T : Type 0} where
  refits : (w : ℕ) (l : CellView T) (h : ThreadView T) (o : maybe.Option (maybe.Option (Option T)))
      (x : Option (List T)) → Fits w l h o → Fits w (record l { taken = x }) h o
  refits zero l h o x f = f
  refits (suc zero) l h o x f = f
  refits (suc (suc zero)) l h o x f = f
  refits (suc (suc (suc w))) l h o x f = f

  knows_joined : (d : KernelView T) (t : ℕ) (l : CellView T) (thread_view : ℕ → ThreadView T) (j : ℕ) (v : View T)
      → j ≢ 0
      → j ≢ suc t → Knows d thread_view j v → Knows (with_line d t l) thread_view j v
  knows_joined d t l thread_view j (Kernel e) n m q = absurd (n q.0)
  knows_joined d t l thread_view j (Thread h) n m q =
      (q.0, q.1, ap (λ z. z.taken) (line_else d t l h.thread (λ e. m (q.0 ∙ ap suc e))) ∙ q.2)
  knows_joined d t l thread_view j Joined n m q = tt

module _ {T : Type 0} {P : ℕ → List T → Type 0} where
  joins_step : (n other : ℕ) (s : St T) (k : KeepsRule P n s) (h : ThreadView T) → h.thread < n → h.taking ≡ None
      → get_elem? s.views other ≡ some (Thread h)
      → KeepsRule P n record {
        words = s.words;
        homes = s.homes;
        views = set (set s.views 0 (Kernel (joined_kernel_view k.kernel_view h))) other Joined;
      }
  joins_step n other s k h near idle at = let t : ℕ = h.thread in
      let l = line k.kernel_view t in
      let l' : CellView T =
      record l { taken = Some h.taken } in
      let d' : KernelView T = joined_kernel_view k.kernel_view h in
      let q = k.each_seat other (Thread h) at in
      let within = there s.views other _ at in
      let vs = set s.views 0 (Kernel d') in
      let long : t < length k.kernel_view.lines = omega (arith, k.lines) in
      record {
        kernel_view = d';
        thread_view = k.thread_view;
        words = k.words;
        slots = k.slots;
        lines = length-set k.kernel_view.lines t l' ∙ k.lines;
        kernel = set_else vs other 0 Joined (λ e. omega (arith, q.0))
            ∙ set_here s.views 0 (Kernel d') (there s.views 0 _ k.kernel);
        seats = length-set vs other Joined ∙ length-set s.views 0 (Kernel d') ∙ k.seats;
        unmade =
            λ u e. (
              (k.unmade u e).0,
              ap (λ z. z.taken) (line_else k.kernel_view t l' u (λ x. omega (arith, q.0, k.seats))) ∙ (k.unmade u e).1,
            );
        each_cell =
            cells_stay n t s.words s.words (line k.kernel_view) (line d') k.thread_view k.thread_view s.homes s.homes
            (λ u ne. refl) (λ u ne. line_else k.kernel_view t l' u ne) (λ u ne. refl) (λ u ne. refl) k.each_cell
            (subst (λ z. CellOk (get_or s.words (word_of t) 0) z (k.thread_view t) (get_elem? s.homes t))
            (sym (line_here k.kernel_view t l' t refl long)) (
              refits _ l (k.thread_view t) _ (Some h.taken) (k.each_cell t near).0,
              (
                ap (λ z. z.taken) q.1,
                ap (λ z. z.taking) (sym q.1) ∙ idle,
              ),
            ));
        allowed = allowed_stays P k.kernel_view t l' long k.allowed (k.allowed t);
        each_seat = λ j v e. ⊎_elim (λ (z : (j ≡ other) × (Joined ≡ v)). subst (Knows d' k.thread_view j) z.1 tt)
            (λ (z : (j ≢ other) × (get_elem? vs j ≡ some v)). ⊎_elim
            (λ (y : (j ≡ 0) × (Kernel d' ≡ v)). subst (Knows d' k.thread_view j) y.1 (y.0, refl))
            (λ (y : (j ≢ 0) × (get_elem? s.views j ≡ some v)). knows_joined k.kernel_view t l' k.thread_view j v y.0
            (λ x. z.0 (x ∙ sym q.0)) (k.each_seat j v y.1)) (at_set s.views 0 j (Kernel d') v z.1))
            (at_set vs other j Joined v e);
      }

  joins_here : (n id other : ℕ) (d : KernelView T) (h : ThreadView T) → h.thread < n → h.taking ≡ None
      → Joins (KeepsRule P n) id (Kernel d) other (Thread h) (joined_views (Kernel d) (Thread h)) Joined
  joins_here n id other d h near idle s k at apart at' = let q = k.each_seat id (Kernel d) at in
      subst (λ (z : ℕ × KernelView T). KeepsRule P n record {
        words = s.words;
        homes = s.homes;
        views = set (set s.views z.0 (Kernel (joined_kernel_view z.1 h))) other Joined;
      }) (λ i. (sym q.0 i, sym q.1 i))
      (joins_step n other s k h near idle (sym (set_else s.views id other _ apart) ∙ at'))

  pub join_allowed : (key n id other : ℕ) (m m' : Sat T) (d : KernelView T) (h : ThreadView T) → key ≡ n
      → m ≡ (Kernel d, []) → m' ≡ (Thread h, []) → h.thread < n → h.taking ≡ None
      → Joins (KeepsRule P key) id m.0 other m'.0 (joined_views m.0 m'.0) Joined
  join_allowed key n id other m m' d h e is is' near idle =
      subst (λ (z : ℕ × Sat T × Sat T). Joins (KeepsRule P z.0) id z.1.0 other z.2.0 (joined_views z.1.0 z.2.0) Joined)
      (λ i. (sym e i, sym is i, sym is' i)) (joins_here n id other d h near idle)

module _ {T : Type 0} where
  -- the content of a closed cell, if its token was joined and nothing is being put into it
  abbrev pub Closes : ℕ → CellView T → List T → maybe.Option (Option T) → Type 0
  Closes w l ts x = (o : Option T) × (x ≡ some o) × (ts ++ one o ≡ l.put)

  none_left : (l : CellView T) (h : ThreadView T) (ts : List T) → l.put ≡ h.taken → ts ≡ h.taken
      → ts ++ one None ≡ l.put
  none_left l h ts e f = append-nil ts ∙ f ∙ sym e

  closes : (w : ℕ) (l : CellView T) (h : ThreadView T) (o : maybe.Option (maybe.Option (Option T)))
      (x : maybe.Option (Option T)) (ts : List T) → Fits w l h o → l.putting ≡ false → ts ≡ h.taken → h.taking ≡ None
      → ((y : Option T) → o ≡ some (some y) → x ≡ some y) → Closes w l ts x
  closes zero l h o x ts f quiet e idle get = (None, get None f.4, none_left l h ts f.3 e)
  closes (suc zero) l h o x ts f quiet e idle get = (None, get None (still_empty l o f.3 quiet), none_left l h ts f.2 e)
  closes (suc (suc zero)) l h o x ts f quiet e idle get = let z : T = f.2.0 in
      (Some z, get (Some z) (still_has h z o f.2.2 idle), ap (λ ys. ys ++ z ∷ []) e ∙ sym f.2.1)
  closes (suc (suc (suc w))) l h o x ts f quiet e idle get = absurd f

  settled : (o : Option (List T)) (h : ThreadView T) (ts : List T) → o ≡ Some ts → Settled o h → (ts ≡ h.taken)
      × (h.taking ≡ None)
  settled o h ts e s = let r : Settled (Some ts) h = subst (λ z. Settled z h) e s in r

module _ {T : Type 0} {P : ℕ → List T → Type 0} where
  pub closed_cell : (n id : ℕ) (m : Sat T) (d : KernelView T) (ws : List ℕ) (xs : List (Option T)) → m ≡ (Kernel d, [])
      → Final (Seen (KeepsRule P n) id m.0) ws xs
      → (t : ℕ) (ts : List T) → t < n → (line d t).putting ≡ false → (line d t).taken ≡ Some ts → (o : Option T)
      × (get_elem? xs t ≡ some o) × (ts ++ one o ≡ (line d t).put)
  closed_cell n id m d ws xs is fin t ts near quiet was =
      let s : St T = fin.0 in
      let k : KeepsRule P n s = fin.1.0 in
      let q = k.each_seat id (Kernel d) (fin.1.1 ∙ ap (λ (z : Sat T). some z.0) is) in
      let cell : CellOk (get_or s.words (word_of t) 0) (line d t) (k.thread_view t) (get_elem? s.homes t) =
      subst (λ z. CellOk (get_or s.words (word_of t) 0) (line z t) (k.thread_view t) (get_elem? s.homes t)) (sym q.1)
      (k.each_cell t near) in
      let now = settled (line d t).taken (k.thread_view t) ts was cell.1 in
      closes (get_or s.words (word_of t) 0) (line d t) (k.thread_view t) (get_elem? s.homes t)
      (get_elem? xs t) ts cell.0 quiet now.0 now.1 (λ y e. fin.4 t y e)
