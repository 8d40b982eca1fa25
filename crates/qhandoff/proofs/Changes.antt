-- One cell changes, and the rule holds again.
use Rattle.qhandoff.proofs.Common.{◌≡◌, ◌≢◌, ℕ, zero, suc, ◌<◌, eqb, Bool, true, false, if◌then◌else◌, List, [], ◌∷◌}
use Rattle.qhandoff.proofs.Common.{◌++◌, length, get_or, set, sym, refl, ap, ◌∙◌, subst, ⊎_elim, inl, inr, arith}
use Rattle.qhandoff.proofs.Common.{Option, Some, None, length-set, length-append, get_or-set_other, get_or-set_same}
use Rattle.qhandoff.proofs.Common.{eq-eqb, ne_eqb, dite, none, some, some-ne-none, ℕ_discrete, get_elem?, State, at_set}
use Rattle.qhandoff.proofs.Common.{set_here, set_else, CellView, KernelView, ThreadView, View, Kernel, Thread, Joined}
use Rattle.qhandoff.proofs.Common.{AreAllowed, KeepsRule, Fits, FitsPut, FitsTake, Settled, Knows, line, with_line}
use Rattle.qhandoff.proofs.Common.{idle_line}
use Rattle.qhandoff.proofs.Common.{word_of, cell_of, IsBusy}
use Rattle.std.proofs.lemmas.Bool.{false≢true}
use Rattle.std.proofs.Math.Nat.{mul-div_cancel}
use mathlib.Core.Option as maybe

pub thread_view_at : {H : Type 0} → (ℕ → H) → ℕ → H → ℕ → H
thread_view_at f t h u = if eqb u t then h else f u

pub own_thread_view : {H : Type 0} → (f : ℕ → H) (t : ℕ) (h : H) (u : ℕ) → u ≡ t → thread_view_at f t h u ≡ h
unfolding thread_view_at
own_thread_view f t h u e = subst (λ b. (if b then h else f u) ≡ h) (sym (eq-eqb u t e)) refl

pub other_thread_view : {H : Type 0} → (f : ℕ → H) (t : ℕ) (h : H) (u : ℕ) → u ≢ t → thread_view_at f t h u ≡ f u
unfolding thread_view_at
other_thread_view f t h u n = subst (λ b. (if b then h else f u) ≡ f u) (sym (ne_eqb u t n)) refl

pub there : {A : Type 0} → (l : List A) (i : ℕ) (a : A) → get_elem? l i ≡ some a → i < length l
there [] i a e = absurd (some-ne-none a (sym e))
there (x ∷ xs) zero a e = omega arith
there (x ∷ xs) (suc i) a e = let h = there xs i a e in omega arith

abbrev pub Homes : Type 0 → Type 0
Homes T = List (maybe.Option (Option T))

abbrev pub St : Type 0 → Type 0
St T = State (Option T) (View T)

clash : (b : Bool) → b ≡ false → b ≡ true → ⊥
clash b e g = false≢true (sym e ∙ g)

-- two cells have different words
other_word : (words : List ℕ) (t u w : ℕ) → u ≢ t
    → get_or (set words (word_of t) w) (word_of u) 0 ≡ get_or words (word_of u) 0
other_word words t u w n = get_or-set_other words (word_of t) (word_of u) w 0 (λ e. n (omega (arith, e)))

-- the cell of a cell's word is this cell
pub cell_of_word : (t : ℕ) → cell_of (word_of t) ≡ t
cell_of_word t = mul-div_cancel t (omega arith)

module _ {T : Type 0} where
  pub line_else : (d : KernelView T) (t : ℕ) (l : CellView T) (u : ℕ) → u ≢ t → line (with_line d t l) u ≡ line d u
  line_else d t l u n = get_or-set_other d.lines t u l idle_line n

  pub line_here : (d : KernelView T) (t : ℕ) (l : CellView T) (u : ℕ) → u ≡ t → t < length d.lines
      → line (with_line d t l) u ≡ l
  line_here d t l u e h = ap (line (with_line d t l)) e ∙ get_or-set_same d.lines t l idle_line h

  taken_stays : (d : KernelView T) (t : ℕ) (l : CellView T) → t < length d.lines → l.taken ≡ (line d t).taken → (u : ℕ)
      → (line (with_line d t l) u).taken ≡ (line d u).taken
  taken_stays d t l h same u =
      dite (ℕ_discrete u t) (λ e. ap (λ x. x.taken) (line_here d t l u e h) ∙ same
      ∙ ap (λ v. (line d v).taken) (sym e)) (λ n. ap (λ x. x.taken) (line_else d t l u n))

  knows_kernel : (d d' : KernelView T) (thread_view : ℕ → ThreadView T) (j : ℕ) (v : View T) → j ≢ 0
      → ((u : ℕ) → (line d' u).taken ≡ (line d u).taken) → Knows d thread_view j v → Knows d' thread_view j v
  knows_kernel d d' thread_view j (Kernel e) n same k = absurd (n k.0)
  knows_kernel d d' thread_view j (Thread h) n same k = (k.0, k.1, same h.thread ∙ k.2)
  knows_kernel d d' thread_view j Joined n same k = tt

  abbrev pub CellOk : ℕ → CellView T → ThreadView T → maybe.Option (maybe.Option (Option T)) → Type 0
  CellOk w l h o = Fits w l h o × Settled l.taken h

  -- every cell except t is unchanged
  pub cells_stay : (n t : ℕ) (words words' : List ℕ) (lines lines' : ℕ → CellView T) (thread_view thread_view' : ℕ
      → ThreadView T)
      (homes homes' : Homes T)
      → ((u : ℕ) → u ≢ t → get_or words' (word_of u) 0 ≡ get_or words (word_of u) 0)
      → ((u : ℕ) → u ≢ t → lines' u ≡ lines u) → ((u : ℕ) → u ≢ t → thread_view' u ≡ thread_view u)
      → ((u : ℕ) → u ≢ t → get_elem? homes' u ≡ get_elem? homes u)
      → ((u : ℕ) → u < n → CellOk (get_or words (word_of u) 0) (lines u) (thread_view u) (get_elem? homes u))
      → CellOk (get_or words' (word_of t) 0) (lines' t) (thread_view' t) (get_elem? homes' t)
      → (u : ℕ) → u < n → CellOk (get_or words' (word_of u) 0) (lines' u) (thread_view' u) (get_elem? homes' u)
  cells_stay n t words words' lines lines' thread_view thread_view' homes homes' ws ls hs os old now u h =
      dite (ℕ_discrete u t)
      (λ e. subst
      (λ v. CellOk (get_or words' (word_of v) 0) (lines' v) (thread_view' v) (get_elem? homes' v)) (sym e) now)
      (λ ne.
      subst (λ (z : ℕ × CellView T × ThreadView T × maybe.Option (maybe.Option (Option T))). CellOk z.0 z.1 z.2 z.3)
      (λ i. (sym (ws u ne) i, sym (ls u ne) i, sym (hs u ne) i, sym (os u ne) i)) (old u h))

  -- every line except t is unchanged
  pub allowed_stays : (P : ℕ → List T → Type 0) (d : KernelView T) (t : ℕ) (l : CellView T) → t < length d.lines
      → ((u : ℕ) → AreAllowed P u (line d u)) → AreAllowed P t l → (u : ℕ) → AreAllowed P u (line (with_line d t l) u)
  allowed_stays P d t l near old now u =
      dite (ℕ_discrete u t)
      (λ e. subst (λ (z : ℕ × CellView T). AreAllowed P z.0 z.1)
      (λ i. (sym e i, sym (line_here d t l u e near) i)) now)
      (λ ne. subst (AreAllowed P u) (sym (line_else d t l u ne)) (old u))

module _ {T : Type 0} {P : ℕ → List T → Type 0} where
  -- the kernel's token changes cell t
  kernel_step : (n t : ℕ) (s : St T) (k : KeepsRule P n s) → t < n → (w : ℕ) (l : CellView T) (homes : Homes T)
      → length homes ≡ n → ((u : ℕ) → u ≢ t → get_elem? homes u ≡ get_elem? s.homes u)
      → l.taken ≡ (line k.kernel_view t).taken → Fits w l (k.thread_view t) (get_elem? homes t) → AreAllowed P t l
      → KeepsRule P n record {
        words = set s.words (word_of t) w;
        homes = homes;
        views = set s.views 0 (Kernel (with_line k.kernel_view t l));
      }
  kernel_step n t s k h w l homes long others same fits fine =
      let d : KernelView T = with_line k.kernel_view t l in
      let near : t < length k.kernel_view.lines =
      omega (arith, k.lines) in
      let stays = taken_stays k.kernel_view t l near same in
      record {
        kernel_view = d;
        thread_view = k.thread_view;
        words = length-set s.words (word_of t) w ∙ k.words;
        slots = long;
        lines = length-set k.kernel_view.lines t l ∙ k.lines;
        kernel = set_here s.views 0 (Kernel d) (there s.views 0 _ k.kernel);
        seats = length-set s.views 0 (Kernel d) ∙ k.seats;
        unmade = λ u e. ((k.unmade u e).0, stays u ∙ (k.unmade u e).1);
        each_cell =
            cells_stay n t s.words (set s.words (word_of t) w) (line k.kernel_view)
            (line d) k.thread_view k.thread_view s.homes homes (λ u ne. other_word s.words t u w ne)
            (λ u ne. line_else k.kernel_view t l u ne) (λ u ne. refl) others k.each_cell
            (subst (λ (z : ℕ × CellView T). CellOk z.0 z.1 (k.thread_view t) (get_elem? homes t))
            (λ i. (
              sym (get_or-set_same s.words (word_of t) w 0 (omega (arith, k.words, h))) i,
              sym (line_here k.kernel_view t l t refl near) i,
            ))
            (fits, subst (λ o. Settled o (k.thread_view t)) (sym same) (k.each_cell t h).1));
        allowed = allowed_stays P k.kernel_view t l near k.allowed fine;
        each_seat = λ j v e. ⊎_elim (λ (q : (j ≡ 0) × (Kernel d ≡ v)). subst (Knows d k.thread_view j) q.1 (q.0, refl))
            (λ (q : (j ≢ 0) × (get_elem? s.views j ≡ some v)). knows_kernel k.kernel_view d k.thread_view j v q.0 stays
            (k.each_seat j v q.1)) (at_set s.views 0 j (Kernel d) v e);
      }

  -- the same, for a token that knows a kernel view
  pub kernel_changes : (n id t : ℕ) (s : St T) (k : KeepsRule P n s) (d : KernelView T)
      → get_elem? s.views id ≡ some (Kernel d) → t < n → (w : ℕ) (l : CellView T) (homes : Homes T)
      → length homes ≡ n → ((u : ℕ) → u ≢ t → get_elem? homes u ≡ get_elem? s.homes u) → l.taken ≡ (line d t).taken
      → Fits w l (k.thread_view t) (get_elem? homes t) → AreAllowed P t l
      → KeepsRule P n record {
        words = set s.words (word_of t) w;
        homes = homes;
        views = set s.views id (Kernel (with_line d t l));
      }
  kernel_changes n id t s k d at h w l homes long others same fits fine = let q = k.each_seat id (Kernel d) at in
      subst (λ (z : ℕ × KernelView T). KeepsRule P n record {
        words = set s.words (word_of t) w;
        homes = homes;
        views = set s.views z.0 (Kernel (with_line z.1 t l));
      }) (λ i. (sym q.0 i, sym q.1 i))
      (kernel_step n t s k h w l homes long others (same ∙ ap (λ z. (line z t).taken) q.1) fits fine)

  -- the conditions of cell t, as the kernel's token sees them
  pub kernel_sees : (n id t : ℕ) (s : St T) (k : KeepsRule P n s) (d : KernelView T)
      → get_elem? s.views id ≡ some (Kernel d) → t < n
      → Fits (get_or s.words (word_of t) 0) (line d t) (k.thread_view t) (get_elem? s.homes t)
  kernel_sees n id t s k d at h =
      subst (λ z. Fits (get_or s.words (word_of t) 0) (line z t) (k.thread_view t) (get_elem? s.homes t))
      (sym (k.each_seat id (Kernel d) at).1) (k.each_cell t h).0

  -- the condition on the values that were put for thread t, as the kernel's token sees it
  pub kernel_allowed : (n id t : ℕ) (s : St T) (k : KeepsRule P n s) (d : KernelView T)
      → get_elem? s.views id ≡ some (Kernel d) → AreAllowed P t (line d t)
  kernel_allowed n id t s k d at =
      subst (λ z. AreAllowed P t (line z t)) (sym (k.each_seat id (Kernel d) at).1) (k.allowed t)

module _ {T : Type 0} where
  knows_thread : (d : KernelView T) (thread_view : ℕ → ThreadView T) (t : ℕ) (h' : ThreadView T) (j : ℕ) (v : View T)
      → j ≢ suc t → Knows d thread_view j v → Knows d (thread_view_at thread_view t h') j v
  knows_thread d thread_view t h' j (Kernel e) n k = k
  knows_thread d thread_view t h' j (Thread h) n k =
      (k.0, k.1 ∙ sym (other_thread_view thread_view t h' h.thread (λ e. n (k.0 ∙ ap suc e))), k.2)
  knows_thread d thread_view t h' j Joined n k = tt

module _ {T : Type 0} {P : ℕ → List T → Type 0} where
  -- the token of thread t changes its cell
  pub thread_changes : (n id t : ℕ) (s : St T) (k : KeepsRule P n s) (h : ThreadView T)
      → get_elem? s.views id ≡ some (Thread h) → h.thread ≡ t → t < n → (w : ℕ) (h' : ThreadView T) (homes : Homes T)
      → length homes ≡ n → ((u : ℕ) → u ≢ t → get_elem? homes u ≡ get_elem? s.homes u) → h'.thread ≡ t
      → Fits w (line k.kernel_view t) h' (get_elem? homes t)
      → KeepsRule P n record { words = set s.words (word_of t) w; homes = homes; views = set s.views id (Thread h') }
  thread_changes n id t s k h at is near w h' homes long others is' fits =
      let q = k.each_seat id (Thread h) at in
      let seat : id ≡ suc t = q.0 ∙ ap suc is in
      let within = there s.views id _ at in
      let open_ : (line k.kernel_view t).taken ≡ None =
      ap (λ u. (line k.kernel_view u).taken) (sym is) ∙ q.2 in
      record {
        kernel_view = k.kernel_view;
        thread_view = thread_view_at k.thread_view t h';
        words = length-set s.words (word_of t) w ∙ k.words;
        slots = long;
        lines = k.lines;
        kernel = set_else s.views id 0 (Thread h') (λ e. omega (arith, seat)) ∙ k.kernel;
        seats = length-set s.views id (Thread h') ∙ k.seats;
        unmade =
            λ u e. (
              other_thread_view k.thread_view t h' u (λ x. omega (arith, k.seats))
                  ∙ (k.unmade u e).0,
              (k.unmade u e).1,
            );
        each_cell =
            cells_stay n t s.words (set s.words (word_of t) w) (line k.kernel_view) (line k.kernel_view) k.thread_view
            (thread_view_at k.thread_view t h') s.homes homes (λ u ne. other_word s.words t u w ne) (λ u ne. refl)
            (λ u ne. other_thread_view k.thread_view t h' u ne) others k.each_cell
            (subst (λ (z : ℕ × ThreadView T). CellOk z.0 (line k.kernel_view t) z.1 (get_elem? homes t))
            (λ i. (
              sym (get_or-set_same s.words (word_of t) w 0 (omega (arith, k.words, near))) i,
              sym (own_thread_view k.thread_view t h' t refl) i,
            ))
            (fits, subst (λ o. Settled o h') (sym open_) tt));
        allowed = k.allowed;
        each_seat =
            λ j v e.
            ⊎_elim (λ (z : (j ≡ id)
            × (Thread h' ≡ v)). subst (Knows k.kernel_view (thread_view_at k.thread_view t h') j) z.1 (
              z.0 ∙ seat ∙ ap suc (sym is'),
              sym (own_thread_view k.thread_view t h' h'.thread is'),
              ap (λ u. (line k.kernel_view u).taken) is' ∙ open_,
            ))
            (λ (z : (j ≢ id) × (get_elem? s.views j ≡ some v)). knows_thread k.kernel_view k.thread_view t h' j v
            (λ x. z.0 (x ∙ sym seat)) (k.each_seat j v z.1)) (at_set s.views id j (Thread h') v e);
      }

  -- the conditions of its cell, as the token of thread t sees them
  pub thread_sees : (n id t : ℕ) (s : St T) (k : KeepsRule P n s) (h : ThreadView T)
      → get_elem? s.views id ≡ some (Thread h) → h.thread ≡ t → t < n
      → Fits (get_or s.words (word_of t) 0) (line k.kernel_view t) h (get_elem? s.homes t)
  thread_sees n id t s k h at is near =
      subst (λ z. Fits (get_or s.words (word_of t) 0) (line k.kernel_view t) z (get_elem? s.homes t))
      (ap k.thread_view (sym is) ∙ sym (k.each_seat id (Thread h) at).1) (k.each_cell t near).0

module _ {T : Type 0} where
  nothing : (x : T) (o : Option T) → o ≡ None → o ≡ Some x → ⊥
  nothing x o e g = let P : Option T → Type 0 = elim [ None ↦ Unit {0} | Some y ↦ ⊥ ] in subst P (sym e ∙ g) tt

  -- the slot of an opened cell into which nothing is being put
  pub still_empty : (l : CellView T) (o : maybe.Option (maybe.Option (Option T))) → FitsPut l o → l.putting ≡ false
      → o ≡ some (some None)
  still_empty l o (inl p) b = p.1
  still_empty l o (inr p) b = absurd (clash l.putting b p.0)

  -- the slot of a full cell from which nothing is being taken
  pub still_has : (h : ThreadView T) (x : T) (o : maybe.Option (maybe.Option (Option T))) → FitsTake h x o
      → h.taking ≡ None → o ≡ some (some (Some x))
  still_has h x o (inl p) b = p.1
  still_has h x o (inr p) b = absurd (nothing x h.taking b p.0)

  -- a cell's conditions after each step
  pub fits_open : (w : ℕ) (l : CellView T) (h : ThreadView T) (o : maybe.Option (maybe.Option (Option T)))
      → Fits w l h o → w ≡ 0 → Fits 1 (record l { opened = true }) h o
  fits_open zero l h o f e = (refl, f.2, f.3, inl (f.1, f.4))
  fits_open (suc w) l h o f e = absurd (omega arith)

  pub fits_idle : (w : ℕ) (l : CellView T) (h : ThreadView T) (o : maybe.Option (maybe.Option (Option T)))
      → Fits w l h o → w ≡ 0 → l.opened ≡ false
  fits_idle zero l h o f e = f.0
  fits_idle (suc w) l h o f e = absurd (omega arith)

  pub longer : (xs ys : List T) (x : T) → xs ≡ ys ++ x ∷ [] → ¬ (xs ≡ [])
  longer xs ys x e z = let p : length xs ≡ length (ys ++ x ∷ []) = ap length e in
      let q : length xs ≡ 0 =
      ap length z in omega (arith, length-append ys (x ∷ []))

  pub fits_busy : (w : ℕ) (l : CellView T) (h : ThreadView T) (o : maybe.Option (maybe.Option (Option T)))
      → Fits w l h o → w ≢ 0 → IsBusy l
  fits_busy zero l h o f n = absurd (n refl)
  fits_busy (suc zero) l h o f n = inl f.0
  fits_busy (suc (suc zero)) l h o f n = inr (longer l.put h.taken f.2.0 f.2.1)
  fits_busy (suc (suc (suc w))) l h o f n = absurd f

  pub fits_cancel : (w : ℕ) (l : CellView T) (h : ThreadView T) (o : maybe.Option (maybe.Option (Option T)))
      → Fits w l h o → l.opened ≡ true → l.putting ≡ false → Fits 0 (record l { opened = false }) h o
  fits_cancel zero l h o f a b = absurd (clash l.opened f.0 a)
  fits_cancel (suc zero) l h o f a b = (refl, b, f.1, f.2, still_empty l o f.3 b)
  fits_cancel (suc (suc zero)) l h o f a b = absurd (clash l.opened f.0 a)
  fits_cancel (suc (suc (suc w))) l h o f a b = absurd f

  pub fits_begin : (w : ℕ) (l : CellView T) (h : ThreadView T) (o : maybe.Option (maybe.Option (Option T)))
      → Fits w l h o → l.opened ≡ true → l.putting ≡ false → (o ≡ some (some None))
      × Fits w (record l { putting = true }) h (some none)
  fits_begin zero l h o f a b = absurd (clash l.opened f.0 a)
  fits_begin (suc zero) l h o f a b = (still_empty l o f.3 b, (f.0, f.1, f.2, inr (refl, refl)))
  fits_begin (suc (suc zero)) l h o f a b = absurd (clash l.opened f.0 a)
  fits_begin (suc (suc (suc w))) l h o f a b = absurd f

  pub fits_end : (w : ℕ) (l : CellView T) (h : ThreadView T) (o : maybe.Option (maybe.Option (Option T))) (x : T)
      → Fits w l h o → l.putting ≡ true
      → Fits 2 (record l { opened = false; putting = false; put = l.put ++ x ∷ [] }) h (some (some (Some x)))
  fits_end zero l h o x f a = absurd (clash l.putting f.1 a)
  fits_end (suc zero) l h o x f a = (refl, refl, (x, ap (λ ys. ys ++ x ∷ []) f.2, inl (f.1, refl)))
  fits_end (suc (suc zero)) l h o x f a = absurd (clash l.putting f.1 a)
  fits_end (suc (suc (suc w))) l h o x f a = absurd f

  pub fits_take : (w : ℕ) (l : CellView T) (h : ThreadView T) (o : maybe.Option (maybe.Option (Option T)))
      → Fits w l h o → w ≡ 2 → h.taking ≡ None → (x : T) × (o ≡ some (some (Some x)))
      × Fits w l (record h { taking = Some x }) (some none)
  fits_take zero l h o f e b = absurd (omega arith)
  fits_take (suc zero) l h o f e b = absurd (omega arith)
  fits_take (suc (suc zero)) l h o f e b =
      (f.2.0, still_has h f.2.0 o f.2.2 b, (f.0, f.1, (f.2.0, f.2.1, inr (refl, refl))))
  fits_take (suc (suc (suc w))) l h o f e b = absurd f

  -- a full cell: the thread took all values that were put, except the one that it takes now
  pub fits_full : (w : ℕ) (l : CellView T) (h : ThreadView T) (o : maybe.Option (maybe.Option (Option T)))
      (f : Fits w l h o) (e : w ≡ 2) (b : h.taking ≡ None) → l.put ≡ h.taken ++ (fits_take w l h o f e b).0 ∷ []
  unfolding fits_take
  fits_full zero l h o f e b = absurd (omega arith)
  fits_full (suc zero) l h o f e b = absurd (omega arith)
  fits_full (suc (suc zero)) l h o f e b = f.2.1
  fits_full (suc (suc (suc w))) l h o f e b = absurd f

  inside : T → Option T → T
  inside d None = d
  inside d (Some y) = y

  -- the completion that the thread is taking out of a full cell
  in_thread_view : (h : ThreadView T) (y x : T) (o : maybe.Option (maybe.Option (Option T))) → FitsTake h y o
      → h.taking ≡ Some x → y ≡ x
  unfolding inside
  in_thread_view h y x o (inl p) a = absurd (nothing x h.taking p.0 a)
  in_thread_view h y x o (inr p) a = ap (inside x) (sym p.0 ∙ a)

  pub fits_give : (w : ℕ) (l : CellView T) (h : ThreadView T) (o : maybe.Option (maybe.Option (Option T))) (x : T)
      → Fits w l h o → h.taking ≡ Some x
      → Fits 0 l (record h { taken = h.taken ++ x ∷ []; taking = None }) (some (some None))
  fits_give zero l h o x f a = absurd (nothing x h.taking f.2 a)
  fits_give (suc zero) l h o x f a = absurd (nothing x h.taking f.1 a)
  fits_give (suc (suc zero)) l h o x f a =
      (f.0, f.1, refl, f.2.1 ∙ ap (λ y. h.taken ++ y ∷ []) (in_thread_view h f.2.0 x o f.2.2 a), refl)
  fits_give (suc (suc (suc w))) l h o x f a = absurd f
