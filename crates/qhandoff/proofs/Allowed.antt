-- Each step is allowed.
use Rattle.qhandoff.proofs.Common.{◌≡◌, ◌≢◌, ℕ, zero, suc, ◌+◌, ◌<◌, ◌≤◌, eqb, Bool, true, false, List, [], ◌∷◌, ◌++◌}
use Rattle.qhandoff.proofs.Common.{length, replicate, map, get_or, set, sym, refl, ap, ◌∙◌, subst, ⊎_elim, ◌⊎◌, inl}
use Rattle.qhandoff.proofs.Common.{inr, arith, Option, Some, None, length-set, length-append, get_or-set_other}
use Rattle.qhandoff.proofs.Common.{get_or-set_same, dite, none, some, ℕ_discrete, get_elem?, Me, Act, keeps, takes}
use Rattle.qhandoff.proofs.Common.{gives, Valid, stepped, step, carried_after, Allows, set_here, set_else, set_again}
use Rattle.qhandoff.proofs.Common.{exchanged, CellView, KernelView, ThreadView, View, Kernel, Thread, KeepsRule, Fits}
use Rattle.qhandoff.proofs.Common.{line, word_of, OpenTells, CancelTells, BeginPutTells, EndPutTells, TakeTells}
use Rattle.qhandoff.proofs.Common.{GiveBackTells, IsBusy, opened_kernel_view, cancelled_kernel_view}
use Rattle.qhandoff.proofs.Common.{putting_kernel_view, put_kernel_view}
use Rattle.std.proofs.lemmas.List.{set-get_or}
use prog.Atomic.{either}
use Rattle.qhandoff.proofs.Changes.{St, cell_of_word, kernel_changes, kernel_sees, thread_changes, thread_sees}
use Rattle.qhandoff.proofs.Changes.{fits_open, fits_idle, fits_busy, fits_cancel, fits_begin, fits_end, fits_take}
use Rattle.qhandoff.proofs.Changes.{fits_full, fits_give, kernel_allowed, longer}

abbrev pub Sat : Type 0 → Type 0
Sat T = Me (Option T) (View T)

module _ {T : Type 0} where
  -- the end of a step that found n
  abbrev Ends : (ℕ → List T → Type 0) → ℕ → ℕ → ℕ → List (ℕ × Option T) → St T → (ℕ → Sat T → Type 0) → ℕ → ℕ → Type 0
  Ends P n id i c s then m z = (w : View T) × (a : Act (Option T)) × Valid s.homes c a
      × KeepsRule P n (stepped s i z id c w a) × then m (w, carried_after c a)

module _ {T : Type 0} {P : ℕ → List T → Type 0} where
  same : (n id i : ℕ) (s : St T) (v : View T) → KeepsRule P n s → get_elem? s.views id ≡ some v
      → KeepsRule P n record { words = set s.words i (get_or s.words i 0); homes = s.homes; views = set s.views id v }
  same n id i s v k at =
      subst (λ (z : List ℕ × List (View T)). KeepsRule P n record { words = z.0; homes = s.homes; views = z.1 })
      (λ j. (sym (set-get_or s.words i 0) j, sym (set_again s.views id v at) j)) k

  opens_here : (n id t : ℕ) (d : KernelView T) → t < n
      → Allows (KeepsRule P n) n id (Kernel d, []) (word_of t) (λ m. either (eqb m 0) 1 m)
      (OpenTells (step n (word_of t) 0 1 none) (Kernel d, []))
  opens_here n id t d h s k long at small = let back = sym (cell_of_word t) in
      let m : ℕ = get_or s.words (word_of t) 0 in
      let l = line d t in
      let fit = kernel_sees n id t s k d at h in
      exchanged m 0 1 (Ends P n id (word_of t) [] s (OpenTells (step n (word_of t) 0 1 none) (Kernel d, [])) m)
      (λ e. (
        Kernel (opened_kernel_view d t),
        keeps,
        tt,
        kernel_changes n id t s k d at h 1 (record l { opened = true }) s.homes k.slots (λ u ne. refl) refl
            (fits_open m l (k.thread_view t) _ fit e) (kernel_allowed n id t s k d at),
        (
          (λ z. (
            ap (λ u. (Kernel (opened_kernel_view d u), [])) back,
            ap (λ u. (line d u).opened) (sym back)
                ∙ fits_idle m l (k.thread_view t) _ fit e,
          )),
          (λ ne. absurd (ne e)),
        ),
      ))
      (λ ne. (
        Kernel d,
        keeps,
        tt,
        same n id (word_of t) s (Kernel d) k at,
        (
          (λ z. absurd (ne z)),
          (λ z. (refl, subst (λ u. IsBusy (line d u)) back (fits_busy m l (k.thread_view t) _ fit ne))),
        ),
      ))

  cancels_here : (n id t : ℕ) (d : KernelView T) → t < n → (line d t).opened ≡ true → (line d t).putting ≡ false
      → Allows (KeepsRule P n) n id (Kernel d, []) (word_of t) (λ _. 0)
      (λ _. CancelTells (step n (word_of t) 0 0 none) (Kernel d, []) 0)
  cancels_here n id t d h a b s k long at small = let l = line d t in
      let fit = kernel_sees n id t s k d at h in (
        Kernel (cancelled_kernel_view d t),
        keeps,
        tt,
        kernel_changes n id t s k d at h 0
            (record l {
              opened =
                  false;
            }) s.homes k.slots (λ u ne. refl) refl (fits_cancel _ l (k.thread_view t) _ fit a b)
            (kernel_allowed n id t s k d at),
        ap (λ u. (Kernel (cancelled_kernel_view d u), [])) (sym (cell_of_word t)),
      )

  begins_here : (n id t : ℕ) (d : KernelView T) → t < n → (line d t).opened ≡ true → (line d t).putting ≡ false
      → Allows (KeepsRule P n) n id (Kernel d, []) (word_of t) (λ m. m)
      (BeginPutTells (step n (word_of t) 0 0 none) (Kernel d, []))
  begins_here n id t d h a b s k long at small = let m : ℕ = get_or s.words (word_of t) 0 in
      let l = line d t in
      let fit = kernel_sees n id t s k d at h in
      let r = fits_begin m l (k.thread_view t) _ fit a b in (
        Kernel (putting_kernel_view d t),
        takes t None,
        r.0,
        kernel_changes n id t s k d at h m (record l { putting = true }) (set s.homes t none)
            (length-set s.homes t none ∙ k.slots) (λ u ne. set_else s.homes t u none ne) refl
            (subst (Fits m (record l { putting = true }) (k.thread_view t))
            (sym (set_here s.homes t none (omega (arith, k.slots)))) r.1)
            (kernel_allowed n id t s k d at),
        ap (λ u. (Kernel (putting_kernel_view d u), (u, None) ∷ [])) (sym (cell_of_word t)),
      )

module _ {T : Type 0} where
  held : T → List (ℕ × Option T) → T
  held d [] = d
  held d ((k, None) ∷ c) = d
  held d ((k, Some x) ∷ c) = x

  one : (t u : ℕ) (x y : T)
      → Rattle.std.proofs.Common.◌≡◌ {A = List (ℕ × Option T)} ((t, Some x) ∷ []) ((u, Some y) ∷ []) → x ≡ y
  unfolding held
  one t u x y e = ap (held x) e

module _ {T : Type 0} {P : ℕ → List T → Type 0} where
  ends_here : (n id t : ℕ) (d : KernelView T) (x : T) → t < n → (line d t).putting ≡ true
      → P t ((line d t).put ++ x ∷ [])
      → Allows (KeepsRule P n) n id (Kernel d, (t, Some x) ∷ []) (word_of t) (λ _. 2)
      (λ _. EndPutTells (step n (word_of t) 2 0 none) (Kernel d, (t, Some x) ∷ []) 2)
  ends_here n id t d x h a fine s k long at small = let l = line d t in
      let fit = kernel_sees n id t s k d at h in
      let l' : CellView T = record l { opened = false; putting = false; put = l.put ++ x ∷ [] } in (
        Kernel (put_kernel_view d t x),
        gives,
        tt,
        kernel_changes n id t s k d at h 2 l' (set s.homes t (some (Some x)))
            (length-set s.homes t (some (Some x)) ∙ k.slots) (λ u ne. set_else s.homes t u (some (Some x)) ne) refl
            (subst (Fits 2 l' (k.thread_view t)) (sym (set_here s.homes t (some (Some x)) (omega (arith, k.slots))))
            (fits_end _ l (k.thread_view t) _ x fit a)) (inr fine),
        (λ y e. ap (λ z. (Kernel (put_kernel_view d t z), [])) (one t _ x y e)
            ∙ ap (λ u. (Kernel (put_kernel_view d u y), [])) (sym (cell_of_word t))),
      )

  -- the values that a thread took and the one that it takes are all that were put for it
  taken_allowed : (n t : ℕ) (s : St T) (k : KeepsRule P n s) (h : ThreadView T) (x : T) → h.thread ≡ t
      → (line k.kernel_view t).put ≡ h.taken ++ x ∷ [] → P h.thread (h.taken ++ x ∷ [])
  taken_allowed n t s k h x is full = subst (λ u. P u (h.taken ++ x ∷ [])) (sym is)
      (⊎_elim (λ none. absurd (longer _ h.taken x full none)) (λ fine. subst (P t) full fine) (k.allowed t))

  takes_here : (Q : ℕ → List T → Type 0) → ((u : ℕ) (xs : List T) → P u xs → Q u xs) → (n id t : ℕ) (h : ThreadView T)
      → h.thread ≡ t → t < n → h.taking ≡ None
      → Allows (KeepsRule P n) n id (Thread h, []) (word_of t) (λ m. m)
      (TakeTells Q (step n (word_of t) 0 0 none) (Thread h, []))
  takes_here Q told n id t h is near idle s k long at small = let m : ℕ = get_or s.words (word_of t) 0 in
      let l = line k.kernel_view t in
      let fit = thread_sees n id t s k h at is near in
      dite (ℕ_discrete m 2)
      (λ e. let r = fits_take m l h _ fit e idle in
      let x : T = r.0 in
      let h' : ThreadView T =
      record h { taking = Some x } in (
        Thread h',
        takes t (Some x),
        r.1,
        thread_changes n id t s k h at is near m h' (set s.homes t none) (length-set s.homes t none ∙ k.slots)
            (λ u ne. set_else s.homes t u none ne) is
            (subst (Fits m l h') (sym (set_here s.homes t none (omega (arith, k.slots)))) r.2),
        (
          (λ z. (
            x,
            told _ _ (taken_allowed n t s k h x is (fits_full m l h _ fit e idle)),
            ap (λ u. (Thread h', (u, Some x) ∷ [])) (sym (cell_of_word t)),
          )),
          (λ ne. absurd (ne e)),
        ),
      ))
      (λ ne. (Thread h, keeps, tt, same n id (word_of t) s (Thread h) k at, ((λ z. absurd (ne z)), (λ z. refl))))

module _ {T : Type 0} where
  inner : T → Option T → T
  inner d None = d
  inner d (Some x) = x

  same_inside : (x y : T) (o : Option T) → o ≡ Some x → o ≡ Some y → x ≡ y
  unfolding inner
  same_inside x y o e f = ap (inner x) (sym e ∙ f)

module _ {T : Type 0} {P : ℕ → List T → Type 0} where
  gives_here : (n id t : ℕ) (h : ThreadView T) (x : T) → h.thread ≡ t → t < n → h.taking ≡ Some x
      → Allows (KeepsRule P n) n id (Thread h, (t, None) ∷ []) (word_of t) (λ _. 0)
      (λ _. GiveBackTells (step n (word_of t) 0 0 none) (Thread h, (t, None) ∷ []) 0)
  gives_here n id t h x is near a s k long at small = let l = line k.kernel_view t in
      let fit = thread_sees n id t s k h at is near in
      let h' : ThreadView T =
      record h { taken = h.taken ++ x ∷ []; taking = None } in (
        Thread h',
        gives,
        tt,
        thread_changes n id t s k h at is near 0 h' (set s.homes t (some None))
            (length-set s.homes t (some None) ∙ k.slots) (λ u ne. set_else s.homes t u (some None) ne) is
            (subst (Fits 0 l h') (sym (set_here s.homes t (some None) (omega (arith, k.slots))))
            (fits_give _ l h _ x fit a)),
        (λ y e. ap (λ z. (Thread (record h { taken = h.taken ++ z ∷ []; taking = None }), []))
            (same_inside x y h.taking a e)),
      )

module _ {T : Type 0} where
  -- the same, for a token and a word that a clause names
  abbrev pub Lawful : (ℕ → List T → Type 0) → ℕ → ℕ → ℕ → ℕ → Sat T → (ℕ → ℕ)
      → (ℕ → Sat T → ℕ → Sat T → Type 0) → Type 0
  Lawful P key n id w m f then = Allows (KeepsRule P key) n id m w f (then w m)

module _ {T : Type 0} {P : ℕ → List T → Type 0} where
  along : (key n id t w : ℕ) (f : ℕ → ℕ) (then : ℕ → Sat T → ℕ → Sat T → Type 0) (m m' : Sat T) → key ≡ n → m ≡ m'
      → w ≡ word_of t → Lawful P n n id (word_of t) m' f then → Lawful P key n id w m f then
  along key n id t w f then m m' e is at law =
      subst (λ (z : ℕ × Sat T × ℕ). Lawful P z.0 n id z.2 z.1 f then) (λ i. (sym e i, sym is i, sym at i)) law

  pub open_allowed : (key n id t w : ℕ) (m : Sat T) (d : KernelView T) → key ≡ n → w ≡ word_of t → m ≡ (Kernel d, [])
      → t < n → Allows (KeepsRule P key) n id m w (λ r. either (eqb r 0) 1 r) (OpenTells (step n w 0 1 none) m)
  open_allowed key n id t w m d e at is h =
      along key n id t w (λ r. either (eqb r 0) 1 r) (λ v. OpenTells (step n v 0 1 none)) m (
        Kernel d,
        [],
      ) e is at (opens_here n id t d h)

  pub cancel_allowed : (key n id t w : ℕ) (m : Sat T) (d : KernelView T) → key ≡ n → w ≡ word_of t → m ≡ (Kernel d, [])
      → t < n → (line d t).opened ≡ true → (line d t).putting ≡ false
      → Allows (KeepsRule P key) n id m w (λ _. 0) (λ _. CancelTells (step n w 0 0 none) m 0)
  cancel_allowed key n id t w m d e at is h a b =
      along key n id t w (λ _. 0) (λ v q _. CancelTells (step n v 0 0 none) q 0) m (
        Kernel d,
        [],
      ) e is at (cancels_here n id t d h a b)

  pub begin_allowed : (key n id t w : ℕ) (m : Sat T) (d : KernelView T) → key ≡ n → w ≡ word_of t → m ≡ (Kernel d, [])
      → t < n → (line d t).opened ≡ true → (line d t).putting ≡ false
      → Allows (KeepsRule P key) n id m w (λ r. r) (BeginPutTells (step n w 0 0 none) m)
  begin_allowed key n id t w m d e at is h a b =
      along key n id t w (λ r. r) (λ v. BeginPutTells (step n v 0 0 none)) m (
        Kernel d,
        [],
      ) e is at (begins_here n id t d h a b)

  pub end_allowed : (key n id t w : ℕ) (m : Sat T) (d : KernelView T) (x : T) → key ≡ n → w ≡ word_of t
      → m ≡ (Kernel d, (t, Some x) ∷ []) → t < n → (line d t).putting ≡ true → P t ((line d t).put ++ x ∷ [])
      → Allows (KeepsRule P key) n id m w (λ _. 2) (λ _. EndPutTells (step n w 2 0 none) m 2)
  end_allowed key n id t w m d x e at is h a fine =
      along key n id t w (λ _. 2) (λ v q _. EndPutTells (step n v 2 0 none) q 2) m (Kernel d, (t, Some x) ∷ []) e is at
      (ends_here n id t d x h a fine)

  pub take_allowed : (Q : ℕ → List T → Type 0) → ((u : ℕ) (xs : List T) → P u xs → Q u xs) → (key n id t w : ℕ)
      (m : Sat T) (h : ThreadView T) → key ≡ n → w ≡ word_of t → m ≡ (Thread h, [])
      → h.thread ≡ t → t < n → h.taking ≡ None
      → Allows (KeepsRule P key) n id m w (λ r. r) (TakeTells Q (step n w 0 0 none) m)
  take_allowed Q told key n id t w m h e at is a near b =
      along key n id t w (λ r. r) (λ v. TakeTells Q (step n v 0 0 none)) m (
        Thread h,
        [],
      ) e is at (takes_here Q told n id t h a near b)

  pub give_allowed : (key n id t w : ℕ) (m : Sat T) (h : ThreadView T) (x : T) → key ≡ n → w ≡ word_of t
      → m ≡ (Thread h, (t, None) ∷ []) → h.thread ≡ t → t < n → h.taking ≡ Some x
      → Allows (KeepsRule P key) n id m w (λ _. 0) (λ _. GiveBackTells (step n w 0 0 none) m 0)
  give_allowed key n id t w m h x e at is a near b =
      along key n id t w (λ _. 0) (λ v q _. GiveBackTells (step n v 0 0 none) q 0) m (Thread h, (t, None) ∷ []) e is at
      (gives_here n id t h x a near b)
