-- The completions that a thread took are a prefix of the completions put for it, and at most one is missing.
use Rattle.qhandoff.proofs.Common.{◌≡◌, ℕ, zero, suc, ◌<◌, ◌≤◌, List, [], ◌∷◌, ◌++◌, length, sym, ◌∙◌, subst, arith}
use Rattle.qhandoff.proofs.Common.{get_or, append-nil, some, get_elem?, CellView, KernelView, ThreadView, Kernel}
use Rattle.qhandoff.proofs.Common.{Thread, Fits, KeepsRule, Slot, line, word_of}
use Rattle.qhandoff.proofs.Changes.{St}

module _ {T : Type 0} where
  -- xs is a prefix of ys, and at most one element shorter
  abbrev pub Near : List T → List T → Type 0
  Near xs ys = (rest : List T) × (ys ≡ xs ++ rest) × (length rest ≤ 1)

  level : (xs ys : List T) → ys ≡ xs → Near xs ys
  level xs ys e = ([], e ∙ sym (append-nil xs), omega arith)

  ahead : (xs ys : List T) (x : T) → ys ≡ xs ++ x ∷ [] → Near xs ys
  ahead xs ys x e = (x ∷ [], e, omega arith)

  fits_near : (w : ℕ) (l : CellView T) (h : ThreadView T) (o : Slot T) → Fits w l h o → Near h.taken l.put
  fits_near zero l h o f = level h.taken l.put f.3
  fits_near (suc zero) l h o f = level h.taken l.put f.2
  fits_near (suc (suc zero)) l h o f = ahead h.taken l.put f.2.0 f.2.1
  fits_near (suc (suc (suc w))) l h o f = absurd f

module _ {T : Type 0} {P : ℕ → List T → Type 0} where
  pub taken_is_near : (n : ℕ) (s : St T) (d : KernelView T) (h : ThreadView T) (i j : ℕ) → KeepsRule P n s
      → get_elem? s.views i ≡ some (Kernel d) → get_elem? s.views j ≡ some (Thread h) → h.thread < n
      → Near h.taken (line d h.thread).put
  taken_is_near n s d h i j k at at' near = let near' =
      fits_near (get_or s.words (word_of h.thread) 0) (line k.kernel_view h.thread) (k.thread_view h.thread)
      (get_elem? s.homes h.thread) (k.each_cell h.thread near).0 in
      subst (λ (z : KernelView T × ThreadView T). Near z.1.taken (line z.0 h.thread).put)
      (λ e. (sym (k.each_seat i (Kernel d) at).1 e, sym (k.each_seat j (Thread h) at').1 e)) near'
