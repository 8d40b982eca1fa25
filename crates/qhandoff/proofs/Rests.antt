-- The states of tokens after a put and after a poll.
use Rattle.qhandoff.proofs.Common.{◌≡◌, ℕ, zero, suc, ◌<◌, true, false, List, [], ◌∷◌, ◌++◌, length, set, sym, refl, ap}
use Rattle.qhandoff.proofs.Common.{◌∙◌, Option, Some, None, get_or-set_other, get_or-set_same, dite, ℕ_discrete, rest}
use Rattle.qhandoff.proofs.Common.{CellView, KernelView, ThreadView, View, Kernel, Thread, line, with_line, idle_line}
use Rattle.qhandoff.proofs.Common.{putting_kernel_view, put_kernel_view, kernel_view_in, thread_view_in}
use Rattle.atomic_table.specs.declared.shared.Seat.{Seat}
use Rattle.qhandoff.specs.Seated.{IsKernel, IsThread}
use Rattle.qhandoff.proofs.Allowed.{Sat}

set_twice : {A : Type 0} → (l : List A) (i : ℕ) (a b : A) → set (set l i a) i b ≡ set l i b
set_twice [] i a b = refl
set_twice (x ∷ xs) zero a b = refl
set_twice (x ∷ xs) (suc i) a b = ap (λ ys. x ∷ ys) (set_twice xs i a b)

module _ {T : Type 0} where
  -- the two steps of a put make one change
  pub puts_whole : (d : KernelView T) (t : ℕ) (x : T) → t < length d.lines
      → put_kernel_view (putting_kernel_view d t) t x ≡ put_kernel_view d t x
  puts_whole d t x h =
      let l = line d t in
      let p : CellView T = record l { putting = true } in
      let q : CellView T =
      record l { opened = false; putting = false; put = l.put ++ x ∷ [] } in
      ap (λ (z : CellView T). with_line (putting_kernel_view d t) t
      (record z { opened = false; putting = false; put = z.put ++ x ∷ [] })) (get_or-set_same d.lines t p idle_line h)
      ∙ ap (λ ls. record d { lines = ls }) (set_twice d.lines t p q)

  pub kernel_rests : (s : Seat (Option T) (View T)) (d : KernelView T) → s.me ≡ (Kernel d, [])
      → length d.lines ≡ s.table_id.slots → ((u : ℕ) → (line d u).putting ≡ false) → IsKernel s
  kernel_rests s d e long none_put =
      let same : kernel_view_in s.me.0 ≡ d = ap (λ (m : Sat T). kernel_view_in m.0) e in (
        e ∙ ap (λ z. (Kernel z, [])) (sym same),
        ap (λ z. length z.lines) same
            ∙ long,
        λ u. ap (λ z. (line z u).putting) same ∙ none_put u,
      )

  pub thread_rests : (s : Seat (Option T) (View T)) (t : ℕ) (h : ThreadView T) → s.me ≡ (Thread h, [])
      → t < s.table_id.slots → h.thread ≡ t → h.taking ≡ None → IsThread s t
  thread_rests s t h e near is idle = let same : thread_view_in s.me.0 ≡ h = ap (λ (m : Sat T). thread_view_in m.0) e in
      (e ∙ ap (λ z. (Thread z, [])) (sym same), near, ap (λ z. z.thread) same ∙ is, ap (λ z. z.taking) same ∙ idle)

  -- after a put, nothing is being put for any thread
  pub none_putting : (d : KernelView T) (t : ℕ) (x : T) → t < length d.lines → ((u : ℕ) → (line d u).putting ≡ false)
      → (u : ℕ) → (line (put_kernel_view d t x) u).putting ≡ false
  none_putting d t x h old u = let l = line d t in
      let q : CellView T =
      record l { opened = false; putting = false; put = l.put ++ x ∷ [] } in
      dite (ℕ_discrete u t) (λ e. ap (λ v. (line (put_kernel_view d t x) v).putting) e
      ∙ ap (λ z. z.putting) (get_or-set_same d.lines t q idle_line h))
      (λ n. ap (λ z. z.putting) (get_or-set_other d.lines t u q idle_line n) ∙ old u)

  -- a token between the two steps of a put
  pub in_put : (m m1 m2 : Sat T) (d : KernelView T) (t u : ℕ) (o o' : Option T) → u ≡ t → m ≡ (Kernel d, [])
      → m1 ≡ (Kernel (putting_kernel_view d u), (u, o) ∷ m.1) → m2 ≡ (m1.0, (t, o') ∷ rest m1.1)
      → m2 ≡ (Kernel (putting_kernel_view d t), (t, o') ∷ [])
  in_put m m1 m2 d t u o o' at e f g = g ∙ ap (λ (z : Sat T). (z.0, (t, o') ∷ rest z.1)) f
      ∙ ap (λ (z : Sat T). (Kernel (putting_kernel_view d u), (t, o') ∷ z.1)) e
      ∙ ap (λ v. (Kernel (putting_kernel_view d v), (t, o') ∷ [])) at

  pub after_put : (m2 m3 : Sat T) (d : KernelView T) (t u : ℕ) (x : T) → u ≡ t → t < length d.lines
      → m2 ≡ (Kernel (putting_kernel_view d t), (t, Some x) ∷ [])
      → ((y : T) → m2.1 ≡ (u, Some y) ∷ [] → m3 ≡ (Kernel (put_kernel_view (kernel_view_in m2.0) u y), []))
      → m3 ≡ (Kernel (put_kernel_view d t x), [])
  after_put m2 m3 d t u x at h e go = go x (ap (λ (z : Sat T). z.1) e ∙ ap (λ v. (v, Some x) ∷ []) (sym at))
      ∙ ap (λ (z : Sat T). (Kernel (put_kernel_view (kernel_view_in z.0) u x), [])) e
      ∙ ap (λ v. (Kernel (put_kernel_view (putting_kernel_view d t) v x), [])) at
      ∙ ap (λ z. (Kernel z, [])) (puts_whole d t x h)

  -- the two steps of a poll
  pub in_poll : (m m1 m2 : Sat T) (h : ThreadView T) (t u : ℕ) (x : T) → m ≡ (Thread h, [])
      → m1 ≡ (Thread (record (thread_view_in m.0) { taking = Some x }), (u, Some x) ∷ m.1) → m2
      ≡ (m1.0, (t, None) ∷ rest m1.1)
      → m2 ≡ (Thread (record h { taking = Some x }), (t, None) ∷ [])
  in_poll m m1 m2 h t u x e f g = g ∙ ap (λ (z : Sat T). (z.0, (t, None) ∷ rest z.1)) f
      ∙ ap (λ (z : Sat T). (Thread (record (thread_view_in z.0) { taking = Some x }), (t, None) ∷ z.1)) e

  pub after_poll : (m2 m3 : Sat T) (h : ThreadView T) (t : ℕ) (x : T)
      → m2 ≡ (Thread (record h { taking = Some x }), (t, None) ∷ [])
      → ((y : T) → (thread_view_in m2.0).taking ≡ Some y
      → m3 ≡ (
        Thread (record (thread_view_in m2.0) {
          taken = (thread_view_in m2.0).taken ++ y ∷ [];
          taking =
              None;
        }),
        [],
      ))
      → m3 ≡ (Thread (record h { taken = h.taken ++ x ∷ []; taking = None }), [])
  after_poll m2 m3 h t x e go = go x (ap (λ (z : Sat T). (thread_view_in z.0).taking) e)
      ∙ ap (λ (z : Sat T). (
        Thread (record (thread_view_in z.0) { taken = (thread_view_in z.0).taken ++ x ∷ []; taking = None }),
        [],
      )) e

  held : T → List (ℕ × Option T) → Option T
  held d [] = None
  held d (x ∷ c) = x.1

  -- the completion that a poll took out of the slot
  pub got : (m m1 : Sat T) (h : ThreadView T) (t : ℕ) (x : T) (o : Option T)
      → m1 ≡ (Thread (record (thread_view_in m.0) { taking = Some x }), (t, Some x) ∷ m.1) → m1.1 ≡ (t, o) ∷ rest m1.1
      → o ≡ Some x
  unfolding held
  got m m1 h t x o e f = sym (ap (held x) f) ∙ ap (λ (z : Sat T). held x z.1) e

  pub carries : (m : Sat T) (v : View T) (t u : ℕ) (o : Option T) (c : List (ℕ × Option T)) → u ≡ t
      → m ≡ (v, (u, o) ∷ c) → m.1 ≡ (t, o) ∷ rest m.1
  carries m v t u o c at e = ap (λ (z : Sat T). z.1) e ∙ ap (λ k. (k, o) ∷ c) at
      ∙ ap (λ (z : Sat T). (t, o) ∷ rest z.1) (sym e)
