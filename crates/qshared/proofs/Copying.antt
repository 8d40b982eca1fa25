-- Completions that are copied one after another.
use Rattle.qshared.proofs.Common.{◌≡◌, ℕ, ◌+◌, ◌-◌, ◌<◌, ◌≤◌, List, [], ◌∷◌, ◌++◌, length, get_or, set, drop, ap, sym}
use Rattle.qshared.proofs.Common.{subst, ◌∙◌, arith, false, eqb, inl, inr, append_assoc, length-append, length-set}
use Rattle.qshared.proofs.Common.{get_or-set_other, Some, ◌||◌, AllByRecursion, cases_Bool, eqb-false, true≢false}
use Rattle.qshared.proofs.Common.{list_any-append, drop-cons, Completion, gets, AreApart, Logged, place, MayCopy}
use Rattle.qshared.proofs.Common.{Copied}
use Rattle.qshared.proofs.Places.{place_same}
use Rattle.qshared.proofs.Puts.{gets_here, or_first, or_second, gets_middle, all_middle}

pub one_copied : (ts : List ℕ) (x : Completion) (i : ℕ) (rooms : List ℕ) (room : ℕ) → place ts x.thread ≡ Some i
    → Copied ts (x ∷ []) rooms (set rooms i room)
one_copied ts x i rooms room at =
    let other_place =
    λ (t j : ℕ) (is : place ts t ≡ Some j) (e : eqb x.thread t ≡ false) (s : j ≡ i). eqb-false x.thread t e
    (place_same ts x.thread t j (subst (λ k. place ts x.thread ≡ Some k) (sym s) at) is) in
    record {
      room = λ t j is none. get_or-set_other rooms i j room 0 (λ s. elim (cases_Bool (eqb x.thread t)) [
        | inl e ↦ true≢false (sym (gets_here x t e) ∙ none)
        | inr e ↦ other_place t j is e s
      ]);
      rooms_len = length-set rooms i room;
    }

pub more_copied : (ts : List ℕ) (X Y : List Completion) (rooms rooms' rooms'' : List ℕ) → Copied ts X rooms rooms'
    → Copied ts Y rooms' rooms'' → Copied ts (X ++ Y) rooms rooms''
more_copied ts X Y rooms rooms' rooms'' a b = record {
  room = λ t i is none.
      let parts : (gets X t || gets Y t) ≡ false = sym (list_any-append (λ x. eqb x.thread t) X Y) ∙ none in
      b.room t i is (or_second (gets X t) (gets Y t) parts) ∙ a.room t i is (or_first (gets X t) (gets Y t) parts);
  rooms_len = b.rooms_len ∙ a.rooms_len;
}

-- some of the completions X are copied, and these are left
pub record Copying (ts : List ℕ) (X : List Completion) (rooms rooms' : List ℕ) (log log' : Logged)
    (left : List Completion) : Type 0 where
  pub done : List Completion
  pub whole : done ++ left ≡ X
  pub copied : Copied ts done rooms rooms'
  pub logged : log' ≡ record log {
    completions = log.completions ++ done;
    completion_room = log.completion_room - length done;
  }

pub copying_next : (ts : List ℕ) (X : List Completion) (rooms rooms' : List ℕ) (log log' : Logged) (x : Completion)
    (left : List Completion)
    → AreApart X → AllByRecursion (MayCopy ts rooms) X → Copying ts X rooms rooms' log log' (x ∷ left)
    → MayCopy ts rooms' x
copying_next ts X rooms rooms' log log' x left apart may h =
    let m : MayCopy ts rooms x =
    all_middle (MayCopy ts rooms) h.done left x (subst (AllByRecursion (MayCopy ts rooms)) (sym h.whole) may) in
    let none : gets h.done x.thread ≡ false = gets_middle h.done left x (subst AreApart (sym h.whole) apart) in (
      m.0,
      m.1,
      let same : get_or rooms' m.0 0 ≡ get_or rooms m.0 0 = h.copied.room x.thread m.0 m.1 none in
          omega (arith, m.2),
    )

-- there is room for the next completion
pub copying_room : (ts : List ℕ) (X : List Completion) (rooms rooms' : List ℕ) (log log' : Logged) (x : Completion)
    (left : List Completion)
    → length X ≤ log.completion_room → Copying ts X rooms rooms' log log' (x ∷ left) → 0 < log'.completion_room
copying_room ts X rooms rooms' log log' x left room h =
    let many : length (h.done ++ x ∷ left) ≡ length X = ap length h.whole in
    let parts : length (h.done ++ x ∷ left) ≡ length h.done + length (x ∷ left) = length-append h.done (x ∷ left) in
    let here : log'.completion_room ≡ log.completion_room - length h.done = ap (λ l. l.completion_room) h.logged in
    omega arith

pub copying_more : (ts : List ℕ) (X : List Completion) (rooms rooms' rooms'' : List ℕ) (log log' log'' : Logged)
    (x : Completion) (left : List Completion)
    → Copying ts X rooms rooms' log log' (x ∷ left) → Copied ts (x ∷ []) rooms' rooms''
    → log'' ≡ record log' { completions = log'.completions ++ x ∷ []; completion_room = log'.completion_room - 1 }
    → Copying ts X rooms rooms'' log log'' left
copying_more ts X rooms rooms' rooms'' log log' log'' x left h one logged =
    let more : length (h.done ++ x ∷ []) ≡ length h.done + 1 = length-append h.done (x ∷ []) in
    let room : log.completion_room - length h.done - 1 ≡ log.completion_room - length (h.done ++ x ∷ []) =
    omega arith in
    record {
      done = h.done ++ x ∷ [];
      whole = append_assoc h.done (x ∷ []) left ∙ h.whole;
      copied = more_copied ts h.done (x ∷ []) rooms rooms' rooms'' h.copied one;
      logged =
          logged
          ∙ ap (λ (l : Logged). record l {
            completions = l.completions ++ x ∷ [];
            completion_room = l.completion_room - 1;
          }) h.logged
          ∙ ap (λ ys. record log { completions = ys; completion_room = log.completion_room - length h.done - 1 })
          (append_assoc log.completions h.done (x ∷ []))
          ∙ ap (λ n. record log { completions = log.completions ++ (h.done ++ x ∷ []); completion_room = n }) room;
    }

pub left_next : (X : List Completion) (i : ℕ) (d : Completion) → i < length X → drop i X ≡ get_or X i d ∷ drop (i + 1) X
left_next X i d near = let e : Prim.Native.Nat.suc i ≡ i + 1 = omega arith in drop-cons X i d near
    ∙ ap (λ k. get_or X i d ∷ drop k X) e
