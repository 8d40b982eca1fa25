-- Lemmas about the rows and bytes that are written.
use Rattle.balsaeuchre_c.proofs.Common.{Completion, List, Row, Some, State, Tells, TellsAt, [], ap, append-nil}
use Rattle.balsaeuchre_c.proofs.Common.{append_assoc, arith, below_more, buffers, common_steps, drop, drop-drop}
use Rattle.balsaeuchre_c.proofs.Common.{drop-set-lt, flat_map-append, get_or-set_same, laid_count, lay_length, lay_over}
use Rattle.balsaeuchre_c.proofs.Common.{leb_tells, length, length-append, length-set, length-take-le, min, refl}
use Rattle.balsaeuchre_c.proofs.Common.{same_Some, slice_get, slice_get_read, start_of, sym, take, take-append-add}
use Rattle.balsaeuchre_c.proofs.Common.{take-append-drop, take-append_seam, take-length, told_bytes, ℕ, ◌++◌, ◌+◌, ◌-◌}
use Rattle.balsaeuchre_c.proofs.Common.{◌<◌, ◌∙◌, ◌∷◌, ◌≡◌}
use Rattle.std.proofs.Math.ListN.{set}
use Rattle.std.proofs.lemmas.Slice.{drop-append-drop}

-- setting an item leaves the items at lower indexes as they are
pub get-set-below : {X : Type 0} (xs : List X) (i k : ℕ) (x : X) → k < i → slice_get (set xs i x) k ≡ slice_get xs k
get-set-below [] i k x h = refl
get-set-below (y ∷ xs) i k x h = grind (arith, get-set-below xs)

-- the written bytes of one more completion
pub buffers-more : (es : List Completion) (i : ℕ) (e : Completion) → slice_get es i ≡ Some e
    → buffers (take (i + 1) es) ≡ buffers (take i es) ++ told_bytes e
buffers-more [] i e h = grind arith
buffers-more (x ∷ es) i e h = grind (arith, common_steps, buffers-more es, append-nil)

-- writing bytes and then more bytes after them is writing both at once
pub lay_over-more : (b xs ys : List ℕ) → lay_over (lay_over b 0 xs) (laid_count b 0 xs) ys ≡ lay_over b 0 (xs ++ ys)
lay_over-more b xs ys =
    let both = take-append-add xs ys (laid_count b (laid_count b 0 xs) ys) in
    let room = leb_tells (length xs) (length b) in
    let cut = append-nil (take (laid_count b 0 xs) xs) in
    grind (
      arith,
      common_steps,
      both,
      room,
      cut,
      take-length xs,
      length-append xs ys,
      take-append_seam,
      drop-append-drop,
      length-take-le,
    )

-- the invariant of `tell`: the first `count` completions are written
pub record IsToldTo (s : State) (completions : List Completion) (old_rows rows : List Row) (old_bytes bytes : List ℕ)
    (count at : ℕ) : Type 0 where
  pub told : (place : ℕ) → place < count → TellsAt s completions old_bytes rows place
  pub rest : drop count rows ≡ drop count old_rows
  pub laid : bytes ≡ lay_over old_bytes 0 (buffers (take count completions))
  pub reached : at ≡ laid_count old_bytes 0 (buffers (take count completions))
  pub room : length bytes ≡ length old_bytes

-- it is preserved when one more completion is written
pub told-more : (s : State) (es : List Completion) (orows rows : List Row) (ob bs : List ℕ) (n at : ℕ) (e : Completion)
    (row : Row)
    → IsToldTo s es orows rows ob bs n at → slice_get es n ≡ Some e → n < length rows
    → Tells row s e at (laid_count bs at (told_bytes e))
    → IsToldTo s es orows (set rows n row) ob (lay_over bs at (told_bytes e)) (n + 1)
    (at + laid_count bs at (told_bytes e))
told-more s es orows rows ob bs n at e row is so h whole =
    let grown : buffers (take (n + 1) es) ≡ buffers (take n es) ++ told_bytes e = buffers-more es n e so in
    let same_room : laid_count bs at (told_bytes e) ≡ laid_count ob at (told_bytes e) =
    ap (λ z. min (length (told_bytes e)) (z - at)) is.room in
    record {
      told = below_more (λ k. TellsAt s es ob (set rows n row) k) n
          (λ k lt f get. let old = is.told k lt f get in (old.0, get-set-below rows n k row lt ∙ old.1, old.2))
          (λ f get. (
            row,
            slice_get_read (set rows n row) (length rows) n row (sym (length-set rows n row)) h
                (sym (get_or-set_same rows n row row h)),
            rw (← same_Some e f (sym so ∙ get), ← is.reached, ← same_room) whole,
          ));
      rest = drop-set-lt (n + 1) rows n row (omega arith) ∙ sym (drop-drop 1 n rows) ∙ ap (λ rs. drop 1 rs) is.rest
          ∙ drop-drop 1 n orows;
      laid = rw (is.laid, is.reached, grown) (lay_over-more ob (buffers (take n es)) (told_bytes e));
      reached = rw (same_room, is.reached, grown) (omega (arith, length-append (buffers (take n es)) (told_bytes e)));
      room = lay_length bs at (told_bytes e) ∙ is.room;
    }

-- the bytes of a completion are at their index in the byte array
pub told_in_room : (es : List Completion) (ob : List ℕ) (n : ℕ) (e : Completion) → slice_get es n ≡ Some e
    → (bytes : List ℕ) → bytes ≡ lay_over ob 0 (buffers es)
    → take (laid_count ob (start_of es ob n) (told_bytes e)) (drop (start_of es ob n) bytes)
    ≡ take (laid_count ob (start_of es ob n) (told_bytes e)) (told_bytes e)
told_in_room es ob n e so bytes laid =
    let before : List ℕ = buffers (take n es) in
    let behind : List ℕ = buffers (drop (n + 1) es) in
    let all : buffers es ≡ before ++ (told_bytes e ++ behind) =
    ap (λ part. buffers part) (sym (take-append-drop (n + 1) es))
    ∙ flat_map-append told_bytes (take (n + 1) es) (drop (n + 1) es)
    ∙ ap (λ z. z ++ behind) (buffers-more es n e so) ∙ append_assoc before (told_bytes e) behind in
    rw (laid, all, ← lay_over-more ob before (told_bytes e ++ behind)) (grind (arith, common_steps))
