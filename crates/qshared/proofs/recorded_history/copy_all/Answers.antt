use Rattle.std.proofs.Common.{◌≡◌, ◌+◌, ◌∷◌, drop, arith, sym, ◌∙◌, ap}
use Rattle.qshared.proofs.Copying.{copying_next, copying_more, copying_room, left_next}
use Rattle.qshared.proofs.recorded_history.copy_all.Goals as goal

pub copy_one-requires-clause-may : goal.copy_one-requires-clause-may
copy_one-requires-clause-may c =
    let x = c.index-completions-i.result in
    let left : drop c.loop-i.i c.args.completions.now ≡ x ∷ drop (c.loop-i.i + 1) c.args.completions.now =
    left_next c.args.completions.now c.loop-i.i x c.loop-i-test.true
    ∙ ap (λ y. y ∷ drop (c.loop-i.i + 1) c.args.completions.now) (sym c.index-completions-i.is) in
    copying_next _ _ _ _ _ _ _ _ c.requires.apart c.requires.may (rw left at c.loop-i.invariant.copying)

pub copy_one-requires-clause-room : goal.copy_one-requires-clause-room
copy_one-requires-clause-room c =
    let x = c.index-completions-i.result in
    let left : drop c.loop-i.i c.args.completions.now ≡ x ∷ drop (c.loop-i.i + 1) c.args.completions.now =
    left_next c.args.completions.now c.loop-i.i x c.loop-i-test.true
    ∙ ap (λ y. y ∷ drop (c.loop-i.i + 1) c.args.completions.now) (sym c.index-completions-i.is) in
    copying_room _ _ _ _ _ _ _ _ c.requires.room (rw left at c.loop-i.invariant.copying)

pub loop-i-preserved : goal.loop-i-preserved
loop-i-preserved c =
    let x = c.index-completions-i.result in
    let left : drop c.loop-i.i c.args.completions.now ≡ x ∷ drop (c.loop-i.i + 1) c.args.completions.now =
    left_next c.args.completions.now c.loop-i.i x c.loop-i-test.true
    ∙ ap (λ y. y ∷ drop (c.loop-i.i + 1) c.args.completions.now) (sym c.index-completions-i.is) in
    record {
      copying =
          copying_more _ _ _ _ _ _ _ _ _ _ (rw left at c.loop-i.invariant.copying) c.copy_one.ensures.copied
          c.copy_one.ensures.logged;
      near = omega (arith, c.loop-i-test.true);
      sized = c.copy_one.ensures.copied.rooms_len ∙ c.loop-i.invariant.sized;
    }
