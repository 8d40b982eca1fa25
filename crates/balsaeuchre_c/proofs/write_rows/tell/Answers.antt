use Rattle.balsaeuchre_c.proofs.Common.{arith, common_steps, refl, slice_get_read, take, ◌≡◌}
use Rattle.balsaeuchre_c.proofs.Tellings.{told-more}
use Rattle.balsaeuchre_c.proofs.write_rows.tell.Goals as goal

pub loop-place-preserved : goal.loop-place-preserved
loop-place-preserved c =
    rw (c.lay_told-written.ensures.after, c.lay_told-written.ensures.count, c.told_front-told.ensures)
    (told-more c.args.kernel.now c.args.completions.now c.args.rows.now c.loop-place.rows c.args.bytes.now
    c.loop-place.bytes c.loop-place.place c.loop-place.start c.index-completions-place.result c.write.new.self
    c.loop-place.invariant
    (slice_get_read c.args.completions.now _ c.loop-place.place c.index-completions-place.result refl
    (omega arith) c.index-completions-place.is) (omega arith)
    (rw (c.lay_told-written.ensures.count, c.told_front-told.ensures) at c.write.ensures))

pub returns : goal.returns
returns c = let n = c.loop-place.place in
    let whole : take n c.args.completions.now ≡ c.args.completions.now =
    grind (arith, common_steps) in grind arith
