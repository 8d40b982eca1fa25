use Rattle.qscript.proofs.Common.{Appends, List, Option, arith, drop, length, length-drop, length-take, take, take_all}
use Rattle.qscript.proofs.Common.{ℕ, ◌+◌, ◌-◌, ◌≡◌}
use Rattle.std.proofs.KnownBytes.{Appends-trans}
use Rattle.std.proofs.Math.Seq.{take-add}
use Rattle.std.proofs.lemmas.Bool.Decides.{nat_tests}
use Rattle.qscript.proofs.transfer.write_all.Goals as goal

written_more : (a b d : Option (List ℕ)) (bs : List ℕ) (at n : ℕ) → Appends a b (take at bs)
    → Appends b d (take n (take (length bs - at) (drop at bs))) → Appends a d (take (at + n) bs)
written_more a b d bs at n h k =
    let all : take (length bs - at) (drop at bs) ≡ drop at bs = take_all _ _ (simp length-drop (omega arith)) in
    rw take-add (Appends-trans a b d (take at bs) (take n (drop at bs)) h (rw all at k))

-- a write that takes some bytes hasn't failed
pub writing-preserved : goal.writing-preserved
writing-preserved g c = record {
  clean = grind (arith, nat_tests, c.writing.invariant.clean, c.in-Ok.ensures.faulted, c.if-count-eq0.false);
  within = omega (arith, simp (length-take, length-drop) at c.in-Ok.ensures.bound);
  taken =
      written_more _ _ _ c.args.bytes.now c.writing.at c.in-Ok.count c.writing.invariant.taken c.in-Ok.ensures.bytes;
}
