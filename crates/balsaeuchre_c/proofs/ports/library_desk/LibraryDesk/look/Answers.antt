use Rattle.balsaeuchre_c.proofs.Common.{◌≡◌, ap, arith, drop, drop-drop, length, length-set, min, refl, slice_get}
use Rattle.balsaeuchre_c.proofs.Common.{subst, sym}
use Rattle.balsaeuchre_c.proofs.Common.{◌+◌, ◌∙◌}
use Rattle.std.proofs.lemmas.List.{drop-set-lt}
use Rattle.std.proofs.lemmas.Option.{get_or_from_slice_get}
use Rattle.balsaeuchre_c.proofs.Looks.{one_more}
use Rattle.balsaeuchre_c.specs.Looking.{IsLook}
use Rattle.balsaeuchre_c.proofs.ports.library_desk.LibraryDesk.look.Goals as goal

pub loop-k-init : goal.loop-k-init
loop-k-init c = record { size = refl; looks = λ k t r below at there. absurd (omega (arith, below)); rest = refl }

pub loop-k-preserved : goal.loop-k-preserved
loop-k-preserved c =
    let v = c.loop-k.invariant in
    let k = c.loop-k.k in
    let row = c.row_of.result in
    record {
      size = length-set c.loop-k.rows k row ∙ v.size;
      looks =
          one_more c.threads-threads.result.now c.loop-k.rows k row v.looks
          (λ t at. subst (λ u. IsLook u row)
          (c.index-threads-k.is
          ∙ get_or_from_slice_get c.threads-threads.result.now k t c.index-threads-k.result at) c.row_of.ensures);
      rest =
          drop-set-lt (k + 1) c.loop-k.rows k row (omega arith) ∙ sym (drop-drop 1 k c.loop-k.rows)
          ∙ ap (drop 1) v.rest ∙ drop-drop 1 k c.args.rows.now;
    }

pub returns : goal.returns
returns c =
    let v = c.loop-k.invariant in
    let threads = c.threads-threads.ensures ∙ ap (λ s. s.threads) c.kernel.ensures in
    let ended : c.loop-k.k ≡ c.min-count.result = omega (arith, c.loop-k-test.false, c.loop-k.auto.k-end) in
    record {
      size = v.size;
      many =
          ap (λ ts. min (length ts) (length c.loop-k.rows)) (sym threads)
          ∙ ap (min (length c.threads-threads.result.now)) v.size ∙ sym c.min-count.ensures;
      looks = λ k t r below at there. v.looks k t r (omega (arith, below, ended))
          (ap (λ ts. slice_get ts k) threads ∙ at) there;
      rest =
          ap (λ n. drop n c.loop-k.rows) (sym ended) ∙ v.rest ∙ ap (λ n. drop n c.args.rows.now) ended;
    }
