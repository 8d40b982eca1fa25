use Rattle.std.proofs.Common.{◌%◌, ap, arith, eqb, eq-eqb, ◌∙◌}
use Rattle.std.specs.Int.{w64}
use Rattle.std.proofs.lemmas.Nat.Bits.{bit_at_set_same, bit_at_set_other}
use Rattle.qbase.proofs.ByteSets.{bit-written, other-kept}
use Rattle.qbase.proofs.byte_set.ByteSet.insert.Goals as goal

pub returns-clause-inserted : goal.returns-clause-inserted
returns-clause-inserted c =
    eq-eqb _ 1 (bit-written c.args.self.now.words c.args.number _ (omega arith)
    ∙ bit_at_set_same w64 _ (c.args.number % 64) (omega arith))

pub returns-clause-others : goal.returns-clause-others
returns-clause-others c other different =
    ap (λ bit. eqb bit 1) (other-kept c.args.self.now.words c.args.number other _ (omega arith) different
    (bit_at_set_other w64 _ (c.args.number % 64) (omega arith) (other % 64)))
