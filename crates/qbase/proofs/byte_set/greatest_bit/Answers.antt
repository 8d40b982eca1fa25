use Rattle.std.proofs.Common.{rules}
use Rattle.qbase.proofs.ByteSets.{greatest-bit}
use Rattle.qbase.proofs.byte_set.greatest_bit.Goals as goal

pub returns-clause-set : goal.returns-clause-set
returns-clause-set c = (greatest-bit c.args.word c.requires (search rules)).here

pub returns-clause-greatest : goal.returns-clause-greatest
returns-clause-greatest c = (greatest-bit c.args.word c.requires (search rules)).above
