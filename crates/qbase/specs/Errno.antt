-- The names of the errors.
use Rattle.std.specs.Prelude.{ℕ, List, codes}
use Rattle.qbase.specs.declared.errno.Errno.{Errno}
use Rattle.qbase.specs.declared.errno.Errno.TheVariants.{Srch, Badf, Inval, Again, Intr, Busy, NoMemory, Down}
use Rattle.qbase.specs.declared.errno.Errno.TheVariants.{Exhausted, TraceFull, NoThread}

-- the error's name in lower case
abbrev pub word_of : Errno → List ℕ
word_of Srch = codes "srch"
word_of Badf = codes "badf"
word_of Inval = codes "inval"
word_of Again = codes "again"
word_of Intr = codes "intr"
word_of Busy = codes "busy"
word_of NoMemory = codes "nomemory"
word_of Down = codes "down"
word_of Exhausted = codes "exhausted"
word_of TraceFull = codes "tracefull"
word_of NoThread = codes "nothread"
