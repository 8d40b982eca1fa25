use base.Growing.{at_least}
use Rattle.qshared.proofs.PrefixCommon.{IsSync, sendable, Struct, the_row, the_type}
use denote.Struct.Owning.{shape}

pub sync : IsSync the_row
unfolding at_least
sync = let fields : IsSync (Struct (shape the_type)) = search sendable depth 20 in
    record { shared = λ d b o κ. (fields.shared tt b o κ, tt) }
