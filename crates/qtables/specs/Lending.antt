-- The table after a `&mut` to one of its records has ended: the record of this number is the last value that
-- was written through r. If r is `None`, the table hasn't changed.
use Rattle.std.specs.Prelude.{ℕ, List, Option}
use Rattle.std.specs.Borrow.{LendsIf, Fml, RattleType, MutBor}
use Rattle.qtables.specs.Entries.{with_record}
use Rattle.qtables.specs.contracts.entries.Entries.{the_row as entries_row}
use Rattle.qtables.specs.contracts.channels.Channels.{the_row as channels_row}
use Rattle.qtables.specs.contracts.connections.Connections.{the_row as connections_row}
use Rattle.qtables.specs.contracts.connection.Connection.{the_row as connection_row}
use Rattle.qtables.specs.declared.connection.Connection.{Connection}

module _ (R : RattleType) (t : MutBor (List (ℕ × R.Denot))) (id : ℕ) (r : Option (MutBor R.Denot)) where
  -- the loan of a record of the map that channels and connections use
  abbrev pub lends_entry : Fml
  lends_entry = LendsIf (entries_row R) R t r (with_record t.now id) t.now

  -- the loan of a record of the table of channels
  abbrev pub lends_channel : Fml
  lends_channel = LendsIf (channels_row R) R t r (with_record t.now id) t.now

-- the loan of a connection of the table of connections
abbrev pub lends_connection : MutBor (List (ℕ × Connection)) → ℕ → Option (MutBor Connection) → Fml
lends_connection t id r = LendsIf connections_row connection_row t r (with_record t.now id) t.now
