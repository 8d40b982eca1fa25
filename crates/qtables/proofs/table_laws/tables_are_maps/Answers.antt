use Rattle.qtables.proofs.LookUps.{entry_at-append, entry_at-with_record, entry_at-without_entry}
use Rattle.qtables.proofs.table_laws.tables_are_maps.Goals as goal

pub returns : goal.returns
returns g c = record { created = entry_at-append; written = entry_at-with_record; removed = entry_at-without_entry }
