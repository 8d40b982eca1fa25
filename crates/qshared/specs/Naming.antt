-- The parts and the ports that belong to one kernel.
use Rattle.std.specs.Prelude.{◌≡◌, ℕ, List, length, map}
use mathlib.Core.Option.{some}
use lib.ListN.{get_elem?}
use Rattle.qkernel_state.specs.Contents.{members_of}
use Rattle.qhandoff.specs.Words.{cells_id}
use Rattle.qshared.specs.Names.{Names}
use Rattle.qshared.specs.declared.parts.Parts.{Parts}

-- the names of a kernel that is made of these parts
abbrev pub names_of : Parts → Names
names_of p = record {
  roster = members_of p.kernel.threads;
  cells = cells_id p.cells;
  lists = map (λ h. h.name) p.heard.items;
  history = p.history.name;
  limit = p.limit;
}

-- the name of the ledger of these parts
abbrev pub ledger_of : Parts → ℕ
ledger_of p = p.blank.name

-- the number of shares into which the ledger of these parts can be split
abbrev pub shares_of : Parts → ℕ
shares_of p = p.blank.parts

-- the parts have these names, and their ledger has this name and as many shares as there are cells
abbrev pub AreParts : Names → ℕ → ℕ → Parts → Type 0
AreParts names ledger shares p =
    (cells_id p.cells ≡ names.cells) × (ledger_of p ≡ ledger) × (shares ≡ names.cells.slots)
    × (members_of p.kernel.threads ≡ names.roster)
    × (map (λ h. h.name) p.heard.items ≡ names.lists) × (p.limit ≡ names.limit)
    × (p.history.name ≡ names.history)

-- there are this many ports, and the port at index k has the number k
abbrev pub AreAll : {P : Type 0} → (P → ℕ) → ℕ → List P → Type 0
AreAll {P} number many ports =
    (length ports ≡ many) × ((k : ℕ) (p : P) → get_elem? ports k ≡ some p → number p ≡ k)
