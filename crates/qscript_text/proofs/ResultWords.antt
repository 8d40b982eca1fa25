-- Parts of results, by their index.
use Rattle.qscript_text.proofs.Common.{◌≡◌, ℕ, List, map, sym}
use Rattle.std.specs.Prelude.{slice_get}
use Rattle.std.specs.Option.{option_map}
use Rattle.std.proofs.lemmas.Option.{slice_get-map}
use Rattle.qscript_text.specs.declared.result_parts.ResultPart.{ResultPart}
use Rattle.qscript_text.specs.ResultParts.{part_word}

-- the word of the part at an index
pub nth_word : (parts : List ResultPart) (at : ℕ)
    → option_map part_word (slice_get parts at) ≡ slice_get (map part_word parts) at
nth_word parts at = sym (slice_get-map part_word parts at)
