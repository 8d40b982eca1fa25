-- The call that a word and its operands name.
use Rattle.std.specs.Prelude.{ℕ, List, Result, Ok}
use Rattle.std.specs.Option.{ok_or}
use Rattle.qmodel.specs.declared.call.Call.{Call}
use Rattle.qmodel.specs.Kinds.{call_with, kind_named, sorts_of}
use Rattle.qscript_text.specs.declared.fault.LineFault.{LineFault}
use Rattle.qscript_text.specs.declared.fault.LineFault.TheVariants.{UnknownWord}
use Rattle.qscript_text.specs.Reading.Steps.{◌>>=◌}
use Rattle.qscript_text.specs.Reading.Forms.{no_values, values_of}

-- the call of a word and its operands
unfoldable pub call_of : List ℕ → List (List ℕ) → Result Call LineFault
call_of word operands = do
  kind ← ok_or (kind_named word) UnknownWord
  v ← values_of (sorts_of kind) operands (Ok no_values)
  Ok (call_with kind v.numbers v.bytes v.buffer)
