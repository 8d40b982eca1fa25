-- Reading to the end, and writing all bytes.
use Rattle.std.specs.Prelude.{◌≡◌, ℕ, ◌<◌, ◌≤◌, Bool, true, false, List, length, take, Option}
use Rattle.std.specs.Io.KnownBytes.{Consumes, Appends, IsAtEnd}
use Rattle.qscript_text.specs.declared.fault.ScriptFault.{ScriptFault}
use Rattle.qscript_text.specs.declared.fault.ScriptFault.TheVariants as faults
use Rattle.qscript_text.specs.TextLimit.{most_text}

-- a reader gave these bytes, at most as many as a script may have, and then its end
pub record IsReading (before after : Option (List ℕ)) (bytes : List ℕ) : Type 0 where
  pub given : Consumes before after bytes
  pub ended : IsAtEnd after
  pub short : length bytes ≤ most_text

-- a reader gave some bytes, at most as many as a script may have, and then failed
pub record FailsWithin (before after : Option (List ℕ)) (faulted : Bool) : Type 0 where
  pub bytes : List ℕ
  pub given : Consumes before after bytes
  pub short : length bytes ≤ most_text
  pub fault : faulted ≡ true

-- a reader gave more bytes than a script may have, and hadn't failed
pub record IsOverfull (before after : Option (List ℕ)) (faulted : Bool) : Type 0 where
  pub bytes : List ℕ
  pub given : Consumes before after bytes
  pub long : most_text < length bytes
  pub no_fault : faulted ≡ false

-- the reason why reading stopped before the end
abbrev pub IsReadFault : ScriptFault → Option (List ℕ) → Option (List ℕ) → Bool → Type 0
IsReadFault faults.Read before after faulted = FailsWithin before after faulted
IsReadFault faults.TooLong before after faulted = IsOverfull before after faulted
IsReadFault faults.NoMemory before after faulted = Unit {0}
IsReadFault (faults.Line n f) before after faulted = ⊥
IsReadFault faults.Write before after faulted = ⊥

-- a writer took some bytes from the front, perhaps none or all of them, and then failed
pub record StopsWithin (before after : Option (List ℕ)) (faulted : Bool) (bytes : List ℕ) : Type 0 where
  pub count : ℕ
  pub within : count ≤ length bytes
  pub taken : Appends before after (take count bytes)
  pub fault : faulted ≡ true

-- the reason why writing stopped
abbrev pub IsWriteFault : ScriptFault → Option (List ℕ) → Option (List ℕ) → Bool → List ℕ → Type 0
IsWriteFault e before after faulted bytes = (e ≡ faults.Write) × StopsWithin before after faulted bytes
