-- The exit status of the program.
use Rattle.std.specs.Prelude.{ℕ}
use Rattle.qscript_text.specs.declared.fault.ScriptFault.{ScriptFault}
use Rattle.qscript_text.specs.declared.fault.ScriptFault.TheVariants.{Read, TooLong, Line, NoMemory, Write}

-- 1 if the script is at fault, 3 if something else failed
abbrev pub status_of : ScriptFault → ℕ
status_of TooLong = 1
status_of (Line number fault) = 1
status_of Read = 3
status_of NoMemory = 3
status_of Write = 3
