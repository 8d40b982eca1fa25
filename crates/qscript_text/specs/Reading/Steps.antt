-- Steps of reading. Each step may find a fault.
use Rattle.std.specs.Prelude.{◌≡◌, Result, Ok, Err}
use Rattle.qscript_text.specs.declared.fault.LineFault.{LineFault}
use Rattle.qscript_text.specs.declared.fault.ParseError.{ParseError}
use Rattle.qscript_text.specs.declared.fault.ParseError.TheVariants as errors

infixl 10 ◌>>=◌
-- the next step with the value of the first, unless the first found a fault
abbrev pub ◌>>=◌ : {A B : Type 0} → Result A LineFault → (A → Result B LineFault) → Result B LineFault
(Ok x) >>= f = f x
(Err e) >>= f = Err e

-- the error is the fault of this step of reading, or memory ran out
abbrev pub Fails : {Y : Type 0} → ParseError → Result Y LineFault → Type 0
Fails errors.Memory read = Unit {0}
Fails (errors.Fault f) read = read ≡ Err f

-- the function returned the result of this step of reading, or memory ran out
abbrev pub Gives : {Y : Type 0} → Result Y ParseError → Result Y LineFault → Type 0
Gives (Ok x) read = read ≡ Ok x
Gives (Err e) read = Fails e read
