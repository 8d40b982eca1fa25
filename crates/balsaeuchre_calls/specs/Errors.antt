-- The `CallError` of each error that a call can have.
use Rattle.std.specs.Prelude.{Bool, true, false}
use Rattle.qbase.specs.declared.errno.Errno.{Errno}
use Rattle.qbase.specs.declared.errno.Errno.TheVariants as errno
use Rattle.qmodel.specs.declared.call.Mark.{Mark}
use Rattle.qmodel.specs.declared.call.Mark.TheVariants.{Failed, Errored}
use Rattle.balsaeuchre_calls.specs.declared.error.CallError.{CallError}
use Rattle.balsaeuchre_calls.specs.declared.error.CallError.TheVariants.{Refused, Cancelled, Code, NoMemory}
use Rattle.balsaeuchre_calls.specs.declared.error.CallError.TheVariants.{Unexpected}

-- the error of a call that was refused with this errno
abbrev pub refusal : Errno → CallError
refusal errno.NoMemory = NoMemory
refusal e = Refused e

-- the error of a blocked call that was cancelled with this errno
abbrev pub cancelled : Errno → CallError
cancelled errno.NoMemory = NoMemory
cancelled e = Cancelled e

-- the error of a call that failed with this errno: after a wait if the flag is true, otherwise in its own
-- event
abbrev pub failure : Bool → Errno → CallError
failure true e = cancelled e
failure false e = refusal e

-- the error of a call that completed with this result, if it isn't a success of its kind of call. The flag is
-- true after a wait
abbrev pub error_in : Bool → Mark → CallError
error_in waited (Failed e) = failure waited e
error_in waited (Errored code) = Code code
error_in waited _ = Unexpected
