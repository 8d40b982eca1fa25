-- A call that is made again from its kind, operands, bytes and buffer is the same call.
use Rattle.std.proofs.Common.{◌≡◌, refl}
use Rattle.qmodel.specs.declared.call.Call.{Call}
use Rattle.qmodel.specs.declared.call.Call.TheVariants as calls
use Rattle.qmodel.specs.Buffers.{buffer_of, bytes_of}
use Rattle.qmodel.specs.Kinds.{call_with, kind_of, operands_of}

pub call_again : (c : Call) → call_with (kind_of c) (operands_of c) (bytes_of c) (buffer_of c) ≡ c
call_again calls.Shutdown = refl
call_again c = refl
