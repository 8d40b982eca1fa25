use Rattle.qscript.proofs.Common.{encode_lower, string_bytes, take, ◌++◌, ◌≡◌}
use Rattle.qscript.proofs.printing.buffer.push_digits.Given as goal

abbrev pub invariant-bytes : goal.invariant-bytes
invariant-bytes l = string_bytes l.out ≡ string_bytes l.initial.out ++ encode_lower (take l.byte-index l.bytes)
