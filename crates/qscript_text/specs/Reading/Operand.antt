-- Words of a script as bytes.
use Rattle.std.specs.Prelude.{ℕ, ◌+◌, ◌==◌, ◌&&◌, List, [], length, take, drop, replicate, position}
use Rattle.std.specs.Prelude.{Result, Ok, Err, nat_le, if◌then◌else◌, slice_index}
use Rattle.std.specs.Option.{ok_or, option_map_or}
use Rattle.std.specs.Result.{result_ok}
use Rattle.hex.specs.Hex.{decode_of, decode_sized}
use Rattle.qscript_text.specs.declared.fault.LineFault.{LineFault}
use Rattle.qscript_text.specs.declared.fault.LineFault.TheVariants.{BadBytes}
use Rattle.qscript_text.specs.Reading.Number.{digits_of}
use Rattle.qscript_text.specs.Reading.Steps.{◌>>=◌}

-- `-` for no bytes, or hex digits of either case, two for each byte
unfoldable pub plain_of : List ℕ → Result (List ℕ) LineFault
plain_of word = if (length word == 1) && (slice_index word 0 == 45) then Ok []
    else ok_or (result_ok (decode_of word)) BadBytes

-- equal bytes: how many, from 1 to 4,096, and the two hexadecimal digits of the byte
unfoldable pub repeated_of : List ℕ → List ℕ → Result (List ℕ) LineFault
repeated_of count pair = do
  n ← ok_or (digits_of count) BadBytes
  bytes ← ok_or (result_ok (decode_sized pair 1)) BadBytes
  if nat_le 1 n && nat_le n 4096 then Ok (replicate n (slice_index bytes 0)) else Err BadBytes

-- the bytes of a word: with an `x`, the byte 120, it is a count and a byte, without an `x` it is `-` or the
-- digits of all bytes
unfoldable pub bytes_of : List ℕ → Result (List ℕ) LineFault
bytes_of word = option_map_or (λ at. repeated_of (take at word) (drop (at + 1) word))
    (position (λ b. b == 120) word) (plain_of word)
