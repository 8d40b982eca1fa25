-- The hexadecimal digits of a buffer.
use Rattle.std.specs.Prelude.{ℕ, ◌==◌, List, length, if◌then◌else◌, codes}
use Rattle.hex.specs.Hex.{encode_lower}

-- lowercase hexadecimal digits, or `-` if there are no bytes
abbrev pub buffer_word : List ℕ → List ℕ
buffer_word bytes = if length bytes == 0 then codes "-" else encode_lower bytes
