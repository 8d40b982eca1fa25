-- The lines of a text.
use Rattle.std.specs.Prelude.{ℕ, ◌-◌, ◌==◌, Bool, List, [], length, take, map, slice_index, if◌then◌else◌}
use Rattle.std.specs.List.{slice_split}

-- a line end
abbrev pub is_newline : ℕ → Bool
is_newline b = b == 10

-- these bytes without the last one, if that is b
abbrev pub without_last : ℕ → List ℕ → List ℕ
without_last b bytes =
    if slice_index bytes (length bytes - 1) == b then take (length bytes - 1) bytes else bytes

-- the lines of a text, cut at each line end, each without one carriage return, the byte 13, at its end
unfoldable pub lines_of : List ℕ → List (List ℕ)
lines_of text = if length text == 0 then []
    else map (without_last 13) (slice_split is_newline (without_last 10 text))
