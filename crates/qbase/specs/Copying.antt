-- Copying of bytes over other bytes.
use Rattle.std.specs.Prelude.{ℕ, ◌+◌, ◌-◌, min, List, ◌++◌, length, take, drop}

-- how many bytes of d fit into b from index at on; this is 0 past b's end
abbrev pub laid_count : List ℕ → ℕ → List ℕ → ℕ
laid_count b at d = min (length d) (length b - at)

-- b with the bytes of d copied over it from index at on, as many as fit before b's end
abbrev pub lay_over : List ℕ → ℕ → List ℕ → List ℕ
lay_over b at d = take at b ++ take (laid_count b at d) d ++ drop (at + laid_count b at d) b
