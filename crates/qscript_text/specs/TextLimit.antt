-- The limit on the length of a script's text.
use Rattle.std.specs.Prelude.{ℕ}

-- the most bytes of a script's text: 4 MiB
abbrev pub most_text : ℕ
most_text = 4194304
