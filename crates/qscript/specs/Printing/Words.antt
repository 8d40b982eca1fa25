-- Words with spaces.
use Rattle.std.specs.Prelude.{ℕ, List, [], ◌∷◌, ◌++◌}

-- each word after a space
abbrev pub words_with_spaces : List (List ℕ) → List ℕ
words_with_spaces [] = []
words_with_spaces (word ∷ []) = 32 ∷ word
words_with_spaces (word ∷ next ∷ words) = (32 ∷ word) ++ words_with_spaces (next ∷ words)
