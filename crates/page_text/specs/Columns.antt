-- Text in columns: blanks, text at either end of a column, texts one after the other.
use Rattle.std.specs.Prelude.{ℕ, zero, suc, ◌-◌, List, [], ◌∷◌, ◌++◌, length, replicate}

-- n blanks
abbrev pub blanks : ℕ → List ℕ
blanks n = replicate n 32

-- right-aligned in w
unfoldable pub right : ℕ → List ℕ → List ℕ
right w text = blanks (w - length text) ++ text

-- with blanks after it up to the width w
unfoldable pub padded : ℕ → List ℕ → List ℕ
padded w text = text ++ blanks (w - length text)

-- n texts one after the other: f 0, f 1 and so on
unfoldable pub up_to : ℕ → (ℕ → List ℕ) → List ℕ
up_to zero f = []
up_to (suc n) f = up_to n f ++ f n

-- the end of a line
abbrev pub line_feed : List ℕ
line_feed = 10 ∷ []
