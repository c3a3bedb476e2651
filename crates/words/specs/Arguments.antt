-- The arguments of a command, `interval=L` and `pair=P`: what one word more says. A word comes as a line, its bytes and
-- a line feed.
use Rattle.std.specs.Prelude.{ℕ, true, List, [], ◌∷◌, pos, nat_abs, get_or, Option, Some, None}
use Rattle.text.specs.Keys.{interval_key}
use Rattle.scan.specs.Line.{no_minus, line_of, on_fields}
use Rattle.words.specs.declared.Given.{Given}
use Rattle.words.specs.declared.Times.{Times}
use Rattle.words.specs.declared.Times.TheVariants.{Never, Once, Again}

-- `pair=`
abbrev pub pair_key : List ℕ
pair_key = 112 ∷ 97 ∷ 105 ∷ 114 ∷ 61 ∷ []

-- x where nothing follows, else o
abbrev pub on_end : {A : Type 0} → List ℕ → A → A → A
on_end [] x o = x
on_end (b ∷ bs) x o = o

-- the number of a line that is this key with one number, as in a sheet, and nothing more
unfoldable pub number_after : List ℕ → List ℕ → Option ℕ
number_after key line =
    on_fields (line_of key 1 no_minus line) (λ vs rest. on_end rest (Some (nat_abs (get_or vs 0 (pos 0)))) None) None

-- f of the number, or o where the word is another
abbrev pub on_number : {A : Type 0} → Option ℕ → (ℕ → A) → A → A
on_number (Some n) f o = f n
on_number None f o = o

-- one time more, where again is twice or more
abbrev pub once_more : Times → Times
once_more Never = Once
once_more Once = Again
once_more Again = Again

-- `interval=n`
abbrev pub with_interval : Given → ℕ → Given
with_interval g n = record { intervals = once_more g.intervals; interval = n; pairs = g.pairs; pair = g.pair; strange = g.strange }

-- `pair=n`
abbrev pub with_pair : Given → ℕ → Given
with_pair g n = record { intervals = g.intervals; interval = g.interval; pairs = once_more g.pairs; pair = n; strange = g.strange }

-- any other word
abbrev pub with_other : Given → Given
with_other g = record { intervals = g.intervals; interval = g.interval; pairs = g.pairs; pair = g.pair; strange = true }

-- one word more
unfoldable pub with_word : Given → List ℕ → Given
with_word g line =
    on_number (number_after interval_key line) (with_interval g)
    (on_number (number_after pair_key line) (with_pair g)
    (with_other g))
