-- The line of a step, and the lines of a script.
use Rattle.std.specs.Prelude.{◌≤◌, List, [], ◌∷◌, map, pos}
use Rattle.text.specs.Lines.{Line}
use Rattle.text.specs.Sizes.{four_digits}
use Rattle.table_script.specs.Script.{offer_key, book_key, place_key}
use Rattle.table_script.specs.declared.Step.{Step}
use Rattle.table_script.specs.declared.Step.TheVariants.{Offer, Book, Place}

-- `offer=i,t`, `book=i,t,u` or `place=i,t`
abbrev pub step_line : Step → Line
step_line (Offer i t) = record { key = offer_key; values = pos i ∷ pos t ∷ [] }
step_line (Book i t u) = record { key = book_key; values = pos i ∷ pos t ∷ pos u ∷ [] }
step_line (Place i t) = record { key = place_key; values = pos i ∷ pos t ∷ [] }

-- no number of more than four digits
abbrev pub Small : Step → Type 0
Small (Offer i t) = (i ≤ four_digits) × (t ≤ four_digits)
Small (Book i t u) = (i ≤ four_digits) × (t ≤ four_digits) × (u ≤ four_digits)
Small (Place i t) = (i ≤ four_digits) × (t ≤ four_digits)

-- the same of each of them
abbrev pub AllSmall : List Step → Type 0
AllSmall [] = Unit {0}
AllSmall (st ∷ sts) = Small st × AllSmall sts

-- the lines of these steps
abbrev pub step_lines : List Step → List Line
step_lines = map step_line
