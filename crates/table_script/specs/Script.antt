-- A script on a placing table: at most 1024 lines, each a step, `offer=op,start`, `book=op,start,instance` or
-- `place=op,start`. Lines and numbers as in a sheet, none with a minus.
use Rattle.std.specs.Prelude.{ℕ, zero, suc, List, [], ◌∷◌, ◌++◌, length, drop, Option, Some, None}
use Rattle.scan.specs.Line.{no_minus, line_of, on_fields}
use Rattle.scan.specs.Plain.{number_at}
use Rattle.table_script.specs.declared.Step.{Step}
use Rattle.table_script.specs.declared.Step.TheVariants.{Offer, Book, Place}

-- ---- one line

-- `offer=`
abbrev pub offer_key : List ℕ
offer_key = 111 ∷ 102 ∷ 102 ∷ 101 ∷ 114 ∷ 61 ∷ []

-- `book=`
abbrev pub book_key : List ℕ
book_key = 98 ∷ 111 ∷ 111 ∷ 107 ∷ 61 ∷ []

-- `place=`
abbrev pub place_key : List ℕ
place_key = 112 ∷ 108 ∷ 97 ∷ 99 ∷ 101 ∷ 61 ∷ []

-- a step and what follows its line, or that the bytes begin with none
pub data StepRead : Type 0 where
  read : Step → List ℕ → StepRead
  malformed : StepRead

-- f of a step and what follows its line, or o where there is none
abbrev pub on_step : {A : Type 0} → StepRead → (Step → List ℕ → A) → A → A
on_step (read st rest) f o = f st rest
on_step malformed f o = o

-- the step whose line the bytes begin with
unfoldable pub step_of : List ℕ → StepRead
step_of bs =
    on_fields (line_of offer_key 2 no_minus bs) (λ vs rest. read (Offer (number_at vs 0) (number_at vs 1)) rest)
    (on_fields (line_of book_key 3 no_minus bs)
    (λ vs rest. read (Book (number_at vs 0) (number_at vs 1) (number_at vs 2)) rest)
    (on_fields (line_of place_key 2 no_minus bs) (λ vs rest. read (Place (number_at vs 0) (number_at vs 1)) rest)
    malformed))

-- ---- the whole

-- lines in a script
abbrev pub most_steps : ℕ
most_steps = 1024

-- the steps of a script; or the number of its first line that is no step or is past the most, counted from 1
pub data ScriptRead : Type 0 where
  steps : List Step → ScriptRead
  fault : ℕ → ScriptRead

-- at most k lines more, to the end of the bytes, after the steps done
unfoldable pub steps_from : ℕ → List Step → List ℕ → ScriptRead
steps_from zero done [] = steps done
steps_from zero done (b ∷ bs) = fault (suc (length done))
steps_from (suc k) done [] = steps done
steps_from (suc k) done (b ∷ bs) =
    on_step (step_of (b ∷ bs)) (λ st rest. steps_from k (done ++ (st ∷ [])) rest) (fault (suc (length done)))

-- all the bytes
abbrev pub script_of : List ℕ → ScriptRead
script_of bs = steps_from most_steps [] bs

-- the number of the line at fault, 0 where there is none
unfoldable pub fault_of : ScriptRead → ℕ
fault_of (steps sts) = 0
fault_of (fault n) = n

-- ---- what is found at a place of the bytes s

-- a step and the bytes from the place after its line on, or that there is none
abbrev pub seen : List ℕ → Option (Step × ℕ) → StepRead
seen s (Some (st, p)) = read st (drop p s)
seen s None = malformed
