-- A plan's lines: `answer=0`, `interval=N`, then at most 24 lines `at=t,u`, and nothing more. Numbers as in a sheet.
use Rattle.std.specs.Prelude.{ℕ, zero, suc, ◌+◌, ◌≤◌, cond, List, [], ◌∷◌, ◌++◌, eqb, length, take, Result, Ok, Err}
use Rattle.sizes.specs.Sizes.{most_operations}
use Rattle.laws.specs.Entry.{ZeroFrom}
use Rattle.text.specs.Keys.{answer_key, interval_key, at_key}
use Rattle.scan.specs.Line.{no_minus, line_of, on_fields}
use Rattle.scan.specs.Plain.{number_at}
use Rattle.plan_lines.specs.declared.PlanLines.{PlanLines}

-- ---- the bytes

-- the interval, the starts and the instances that a plan's lines name; or the number, from 1, of the line at fault: the
-- first that is not as it must be
pub data PlanRead : Type 0 where
  given : ℕ → List ℕ → List ℕ → PlanRead
  malformed : ℕ → PlanRead

-- the number of the first line `at=`
abbrev pub first_at : ℕ
first_at = 3

-- f of the number of the line with this key and one number, and of what follows the line; o where there is no such line
abbrev pub on_one : {A : Type 0} → List ℕ → List ℕ → (ℕ → List ℕ → A) → A → A
on_one key bs f o = on_fields (line_of key 1 no_minus bs) (λ vs rest. f (number_at vs 0) rest) o

-- at most k lines `at=t,u` more, to the end of the bytes, after the interval L, the starts ts and the instances us
unfoldable pub places_from : ℕ → ℕ → List ℕ → List ℕ → List ℕ → PlanRead
places_from zero L ts us [] = given L ts us
places_from zero L ts us (b ∷ bs) = malformed (first_at + length ts)
places_from (suc k) L ts us [] = given L ts us
places_from (suc k) L ts us (b ∷ bs) =
    on_fields (line_of at_key 2 no_minus (b ∷ bs))
    (λ vs rest. places_from k L (ts ++ (number_at vs 0 ∷ [])) (us ++ (number_at vs 1 ∷ [])) rest)
    (malformed (first_at + length ts))

-- the whole: `answer=0`, `interval=N`, then lines `at=t,u`
unfoldable pub plan_of : List ℕ → PlanRead
plan_of bs =
    on_one answer_key bs
    (λ answer bs.
    cond (eqb answer 0)
    (on_one interval_key bs (λ L bs. places_from most_operations L [] [] bs) (malformed 2))
    (malformed 1))
    (malformed 1)

-- ---- the struct

-- the plan that it holds
abbrev pub held : PlanLines → PlanRead
held r = given r.interval (take r.count r.starts) (take r.count r.instances)

-- that, or the line at fault
abbrev pub seen : Result PlanLines ℕ → PlanRead
seen (Ok r) = held r
seen (Err n) = malformed n

-- 0 past the lines
pub record LinesFit (r : PlanLines) : Type 0 where
  pub few : r.count ≤ most_operations
  pub starts : ZeroFrom r.count r.starts
  pub instances : ZeroFrom r.count r.instances
