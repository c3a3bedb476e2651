-- What the text of another supplier's answer says, for a sheet with n operations and m edges: a plan, in the lines that
-- leastplan prints, or a denial, `answer=` with 5 or 6, `interval=`, and a tree to the end of the text.
use Rattle.std.specs.Prelude.{ℕ, ◌+◌, min, Bool, true, cond, List, [], ◌∷◌, eqb, length}
use Rattle.text.specs.Keys.{answer_key, interval_key}
use Rattle.plan_lines.specs.Lines.{PlanRead, given, malformed, on_one, first_at, plan_of}
use Rattle.denial.specs.Tree.{Tree}
use Rattle.tree_judge.specs.Reading.{most_cuts, TreeRead, read, unread, tree_from}

-- an interval with the starts and the instances of a plan, or with the tree of a denial; or the number of the line at
-- which reading stopped
pub data AnswerRead : Type 0 where
  plan : ℕ → List ℕ → List ℕ → AnswerRead
  denial : ℕ → Tree → AnswerRead
  unreadable : ℕ → AnswerRead

-- a denial's answer is 5 or 6; which of them is not judged
abbrev pub denies : ℕ → Bool
denies a = cond (eqb a 5) true (eqb a 6)

-- a tree and nothing after it
abbrev pub whole_tree : ℕ → TreeRead → AnswerRead
whole_tree L (read t l []) = denial L t
whole_tree L (read t l (b ∷ bs)) = unreadable l
whole_tree L (unread l) = unreadable l

-- the denial that the bytes are; bytes that do not begin as a denial are at fault in line o
unfoldable pub denial_of : ℕ → ℕ → ℕ → List ℕ → AnswerRead
denial_of n m o bs =
    on_one answer_key bs
    (λ a rest.
    cond (denies a)
    (on_one interval_key rest (λ L rest'. whole_tree L (tree_from n m most_cuts first_at rest')) (unreadable 2))
    (unreadable o))
    (unreadable o)

-- the plan of n operations that was read; a line too many, or too few, is at fault
abbrev pub plan_for : ℕ → ℕ → List ℕ → List ℕ → AnswerRead
plan_for n L ts us = cond (eqb (length ts) n) (plan L ts us) (unreadable (first_at + min (length ts) n))

-- a plan, or else a denial; a line past those of n operations is at fault, whatever it says
abbrev pub answer_read : ℕ → ℕ → List ℕ → PlanRead → AnswerRead
answer_read n m bs (given L ts us) = plan_for n L ts us
answer_read n m bs (malformed l) = denial_of n m (min l (first_at + n)) bs

-- all the bytes
unfoldable pub answer_of : ℕ → ℕ → List ℕ → AnswerRead
answer_of n m bs = answer_read n m bs (plan_of bs)
