-- For a caller that walks a script all of whose lines are steps, by `read_step` from place to place: what holds before
-- each line, and that the steps that were read are those of the script. Assumes nothing.
use Rattle.std.specs.Prelude.{◌≡◌, ℕ, zero, suc, ◌+◌, ◌≤◌, ◌<◌, length, drop}
use Rattle.std.proofs.Math.Path.{refl, sym, subst}
use mathlib.Core.List.{List, [], ◌∷◌, ◌++◌}
use Rattle.std.proofs.Math.Decide.{dec_lt}
use Rattle.std.proofs.Common.{arith, length-drop, length-append}
use Rattle.table_script.specs.declared.Step.{Step}
use Rattle.table_script.specs.Script.{StepRead, read, malformed, on_step, step_of}
use Rattle.table_script.specs.Script.{most_steps, ScriptRead, steps, fault, steps_from, script_of, fault_of}
use Rattle.table_script.specs.Steps.{no_fault}
use Rattle.table_script.specs.RoundTrip.{shorter}
use Rattle.table_script.specs.Walk.{Walk, ends, over, stops, turn}

-- ---- whether all the lines are steps

-- no more steps than n, and no line 0 at fault
abbrev Bounded : ℕ → ScriptRead → Type 0
Bounded n (steps sts) = length sts ≤ n
Bounded n (fault l) = 0 < l

-- the first line, at its case
bounded_at : (k : ℕ) (done : List Step) (r : StepRead)
    → ((st : Step) (rest : List ℕ) → Bounded (length (done ++ (st ∷ [])) + k) (steps_from k (done ++ (st ∷ [])) rest))
    → Bounded (length done + suc k) (on_step r (λ st rest. steps_from k (done ++ (st ∷ [])) rest) (fault (suc (length done))))
bounded_at k done (read st rest) ih =
    let q : length (done ++ (st ∷ [])) + k ≡ length done + suc k = omega (arith, length-append done (st ∷ [])) in
    subst (λ (n : ℕ). Bounded n (steps_from k (done ++ (st ∷ [])) rest)) q (ih st rest)
bounded_at k done malformed ih = omega arith

bounded : (k : ℕ) (done : List Step) (bs : List ℕ) → Bounded (length done + k) (steps_from k done bs)
unfolding steps_from
bounded zero done [] = omega arith
bounded zero done (b ∷ bs) = omega arith
bounded (suc k) done [] = omega arith
bounded (suc k) done (b ∷ bs) = bounded_at k done (step_of (b ∷ bs)) (λ st rest. bounded k (done ++ (st ∷ [])) rest)

module _ (s : List ℕ) where
  pub few_steps : {all : List Step} → script_of s ≡ steps all → length all ≤ most_steps
  few_steps e = subst (Bounded most_steps) e (bounded most_steps [] s)

  -- where no line is at fault there are steps
  pub sound : fault_of (script_of s) ≡ 0 → (all : List Step) × (script_of s ≡ steps all)
  unfolding fault_of
  sound z = at (script_of s) refl z
    where
      at : (r : ScriptRead) → script_of s ≡ r → fault_of r ≡ 0 → (all : List Step) × (script_of s ≡ steps all)
      at (steps all) e f = (all, e)
      at (fault n) e f = let h : 0 < n = subst (Bounded most_steps) e (bounded most_steps [] s) in absurd (omega arith)

-- ---- the walk

-- at the place p of the bytes s of a script, after the steps done; its steps are all
abbrev pub Ahead : List ℕ → List Step → ℕ → List Step → Type 0
Ahead s all p done = Walk s (steps all) p done

pub begin : {s : List ℕ} {all : List Step} → script_of s ≡ steps all → Ahead s all 0 []
begin e = record { left = most_steps; few = refl; same = e }

module _ {s : List ℕ} {all : List Step} {p : ℕ} {done : List Step} (a : Ahead s all p done) where
  -- the bytes end
  pub finished : length s ≤ p → done ≡ all
  finished h = let e : steps all ≡ steps done = ends a h in cc

  module _ (h : p < length s) where
    -- the line is not past the most
    pub room : length done < most_steps
    room = at (dec_lt (length done) most_steps)
      where
        at : Dec (length done < most_steps) → length done < most_steps
        at (yes m) = m
        at (no m) = absurd (no_fault (over a h (omega arith)))

    -- it is a step
    pub next : {st : Step} {q : ℕ} → read st (drop q s) ≡ step_of (drop p s) → Ahead s all q (done ++ (st ∷ []))
    next e = turn a h room (sym e)

    pub never : malformed ≡ step_of (drop p s) → ⊥
    never e = no_fault (stops a h (sym e))

-- its line has at least one byte
pub further : (s : List ℕ) (p : ℕ) {st : Step} {q : ℕ} → p < length s → q ≤ length s → read st (drop q s) ≡ step_of (drop p s)
    → p < q
further s p {st} {q} h w e =
    omega (arith, shorter (drop p s) st (drop q s) (sym e), length-drop p s, length-drop q s)
