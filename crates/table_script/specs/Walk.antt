-- A walk through a script, line by line from place to place: what holds before each line, for `line_at_fault` and for a
-- caller of `read_step`. Assumes nothing.
use Rattle.std.specs.Prelude.{◌≡◌, refl, List, [], ◌∷◌, ◌++◌, length, drop}
use Rattle.std.proofs.Math.Path.{sym}
use Rattle.std.proofs.Common.{ap, ◌∙◌, arith, length-drop, length-append, drop_of_length-le}
use Prim.Native.Nat.{ℕ, zero, suc, ◌+◌, ◌≤◌, ◌<◌}
use Rattle.table_script.specs.declared.Step.{Step}
use Rattle.table_script.specs.Script.{read, malformed, step_of}
use Rattle.table_script.specs.Script.{most_steps, ScriptRead, steps, fault, steps_from, script_of, fault_of}
use Rattle.table_script.specs.Steps.{steps_end, steps_over, steps_bad, steps_more}

-- at the place p of the bytes s, after the steps done: at most left lines more may follow, and what they make of the
-- whole is want
pub record Walk (s : List ℕ) (want : ScriptRead) (p : ℕ) (done : List Step) : Type 0 where
  pub left : ℕ
  pub few : length done + left ≡ most_steps
  pub same : steps_from left done (drop p s) ≡ want

pub start : (s : List ℕ) → Walk s (script_of s) 0 []
start s = record { left = most_steps; few = refl; same = refl }

module _ {s : List ℕ} {want : ScriptRead} {p : ℕ} {done : List Step} (w : Walk s want p done) where
  -- the bytes end
  pub ends : length s ≤ p → want ≡ steps done
  ends h = sym w.same ∙ rw (drop_of_length-le s h) (steps_end done w.left)

  module _ (h : p < length s) where
    some : 0 < length (drop p s)
    some = omega (arith, length-drop p s)

    -- a line past the most
    pub over : most_steps ≤ length done → want ≡ fault (suc (length done))
    over m =
        let q : w.left ≡ 0 = omega (arith, w.few) in
        sym w.same ∙ rw q (steps_over done (drop p s) some)

    -- a line that is no step
    pub stops : step_of (drop p s) ≡ malformed → want ≡ fault (suc (length done))
    stops e = sym w.same ∙ steps_bad done w.left (drop p s) some e

    -- one step more
    pub turn : {st : Step} {q : ℕ} → length done < most_steps → step_of (drop p s) ≡ read st (drop q s)
        → Walk s want q (done ++ (st ∷ []))
    turn {st} {q} m e = at w.left w.few w.same
      where
        at : (k : ℕ) → length done + k ≡ most_steps → steps_from k done (drop p s) ≡ want → Walk s want q (done ++ (st ∷ []))
        at zero f g = absurd (omega arith)
        at (suc k) f g = record {
          left = k;
          few = omega (arith, length-append done (st ∷ []));
          same = sym (steps_more done k (drop p s) st (drop q s) some e) ∙ g;
        }

-- ---- the loop of `line_at_fault`

-- what holds before the line i, counted from 0
pub record Turn (s : List ℕ) (p i : ℕ) : Type 0 where
  pub done : List Step
  pub count : length done ≡ i
  pub walk : Walk s (script_of s) p done

pub first : (s : List ℕ) → Turn s 0 0
first s = record { done = []; count = refl; walk = start s }

module _ {s : List ℕ} {p i : ℕ} (t : Turn s p i) where
  fault_here : script_of s ≡ fault (suc (length t.done)) → i + 1 ≡ fault_of (script_of s)
  unfolding fault_of
  fault_here e = let q : i + 1 ≡ suc (length t.done) = omega (arith, t.count) in q ∙ sym (ap fault_of e)

  pub fault_none : length s ≤ p → 0 ≡ fault_of (script_of s)
  unfolding fault_of
  fault_none h = sym (ap fault_of (ends t.walk h))

  module _ (h : p < length s) where
    pub fault_over : most_steps ≤ i → i + 1 ≡ fault_of (script_of s)
    fault_over m = fault_here (over t.walk h (omega (arith, t.count)))

    pub fault_at_lem : step_of (drop p s) ≡ malformed → i + 1 ≡ fault_of (script_of s)
    fault_at_lem e = fault_here (stops t.walk h e)

    pub again : {st : Step} {q : ℕ} → i < most_steps → step_of (drop p s) ≡ read st (drop q s) → Turn s q (i + 1)
    again {st} m e = record {
      done = t.done ++ (st ∷ []);
      count = omega (arith, t.count, length-append t.done (st ∷ []));
      walk = turn t.walk h (omega (arith, t.count)) e;
    }
