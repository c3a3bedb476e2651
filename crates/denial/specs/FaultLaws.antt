-- The first line that is not so: a tree that has one does not pass, it has one at the most, and none before its first
-- line. Assumes nothing.
use Rattle.std.specs.Prelude.{◌≡◌, refl, ℕ, ◌≤◌, ◌<◌}
use Rattle.std.proofs.Common.{arith}
use Rattle.denial.specs.Box.{Box}
use Rattle.denial.specs.Tree.{Tree}
use Rattle.denial.specs.Passes.{Rules, Passes}
use Rattle.denial.specs.Fault.{FirstFalse, at_leaf, at_cut, in_first, in_second, TreeFault, none, first}

module _ {r : Rules} where
  pub false_fails : {b : Box} {t : Tree} {k n : ℕ} → FirstFalse r b t k n → Passes r b t → ⊥
  unfolding Passes
  false_fails (at_leaf f) p = f p
  false_fails (at_cut f) p = f p.0
  false_fails (in_first w f) p = false_fails f p.1.0
  false_fails (in_second w q f) p = false_fails f p.1.1

  pub false_from : {b : Box} {t : Tree} {k n : ℕ} → FirstFalse r b t k n → k ≤ n
  false_from (at_leaf f) = omega arith
  false_from (at_cut f) = omega arith
  false_from (in_first w f) = omega (arith, false_from f)
  false_from (in_second w q f) = omega (arith, false_from f)

  pub false_one : {b : Box} {t : Tree} {k n m : ℕ} → FirstFalse r b t k n → FirstFalse r b t k m → n ≡ m
  false_one (at_leaf f) (at_leaf g) = refl
  false_one (at_cut f) (at_cut g) = refl
  false_one (at_cut f) (in_first w g) = absurd (f w)
  false_one (at_cut f) (in_second w q g) = absurd (f w)
  false_one (in_first w f) (at_cut g) = absurd (g w)
  false_one (in_first w f) (in_first v g) = false_one f g
  false_one (in_first w f) (in_second v q g) = absurd (false_fails f q)
  false_one (in_second w q f) (at_cut g) = absurd (g w)
  false_one (in_second w q f) (in_first v g) = absurd (false_fails g q)
  false_one (in_second w q f) (in_second v p g) = false_one f g

  -- one line at fault
  pub tree_fault_one : {b : Box} {t : Tree} {k n m : ℕ} → TreeFault r b t k n → TreeFault r b t k m → n ≡ m
  tree_fault_one (none p) (none q) = refl
  tree_fault_one (none p) (first g) = absurd (false_fails g p)
  tree_fault_one (first f) (none q) = absurd (false_fails f q)
  tree_fault_one (first f) (first g) = false_one f g

  -- no line is at fault exactly where the tree passes, whose first line is not line 0
  pub fault_none : {b : Box} {t : Tree} {k n : ℕ} → 0 < k → TreeFault r b t k n → n ≡ 0 → Passes r b t
  fault_none h (none p) e = p
  fault_none h (first f) e = absurd (omega (arith, false_from f))

  pub fault_first : {b : Box} {t : Tree} {k n : ℕ} → TreeFault r b t k n → (n ≡ 0 → ⊥) → FirstFalse r b t k n
  fault_first (none p) e = absurd (e refl)
  fault_first (first f) e = f
