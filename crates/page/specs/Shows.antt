-- What the page of a plan shows of an operation of a limited type: the slots that it holds, and its instance.
use Rattle.std.specs.Prelude.{ℕ, ◌≡◌}
use Rattle.sheet.specs.declared.Sheet.{Sheet}
use Rattle.plan.specs.Rules.{Holds}

-- operation i at the start t on the instance u, and at the start t' on the instance u': it holds the same slots of the
-- same instance
pub record ShownAlike (s : Sheet) (L i t u t' u' : ℕ) : Type 0 where
  pub held : (b : ℕ) → Holds s L i t b → Holds s L i t' b
  pub back : (b : ℕ) → Holds s L i t' b → Holds s L i t b
  pub instance : u ≡ u'
