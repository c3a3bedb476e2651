-- The rules and the root's box of a sheet at an interval: what slips 1, 2 and 6 of 02 make of a plan's rules.
use Rattle.std.specs.Prelude.{ℕ, ◌-◌, ◌<◌, ℤ, pos, ◌-ℤ◌}
use Rattle.sheet.specs.declared.Sheet.{Sheet}
use Rattle.sheet.specs.Sheet.{type_of, op_at, Limited, graph_of}
use Rattle.plan.specs.Rules.{Overlap}
use Rattle.denial.specs.Box.{Box, lesser}
use Rattle.denial.specs.Passes.{Rules}

-- i is limited, with K above L: it can stand at no start
pub record Never (s : Sheet) (L i : ℕ) : Type 0 where
  pub limited : Limited s i
  pub above : L < (type_of s i).busy

-- the rules of a plan that a tree can look at; no start of an operation is barred by itself
unfoldable pub rules_at : Sheet → ℕ → Rules
rules_at s L = record {
  ops = s.op_count;
  graph = graph_of s;
  interval = L;
  kind = λ i. (op_at s i).resource;
  instances = λ i. (type_of s i).instances;
  Never = λ i. Never s L i;
  Barred = λ i t. ⊥;
  Overlap = λ i t j t'. Overlap s L i t j t';
}

-- the highest start at the root: the least of hi, H − 1 and H − D, which may be negative
unfoldable pub highest_at : Sheet → ℕ → ℤ
highest_at s i = lesser (lesser (pos s.horizon -ℤ pos (type_of s i).latency) (s.horizon - 1)) (op_at s i).hi

-- the box at the root: the lowest start is lo, and every instance is left; an unlimited type has the instance 0 alone
unfoldable pub root_at : Sheet → Box
root_at s = record {
  lowest = λ i. (op_at s i).lo;
  highest = highest_at s;
  first = λ i. 0;
  last = λ i. (type_of s i).instances - 1;
}
