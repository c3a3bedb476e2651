-- The machine's bounds as a box.
use Rattle.std.specs.Prelude.{◌≡◌, refl, ℕ, ◌-◌, ◌≤◌, ◌<◌, get_or, pos}
use Rattle.sizes.specs.Sizes.{most_operations}
use Rattle.text.specs.Sizes.{four_digits}
use Rattle.sheet.specs.declared.Sheet.{Sheet}
use Rattle.sheet.specs.Sheet.{type_of, op_at}
use Rattle.denial.specs.Box.{Box}
use Rattle.denial.specs.At.{highest_at}
use Rattle.tree_lines.specs.declared.Cut.{Cut}
use Rattle.tree_lines.specs.declared.Cut.TheVariants.{Split, Seat}
use Rattle.tree_boxes.specs.declared.Left.{Left}
use Rattle.tree_boxes.specs.declared.Bounds.{Bounds}
use Rattle.tree_boxes.specs.Within.{Within, most_bound}

-- what an operation past those of the sheet has
abbrev pub nothing : Left
nothing = record { lowest = 0; highest = pos 0; first = 0; last = 0 }

-- what is left to operation i
abbrev pub left_at : Bounds → ℕ → Left
left_at b i = get_or b.each i nothing

-- the bounds as a box
abbrev pub box_of : Bounds → Box
box_of b = record {
  lowest = λ i. (left_at b i).lowest;
  highest = λ i. (left_at b i).highest;
  first = λ i. (left_at b i).first;
  last = λ i. (left_at b i).last;
}

-- what is left to operation i at the root
abbrev pub root_left : Sheet → ℕ → Left
root_left s i = record {
  lowest = (op_at s i).lo;
  highest = highest_at s i;
  first = 0;
  last = (type_of s i).instances - 1;
}

-- the starts of an operation are near 0
pub record SmallLeft (x : Left) : Type 0 where
  pub lowest : x.lowest ≤ most_bound
  pub highest : Within most_bound x.highest

-- those of each are
abbrev pub Small : Bounds → Type 0
Small b = (i : ℕ) → i < most_operations → SmallLeft (left_at b i)

-- an operation that has a place in the bounds, and a number of at most four digits
abbrev pub CutBelow : Cut → Type 0
CutBelow (Split i v) = (i < most_operations) × (v ≤ four_digits)
CutBelow (Seat i k) = (i < most_operations) × (k ≤ four_digits)
