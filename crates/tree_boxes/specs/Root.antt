-- The root's bounds are the root's box, and its starts are near 0. Assumes nothing.
use Rattle.std.specs.Prelude.{◌≡◌, List, ℕ, ◌≤◌, ◌<◌, length, get_or, pos}
use Rattle.std.proofs.Common.{sym, subst, ap, arith}
use Rattle.std.proofs.Math.Decide.{dec_lt}
use Rattle.sizes.specs.Sizes.{most_operations}
use Rattle.laws.specs.Z.{minus}
use Rattle.sheet.specs.declared.Sheet.{Sheet}
use Rattle.sheet.specs.Sheet.{InRange, type_of}
use Rattle.sheet.specs.Facts.{horizon_most, lo_below, op_latency_most}
use Rattle.denial.specs.Agree.{Agree}
use Rattle.denial.specs.At.{highest_at, root_at}
use Rattle.denial.specs.BoxLaws.{which}
use Rattle.tree_boxes.specs.declared.Left.{Left}
use Rattle.tree_boxes.specs.Within.{Within, most_bound, within_zero, within_lesser}
use Rattle.tree_boxes.specs.Bounds.{nothing, root_left, box_of, SmallLeft, Small}

-- the places below n hold what is left at the root, and the others nothing
pub record Rooted (s : Sheet) (n : ℕ) (xs : List Left) : Type 0 where
  pub whole : length xs ≡ most_operations
  pub front : (i : ℕ) → i < n → get_or xs i nothing ≡ root_left s i
  pub rest : (i : ℕ) → n ≤ i → i < most_operations → get_or xs i nothing ≡ nothing

highest_within : {s : Sheet} → InRange s → (i : ℕ) → i < s.op_count → Within most_bound (highest_at s i)
unfolding highest_at
highest_within {s} ok i h =
    let H = horizon_most ok in
    let D = op_latency_most ok i h in
    let d = minus (pos s.horizon) (pos (type_of s i).latency) in
    within_lesser (within_lesser (record { high = omega arith; low = omega arith }) (omega arith))
    (omega (arith, (ok.each_op i h).hi))

module _ {s : Sheet} (ok : InRange s) (xs : List Left) (r : Rooted s s.op_count xs) where
  pub root_agrees : Agree s.op_count (box_of (record { each = xs })) (root_at s)
  unfolding root_at
  root_agrees = record {
    lowest = λ i h. ap (λ (x : Left). x.lowest) (r.front i h);
    highest = λ i h. ap (λ (x : Left). x.highest) (r.front i h);
    first = λ i h. ap (λ (x : Left). x.first) (r.front i h);
    last = λ i h. ap (λ (x : Left). x.last) (r.front i h);
  }

  pub root_small : Small (record { each = xs })
  root_small i h = which (dec_lt i s.op_count)
      (λ l. subst SmallLeft (sym (r.front i l)) (record {
        lowest = omega (arith, lo_below ok i l, horizon_most ok);
        highest = highest_within ok i l;
      }))
      (λ l. subst SmallLeft (sym (r.rest i (omega arith) h)) (record { lowest = omega arith; highest = within_zero }))
