-- What leastplan prints for a plan reads back as that plan; so `page`, given those lines in a file, prints the page of
-- the first plan, and `judge` reads them as that plan. Assumes nothing.
use Rattle.std.specs.Prelude.{◌≡◌, refl, ℕ, zero, suc, ◌≤◌, ◌<◌, length, take}
use Rattle.std.proofs.Common.{sym, ap, ◌∙◌, arith, length-take, length-take-le, get_or-take, eq-eqb}
use mathlib.Core.List.{List, [], ◌∷◌}
use Rattle.std.proofs.Math.Decide.{dec_lt}
use Rattle.std.proofs.Math.ListN.{get_or-eq_default}
use Rattle.laws.specs.Entry.{vec}
use Rattle.laws.specs.Each.{each}
use Rattle.text.specs.Sizes.{four_digits}
use Rattle.text.specs.Lines.{Line, lines_text}
use Rattle.text.specs.Answers.{answer_line, interval_line, at_line}
use Rattle.plan_lines.specs.Lines.{plan_of, given}
use Rattle.plan_lines.specs.Text.{at_lines, lines_for, Small}
use Rattle.plan_lines.specs.RoundTrip.{reads_back}
use Rattle.sheet.specs.declared.Sheet.{Sheet}
use Rattle.sheet.specs.Facts.{ops_most}
use Rattle.plan.specs.declared.PlanAnswer.{PlanAnswer}
use Rattle.plan.specs.Answers.{PlanAt}
use Rattle.plan.specs.Exactly.{accepted_given}
use Rattle.interval_lines.specs.IntervalLines.{detail, interval_lines, plan_text}
use Rattle.interval_lines.specs.Small.{SmallList, small}

-- one line for each operation is one for each start and its instance
each_places : (n : ℕ) (ts us : List ℕ) → n ≤ length ts → n ≤ length us
    → each n (λ i. at_line (vec ts i) (vec us i)) ≡ at_lines (take n ts) (take n us)
unfolding each at_lines
each_places zero ts us h k = refl
each_places (suc n) [] us h k = absurd (omega arith)
each_places (suc n) (t ∷ ts) [] h k = absurd (omega arith)
each_places (suc n) (t ∷ ts) (u ∷ us) h k =
    ap (λ (ls : List Line). at_line t u ∷ ls) (each_places n ts us (omega arith) (omega arith))

-- a part of a list of small numbers is one
cut_small : (n : ℕ) (xs : List ℕ) → SmallList xs → Small (take n xs)
cut_small n xs h i = at (dec_lt i n)
  where
    at : Dec (i < n) → vec (take n xs) i ≤ four_digits
    at (yes l) = let e = get_or-take n xs i 0 l in omega (arith, h i)
    at (no l) = let e = get_or-eq_default (take n xs) 0 (short i (omega arith)) in omega arith
      where
        short : (i : ℕ) → n ≤ i → length (take n xs) ≤ i
        short i k = let m = length-take n xs in omega arith

module _ {s : Sheet} {L : ℕ} {a : PlanAnswer} (p : PlanAt s L a) (z : a.answer ≡ 0) where
  -- a place for each operation
  pub long : (s.op_count ≤ length a.starts) × (s.op_count ≤ length a.instances)
  long =
      let h = accepted_given p z in
      let g = h.1 in
      let t = ap (λ (x : PlanAnswer). length x.starts) g.pinned ∙ g.starts_rest.whole in
      let u = ap (λ (x : PlanAnswer). length x.instances) g.pinned ∙ g.instances_rest.whole in
      let m = ops_most h.0.sheet in
      (omega arith, omega arith)

  -- the lines that leastplan prints for the interval
  own_lines : interval_lines s L a ≡ lines_for L (take s.op_count a.starts) (take s.op_count a.instances)
  unfolding interval_lines detail
  own_lines =
      rw (eq-eqb a.answer 0 z, z)
      (ap (λ (ls : List Line). answer_line 0 ∷ interval_line L ∷ ls)
      (each_places s.op_count a.starts a.instances long.0 long.1))

  -- read as the plan
  pub own_plan : plan_of (plan_text s L a)
      ≡ given L (take s.op_count a.starts) (take s.op_count a.instances)
  own_plan =
      let n = s.op_count in
      let y = (accepted_given p z).0 in
      let b = small y.sheet y.interval p in
      let t = length-take-le n a.starts long.0 in
      let u = length-take-le n a.instances long.1 in
      ap plan_of (ap lines_text own_lines)
      ∙ reads_back L (take n a.starts) (take n a.instances) (record {
        paired = u ∙ sym t;
        few = omega (arith, b.ops, t);
        interval = omega (arith, b.interval);
        starts = cut_small n a.starts b.starts;
        instances = cut_small n a.instances b.instances;
      })
