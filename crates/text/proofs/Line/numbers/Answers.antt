-- As many values as the count says, or all of them where it is above that.
use Rattle.std.proofs.Common.{arith, rules, ◌≡◌, ℕ, ◌≤◌, min, ℤ, List, length, take, take_all, sym, ap, ◌∙◌}
use Rattle.std.proofs.Math.Decide.{dec_le}
use Rattle.text.specs.Sizes.{most_values}
use Rattle.text.proofs.Line.numbers.Goals as goal

first : (vs : List ℤ) (n k : ℕ) → k ≡ min n (length vs) → take k vs ≡ take n vs
first vs n k e = at (dec_le n (length vs))
  where
    at : Dec (n ≤ length vs) → take k vs ≡ take n vs
    at (yes h) = ap (λ (m : ℕ). take m vs) (omega arith)
    at (no h) = take_all k vs (omega arith) ∙ sym (take_all n vs (omega arith))

pub returns-clause-value : goal.returns-clause-value
returns-clause-value c =
    let l = c.args.self.now in
    let whole : length l.values ≡ most_values = search rules in
    first l.values l.count _ (omega arith)
