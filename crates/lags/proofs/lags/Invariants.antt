use Rattle.std.proofs.Common.{◌≡◌, ℕ, ◌≤◌, ◌<◌, [], get_or, length}
use Rattle.sizes.specs.Sizes.{most_operations}
use Rattle.net.specs.Net.{web_of}
use Rattle.dependence.specs.Answer.{zero_row}
use Rattle.lags.specs.Lag.{LagIn}
use Rattle.lags.proofs.lags.Given as goal

-- the rows so far are lags, the others 0
abbrev pub invariant-loop-i : goal.invariant-loop-i
invariant-loop-i l = record {
  long : length l.out ≡ most_operations;
  rows : (x : ℕ) → x < l.i → LagIn (web_of l.net) l.ops x (get_or l.out x []);
  rest : (x : ℕ) → l.i ≤ x → x < most_operations → get_or l.out x [] ≡ zero_row;
}
