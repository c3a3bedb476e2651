-- A task for a sheet in range: its numbers are within its arrays, and starts below `most_starts` keep its lags exactly
-- where they keep the dependences of the sheet. Assumes nothing.
use Rattle.std.proofs.Common.{sym, subst, arith}
use Rattle.std.specs.Prelude.{List, ℕ, ◌<◌, ◌≤◌, ℤ, pos, ◌+ℤ◌, ◌≤ℤ◌}
use Rattle.std.proofs.Math.Decide.{dec_lt}
use Rattle.sizes.specs.Sizes.{most_types, most_instances, most_busy, most_starts}
use Rattle.laws.specs.Z.{zed, sum, minus}
use Rattle.laws.specs.Entry.{cell}
use Rattle.dependence.specs.Graph as dependence
use Rattle.dependence.specs.Rules.{Meets}
use Rattle.dependence.specs.Answer.{Lags}
use Rattle.lags.specs.Lag.{lags_hold, lags_ask}
use Rattle.sheet.specs.declared.Sheet.{Sheet}
use Rattle.sheet.specs.Sheet.{InRange, Interval, edge_at, graph_of}
use Rattle.sheet.specs.Facts.{ops_most, types_most, cap_most, instances_most, busy_some, busy_most}
use Rattle.task.specs.declared.Task.{Task}
use Rattle.task.specs.Plan.{type_of, instances_of, busy_of, lag_of, least_lag, TaskOk, LagsKept}
use Rattle.model.specs.Task.{Clipped, TaskFor}

module _ {s : Sheet} {L : ℕ} {table : List (List ℤ)} {p : Task} (f : TaskFor s L table p) where
  pub op_in : {i : ℕ} → i < p.ops → i < s.op_count
  op_in h = omega (arith, f.ops_are)

module _ (s : Sheet) (L : ℕ) (table : List (List ℤ)) (p : Task) (ok : InRange s) (iv : Interval s L) (f : TaskFor s L table p) where
  -- ---- the numbers are within the arrays

  limit_small : (r : ℕ) → Dec (r < s.type_count) → instances_of p r ≤ most_instances
  limit_small r (yes l) = omega (arith, f.limits_for.limit r l, instances_most ok r l)
  limit_small r (no l) = omega (arith, f.limits_for.rest r (omega arith))

  busy_from : (r : ℕ) → r < most_types → Dec (r < s.type_count) → 1 ≤ busy_of p r
  busy_from r h (yes l) = omega (arith, f.busy_for.each r l, busy_some ok r l)
  busy_from r h (no l) = omega (arith, f.busy_for.rest r (omega arith) h)

  busy_small : (r : ℕ) → r < most_types → Dec (r < s.type_count) → busy_of p r ≤ most_busy
  busy_small r h (yes l) = omega (arith, f.busy_for.each r l, busy_most ok r l)
  busy_small r h (no l) = omega (arith, f.busy_for.rest r (omega arith) h)

  clip : (i j : ℕ) → i < p.ops → j < p.ops → Clipped (cell table i j) (lag_of p i j)
  clip i j h k = f.lags_for.lags i j (omega (arith, f.ops_are, ops_most ok)) (omega (arith, f.ops_are, ops_most ok))

  -- no type of a sheet has more instances, however long it stays busy
  pub instances_few : (r : ℕ) → instances_of p r ≤ most_instances
  instances_few r = limit_small r (dec_lt r s.type_count)

  -- each operation of a sheet is of a type
  pub type_in : (i : ℕ) → i < p.ops → type_of p i < most_types
  type_in i h = omega (arith, f.types_for.type i (op_in f h), (ok.each_op i (op_in f h)).resource, types_most ok)

  pub task_ok : TaskOk p
  task_ok = record {
    ops_ok = omega (arith, f.ops_are, ops_most ok);
    interval_ok = omega (arith, f.interval_is, iv.low);
    interval_max = omega (arith, f.interval_is, iv.high, cap_most ok);
    lag_ok = λ i j h k. (clip i j h k).small;
    instances_ok = λ r h. omega (arith, instances_few r);
    instances_busy = λ r h b. instances_few r;
    busy_some = λ r h. busy_from r h (dec_lt r s.type_count);
    busy_ok = λ r h. busy_small r h (dec_lt r s.type_count);
  }

  -- ---- the lags ask what the dependences ask

  module _ (l : Lags (graph_of s) L table) (t : ℕ → ℕ) (small : (i : ℕ) → i < p.ops → t i < most_starts) where
    -- a lag is at least -16384: starts are not negative
    cell_low : (i j : ℕ) → i < p.ops → j < p.ops → least_lag ≤ℤ cell table i j
    cell_low i j h k =
        let r = l.rows i (op_in f h) in
        subst (λ (z : ℤ). least_lag ≤ℤ z) (sym (r.lag j (op_in f k))) (omega (arith, zed, minus (pos (r.starts j)) (pos 16384)))

    pub lags_kept : Meets (graph_of s) L (λ i. pos (t i)) → LagsKept p.ops p.lag t
    lags_kept m i h j k =
        let d = lags_hold (graph_of s) L table l i j (op_in f h) (op_in f k) t m (omega (arith, small i h)) in
        let u = (clip i j h k).under (cell_low i j h k) in
        omega (arith, zed, d, u, sum (pos (t i)) (cell table i j), sum (pos (t i)) (lag_of p i j))

    -- no starts below `most_starts` keep a lag of that much, and a lower one asks the total of each edge
    pub lags_enough : LagsKept p.ops p.lag t → Meets (graph_of s) L (λ i. pos (t i))
    lags_enough q = record { met = λ e h. edge e h }
      where
        edge : (e : ℕ) → e < s.edge_count → (pos (t (edge_at s e).from) +ℤ dependence.total (graph_of s) L e) ≤ℤ pos (t (edge_at s e).to)
        edge e h =
            let i = (edge_at s e).from in
            let j = (edge_at s e).to in
            let w = dependence.total (graph_of s) L e in
            let hi = (ok.each_edge e h).from in
            let hj = (ok.each_edge e h).to in
            let pi : i < p.ops = omega (arith, f.ops_are) in
            let pj : j < p.ops = omega (arith, f.ops_are) in
            let kept = q i pi j pj in
            let a = lags_ask (graph_of s) L table l e h hi hj in
            let b = (clip i j pi pj).enough (omega (arith, zed, kept, small j pj, sum (pos (t i)) (lag_of p i j))) in
            omega (arith, zed, a, b, kept, sum (pos (t i)) (lag_of p i j), sum (pos (t i)) w)
