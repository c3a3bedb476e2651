-- No earliest start is great: it is at most the highest floor plus, for each operation, the greatest total of an edge.
-- So the starts of a sheet have at most four digits. Assumes nothing.
use Rattle.std.specs.Prelude.{◌≡◌, ◌⊎◌, ℕ, suc, ◌+◌, ◌-◌, ◌*◌, ◌≤◌, ◌<◌, ℤ, pos, ◌+ℤ◌, ◌≤ℤ◌}
use Rattle.std.proofs.Common.{ap, inl, inr, ⊎_elim, arith}
use Rattle.std.proofs.Math.Decide.{ℕ_discrete, dec_lt}
use Rattle.sizes.specs.Sizes.{most_operations, most_starts}
use Rattle.laws.specs.Entry.{vec}
use Rattle.laws.specs.Pigeon.{find, pigeon}
use Rattle.laws.specs.Store.{all_zero}
use Rattle.laws.specs.Z.{zed, sum, minus}
use Rattle.dependence.specs.declared.Graph.{Graph}
use Rattle.constraints.specs.declared.starts.Starts as starts
use Rattle.dependence.specs.Graph.{InRange, Interval, edge_at, total_of, total, TotalOk, total_ok}
use Rattle.dependence.specs.Rules.{Meets, Earliest}
use Rattle.sheet.specs.declared.Sheet.{Sheet}
use Rattle.sheet.specs.Sheet.{op_at, graph_of}
use Rattle.sheet.specs.Facts.{graph_in_range, interval_in_range, horizon_most, ops_most, lo_below}
use Rattle.sheet.specs.Questions.{at_no, at_yes}
use Rattle.timing.specs.Answers.{StartsAt}

-- the greatest total of an edge: the highest latency and the highest delay, at the distance 0
abbrev pub greatest_total : ℕ
greatest_total = 96

-- no earliest start of a sheet is later: 2,432
abbrev pub latest_start : ℕ
latest_start = most_starts + most_operations * greatest_total

total_most : {l : ℕ} {d : ℤ} {b i : ℕ} → TotalOk l d b i → total_of l d b i ≤ℤ pos greatest_total
total_most {l} {d} {b} {i} h = omega (arith, zed, sum (pos l) d, minus (pos l +ℤ d) (pos (b * i)), h.delay_high, h.latency_ok)

-- ---- a window of starts, as wide as the greatest total, in which no operation starts

-- how far x is from the window that begins after c: 0 inside
abbrev away : ℕ → ℕ → ℕ
away c x = (suc c - x) + (x - (c + greatest_total))

outside : (c x : ℕ) → ¬ (away c x ≡ 0) → (x ≤ c) ⊎ (c + greatest_total < x)
outside c x out = pick (dec_lt c x)
  where
    pick : Dec (c < x) → (x ≤ c) ⊎ (c + greatest_total < x)
    pick (yes h) = inr (omega arith)
    pick (no h) = inl (omega arith)

-- x, one earlier where it is past that window
abbrev earlier : ℕ → ℕ → ℕ
earlier c x = x - (1 - (suc (c + greatest_total) - x))

-- what starts past the window may start one earlier: a dependence on what starts before it is met at its end
earlier_met : (c x y : ℕ) (z : ℤ) → (x ≤ c) ⊎ (c + greatest_total < x) → z ≤ℤ pos greatest_total → (pos x +ℤ z) ≤ℤ pos y → (pos (earlier c x) +ℤ z) ≤ℤ pos (earlier c y)
earlier_met c x y z (inl h) few met = omega (arith, zed, sum (pos x) z, sum (pos (earlier c x)) z)
earlier_met c x y z (inr h) few met = omega (arith, zed, sum (pos x) z, sum (pos (earlier c x)) z)

-- ---- as many windows as operations, over F

-- an operation that starts in window m of n, or past the last window where m is n
record Chosen (n F : ℕ) (t : ℕ → ℕ) (m : ℕ) : Type 0 where
  op : ℕ
  below : op < n
  after : m ≤ n → F + m * greatest_total < t op
  within : m < n → t op ≤ F + m * greatest_total + greatest_total

-- one for each m up to n would be one operation too many
too_many : {n F : ℕ} {t : ℕ → ℕ} → ((m : ℕ) → Chosen n F t m) → ⊥
too_many {n} {F} {t} chosen =
    let w = pigeon n (λ m. (chosen m).op) (n + 1) (omega arith) (λ m l. (chosen m).below) in
    let a = (chosen w.i).within (omega (arith, w.before, w.within)) in
    let b = (chosen w.j).after (omega (arith, w.within)) in
    absurd (omega (arith, a, b, w.before, ap t w.same))

module _ (g : Graph) (L F : ℕ) (floor t : ℕ → ℕ) (ok : InRange g) (iv : Interval L) (low : (i : ℕ) → i < g.ops → floor i ≤ F) (e : Earliest g L floor t) where
  -- no start is past a window without a start: the starts that are would not be the least
  none_past : (c : ℕ) → F ≤ c → ((j : ℕ) → j < g.ops → ¬ (away c (t j) ≡ 0)) → (i : ℕ) → i < g.ops → c + greatest_total < t i → ⊥
  none_past c h empty i l past = absurd (omega (arith, e.least (λ v. earlier c (t v)) over met i l))
    where
      over : (v : ℕ) → v < g.ops → floor v ≤ earlier c (t v)
      over v k = omega (arith, low v k, e.above v k)

      met : Meets g L (λ v. pos (earlier c (t v)))
      met = record {
        met = λ k q. earlier_met c (t (edge_at g k).from) (t (edge_at g k).to) (total g L k) (outside c _ (empty (edge_at g k).from (ok.edge_ok k q).from_ok)) (total_most (total_ok ok iv k q)) (e.meets.met k q);
      }

  choose : (i : ℕ) → i < g.ops → F + g.ops * greatest_total < t i → (m : ℕ) → Chosen g.ops F t m
  choose i l past m = pick (dec_lt m g.ops)
    where
      c : ℕ
      c = F + m * greatest_total

      pick : Dec (m < g.ops) → Chosen g.ops F t m
      pick (yes h) = ⊎_elim
          (λ w. record { op = w.0; below = w.1; after = λ _. omega (arith, w.2); within = λ _. omega (arith, w.2) })
          (λ empty. absurd (none_past c (omega arith) empty i l (omega arith)))
          (find (λ j. away c (t j) ≡ 0) (λ j. ℕ_discrete (away c (t j)) 0) g.ops)
      pick (no h) = record { op = i; below = l; after = λ k. omega arith; within = λ k. absurd (omega arith) }

  pub earliest_most : (i : ℕ) → i < g.ops → t i ≤ F + g.ops * greatest_total
  earliest_most i l = pick (dec_lt (F + g.ops * greatest_total) (t i))
    where
      pick : Dec (F + g.ops * greatest_total < t i) → t i ≤ F + g.ops * greatest_total
      pick (yes h) = absurd (too_many (choose i l h))
      pick (no h) = omega arith

-- ---- of a sheet

starts_same : {a b : starts.Starts} → a ≡ b → (i : ℕ) → vec a.starts i ≡ vec b.starts i
starts_same e i = ap (λ (x : starts.Starts). vec x.starts i) e

-- each start of the answer, whatever it is
pub starts_most : {s : Sheet} {L : ℕ} {a : starts.Starts} → StartsAt s L a → (i : ℕ) → vec a.starts i ≤ latest_start
starts_most (at_no _ p) i = omega (arith, starts_same p i, all_zero most_operations i)
starts_most (at_yes _ (at_no _ p)) i = omega (arith, starts_same p i, all_zero most_operations i)
starts_most (at_yes _ (at_yes _ (at_no _ p))) i = omega (arith, starts_same p.pinned i, all_zero most_operations i)
starts_most {s} {L} {a} (at_yes ok (at_yes iv (at_yes _ x))) i = pick (dec_lt i s.op_count)
  where
    pick : Dec (i < s.op_count) → vec a.starts i ≤ latest_start
    pick (yes l) =
        omega (arith, starts_same x.pinned i, ops_most ok, earliest_most (graph_of s) L most_starts (λ j. (op_at s j).lo) (vec x.starts) (graph_in_range ok) (interval_in_range ok iv) (λ j h. omega (arith, lo_below ok j h, horizon_most ok)) x.earliest i l)
    pick (no l) = omega (arith, starts_same x.pinned i, x.rest.rest i (omega arith))
