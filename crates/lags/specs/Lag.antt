-- Laws of the lags, from the promise on earliest starts alone. Assumes nothing.
use Rattle.std.specs.Prelude.{◌≡◌, List, ℕ, ◌+◌, ◌-◌, ◌≤◌, ◌<◌, ℤ, pos, ◌+ℤ◌, ◌-ℤ◌, ◌≤ℤ◌, set, replicate}
use Rattle.std.proofs.Common.{sym, subst, ◌∙◌, arith, get_or-set_same, get_or-set_other}
use Rattle.std.proofs.Math.Decide.{ℕ_discrete}
use Rattle.sizes.specs.Sizes.{most_operations}
use Rattle.laws.specs.Z.{zed, sum, minus}
use Rattle.dependence.specs.declared.Graph.{Graph}
use Rattle.net.specs.Walk.{Web}
use Rattle.net.specs.Meaning.{Meets, Earliest}
use Rattle.dependence.specs.Graph.{edge_at, total, view}
use Rattle.dependence.specs.Bridge.{of_meets, to_earliest, of_earliest}
use Rattle.dependence.specs.Answer.{Peak, LagRow, Lags}
use Rattle.laws.specs.Store.{store, all_zero}
use Rattle.net.specs.SameWeb.{SameWeb, earliest_agree}
use Rattle.laws.specs.Entry.{at, cell, vec}
use Rattle.net.specs.Net.{Below, highest_floor}
use Rattle.dependence.specs.Rules as rule

-- any starts that meet every edge, moved up so that i stands at c, are over that floor: so they keep the lag
pub lag_law : {g : Web} (c i : ℕ) (f t : ℕ → ℕ) → Peak c i f → Earliest g f t → (s : ℕ → ℕ) → Meets g (λ v. pos (s v)) → s i ≤ c
    → (j : ℕ) → j < g.ops → (pos (s i) +ℤ (pos (t j) -ℤ pos c)) ≤ℤ pos (s j)
lag_law {g} c i f t p e s m le j h =
    let r = e.least (λ v. s v + (c - s i)) (λ v l. over v (ℕ_discrete v i)) moved j h in
    omega (arith, zed, r, sum (pos (s i)) (pos (t j) -ℤ pos c), minus (pos (t j)) (pos c))
  where
    over : (v : ℕ) → Dec (v ≡ i) → f v ≤ s v + (c - s i)
    over v (yes q) = subst (λ (x : ℕ). f x ≤ s x + (c - s i)) (sym q) (omega (arith, p.here))
    over v (no q) = omega (arith, p.other v q)

    moved : Meets g (λ v. pos (s v + (c - s i)))
    moved = record {
      meets = λ k l.
          omega (arith, zed, m.meets k l, sum (pos (s (g.from k))) (g.weight k), sum (pos (s (g.from k) + (c - s i))) (g.weight k));
    }

-- an array with the highest floor at i and 0 elsewhere; none of its entries is above that floor
pub record PeakList (i : ℕ) (f : List ℕ) : Type 0 where
  pub peak : Peak highest_floor i (vec f)
  pub below : Below highest_floor f

-- a row of lags, from the starts t over such a floor: each start less that floor, and 0 past the operations
pub record LagCells (ops : ℕ) (t : List ℕ) (row : List ℤ) : Type 0 where
  pub lag : (j : ℕ) → j < ops → at row j ≡ pos (vec t j) -ℤ pos highest_floor
  pub rest : (j : ℕ) → ops ≤ j → j < most_operations → at row j ≡ pos 0

-- a row of the table, by the net
pub record LagIn (h : Web) (ops i : ℕ) (row : List ℤ) : Type 0 where
  pub floor : List ℕ
  pub starts : List ℕ
  pub peak : PeakList i floor
  pub earliest : Earliest h (vec floor) (vec starts)
  pub cells : LagCells ops starts row

pub lag_row : {g : Graph} {L i : ℕ} {h : Web} {row : List ℤ} → SameWeb h (view g L) → LagIn h g.ops i row → LagRow g L i row
lag_row {g} {L} a r = record {
  floor = vec r.floor;
  peak = r.peak.peak;
  starts = vec r.starts;
  earliest = to_earliest g L (vec r.floor) (vec r.starts) (earliest_agree a (vec r.floor) (vec r.starts) r.earliest);
  lag = r.cells.lag;
  rest = r.cells.rest;
}

pub peak_law : (i : ℕ) → i < most_operations → PeakList i (set (replicate most_operations 0) i highest_floor)
peak_law i h = record {
  peak = record { here = get_or-set_same (replicate most_operations 0) i highest_floor 0 h; other = λ v n. get_or-set_other (replicate most_operations 0) i v highest_floor 0 n ∙ all_zero most_operations v };
  below = λ v l. store (λ k z. z ≤ highest_floor) (replicate most_operations 0) i highest_floor 0 h (omega arith) v (λ n. let e = all_zero most_operations v in omega arith);
}

-- what the search uses: in all starts up to the highest floor that keep every dependence, j stands at least the lag
-- after i
pub lags_hold : (g : Graph) (L : ℕ) (t : List (List ℤ)) → Lags g L t → (i j : ℕ) → i < g.ops → j < g.ops
    → (s : ℕ → ℕ) → rule.Meets g L (λ v. pos (s v)) → s i ≤ highest_floor → (pos (s i) +ℤ cell t i j) ≤ℤ pos (s j)
lags_hold g L t l i j hi hj s m low =
    let r = l.rows i hi in
    subst (λ (z : ℤ). (pos (s i) +ℤ z) ≤ℤ pos (s j)) (sym (r.lag j hj))
    (lag_law highest_floor i r.floor r.starts r.peak (of_earliest g L r.floor r.starts r.earliest) s (of_meets g L (λ v. pos (s v)) m) low j hj)

-- and back: the lag between the ends of an edge asks at least the edge's total
pub lags_ask : (g : Graph) (L : ℕ) (t : List (List ℤ)) → Lags g L t → (k : ℕ) → k < g.edge_count → (edge_at g k).from < g.ops → (edge_at g k).to < g.ops
    → total g L k ≤ℤ cell t (edge_at g k).from (edge_at g k).to
lags_ask g L t l k h hi hj =
    let i = (edge_at g k).from in
    let j = (edge_at g k).to in
    let r = l.rows i hi in
    subst (λ (z : ℤ). total g L k ≤ℤ z) (sym (r.lag j hj))
    (omega (arith, zed, r.peak.here, r.earliest.above i hi, r.earliest.meets.met k h, sum (pos (r.starts i)) (total g L k), minus (pos (r.starts j)) (pos highest_floor)))
