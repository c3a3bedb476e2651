-- The machine's net as a web of edges, and the bounds that its numbers keep. Assumes nothing.
use Rattle.std.specs.Prelude.{◌≡◌, List, ℕ, ℤ, ◌≤◌, ◌<◌, pos, get_or}
use Rattle.std.proofs.Common.{arith}
use Rattle.sizes.specs.Sizes.{most_edges, most_operations}
use Rattle.net.specs.Walk.{Web}
use Rattle.net.specs.Small.{Small}
use Rattle.net.specs.declared.Arc.{Arc}
use Rattle.net.specs.declared.Net.{Net}
use Rattle.laws.specs.Entry.{vec}

-- what stands past the edges
abbrev pub no_arc : Arc
no_arc = record { from = 0; to = 0; weight = pos 0 }

-- edge k
abbrev pub arc_at : Net → ℕ → Arc
arc_at n k = get_or n.arcs k no_arc

-- the edges that the array of a net holds
abbrev pub web_of : Net → Web
web_of n = record {
  ops = n.ops;
  count = n.count;
  from = λ k. (arc_at n k).from;
  to = λ k. (arc_at n k).to;
  weight = λ k. (arc_at n k).weight;
}

-- edge e leads from i to j, with the weight w
pub record ArcIs (g : Web) (e i : ℕ) (w : ℤ) (j : ℕ) : Type 0 where
  pub from : i ≡ g.from e
  pub weight : w ≡ g.weight e
  pub to : j ≡ g.to e

-- as many operations and edges as the arrays hold, and small weights
pub record NetOk (g : Web) : Type 0 where
  pub ops_ok : g.ops ≤ most_operations
  pub count_ok : g.count ≤ most_edges
  pub small : Small g

-- the highest floor of earliest starts
abbrev pub highest_floor : ℕ
highest_floor = 16384

-- above every start that a net settles at: as many rounds as operations, each with all edges, add less to the floor
abbrev pub highest_start : ℕ
highest_start = 2000000

-- above every start within a round, and far within an `i32`
abbrev pub highest_pushed : ℕ
highest_pushed = 3000000

-- each entry of t is at most b
abbrev pub Below : ℕ → List ℕ → Type 0
Below b t = (v : ℕ) → v < most_operations → vec t v ≤ b

-- ---- laws

module _ {g : Web} (n : NetOk g) (k : ℕ) (l : k < g.count) where
  pub from_in : g.from k < most_operations
  from_in = omega (arith, n.ops_ok, n.small.whole.from_ok k l)

  pub to_in : g.to k < most_operations
  to_in = omega (arith, n.ops_ok, n.small.whole.to_ok k l)
