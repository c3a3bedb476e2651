-- The rules of a plan among the first n operations, each for all operations, edges or pairs: what the parts of the
-- check decide, and that together they are all the rules. Assumes nothing.
use Rattle.std.specs.Prelude.{◌≡◌, Bool, ℕ, ◌<◌, ℤ, pos, ◌+ℤ◌, ◌≤ℤ◌}
use Rattle.std.proofs.Common.{sym, arith}
use Rattle.std.proofs.Math.Decide.{dec_lt}
use Rattle.std.specs.Int.Signed.{le_z}
use Rattle.sizes.specs.Sizes.{most_starts}
use Rattle.laws.specs.Z.{zed, le_z_true, le_z_false}
use Rattle.laws.specs.Says.{Says}
use Rattle.laws.specs.Tests.{last}
use Rattle.dependence.specs.declared.Graph.{Graph}
use Rattle.dependence.specs.Graph.{edge_at, total}
use Rattle.sheet.specs.declared.Sheet.{Sheet}
use Rattle.sheet.specs.Sheet.{InRange, graph_of}
use Rattle.sheet.specs.Facts.{horizon_most}
use Rattle.plan.specs.Pairs.{rivals_back, overlap_back}
use Rattle.plan.specs.Rules.{StartAllowed, InstanceAllowed, Rivals, Overlap}
use Rattle.verify.specs.Broken.{PlanUpTo}

-- each operation may have its start
abbrev pub EachStart : Sheet → ℕ → (ℕ → ℕ) → ℕ → Type 0
EachStart s L t n = (i : ℕ) → i < n → StartAllowed s L i (t i)

-- each operation may have its instance
abbrev pub EachInstance : Sheet → (ℕ → ℕ) → ℕ → Type 0
EachInstance s u n = (i : ℕ) → i < n → InstanceAllowed s i (u i)

-- the starts of the operations are below the most starts
abbrev pub Low : ℕ → (ℕ → ℕ) → Type 0
Low n t = (i : ℕ) → i < n → t i < most_starts

-- if both ends of edge k are below n, the starts t keep its dependence, whose total is z
abbrev pub EdgeMet : Graph → ℤ → (ℕ → ℕ) → ℕ → ℕ → Type 0
EdgeMet g z t n k =
    (edge_at g k).from < n → (edge_at g k).to < n → (pos (t (edge_at g k).from) +ℤ z) ≤ℤ pos (t (edge_at g k).to)

-- of every edge
abbrev pub EachMet : Graph → ℕ → (ℕ → ℕ) → ℕ → Type 0
EachMet g L t n = (k : ℕ) → k < g.edge_count → EdgeMet g (total g L k) t n k

-- two rivals with the same instance overlap
pub record Clash (s : Sheet) (L : ℕ) (t u : ℕ → ℕ) (i j : ℕ) : Type 0 where
  pub rivals : Rivals s i j
  pub same : u i ≡ u j
  pub overlap : Overlap s L i (t i) j (t j)

-- operation i clashes with none before it
abbrev pub ApartBefore : Sheet → ℕ → (ℕ → ℕ) → (ℕ → ℕ) → ℕ → Type 0
ApartBefore s L t u i = (j : ℕ) → j < i → Clash s L t u i j → ⊥

-- no two operations clash
abbrev pub AllApart : Sheet → ℕ → (ℕ → ℕ) → (ℕ → ℕ) → ℕ → Type 0
AllApart s L t u n = (i : ℕ) → i < n → ApartBefore s L t u i

-- ---- laws

-- a signed test
pub le_says : (a b : ℤ) → Says (a ≤ℤ b) (le_z a b)
le_says a b = record { yes = le_z_true a b; no = λ e h. omega (arith, zed, h, le_z_false a b e) }

pub starts_low : {s : Sheet} {L : ℕ} {t : ℕ → ℕ} {n : ℕ} → InRange s → EachStart s L t n → Low n t
starts_low ok a i h = omega (arith, (a i h).in_horizon.starts, horizon_most ok)

clash_back : {s : Sheet} {L : ℕ} {t u : ℕ → ℕ} {i j : ℕ} → Clash s L t u i j → Clash s L t u j i
clash_back {s} {L} {t} {u} {i} {j} c = record {
  rivals = rivals_back c.rivals;
  same = sym c.same;
  overlap = overlap_back s L i (t i) j (t j) c.overlap;
}

module _ {s : Sheet} {L : ℕ} {t u : ℕ → ℕ} {n : ℕ} where
  pub up_to_apart : PlanUpTo s L t u n → AllApart s L t u n
  up_to_apart p i h j l c = p.apart i j h (omega arith) c.rivals c.same c.overlap

  pub whole_up_to : EachStart s L t n → EachInstance s u n → EachMet (graph_of s) L t n → AllApart s L t u n
      → PlanUpTo s L t u n
  whole_up_to a b m d = record {
    start = a;
    dependence = m;
    instance = b;
    apart = λ i j h k r e o. pick i j h k (record { rivals = r; same = e; overlap = o }) (dec_lt j i);
  }
    where
      pick : (i j : ℕ) → i < n → j < n → Clash s L t u i j → Dec (j < i) → ⊥
      pick i j h k c (yes l) = d i h j l c
      pick i j h k c (no l) = other (dec_lt i j)
        where
          other : Dec (i < j) → ⊥
          other (yes m) = d j k i m (clash_back c)
          other (no m) = c.rivals.different (omega arith)

  -- once the other rules are kept, the test of the pairs decides
  pub apart_decides : {r : Bool} → EachStart s L t n → EachInstance s u n → EachMet (graph_of s) L t n
      → Says (AllApart s L t u n) r → Says (PlanUpTo s L t u n) r
  apart_decides a b m d = last d (whole_up_to a b m) up_to_apart
