-- The two theorems about a sheet at an interval: a passed tree means that no plan exists, and where none exists some
-- tree passes, size aside. Assumes nothing.
use Rattle.std.specs.Prelude.{ℕ, zero, suc, ◌+◌, ◌-◌, ◌<◌, ◌≤◌, ◌≡◌, refl, ℤ, ◌-ℤ◌, ◌≤ℤ◌}
use native.Mathlib.Omega.{arith}
use Rattle.std.proofs.Math.Decide.{dec_lt}
use Rattle.std.proofs.Common.{⊎_elim}
use Rattle.std.proofs.Math.IntN.{pos}
use Rattle.laws.specs.Z.{zed, minus}
use Rattle.sheet.specs.declared.Sheet.{Sheet}
use Rattle.sheet.specs.Sheet.{InRange, type_of, op_at}
use Rattle.sheet.specs.Facts.{horizon_least, from_below, to_below}
use Rattle.plan.specs.Pairs.{overlap_decided}
use Rattle.plan.specs.Rules.{Plan, MayHold}
use Rattle.denial.specs.Box.{Inside, lesser}
use Rattle.denial.specs.BoxLaws.{which, lesser_low, lesser_high, at_least}
use Rattle.denial.specs.Tree.{Tree, Known}
use Rattle.denial.specs.Passes.{Keeps, Passes}
use Rattle.denial.specs.At.{Never, rules_at, highest_at, root_at}
use Rattle.denial.specs.Sound.{passes_none}
use Rattle.denial.specs.Complete.{Decided, Seated, Refuted, tree_or_plan}

-- ---- the highest start at the root

-- each of its three bounds
bounded : (a : ℤ) (b c x : ℕ) → pos x ≤ℤ lesser (lesser a b) c → (pos x ≤ℤ a) × ((x ≤ b) × (x ≤ c))
bounded a b c x h =
    let e = lesser_high (lesser a b) c in
    let f = lesser_high a b in (
      omega (arith, zed, h, e, f),
      (omega (arith, zed, h, e, at_least a b), omega (arith, zed, h, at_least (lesser a b) c)),
    )

module _ (s : Sheet) (i x : ℕ) where
  up_to_highest : x + (type_of s i).latency ≤ s.horizon → x < s.horizon → x ≤ (op_at s i).hi → pos x ≤ℤ highest_at s i
  unfolding highest_at
  up_to_highest f h w =
      let d = minus (pos s.horizon) (pos (type_of s i).latency) in
      let n : x ≤ s.horizon - 1 = omega arith in
      lesser_low _ (op_at s i).hi x (lesser_low _ (s.horizon - 1) x (omega (arith, zed, d)) n) w

  record Early : Type 0 where
    finishes : x + (type_of s i).latency ≤ s.horizon
    starts : x ≤ s.horizon - 1
    window : x ≤ (op_at s i).hi

  below_highest : pos x ≤ℤ highest_at s i → Early
  unfolding highest_at
  below_highest h =
      let q = bounded (pos s.horizon -ℤ pos (type_of s i).latency) (s.horizon - 1) (op_at s i).hi x h in
      let d = minus (pos s.horizon) (pos (type_of s i).latency) in
      record { finishes = omega (arith, zed, d, q.0); starts = q.1.0; window = q.1.1 }

-- ---- a plan is a point of the root's box that keeps the rules

last_instance : (a v : ℕ) → (0 < a → v < a) → (a ≡ 0 → v ≡ 0) → v ≤ a - 1
last_instance zero v f g = omega (arith, g refl)
last_instance (suc a) v f g = omega (arith, f (omega arith))

holds_of : (s : Sheet) (L i t : ℕ) → (Never s L i → ⊥) → MayHold (type_of s i) L t
holds_of s L i t n = record {
  fits = λ l.
      which (dec_lt L (type_of s i).busy) (λ a. absurd (n (record { limited = l; above = a }))) (λ a. omega arith);
}

module _ {s : Sheet} {L : ℕ} {t u : ℕ → ℕ} where
  plan_inside : Plan s L t u → Inside s.op_count (root_at s) t u
  unfolding root_at
  plan_inside p = record {
    low = λ i h. (p.start i h).in_window.from;
    high = λ i h.
        let a = p.start i h in
        up_to_highest s i (t i) a.in_horizon.finishes a.in_horizon.starts a.in_window.to;
    first = λ i h. omega arith;
    last = λ i h. last_instance (type_of s i).instances (u i) (p.instance i h).limited (p.instance i h).unlimited;
  }

  plan_keeps : Plan s L t u → Keeps (rules_at s L) t u
  unfolding rules_at
  plan_keeps p = record {
    dependence = p.dependence;
    ever = λ i h e. omega (arith, e.above, (p.start i h).holds.fits e.limited);
    alone = λ i h e. e;
    apart = λ i j h k v e o.
        p.apart i j h k (record { different = v.different; one_type = v.one_kind; limited = v.limited }) e o;
  }

  plan_of_lem : InRange s → Inside s.op_count (root_at s) t u → Keeps (rules_at s L) t u → Plan s L t u
  unfolding rules_at root_at
  plan_of_lem ok p k = record {
    start = λ i h.
        let e = below_highest s i (t i) (p.high i h) in
        record {
          in_horizon = record { starts = omega (arith, e.starts, horizon_least ok); finishes = e.finishes };
          in_window = record { from = p.low i h; to = e.window };
          holds = holds_of s L i (t i) (k.ever i h);
        };
    dependence = k.dependence;
    instance = λ i h. record {
      limited = λ l. omega (arith, p.last i h);
      unlimited = λ e. omega (arith, p.last i h);
    };
    apart = λ i j h l v e o.
        k.apart i j h l (record { different = v.different; one_kind = v.one_type; limited = v.limited }) e o;
  }

-- ---- the rules are decided

dec_never : (s : Sheet) (L i : ℕ) → Dec (Never s L i)
dec_never s L i = which (dec_lt 0 (type_of s i).instances)
    (λ l. which (dec_lt L (type_of s i).busy) (λ a. yes (record { limited = l; above = a }))
    (λ n. no (λ e. n e.above)))
    (λ n. no (λ e. n e.limited))

decided : (s : Sheet) (L : ℕ) → Decided (rules_at s L)
unfolding rules_at
decided s L = record {
  never = dec_never s L;
  barred = λ i t. no (λ e. e);
  overlap = overlap_decided s L;
}

seated : (s : Sheet) (L : ℕ) → Seated (rules_at s L) (root_at s)
unfolding rules_at root_at
seated s L = record { some = λ i h. omega arith; fixed = λ i h e. omega arith }

-- ---- the two theorems

-- a passed tree means that no plan exists
pub sound : {s : Sheet} {L : ℕ} (x : Tree) → InRange s → Known s.op_count s.edge_count x
    → Passes (rules_at s L) (root_at s) x → (t u : ℕ → ℕ) → Plan s L t u → ⊥
unfolding rules_at
sound {s} {L} x ok k p t u q =
    passes_none (rules_at s L) (λ e h. to_below ok e h) t u (plan_keeps q) (root_at s) x k p (plan_inside q)

-- where no plan exists some tree passes
pub complete : {s : Sheet} {L : ℕ} → InRange s → ((t u : ℕ → ℕ) → Plan s L t u → ⊥) → Refuted (rules_at s L) (root_at s)
unfolding rules_at
complete {s} {L} ok n =
    ⊎_elim (λ x. x) (λ f. absurd (n f.t f.u (plan_of_lem ok f.inside f.keeps)))
    (tree_or_plan (rules_at s L) (decided s L) (λ e h. from_below ok e h) (λ e h. to_below ok e h) (root_at s)
    (seated s L))
