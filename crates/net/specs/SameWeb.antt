-- Two webs that agree on their edges: what holds of one holds of the other. Assumes nothing.
use Rattle.std.specs.Prelude.{◌≡◌, refl, List, [], ◌∷◌, ℕ, ◌<◌, ℤ, pos, ◌+ℤ◌, ◌≤ℤ◌, ◌<ℤ◌}
use Rattle.std.proofs.Common.{sym, ap₂, subst, ◌∙◌, arith}
use Rattle.net.specs.Walk.{Web, Walk, sum_of, Bad}
use Rattle.net.specs.Meaning.{Meets, FirstBad, Earliest, Separation}

-- the same operations and, edge by edge, the same ends and the same weight
pub record SameWeb (g h : Web) : Type 0 where
  pub ops : g.ops ≡ h.ops
  pub count : g.count ≡ h.count
  pub from : (k : ℕ) → k < g.count → g.from k ≡ h.from k
  pub to : (k : ℕ) → k < g.count → g.to k ≡ h.to k
  pub weight : (k : ℕ) → k < g.count → g.weight k ≡ h.weight k

-- ---- laws

pub turn : {g h : Web} → SameWeb g h → SameWeb h g
turn {g} {h} a = record {
  ops = sym a.ops;
  count = sym a.count;
  from = λ k l. sym (a.from k (omega (arith, a.count)));
  to = λ k l. sym (a.to k (omega (arith, a.count)));
  weight = λ k l. sym (a.weight k (omega (arith, a.count)));
}

module _ {g h : Web} (a : SameWeb g h) where
  pub walk_agree : (u v : ℕ) (p : List ℕ) → Walk g u v p → Walk h u v p
  walk_agree u v [] w = w
  walk_agree u v (k ∷ p) w = (
    omega (arith, a.count, w.0),
    sym (a.from k w.0) ∙ w.1,
    subst (λ (x : ℕ). Walk h x v p) (a.to k w.0) (walk_agree (g.to k) v p w.2),
  )

  pub sum_agree : (u v : ℕ) (p : List ℕ) → Walk g u v p → sum_of g p ≡ sum_of h p
  sum_agree u v [] w = refl
  sum_agree u v (k ∷ p) w = ap₂ (λ x y. x +ℤ y) (a.weight k w.0) (sum_agree (g.to k) v p w.2)

  pub bad_agree : (p : List ℕ) → Bad g p → Bad h p
  bad_agree p b = record {
    at = b.at;
    some = b.some;
    closed = walk_agree b.at b.at p b.closed;
    positive = subst (λ (z : ℤ). pos 0 <ℤ z) (sum_agree b.at b.at p b.closed) b.positive;
  }

  pub meets_agree : (t : ℕ → ℤ) → Meets g t → Meets h t
  meets_agree t m = record {
    meets = λ k l.
        let l' : k < g.count = omega (arith, a.count) in
        subst (λ (x : ℕ). (t x +ℤ h.weight k) ≤ℤ t (h.to k)) (a.from k l')
        (subst (λ (x : ℕ). (t (g.from k) +ℤ h.weight k) ≤ℤ t x) (a.to k l')
        (subst (λ (z : ℤ). (t (g.from k) +ℤ z) ≤ℤ t (g.to k)) (a.weight k l') (m.meets k l')));
  }

module _ {g h : Web} (a : SameWeb g h) where
  pub first_agree : (p : List ℕ) → FirstBad g p → FirstBad h p
  first_agree p f = record { bad = bad_agree a p f.bad; first = λ q b. f.first q (bad_agree (turn a) q b) }

  pub earliest_agree : (f t : ℕ → ℕ) → Earliest g f t → Earliest h f t
  earliest_agree f t e = record {
    above = λ i l. e.above i (omega (arith, a.ops));
    meets = meets_agree a (λ i. pos (t i)) e.meets;
    least = λ s o m i l. e.least s (λ j k. o j (omega (arith, a.ops))) (meets_agree (turn a) (λ i. pos (s i)) m) i (omega (arith, a.ops));
  }

  pub separation_agree : (i j : ℕ) (z : ℤ) → Separation g i j z → Separation h i j z
  separation_agree i j z s = record {
    walk = s.walk;
    some = s.some;
    chain = walk_agree a i j s.walk s.chain;
    attained = sym (sum_agree a i j s.walk s.chain) ∙ s.attained;
    greatest = λ p o w. subst (λ (y : ℤ). y ≤ℤ z) (sum_agree a i j p (walk_agree (turn a) i j p w)) (s.greatest p o (walk_agree (turn a) i j p w));
  }
