-- Earliest starts, by rounds over a vector. Assumes nothing.
use Rattle.std.specs.Prelude.{◌≡◌, refl, Bool, true, false, List, [], ◌∷◌, ◌++◌, ℕ, ◌+◌, ◌*◌, ◌≤◌, ◌<◌, ℤ, pos, ◌+ℤ◌, ◌≤ℤ◌, ◌<ℤ◌, length, set}
use Rattle.std.proofs.Common.{sym, ap, subst, ◌∙◌, ⊎_elim, arith, length-append, length-set}
use Rattle.std.proofs.Math.Decide.{ℕ_discrete}
use Rattle.std.proofs.Math.IntN.{+ℤ_idr}
use Rattle.sizes.specs.Sizes.{most_edges, most_operations}
use Rattle.net.specs.Small.{most_weight}
use Rattle.laws.specs.Z.{zed, sum}
use Rattle.laws.specs.Store.{store}
use Rattle.net.specs.Walk.{Web, Walk, sum_of, Bad, join, sum_join, start_ok, last}
use Rattle.net.specs.Shorten.{shorten}
use Rattle.net.specs.Meaning.{Meets, Earliest}
use Rattle.net.specs.Meets.{along}
use Rattle.net.specs.Net.{NetOk, ArcIs, from_in, to_in, Below, highest_floor, highest_start}
use Rattle.laws.specs.Entry.{vec}
use Rattle.net.specs.Starts.{Addable, Pushed, Real, Part, AllMet, Settled}

-- ---- a start after an edge

pub part_none : {g : Web} (t : List ℕ) → length t ≡ most_operations → Part g t t 0
part_none t long = record {
  long = long;
  keeps = λ v h. omega arith;
  takes = λ x h. absurd (omega arith);
  real = λ f h. h;
  grows = λ b h v l. let x = h v l in omega arith;
}

real_edge : {g : Web} {f : ℕ → ℕ} {z y : ℕ} (e : ℕ) → e < g.count → Real g f (g.from e) z → pos y ≡ pos z +ℤ g.weight e → Real g f (g.to e) y
real_edge {g} {f} {z} {y} e l r i = record {
  u = r.u;
  walk = r.walk ++ (e ∷ []);
  is = join g r.u (g.from e) (g.to e) r.walk (e ∷ []) r.is (l, refl, refl);
  same =
      let s = sum_of g r.walk in
      omega (
        arith,
        zed,
        i,
        r.same,
        sum_join g r.walk (e ∷ []),
        sum s (g.weight e +ℤ pos 0),
        sum (g.weight e) (pos 0),
        sum (pos z) (g.weight e),
        sum (pos (f r.u)) s,
        sum (pos (f r.u)) (sum_of g (r.walk ++ (e ∷ []))),
      );
}

-- within a round the starts can be added to
pub part_addable : {g : Web} {t o : List ℕ} {e i j : ℕ} {w : ℤ} → NetOk g → Below highest_start t → Part g t o e → ArcIs g e i w j → e < g.count → Addable (vec o i) w (vec o j)
part_addable {g} {t} {o} {e} {i} {j} {w} n b h a l =
    let grown = h.grows highest_start b in
    record {
      from_ok = omega (arith, a.from, grown i (omega (arith, a.from, from_in n e l)), n.count_ok);
      to_ok = omega (arith, a.to, grown j (omega (arith, a.to, to_in n e l)), n.count_ok);
      low = omega (arith, zed, a.weight, n.small.low e l);
      high = omega (arith, zed, a.weight, n.small.high e l);
    }

module _ {g : Web} (n : NetOk g) (t o : List ℕ) (e x : ℕ) (l : e < g.count) (h : Part g t o e) (p : Pushed (vec o (g.from e)) (g.weight e) (vec o (g.to e)) x) where
  inside : g.to e < length o
  inside = omega (arith, to_in n e l, h.long)

  pub part_next : Part g t (set o (g.to e) x) (e + 1)
  part_next = record {
    long = length-set o (g.to e) x ∙ h.long;
    keeps = λ v hv.
        store (λ k z. k < most_operations → vec t k ≤ z) o (g.to e) x 0 inside (λ k. omega (arith, h.keeps (g.to e) k, p.keeps)) v (λ ne k. h.keeps v k) hv;
    takes = λ y ly.
        store (λ k z. (y : ℕ) → y < e + 1 → g.to y ≡ k → (pos (vec t (g.from y)) +ℤ g.weight y) ≤ℤ pos z) o (g.to e) x 0 inside
        (λ y ly i. here y ly i (ℕ_discrete y e))
        (g.to y) (λ ne y' ly' i. old y' ly' i (λ q. ne (sym i ∙ ap g.to q))) y ly refl;
    real = λ f r v hv.
        store (λ k z. k < most_operations → Real g f k z) o (g.to e) x 0 inside
        (λ k. ⊎_elim (λ i. subst (Real g f (g.to e)) (sym i) (h.real f r (g.to e) k))
        (λ i. real_edge e l (h.real f r (g.from e) (from_in n e l)) i) p.real)
        v (λ ne k. h.real f r v k) hv;
    grows = λ b r v hv.
        store (λ k z. k < most_operations → z ≤ b + most_weight * (e + 1)) o (g.to e) x 0 inside
        (λ k. ⊎_elim (λ i. omega (arith, h.grows b r (g.to e) k))
        (λ i. omega (arith, zed, i, h.grows b r (g.from e) (from_in n e l), n.small.high e l, sum (pos (vec o (g.from e))) (g.weight e)))
        p.real)
        v (λ ne k. omega (arith, h.grows b r v k)) hv;
  }
    where
      here : (y : ℕ) → y < e + 1 → g.to y ≡ g.to e → Dec (y ≡ e) → (pos (vec t (g.from y)) +ℤ g.weight y) ≤ℤ pos x
      here y ly i (yes q) = subst (λ (y : ℕ). (pos (vec t (g.from y)) +ℤ g.weight y) ≤ℤ pos x) (sym q)
          (omega (arith, zed, p.takes, h.keeps (g.from e) (from_in n e l), sum (pos (vec t (g.from e))) (g.weight e), sum (pos (vec o (g.from e))) (g.weight e)))
      here y ly i (no q) =
          let c = subst (λ (v : ℕ). (pos (vec t (g.from y)) +ℤ g.weight y) ≤ℤ pos (vec o v)) i (h.takes y (omega arith)) in
          omega (arith, zed, c, p.keeps)

      old : {k : ℕ} (y : ℕ) → y < e + 1 → g.to y ≡ k → ¬ (y ≡ e) → (pos (vec t (g.from y)) +ℤ g.weight y) ≤ℤ pos (vec o k)
      old y ly i ne = subst (λ (v : ℕ). (pos (vec t (g.from y)) +ℤ g.weight y) ≤ℤ pos (vec o v)) i (h.takes y (omega arith))

-- one edge more
pub part_more : {g : Web} {t o : List ℕ} {e i j x : ℕ} {w : ℤ} → NetOk g → Part g t o e → ArcIs g e i w j → e < g.count → Pushed (vec o i) w (vec o j) x → Part g t (set o j x) (e + 1)
part_more {g} {t} {o} {e} {i} {j} {x} {w} n h a l p =
    subst (λ (k : ℕ). Part g t (set o k x) (e + 1)) (sym a.to)
    (part_next n t o e x l h
    (subst (λ (k : ℕ). Pushed (vec o k) (g.weight e) (vec o (g.to e)) x) a.from
    (subst (λ (z : ℤ). Pushed (vec o i) z (vec o (g.to e)) x) a.weight
    (subst (λ (k : ℕ). Pushed (vec o i) w (vec o k) x) a.to p))))

-- ---- rounds

-- each start in t is at least what any walk of at most k edges to it asks: the floor f where the walk begins, plus its
-- sum
pub record Cover (g : Web) (f : ℕ → ℕ) (k : ℕ) (t : List ℕ) : Type 0 where
  pub covers : (u v : ℕ) (p : List ℕ) → v < most_operations → length p ≤ k → Walk g u v p → (pos (f u) +ℤ sum_of g p) ≤ℤ pos (vec t v)

pub cover_none : {g : Web} (t : List ℕ) → Cover g (vec t) 0 t
cover_none {g} t = record { covers = go }
  where
    go : (u v : ℕ) (p : List ℕ) → v < most_operations → length p ≤ 0 → Walk g u v p → (pos (vec t u) +ℤ sum_of g p) ≤ℤ pos (vec t v)
    go u v [] h l w = subst (λ (x : ℕ). (pos (vec t u) +ℤ pos 0) ≤ℤ pos (vec t x)) w (omega (arith, zed, sum (pos (vec t u)) (pos 0)))
    go u v (k ∷ p) h l w = absurd (omega arith)

pub real_none : {g : Web} (t : List ℕ) (v : ℕ) → Real g (vec t) v (vec t v)
real_none t v = record { u = v; walk = []; is = refl; same = sym (+ℤ_idr (pos (vec t v))) }

pub cover_next : {g : Web} → NetOk g → (f : ℕ → ℕ) (k : ℕ) (t r : List ℕ) → Cover g f k t → Part g t r g.count → Cover g f (k + 1) r
cover_next {g} n f k t r c q = record { covers = go }
  where
    go : (u v : ℕ) (p : List ℕ) → v < most_operations → length p ≤ k + 1 → Walk g u v p → (pos (f u) +ℤ sum_of g p) ≤ℤ pos (vec r v)
    go u v [] h l w = omega (arith, zed, c.covers u v [] h (omega arith) w, q.keeps v h)
    go u v (j ∷ p) h l w =
        let z = last g u v j p w in
        let s = sum_of g z.init in
        let a = c.covers u (g.from z.e) z.init (from_in n z.e z.in_range) (omega (arith, z.size)) z.walk in
        let b = q.takes z.e z.in_range in
        subst (λ (x : ℕ). (pos (f u) +ℤ sum_of g (j ∷ p)) ≤ℤ pos (vec r x)) z.ends
        (omega (
          arith,
          zed,
          a,
          b,
          z.whole,
          sum s (g.weight z.e),
          sum (pos (f u)) s,
          sum (pos (f u)) (sum_of g (j ∷ p)),
          sum (pos (vec t (g.from z.e))) (g.weight z.e),
        ))

-- after k rounds over the floor f each start in t is at least what any walk of at most k edges asks, and exactly what
-- some walk asks
pub record Stands (g : Web) (f : ℕ → ℕ) (k : ℕ) (t : List ℕ) : Type 0 where
  pub cover : Cover g f k t
  pub real : (v : ℕ) → v < most_operations → Real g f v (vec t v)
  pub long : length t ≡ most_operations
  pub few : Below (highest_floor + most_weight * most_edges * k) t

pub stands_none : {g : Web} (t : List ℕ) → length t ≡ most_operations → Below highest_floor t → Stands g (vec t) 0 t
stands_none t l b = record { cover = cover_none t; real = λ v h. real_none t v; long = l; few = λ v h. let x = b v h in omega arith }

pub stands_next : {g : Web} → NetOk g → (f : ℕ → ℕ) (k : ℕ) (t r : List ℕ) → Stands g f k t → Part g t r g.count → Stands g f (k + 1) r
stands_next {g} n f k t r s p = record {
  cover = cover_next n f k t r s.cover p;
  real = p.real f s.real;
  long = p.long;
  few = λ v h. omega (arith, p.grows (highest_floor + most_weight * most_edges * k) s.few v h, n.count_ok);
}

-- starts that meet every edge are the least
pub settled : {g : Web} → NetOk g → (f : ℕ → ℕ) (k : ℕ) (t : List ℕ) → Stands g f k t → Meets g (λ v. pos (vec t v)) → Earliest g f (vec t)
settled {g} n f k t s m = record {
  above = λ i l. omega (arith, zed, s.cover.covers i i [] (omega (arith, n.ops_ok)) (omega arith) refl, sum (pos (f i)) (pos 0));
  meets = m;
  least = λ r o q i l.
      let x = s.real i (omega (arith, n.ops_ok)) in
      let a = o x.u (start x.u i x.walk l x.is) in
      omega (arith, zed, x.same, a, along g (λ v. pos (r v)) q x.u i x.walk x.is, sum (pos (f x.u)) (sum_of g x.walk), sum (pos (r x.u)) (sum_of g x.walk));
}
  where
    start : (u v : ℕ) (p : List ℕ) → v < g.ops → Walk g u v p → u < g.ops
    start u v [] l w = subst (λ (x : ℕ). x < g.ops) (sym w) l
    start u v (j ∷ p) l w = start_ok g n.small.whole u v (j ∷ p) (omega arith) w

-- an edge that is not met after ops - 1 rounds or more: a bad closed walk
pub stuck : {g : Web} → NetOk g → (f : ℕ → ℕ) (k : ℕ) (t : List ℕ) → Stands g f k t → g.ops ≤ k + 1 → (e : ℕ) → e < g.count
    → pos (vec t (g.to e)) <ℤ (pos (vec t (g.from e)) +ℤ g.weight e) → (p : List ℕ) × Bad g p
stuck {g} n f k t s enough e l more =
    let x = s.real (g.from e) (from_in n e l) in
    let z = sum_of g x.walk in
    let p = x.walk ++ (e ∷ []) in
    let w = join g x.u (g.from e) (g.to e) x.walk (e ∷ []) x.is (l, refl, refl) in
    ⊎_elim (λ b. (b.0, b.2))
    (λ q. absurd (omega (
      arith,
      zed,
      more,
      x.same,
      q.1.more,
      s.cover.covers x.u (g.to e) q.0 (to_in n e l) (omega (arith, q.1.short)) q.1.walk,
      sum_join g x.walk (e ∷ []),
      sum z (g.weight e +ℤ pos 0),
      sum (g.weight e) (pos 0),
      sum (pos (f x.u)) (sum_of g q.0),
      sum (pos (f x.u)) z,
      sum (pos (vec t (g.from e))) (g.weight e),
    )))
    (shorten (length p) g n.small.whole x.u (g.to e) p (omega arith) (start_ok g n.small.whole x.u (g.to e) p (omega (arith, length-append x.walk (e ∷ []))) w) w)

-- an operation past the last keeps its floor
pub past : {g : Web} → NetOk g → (f : ℕ → ℕ) (v z : ℕ) → g.ops ≤ v → Real g f v z → z ≡ f v
past {g} n f v z l r = go r.u r.walk r.is r.same
  where
    go : (u : ℕ) (p : List ℕ) → Walk g u v p → pos z ≡ pos (f u) +ℤ sum_of g p → z ≡ f v
    go u [] w i = subst (λ (x : ℕ). z ≡ f x) w (omega (arith, zed, i, sum (pos (f u)) (pos 0)))
    go u (j ∷ p) w i = let q = last g u v j p w in absurd (omega (arith, n.small.whole.to_ok q.e q.in_range, q.ends))

-- an operation past the last keeps its floor, and the starts stay low
pub settled_starts : {g : Web} (f : List ℕ) {t : List ℕ} {k : ℕ} {r : Bool} → NetOk g → Stands g (vec f) k t → k ≤ most_operations → AllMet g t r → r ≡ true → Settled g f t
settled_starts {g} f {t} {k} n s b m e = record {
  earliest = settled n (vec f) k t s (m.yes e);
  past = λ v h l. past n (vec f) v (vec t v) h (s.real v l);
  few = λ v l. omega (arith, s.few v l);
}

-- an edge that is not met after the last round: a bad closed walk
pub stuck_bad : {g : Web} (f : List ℕ) {t : List ℕ} {k : ℕ} {r : Bool} → NetOk g → Stands g (vec f) k t → AllMet g t r → r ≡ false → g.ops ≤ k + 1 → (p : List ℕ) × Bad g p
stuck_bad {g} f {t} {k} n s m e h = let u = m.no e in stuck n (vec f) k t s h u.0 u.1 u.2
