-- Every box has a plan in it or a tree that passes: cut every operation down to one start and one instance; what is
-- left is one point, which is a plan or breaks a rule. Assumes nothing.
use Prim.Native.Nat.{ℕ, zero, suc, ◌+◌, ◌-◌, ◌<◌, ◌≤◌, min, max}
use native.Mathlib.Omega.{arith}
use Rattle.std.proofs.Math.Decide.{dec_lt, ℕ_discrete}
use Rattle.std.specs.Prelude.{◌≡◌, Bool, true, false, ◌⊎◌, [], ◌∷◌, ℤ, negsuc, ◌+ℤ◌, ◌≤ℤ◌, ◌<ℤ◌}
use Rattle.std.proofs.Math.Path.{refl, sym}
use Rattle.std.proofs.Common.{ap, subst, ◌∙◌, ⊎_elim}
use Rattle.std.proofs.Math.Logic.{inl, inr}
use Rattle.std.proofs.Math.IntN.{pos}
use Rattle.std.specs.Int.Signed.{lt_z}
use Rattle.laws.specs.Z.{zed, up, lt_z_true, lt_z_false}
use Rattle.laws.specs.Z as z
use Rattle.laws.specs.Pigeon.{find}
use Rattle.dependence.specs.Graph.{edge_at, total}
use Rattle.dependence.specs.Rules.{Meets, here, step, sum}
use Rattle.denial.specs.Box.{Box, Inside, lesser, changed, starts_to, starts_above, instances_to, instances_above}
use Rattle.denial.specs.BoxLaws.{which, lesser_cut, changed_each, changed_here}
use Rattle.denial.specs.BoxLaws.{of_starts_to, of_starts_above, of_instances_to, of_instances_above}
use Rattle.denial.specs.Tree.{split, seat, late, clash, Tree, leaf, cut, none, more, CutKnown, LeafKnown, Known}
use Rattle.denial.specs.Passes.{Rules, Rivals, Keeps, up_to, above, Allowed, Pinned, OneStart}
use Rattle.denial.specs.Passes.{Clash, two, never, barred, So, Passes}

-- a signed comparison is decided
dec_lt_z : (a b : ℤ) → Dec (a <ℤ b)
dec_lt_z a b = go (lt_z a b) refl
  where
    go : (c : Bool) → lt_z a b ≡ c → Dec (a <ℤ b)
    go true e = yes (lt_z_true a b e)
    go false e = no (λ h. omega (arith, zed, h, lt_z_false a b e))

-- a search below a bound decides
dec_some : {P : ℕ → Type 0} {m : ℕ} → ((i : ℕ) × (i < m) × P i) ⊎ ((i : ℕ) → i < m → ¬ (P i))
    → Dec ((i : ℕ) × (i < m) × P i)
dec_some (inl w) = yes w
dec_some (inr n) = no (λ w. n w.0 w.1 w.2)

-- the rules that a tree looks at can be decided
pub record Decided (r : Rules) : Type 0 where
  pub never : (i : ℕ) → Dec (r.Never i)
  pub barred : (i t : ℕ) → Dec (r.Barred i t)
  pub overlap : (i t j t' : ℕ) → Dec (r.Overlap i t j t')

-- each operation has an instance left, and an unlimited one no choice
pub record Seated (r : Rules) (b : Box) : Type 0 where
  pub some : (i : ℕ) → i < r.ops → b.first i ≤ b.last i
  pub fixed : (i : ℕ) → i < r.ops → r.instances i ≡ 0 → b.first i ≡ b.last i

-- a tree that passes for a box, and names what is there
pub record Refuted (r : Rules) (b : Box) : Type 0 where
  pub tree : Tree
  pub known : Known r.ops r.graph.edge_count tree
  pub passes : Passes r b tree

-- starts and instances inside a box that keep the rules
pub record Found (r : Rules) (b : Box) : Type 0 where
  pub t : ℕ → ℕ
  pub u : ℕ → ℕ
  pub inside : Inside r.ops b t u
  pub keeps : Keeps r t u

-- a tree that passes, or a plan
abbrev pub Settled : Rules → Box → Type 0
Settled r b = Refuted r b ⊎ Found r b

-- two pinned operations clash
record Conflict (r : Rules) (b : Box) (i j : ℕ) : Type 0 where
  rivals : Rivals r i j
  same : b.first i ≡ b.first j
  overlap : r.Overlap i (b.lowest i) j (b.lowest j)

module _ (r : Rules) (d : Decided r)
    (from : (k : ℕ) → k < r.graph.edge_count → (edge_at r.graph k).from < r.ops)
    (to : (k : ℕ) → k < r.graph.edge_count → (edge_at r.graph k).to < r.ops) where
  dec_conflict : (b : Box) (i j : ℕ) → Dec (Conflict r b i j)
  dec_conflict b i j = which (ℕ_discrete i j) (λ e. no (λ c. c.rivals.different e))
      (λ ne. which (ℕ_discrete (r.kind i) (r.kind j))
      (λ k. which (dec_lt 0 (r.instances i))
      (λ l. which (ℕ_discrete (b.first i) (b.first j))
      (λ s. which (d.overlap i (b.lowest i) j (b.lowest j))
      (λ o. yes (record { rivals = record { different = ne; one_kind = k; limited = l }; same = s; overlap = o }))
      (λ n. no (λ c. n c.overlap)))
      (λ n. no (λ c. n c.same)))
      (λ n. no (λ c. n c.rivals.limited)))
      (λ n. no (λ c. n c.rivals.one_kind)))

  -- ---- a single point

  module _ (b : Box) (pinned : (i : ℕ) → i < r.ops → Pinned b i) where
    edge_late : (k : ℕ) → k < r.graph.edge_count
        → b.highest (edge_at r.graph k).to
        <ℤ (pos (b.lowest (edge_at r.graph k).from) +ℤ total r.graph r.interval k)
        → Refuted r b
    unfolding Passes So Known LeafKnown sum
    edge_late k l h = record {
      tree = leaf (late (edge_at r.graph k).from (k ∷ []));
      known = (from k l, more l none);
      passes = record {
        end = (edge_at r.graph k).to;
        chain = step l here;
        exceeds = omega (
          arith,
          zed,
          h,
          z.sum (total r.graph r.interval k) (pos 0),
          z.sum (pos (b.lowest (edge_at r.graph k).from)) (total r.graph r.interval k),
          z.sum (pos (b.lowest (edge_at r.graph k).from)) (total r.graph r.interval k +ℤ pos 0),
        );
      };
    }

    meets : ((k : ℕ) → k < r.graph.edge_count
        → ¬ (b.highest (edge_at r.graph k).to
        <ℤ (pos (b.lowest (edge_at r.graph k).from) +ℤ total r.graph r.interval k)))
        → Meets r.graph r.interval (λ i. pos (b.lowest i))
    meets n = record {
      met = λ k l.
          subst (λ (x : ℤ). (pos (b.lowest (edge_at r.graph k).from) +ℤ total r.graph r.interval k) ≤ℤ x)
          (sym (pinned (edge_at r.graph k).to (to k l)).start) (at_most _ _ (n k l));
    }
      where
        at_most : (a c : ℤ) → ¬ (a <ℤ c) → c ≤ℤ a
        at_most a c n = go (lt_z a c) refl
          where
            go : (f : Bool) → lt_z a c ≡ f → c ≤ℤ a
            go true e = absurd (n (lt_z_true a c e))
            go false e = lt_z_false a c e

    self : (i : ℕ) → i < r.ops → Clash r b i i → Refuted r b
    unfolding Passes So Known LeafKnown
    self i h c = record { tree = leaf (clash i i); known = (h, h); passes = c }

    pair : (i j : ℕ) → i < r.ops → j < r.ops → Conflict r b i j → Refuted r b
    unfolding Passes So Known LeafKnown
    pair i j h k c = record {
      tree = leaf (clash i j);
      known = (h, k);
      passes = two c.rivals (pinned i h) (pinned j k) c.same c.overlap;
    }

    point : Settled r b
    point =
        ⊎_elim (λ w. inl (edge_late w.0 w.1 w.2))
        (λ met. ⊎_elim (λ w. inl (self w.0 w.1 (never w.2)))
        (λ ever. ⊎_elim (λ w. inl (self w.0 w.1 (barred (pinned w.0 w.1).start w.2)))
        (λ alone. ⊎_elim (λ w. inl (pair w.0 w.2.0 w.1 w.2.1 w.2.2))
        (λ apart. inr (record {
          t = b.lowest;
          u = b.first;
          inside = record {
            low = λ i h. omega arith;
            high = λ i h. omega (arith, zed, (pinned i h).start);
            first = λ i h. omega arith;
            last = λ i h. omega (arith, (pinned i h).instance);
          };
          keeps = record {
            dependence = meets met;
            ever = ever;
            alone = alone;
            apart = λ i j h k v s o. apart i h (j, k, record { rivals = v; same = s; overlap = o });
          };
        }))
        (find (λ i. (j : ℕ) × (j < r.ops) × Conflict r b i j)
        (λ i. dec_some (find (λ j. Conflict r b i j) (λ j. dec_conflict b i j) r.ops)) r.ops))
        (find (λ i. r.Barred i (b.lowest i)) (λ i. d.barred i (b.lowest i)) r.ops))
        (find (λ i. r.Never i) d.never r.ops))
        (find (λ k.
        b.highest (edge_at r.graph k).to
        <ℤ (pos (b.lowest (edge_at r.graph k).from) +ℤ total r.graph r.interval k))
        (λ k. dec_lt_z _ _) r.graph.edge_count)

  -- ---- cuts: a plan in a part is in the box, and trees of both parts make a tree of the box

  cut_starts : (b : Box) (i v : ℕ) → i < r.ops → Settled r (starts_to b i v) → Settled r (starts_above b i v)
      → Settled r b
  unfolding Passes Known CutKnown Allowed up_to above
  cut_starts b i v h (inr f) y =
      inr (record { t = f.t; u = f.u; inside = of_starts_to i v f.inside; keeps = f.keeps })
  cut_starts b i v h (inl x) (inr f) =
      inr (record { t = f.t; u = f.u; inside = of_starts_above i v f.inside; keeps = f.keeps })
  cut_starts b i v h (inl x) (inl y) = inl (record {
    tree = cut (split i v) x.tree y.tree;
    known = (h, (x.known, y.known));
    passes = (tt, (x.passes, y.passes));
  })

  cut_instances : (b : Box) (i k : ℕ) → i < r.ops → 0 < r.instances i → Settled r (instances_to b i k)
      → Settled r (instances_above b i k) → Settled r b
  unfolding Passes Known CutKnown Allowed up_to above
  cut_instances b i k h l (inr f) y =
      inr (record { t = f.t; u = f.u; inside = of_instances_to i k f.inside; keeps = f.keeps })
  cut_instances b i k h l (inl x) (inr f) =
      inr (record { t = f.t; u = f.u; inside = of_instances_above i k f.inside; keeps = f.keeps })
  cut_instances b i k h l (inl x) (inl y) = inl (record {
    tree = cut (seat i k) x.tree y.tree;
    known = (h, (x.known, y.known));
    passes = (l, (x.passes, y.passes));
  })

  -- ---- instances, operation by operation

  -- every start is pinned, and the instances of the operations below k
  record SeatsFrom (k : ℕ) (b : Box) : Type 0 where
    starts : (i : ℕ) → i < r.ops → OneStart b i
    seated : Seated r b
    done : (i : ℕ) → i < r.ops → i < k → b.first i ≡ b.last i

  next_seat : (k : ℕ) (b : Box) → SeatsFrom k b → b.first k ≡ b.last k → SeatsFrom (suc k) b
  next_seat k b s e = record {
    starts = s.starts;
    seated = s.seated;
    done = λ i h l.
        which (ℕ_discrete i k) (λ q. subst (λ (x : ℕ). b.first x ≡ b.last x) (sym q) e)
        (λ n. s.done i h (omega arith));
  }

  seats_to : (k : ℕ) (b : Box) → k < r.ops → SeatsFrom k b → SeatsFrom (suc k) (instances_to b k (b.first k))
  unfolding instances_to
  seats_to k b h s =
      let f : ℕ → ℕ = changed k (min (b.last k) (b.first k)) b.last in
      let here : min (b.last k) (b.first k) ≡ b.first k = omega (arith, s.seated.some k h) in
      record {
        starts = s.starts;
        seated = record {
          some =
              changed_each (λ i x. i < r.ops → b.first i ≤ x) k (min (b.last k) (b.first k)) b.last
              (λ _. omega (arith, s.seated.some k h)) (λ i _. s.seated.some i);
          fixed =
              changed_each (λ i x. i < r.ops → r.instances i ≡ 0 → b.first i ≡ x)
              k (min (b.last k) (b.first k)) b.last (λ _ _. sym here) (λ i _. s.seated.fixed i);
        };
        done =
            changed_each (λ i x. i < r.ops → i < suc k → b.first i ≡ x) k (min (b.last k) (b.first k)) b.last
            (λ _ _. sym here) (λ i n q l. s.done i q (omega arith));
      }

  seats_above : (k : ℕ) (b : Box) → k < r.ops → b.first k < b.last k → SeatsFrom k b
      → SeatsFrom k (instances_above b k (b.first k))
  unfolding instances_above
  seats_above k b h l s = record {
    starts = s.starts;
    seated = record {
      some =
          changed_each (λ i x. i < r.ops → x ≤ b.last i) k (max (b.first k) (b.first k + 1)) b.first
          (λ _. omega arith) (λ i _. s.seated.some i);
      fixed =
          changed_each (λ i x. i < r.ops → r.instances i ≡ 0 → x ≡ b.last i)
          k (max (b.first k) (b.first k + 1)) b.first
          (λ _ e. absurd (let q = s.seated.fixed k h e in omega arith)) (λ i _. s.seated.fixed i);
    };
    done =
        changed_each (λ i x. i < r.ops → i < k → x ≡ b.last i) k (max (b.first k) (b.first k + 1)) b.first
        (λ _ q. absurd (omega arith)) (λ i _. s.done i);
  }

  above_first : (b : Box) (k : ℕ) → (instances_above b k (b.first k)).first k ≡ b.first k + 1
  unfolding instances_above
  above_first b k = changed_here k (max (b.first k) (b.first k + 1)) b.first ∙ omega arith

  above_last : (b : Box) (k : ℕ) → (instances_above b k (b.first k)).last k ≡ b.last k
  unfolding instances_above
  above_last b k = refl

  limited : (b : Box) (k : ℕ) → k < r.ops → SeatsFrom k b → b.first k < b.last k → 0 < r.instances k
  limited b k h s l =
      which (dec_lt 0 (r.instances k)) (λ p. p)
      (λ n. absurd (let q = s.seated.fixed k h (omega arith) in omega arith))

  -- m instances of k are left beside its lowest
  seat_range : (k : ℕ) → k < r.ops → ((b : Box) → SeatsFrom (suc k) b → Settled r b) → (m : ℕ) (b : Box)
      → SeatsFrom k b → b.first k + m ≡ b.last k → Settled r b
  seat_range k h next zero b s e = next b (next_seat k b s (omega arith))
  seat_range k h next (suc m) b s e =
      cut_instances b k (b.first k) h (limited b k h s (omega arith))
      (next (instances_to b k (b.first k)) (seats_to k b h s))
      (seat_range k h next m (instances_above b k (b.first k)) (seats_above k b h (omega arith) s)
      (omega (arith, above_first b k, above_last b k)))

  seats : (m k : ℕ) → k + m ≡ r.ops → (b : Box) → SeatsFrom k b → Settled r b
  seats zero k e b s = point b (λ i h. record { start = s.starts i h; instance = s.done i h (omega arith) })
  seats (suc m) k e b s =
      seat_range k (omega arith) (λ b' s'. seats m (suc k) (omega arith) b' s') (b.last k - b.first k) b s
      (omega (arith, s.seated.some k (omega arith)))

  -- ---- starts, operation by operation

  record StartsFrom (k : ℕ) (b : Box) : Type 0 where
    seated : Seated r b
    done : (i : ℕ) → i < r.ops → i < k → OneStart b i

  next_start : (k : ℕ) (b : Box) → StartsFrom k b → OneStart b k → StartsFrom (suc k) b
  next_start k b s e = record {
    seated = s.seated;
    done = λ i h l.
        which (ℕ_discrete i k) (λ q. subst (λ (x : ℕ). OneStart b x) (sym q) e) (λ n. s.done i h (omega arith));
  }

  starts_to_lem : (k : ℕ) (b : Box) → pos (b.lowest k) ≤ℤ b.highest k → StartsFrom k b
      → StartsFrom (suc k) (starts_to b k (b.lowest k))
  unfolding starts_to
  starts_to_lem k b l s = record {
    seated = record { some = s.seated.some; fixed = s.seated.fixed };
    done =
        changed_each (λ i x. i < r.ops → i < suc k → pos (b.lowest i) ≡ x)
        k (lesser (b.highest k) (b.lowest k)) b.highest
        (λ _ _. sym (lesser_cut (b.highest k) (b.lowest k) l)) (λ i n q p. s.done i q (omega arith));
  }

  starts_above_lem : (k : ℕ) (b : Box) → StartsFrom k b → StartsFrom k (starts_above b k (b.lowest k))
  unfolding starts_above
  starts_above_lem k b s = record {
    seated = record { some = s.seated.some; fixed = s.seated.fixed };
    done =
        changed_each (λ i x. i < r.ops → i < k → pos x ≡ b.highest i)
        k (max (b.lowest k) (b.lowest k + 1)) b.lowest
        (λ _ q. absurd (omega arith)) (λ i _. s.done i);
  }

  above_lowest : (b : Box) (k : ℕ) → (starts_above b k (b.lowest k)).lowest k ≡ b.lowest k + 1
  unfolding starts_above
  above_lowest b k = changed_here k (max (b.lowest k) (b.lowest k + 1)) b.lowest ∙ omega arith

  above_highest : (b : Box) (k : ℕ) → (starts_above b k (b.lowest k)).highest k ≡ b.highest k
  unfolding starts_above
  above_highest b k = refl

  -- no start is left
  empty : (b : Box) (k : ℕ) → k < r.ops → b.highest k <ℤ pos (b.lowest k) → Settled r b
  unfolding Passes So Known LeafKnown sum
  empty b k h l = inl (record {
    tree = leaf (late k []);
    known = (h, none);
    passes = record { end = k; chain = here; exceeds = omega (arith, zed, l, z.sum (pos (b.lowest k)) (pos 0)) };
  })

  -- m starts of k are left beside its lowest
  start_range : (k : ℕ) → k < r.ops → ((b : Box) → StartsFrom (suc k) b → Settled r b) → (m : ℕ) (b : Box)
      → StartsFrom k b → pos (b.lowest k + m) ≡ b.highest k → Settled r b
  start_range k h next zero b s e = next b (next_start k b s (omega (arith, zed, e)))
  start_range k h next (suc m) b s e =
      cut_starts b k (b.lowest k) h
      (next (starts_to b k (b.lowest k)) (starts_to_lem k b (omega (arith, zed, e)) s))
      (start_range k h next m (starts_above b k (b.lowest k)) (starts_above_lem k b s)
      (omega (arith, zed, e, above_lowest b k, above_highest b k)))

  starts : (m k : ℕ) → k + m ≡ r.ops → (b : Box) → StartsFrom k b → Settled r b
  starts zero k e b s = seats r.ops 0 (omega arith) b (record {
    starts = λ i h. s.done i h (omega arith);
    seated = s.seated;
    done = λ i h l. absurd (omega arith);
  })
  starts (suc m) k e b s = which (dec_lt_z (b.highest k) (pos (b.lowest k)))
      (λ l. empty b k (omega arith) l)
      (λ n.
      start_range k (omega arith) (λ b' s'. starts m (suc k) (omega arith) b' s') (up (b.highest k) - b.lowest k) b s
      (span (b.highest k) (b.lowest k) n))
    where
      span : (y : ℤ) (x : ℕ) → ¬ (y <ℤ pos x) → pos (x + (up y - x)) ≡ y
      span (pos y) x n = ap pos (which (dec_lt y x) (λ l. absurd (n (omega (arith, zed)))) (λ q. omega arith))
      span (negsuc y) x n = absurd (n (omega (arith, zed)))

  pub tree_or_plan : (b : Box) → Seated r b → Settled r b
  tree_or_plan b s = starts r.ops 0 (omega arith) b (record { seated = s; done = λ i h l. absurd (omega arith) })
