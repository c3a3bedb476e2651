-- Laws of the search for a colouring: a colour more, colours that are free for the same nodes, and the first colouring.
use Rattle.std.specs.Prelude.{◌≡◌, refl, Bool, not, ◌⊎◌, ◌≢◌, List, ℕ, ◌+◌, ◌≤◌, ◌<◌, set, length, replicate}
use Rattle.std.proofs.Common.{sym, ap, subst, ◌∙◌, inl, inr, ⊎_elim, arith, get_or-set_same, get_or-set_other}
use Rattle.std.proofs.Math.Bool.{true, false, cond}
use Rattle.std.proofs.lemmas.List.{get_or-replicate}
use Rattle.std.proofs.Math.Decide.{ℕ_discrete, dec_lt}
use Rattle.sizes.specs.Sizes.{most_instances, most_operations}
use Rattle.laws.specs.Tests.{by_test}
use Rattle.laws.specs.Entry.{vec}
use Rattle.laws.specs.Z.{true_false}
use Rattle.laws.specs.Store.{store}
use Rattle.laws.specs.Count.{tally, tally_lt}
use Rattle.laws.specs.Swap.{swap, swap_spec, swap_below, swap_same, swap_there}
use Rattle.domain.specs.Domain.{has, row_of}
use Rattle.colouring.specs.Graph.{joins, Graph, Coloured, Partial, Extends, First}
use Rattle.colouring.specs.Parts.{Clear, ClearTable, SameColumn, Twin, Left, LeastAt, Worth}

-- the nodes without a colour
pub bare : ℕ → List Bool → ℕ
bare n done = tally n (λ i. cond (has done i) false true)

not-true : (b : Bool) → b ≡ true → cond b false true ≡ true → ⊥
not-true true e q = true_false (sym q)
not-true false e q = true_false (sym e)

not-false : (b : Bool) → b ≡ false → cond b false true ≡ true
not-false b e = ap (λ (x : Bool). cond x false true) e

module _ (n : ℕ) (c : List (List Bool)) (a : ℕ) (g : Graph n c) (done : List Bool) (u : List ℕ) where
  -- ---- colours that are clear for the same nodes

  -- where x's colouring has v at some node, v is clear for that node
  has_clear : (x : ℕ → ℕ) → Extends n c a done u x → (k : ℕ) → k < n → Clear n c done u k (x k)
  has_clear x e k h = record { clear = λ j l d q s. e.coloured.apart j k l h q (e.same j l d ∙ s) }

  module _ (f : List (List Bool)) (z : ClearTable n c done u f) (v w : ℕ) (hv : v < most_instances) (hw : w < most_instances) (t : SameColumn n done f v w true) where
    clear_vw : (k : ℕ) → k < n → has done k ≡ false → Clear n c done u k v → Clear n c done u k w
    clear_vw k h d q = by_test (has (row_of f k) w) (λ e. ((z.node k h).colour w hw).yes e) (λ e. absurd (((z.node k h).colour v hv).no (t.yes refl k h d ∙ e) q))

    clear_wv : (k : ℕ) → k < n → has done k ≡ false → Clear n c done u k w → Clear n c done u k v
    clear_wv k h d q = by_test (has (row_of f k) v) (λ e. ((z.node k h).colour v hv).yes e) (λ e. absurd (((z.node k h).colour w hw).no (sym (t.yes refl k h d) ∙ e) q))

    module _ (x : ℕ → ℕ) (e : Extends n c a done u x) (la : v < a) (lw : w < a) where
      -- x with v and w exchanged at the nodes that have no colour yet
      turned : ℕ → ℕ
      turned k = cond (has done k) (x k) (swap v w (x k))

      turned_done : (k : ℕ) → has done k ≡ true → turned k ≡ x k
      unfolding turned
      turned_done k d = rw d

      turned_bare : (k : ℕ) → has done k ≡ false → turned k ≡ swap v w (x k)
      unfolding turned
      turned_bare k d = rw d

      swap_clear : (k : ℕ) → k < n → has done k ≡ false → Clear n c done u k (swap v w (x k))
      swap_clear k h d = ⊎_elim
          (λ q. subst (Clear n c done u k) (sym q.1) (clear_vw k h d (subst (Clear n c done u k) q.0 (has_clear x e k h))))
          (λ q. ⊎_elim (λ s. subst (Clear n c done u k) (sym s.1) (clear_wv k h d (subst (Clear n c done u k) s.0 (has_clear x e k h)))) (λ s. subst (Clear n c done u k) (sym s.1) (has_clear x e k h)) q.1)
          (swap_spec v w (x k))

      turned_below : (k : ℕ) → k < n → turned k < a
      turned_below k h = by_test (has done k) (λ d. omega (arith, turned_done k d, e.coloured.below k h)) (λ d. omega (arith, turned_bare k d, swap_below v w (x k) a la lw (e.coloured.below k h)))

      turned_apart : (i k : ℕ) → i < n → k < n → joins c i k ≡ true → turned i ≡ turned k → ⊥
      turned_apart i k h l j q = by_test (has done i) (λ d. by_test (has done k) (λ b. both d b) (λ b. one d b)) (λ d. by_test (has done k) (λ b. other d b) (λ b. neither d b))
        where
          both : has done i ≡ true → has done k ≡ true → ⊥
          both d b = e.coloured.apart i k h l j (sym (turned_done i d) ∙ q ∙ turned_done k b)

          one : has done i ≡ true → has done k ≡ false → ⊥
          one d b = (swap_clear k l b).clear i h d j (sym (e.same i h d) ∙ sym (turned_done i d) ∙ q ∙ turned_bare k b)

          other : has done i ≡ false → has done k ≡ true → ⊥
          other d b = (swap_clear i h d).clear k l b (g.both i k h l j) (sym (e.same k l b) ∙ sym (turned_done k b) ∙ sym q ∙ turned_bare i d)

          neither : has done i ≡ false → has done k ≡ false → ⊥
          neither d b = e.coloured.apart i k h l j (swap_same v w (x i) (x k) (sym (turned_bare i d) ∙ q ∙ turned_bare k b))

      turned_extends : Extends n c a done u turned
      turned_extends = record { coloured = record { below = turned_below; apart = turned_apart }; same = λ i h d. turned_done i d ∙ e.same i h d }

      -- so a colouring that has v at a node without a colour can have w there instead
      exchanged : (i : ℕ) → has done i ≡ false → x i ≡ v → (y : ℕ → ℕ) × Extends n c a done u y × (y i ≡ w)
      exchanged i d q = (turned, turned_extends, turned_bare i d ∙ ap (swap v w) q ∙ swap_there v w)

  -- ---- the colours at one node

  pub left_none : (i : ℕ) → Left n c a done u i 0
  left_none i = record { left = λ w e. omega arith }

  module _ {i v : ℕ} (b : Left n c a done u i v) where
    pub left_step : ((x : ℕ → ℕ) → Extends n c a done u x → x i ≡ v → ⊥) → Left n c a done u i (v + 1)
    left_step never = record { left = λ x e. pick x e (ℕ_discrete (x i) v) }
      where
        pick : (x : ℕ → ℕ) → Extends n c a done u x → Dec (x i ≡ v) → v + 1 ≤ x i
        pick x e (yes q) = absurd (never x e q)
        pick x e (no q) = omega (arith, b.left x e)

  pub left_taken : {i v : ℕ} → i < n → Left n c a done u i v → (Clear n c done u i v → ⊥) → Left n c a done u i (v + 1)
  left_taken {i} {v} h b bad = left_step b (λ x e q. bad (subst (Clear n c done u i) q (has_clear x e i h)))

  pub left_twin : {i v : ℕ} {f : List (List Bool)} → i < n → has done i ≡ false → v < a → a ≤ most_instances → ClearTable n c done u f → Left n c a done u i v → Twin n done f v true → Left n c a done u i (v + 1)
  left_twin {i} {v} {f} h d l s z b t = left_step b (λ x e q. let k = t.yes refl in
      let y = exchanged f z v k.0 (omega arith) (omega (arith, k.1)) k.2 x e l (omega (arith, k.1)) i d q in
      omega (arith, b.left y.0 y.1, y.2, k.1))

  -- ---- one node more has a colour

  module _ (i v : ℕ) (h : i < n) (d : has done i ≡ false) (ld : i < length done) (lu : i < length u) where
    -- the flags and colours at another node are as they were
    done_other : (k : ℕ) → k ≢ i → has (set done i true) k ≡ has done k
    done_other k ne = get_or-set_other done i k true false ne

    colour_other : (k : ℕ) → k ≢ i → vec (set u i v) k ≡ vec u k
    colour_other k ne = get_or-set_other u i k v 0 ne

    colour_here : vec (set u i v) i ≡ v
    colour_here = get_or-set_same u i v 0 lu

    pub bare_less : bare n (set done i true) < bare n done
    unfolding bare
    bare_less = tally_lt n (λ k. cond (has (set done i true) k) false true) (λ k. cond (has done k) false true) i h
        (not-true _ (get_or-set_same done i true false ld)) (not-false _ d)
        (λ k l. store (λ j b. cond b false true ≡ true → cond (has done j) false true ≡ true) done i true false ld (λ q. true_false (sym q)) k (λ ne q. q))

    pub partial_more : v < a → Clear n c done u i v → Partial n c a done u → Partial n c a (set done i true) (set u i v)
    partial_more lv z p = record { below = λ k l e. below k l e (ℕ_discrete k i); apart = λ j k l m e q r. apart j k l m e q r (ℕ_discrete j i) (ℕ_discrete k i) }
      where
        below : (k : ℕ) → k < n → has (set done i true) k ≡ true → Dec (k ≡ i) → vec (set u i v) k < a
        below k l e (yes q) = omega (arith, ap (vec (set u i v)) q, colour_here)
        below k l e (no q) = omega (arith, colour_other k q, p.below k l (sym (done_other k q) ∙ e))

        apart : (j k : ℕ) → j < n → k < n → has (set done i true) j ≡ true → has (set done i true) k ≡ true → joins c j k ≡ true → Dec (j ≡ i) → Dec (k ≡ i) → vec (set u i v) j ≡ vec (set u i v) k → ⊥
        apart j k l m e q r (yes x) (yes y) s = g.simple i h (subst (λ (o : ℕ). joins c i o ≡ true) y (subst (λ (o : ℕ). joins c o k ≡ true) x r))
        apart j k l m e q r (yes x) (no y) s = z.clear k m (sym (done_other k y) ∙ q) (g.both i k h m (subst (λ (o : ℕ). joins c o k ≡ true) x r)) (sym (colour_other k y) ∙ sym s ∙ ap (vec (set u i v)) x ∙ colour_here)
        apart j k l m e q r (no x) (yes y) s = z.clear j l (sym (done_other j x) ∙ e) (subst (λ (o : ℕ). joins c j o ≡ true) y r) (sym (colour_other j x) ∙ s ∙ ap (vec (set u i v)) y ∙ colour_here)
        apart j k l m e q r (no x) (no y) s = p.apart j k l m (sym (done_other j x) ∙ e) (sym (done_other k y) ∙ q) r (sym (colour_other j x) ∙ s ∙ colour_other k y)

    extends_more : (x : ℕ → ℕ) → Extends n c a done u x → x i ≡ v → Extends n c a (set done i true) (set u i v) x
    extends_more x e q = record { coloured = e.coloured; same = λ k l b. at k l b (ℕ_discrete k i) }
      where
        at : (k : ℕ) → k < n → has (set done i true) k ≡ true → Dec (k ≡ i) → x k ≡ vec (set u i v) k
        at k l b (yes y) = ap x y ∙ q ∙ sym colour_here ∙ sym (ap (vec (set u i v)) y)
        at k l b (no y) = e.same k l (sym (done_other k y) ∙ b) ∙ sym (colour_other k y)

    pub extends_back : (x : ℕ → ℕ) → Extends n c a (set done i true) (set u i v) x → Extends n c a done u x
    extends_back x e = record { coloured = e.coloured; same = λ k l b. at k l b (ℕ_discrete k i) }
      where
        at : (k : ℕ) → k < n → has done k ≡ true → Dec (k ≡ i) → x k ≡ vec u k
        at k l b (yes y) = true_false (sym b ∙ ap (has done) y ∙ d)
        at k l b (no y) = e.same k l (done_other k y ∙ b) ∙ colour_other k y

    extends_here : (x : ℕ → ℕ) → Extends n c a (set done i true) (set u i v) x → x i ≡ v
    extends_here x e = e.same i h (get_or-set_same done i true false ld) ∙ colour_here

    -- the search with the colour v at node i found none
    pub left_tried : Left n c a done u i v → ((x : ℕ → ℕ) → Extends n c a (set done i true) (set u i v) x → ⊥) → Left n c a done u i (v + 1)
    left_tried l s = left_step l (λ x m q. s x (extends_more x m q))

    pub found_least : {w : List ℕ} → Left n c a done u i v → Extends n c a (set done i true) (set u i v) (vec w) → LeastAt n c a done u i w
    found_least {w} l s = record { extends = extends_back (vec w) s; least = record { left = λ x m. omega (arith, extends_here (vec w) s, l.left x m) } }

  -- ---- the end

  -- every node has its colour
  pub whole : Partial n c a done u → ((i : ℕ) → i < n → has done i ≡ true) → Extends n c a done u (vec u)
  whole p all = record { coloured = record { below = λ i h. p.below i h (all i h); apart = λ i k h m. p.apart i k h m (all i h) (all k m) }; same = λ i h d. refl }

  -- no colour is left for node i
  pub used_up : {i v : ℕ} → i < n → Left n c a done u i v → a ≤ v → (x : ℕ → ℕ) → Extends n c a done u x → ⊥
  used_up {i} h l m x s = omega (arith, l.left x s, s.coloured.below i h)

  -- the colour of i in `best` is the least
  pub best_least : {i v : ℕ} {best : List ℕ} → Extends n c a done u (vec best) → Left n c a done u i v → vec best i ≤ v → LeastAt n c a done u i best
  best_least s l m = record { extends = s; least = record { left = λ x e. omega (arith, l.left x e) } }

  pub least_more : {i : ℕ} {w : List ℕ} → i < n → has done i ≡ false → i < length done → i < length u → LeastAt n c a done u i w → Extends n c a (set done i true) (set u i (vec w i)) (vec w)
  least_more {i} {w} h d ld lu l = extends_more i (vec w i) h d ld lu (vec w) l.extends refl

  -- ---- the nodes in turn

  -- the first k nodes have their colours, and no colouring has smaller ones
  pub record Lead (k : ℕ) : Type 0 where
    pub coloured : (i : ℕ) → i < n → i < k → has done i ≡ true
    pub later : (i : ℕ) → i < n → k ≤ i → has done i ≡ false
    pub partial : Partial n c a done u
    pub rest : (x : ℕ → ℕ) → Coloured n c a x → ((i : ℕ) → i < k → vec u i ≡ x i) ⊎ ((m : ℕ) × (m < k) × (vec u m < x m) × ((i : ℕ) → i < m → vec u i ≡ x i))

  pub lead_start : ((i : ℕ) → i < n → has done i ≡ false) → Lead 0
  lead_start z = record {
    coloured = λ i h l. absurd (omega arith);
    later = λ i h l. z i h;
    partial = record { below = λ i h d. true_false (sym d ∙ z i h); apart = λ i k h l d. true_false (sym d ∙ z i h) };
    rest = λ x q. inl (λ i l. absurd (omega arith));
  }

  pub lead_done : {k : ℕ} → Lead k → k ≡ n → First n c a (vec u)
  lead_done l e = record {
    coloured = record { below = λ i h. l.partial.below i h (l.coloured i h (omega arith)); apart = λ i j h m. l.partial.apart i j h m (l.coloured i h (omega arith)) (l.coloured j m (omega arith)) };
    first = λ x o. record { case = ⊎_elim (λ s. inl (λ i h. s i (omega arith))) (λ s. inr (s.0, omega (arith, s.1), s.2, s.3)) (l.rest x o) };
  }

  -- colours below the lowest clear one are in no colouring
  pub lowest_left : {k r : ℕ} → k < n → ((v : ℕ) → v < r → Clear n c done u k v → ⊥) → Left n c a done u k r
  lowest_left {k} {r} h l = record { left = λ x e. pick x e (dec_lt (x k) r) }
    where
      pick : (x : ℕ → ℕ) → Extends n c a done u x → Dec (x k < r) → r ≤ x k
      pick x e (yes q) = absurd (l (x k) q (has_clear x e k h))
      pick x e (no q) = omega arith

-- whether a colour is worth a try, from its flag and from those of the lower colours
module _ {n : ℕ} {done : List Bool} {f : List (List Bool)} {i v : ℕ} (h : i < n) (hv : v < most_instances) (d : has done i ≡ false) where
  pub worth_taken : has (row_of f i) v ≡ false → Worth n done f i v false
  worth_taken e = record { clear = λ q. true_false (sym q); skip = λ _ c u a l s g z b. left_taken n c a g done u h b (((z.node i h).colour v hv).no e) }

  pub worth_clear : (b : Bool) → has (row_of f i) v ≡ true → Twin n done f v b → Worth n done f i v (not b)
  worth_clear true e t = record { clear = λ q. true_false (sym q); skip = λ _ c u a l s g z b. left_twin n c a g done u h d l s z b t }
  worth_clear false e t = record { clear = λ _ c u z. ((z.node i h).colour v hv).yes e; skip = λ q. true_false q }

module _ (n : ℕ) (c : List (List Bool)) (a : ℕ) (g : Graph n c) (done : List Bool) (u : List ℕ) (k v : ℕ) (h : k < n) (ld : k < length done) (lu : k < length u) (l : Lead n c a g done u k) where
  pub lead_next : v < a → Clear n c done u k v → Left n c a done u k v → Lead n c a g (set done k true) (set u k v) (k + 1)
  lead_next lv z b = record {
    coloured = λ i m q. store (λ j f. j < n → j < k + 1 → f ≡ true) done k true false ld (λ _ _. refl) i (λ ne s t. l.coloured i s (omega arith)) m q;
    later = λ i m q. store (λ j f. j < n → k + 1 ≤ j → f ≡ false) done k true false ld (λ _ t. absurd (omega arith)) i (λ ne s t. l.later i s (omega arith)) m q;
    partial = partial_more n c a g done u k v h d ld lu lv z l.partial;
    rest = λ x o. ⊎_elim (λ s. at x o s (ℕ_discrete v (x k))) (λ s. inr (s.0, omega (arith, s.1), omega (arith, s.2, old s.0 s.1), λ i q. old i (omega (arith, s.1)) ∙ s.3 i q)) (l.rest x o);
  }
    where
      d : has done k ≡ false
      d = l.later k h (omega arith)

      old : (i : ℕ) → i < k → vec (set u k v) i ≡ vec u i
      old i q = colour_other n c a g done u k v h d ld lu i (λ e. omega arith)

      here : vec (set u k v) k ≡ v
      here = colour_here n c a g done u k v h d ld lu

      over : (x : ℕ → ℕ) → Coloured n c a x → ((i : ℕ) → i < k → vec u i ≡ x i) → Extends n c a done u x
      over x o s = record { coloured = o; same = λ i m e. sym (s i (early i m e (dec_lt i k))) }
        where
          early : (i : ℕ) → i < n → has done i ≡ true → Dec (i < k) → i < k
          early i m e (yes q) = q
          early i m e (no q) = true_false (sym e ∙ l.later i m (omega arith))

      at : (x : ℕ → ℕ) → Coloured n c a x → ((i : ℕ) → i < k → vec u i ≡ x i) → Dec (v ≡ x k) → ((i : ℕ) → i < k + 1 → vec (set u k v) i ≡ x i) ⊎ ((m : ℕ) × (m < k + 1) × (vec (set u k v) m < x m) × ((i : ℕ) → i < m → vec (set u k v) i ≡ x i))
      at x o s (yes e) = inl (λ i q. one i q (ℕ_discrete i k))
        where
          one : (i : ℕ) → i < k + 1 → Dec (i ≡ k) → vec (set u k v) i ≡ x i
          one i q (yes y) = ap (vec (set u k v)) y ∙ here ∙ e ∙ sym (ap x y)
          one i q (no y) = old i (omega arith) ∙ s i (omega arith)
      at x o s (no e) = inr (k, omega arith, omega (arith, here, b.left x (over x o s)), λ i q. old i q ∙ s i q)

  pub lead_least : {w : List ℕ} → LeastAt n c a done u k w → v ≡ vec w k → Lead n c a g (set done k true) (set u k v) (k + 1)
  lead_least {w} m e = lead_next (omega (arith, m.extends.coloured.below k h))
      (subst (Clear n c done u k) (sym e) (has_clear n c a g done u (vec w) m.extends k h))
      (subst (Left n c a done u k) (sym e) m.least)

-- where no node has a colour yet, every colouring is one over the colours
pub extends_all : {n a : ℕ} {c : List (List Bool)} {done : List Bool} {u : List ℕ} → ((i : ℕ) → i < n → has done i ≡ false) → (x : ℕ → ℕ) → Coloured n c a x → Extends n c a done u x
extends_all z x o = record { coloured = o; same = λ i h d. true_false (sym d ∙ z i h) }

-- a search over no colours is one for a colouring
pub none_at_all : {n a : ℕ} {c : List (List Bool)} {done : List Bool} {u : List ℕ} → ((i : ℕ) → i < n → has done i ≡ false) → ((x : ℕ → ℕ) → Extends n c a done u x → ⊥) → (x : ℕ → ℕ) → Coloured n c a x → ⊥
none_at_all z none x o = none x (extends_all z x o)

-- no node has a colour yet
pub all_bare : {n : ℕ} → n ≤ most_operations → (i : ℕ) → i < n → has (replicate most_operations false) i ≡ false
all_bare m i h = get_or-replicate most_operations i false false (omega arith)

pub partial_none : {n a : ℕ} {c : List (List Bool)} {u : List ℕ} → n ≤ most_operations → Partial n c a (replicate most_operations false) u
partial_none m = record { below = λ i h d. true_false (sym d ∙ all_bare m i h); apart = λ i k h l d. true_false (sym d ∙ all_bare m i h) }
