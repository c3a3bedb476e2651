-- The first plan in a domain, by lowering one operation's start after the other; for any rule `Plan` on vectors of
-- starts.
use Rattle.std.specs.Prelude.{◌≡◌, Bool, true, false, ◌⊎◌, ◌≢◌, List, [], ℕ, zero, suc, ◌+◌, ◌≤◌, ◌<◌, set, length}
use Rattle.std.proofs.Common.{sym, subst, ◌∙◌, inl, inr, ⊎_elim, arith, get_or-set_same}
use Rattle.std.proofs.Math.Decide.{ℕ_discrete, dec_lt}
use Rattle.sizes.specs.Sizes.{most_starts}
use Rattle.laws.specs.Entry.{vec}
use Rattle.laws.specs.Z.{true_false}
use Rattle.laws.specs.Store.{store}
use Rattle.domain.specs.Domain.{has, row_of, In, Part, Within, Solved, Below, Only, FirstIn, Keeps, Least}
use Rattle.domain.specs.Split.{within_self, within_trans, within_set, in_set, in_wider, LeastStarts, low_in}

-- the starts x are a plan's, and the domain d allows them
pub record Good (Plan : (ℕ → ℕ) → Type 0) (n : ℕ) (d : List (List Bool)) (x : List ℕ) : Type 0 where
  pub inside : In n d (vec x)
  pub plan : Plan (vec x)

-- a plan in d whose start of i is least
pub record Lowered (Plan : (ℕ → ℕ) → Type 0) (n : ℕ) (d : List (List Bool)) (i : ℕ) (x : List ℕ) : Type 0 where
  pub good : Good Plan n d x
  pub least : (t : ℕ → ℕ) → Plan t → In n d t → vec x i ≤ t i

-- the first i starts of x are settled, and d has only those
pub record Lead (Plan : (ℕ → ℕ) → Type 0) (n : ℕ) (ok d : List (List Bool)) (i : ℕ) (x : List ℕ) : Type 0 where
  pub good : Good Plan n d x
  pub within : Within n d ok
  pub pinned : (v : ℕ) → v < i → (s : ℕ) → s < most_starts → has (row_of d v) s ≡ true → s ≡ vec x v
  pub rest : (t : ℕ → ℕ) → Plan t → In n ok t → (In n d t × ((v : ℕ) → v < i → vec x v ≡ t v)) ⊎ ((k : ℕ) × (k < i) × (vec x k < t k) × ((v : ℕ) → v < k → vec x v ≡ t v))

-- s has the smaller start at the first of n operations where they differ
abbrev pub Sooner : ℕ → (ℕ → ℕ) → (ℕ → ℕ) → Type 0
Sooner n s t = (k : ℕ) × (k < n) × (s k < t k) × ((v : ℕ) → v < k → s v ≡ t v)

-- d has one start for each of the first i operations, and a plan of ok outside d comes after everything in d
pub record Ahead (Plan : (ℕ → ℕ) → Type 0) (n : ℕ) (ok d : List (List Bool)) (i : ℕ) : Type 0 where
  pub within : Within n d ok
  pub single : (v : ℕ) → v < i → (s z : ℕ) → s < most_starts → z < most_starts → has (row_of d v) s ≡ true → has (row_of d v) z ≡ true → s ≡ z
  pub rest : (t : ℕ → ℕ) → Plan t → In n ok t → In n d t ⊎ ((u : ℕ → ℕ) → In n d u → Sooner n u t)

-- the first plan, or no answer
pub record Tried (Plan : (ℕ → ℕ) → Type 0) (n : ℕ) (ok : List (List Bool)) (found : Bool) (x : List ℕ) : Type 0 where
  pub first : found ≡ true → FirstIn Plan n ok true x

-- a plan in d, or no answer
pub record Held (Plan : (ℕ → ℕ) → Type 0) (n : ℕ) (d : List (List Bool)) (found : Bool) (x : List ℕ) : Type 0 where
  pub good : found ≡ true → Good Plan n d x

-- where no start is later, the first that differs is earlier
sooner : (n : ℕ) (s t : ℕ → ℕ) → ((v : ℕ) → v < n → s v ≤ t v) → ((v : ℕ) → v < n → s v ≡ t v) ⊎ Sooner n s t
sooner zero s t h = inl (λ v l. absurd (omega arith))
sooner (suc n) s t h = ⊎_elim (λ e. last e (ℕ_discrete (s n) (t n))) (λ w. inr (w.0, omega (arith, w.1), w.2, w.3)) (sooner n s t (λ v l. h v (omega arith)))
  where
    last : ((v : ℕ) → v < n → s v ≡ t v) → Dec (s n ≡ t n) → ((v : ℕ) → v < suc n → s v ≡ t v) ⊎ Sooner (suc n) s t
    last e (no ne) = inr (n, omega arith, omega (arith, h n (omega arith)), e)
    last e (yes q) = inl (λ v l. at v l (ℕ_discrete v n))
      where
        at : (v : ℕ) → v < suc n → Dec (v ≡ n) → s v ≡ t v
        at v l (yes c) = subst (λ (k : ℕ). s k ≡ t k) (sym c) q
        at v l (no c) = e v (omega arith)

module _ (Plan : (ℕ → ℕ) → Type 0) (n : ℕ) where
  -- ---- one operation

  module _ (d : List (List Bool)) (i : ℕ) (x : List ℕ) {r : List Bool} (l : i < length d) (m : i < n) (b : Below (row_of d i) (vec x i) r) where
    pub lower_found : {f : Bool} {y : List ℕ} → Solved Plan n (set d i r) f y → f ≡ true → Good Plan n d y
    lower_found s e = record { inside = in_wider (within_set l b.was) (s.inside e); plan = s.plan e }

    pub lower_less : {f : Bool} {y : List ℕ} → Solved Plan n (set d i r) f y → f ≡ true → vec y i < vec x i
    lower_less {f} {y} s e = pick (lt_or (vec y i) (vec x i))
      where
        lt_or : (a c : ℕ) → (a < c) ⊎ (c ≤ a)
        lt_or a c = go (dec_lt a c)
          where
            go : Dec (a < c) → (a < c) ⊎ (c ≤ a)
            go (yes q) = inl q
            go (no q) = inr (omega arith)

        now : has r (vec y i) ≡ true
        now = subst (λ (q : List Bool). has q (vec y i) ≡ true) (get_or-set_same d i r [] l) ((s.inside e).allowed i m)

        pick : (vec y i < vec x i) ⊎ (vec x i ≤ vec y i) → vec y i < vec x i
        pick (inl q) = q
        pick (inr q) = absurd (b.high (vec y i) ((s.inside e).small i m) q now)

    pub lower_done : {f : Bool} {y : List ℕ} → Good Plan n d x → Solved Plan n (set d i r) f y → f ≡ false → Lowered Plan n d i x
    lower_done g s e = record { good = g; least = λ t p h. pick t p h (dec_lt (t i) (vec x i)) }
      where
        pick : (t : ℕ → ℕ) → Plan t → In n d t → Dec (t i < vec x i) → vec x i ≤ t i
        pick t p h (yes q) = absurd (s.none e t p (in_set r l h (b.low (t i) (h.small i m) q (h.allowed i m))))
        pick t p h (no q) = omega arith

  -- ---- all operations

  pub lead_start : {ok : List (List Bool)} {x : List ℕ} → Good Plan n ok x → Lead Plan n ok ok 0 x
  lead_start {ok} {x} g = record { good = g; within = within_self ok; pinned = λ v l. absurd (omega arith); rest = λ t p h. inl (h, λ v l. absurd (omega arith)) }

  module _ {ok d : List (List Bool)} {i : ℕ} {x y : List ℕ} {r : List Bool} (l : i < length d) (m : i < n) (z : Lead Plan n ok d i x) (w : Lowered Plan n d i y) (o : Only (vec y i) r) where
    same : (v : ℕ) → v < i → vec y v ≡ vec x v
    same v q = z.pinned v q (vec y v) (w.good.inside.small v (omega arith)) (w.good.inside.allowed v (omega arith))

    part : Part r (row_of d i)
    part = record { part = λ t h e. subst (λ (s : ℕ). has (row_of d i) s ≡ true) (sym (o.other t h e)) (w.good.inside.allowed i m) }

    pub lead_next : Lead Plan n ok (set d i r) (i + 1) y
    lead_next = record {
      good = record { inside = in_set r l w.good.inside o.here; plan = w.good.plan };
      within = within_trans (within_set l part) z.within;
      pinned = λ v q. store (λ k row. (s : ℕ) → s < most_starts → has row s ≡ true → s ≡ vec y k) d i r [] l o.other v
          (λ ne s h e. z.pinned v (omega arith) s h e ∙ sym (same v (omega arith)));
      rest = λ t p h. ⊎_elim (λ a. go t p a (ℕ_discrete (vec y i) (t i)))
          (λ k. inr (k.0, omega arith, omega (arith, same k.0 k.1, k.2), λ v q. same v (omega (arith, k.1)) ∙ k.3 v q)) (z.rest t p h);
    }
      where
        go : (t : ℕ → ℕ) → Plan t → (In n d t × ((v : ℕ) → v < i → vec x v ≡ t v)) → Dec (vec y i ≡ t i) → (In n (set d i r) t × ((v : ℕ) → v < i + 1 → vec y v ≡ t v)) ⊎ ((k : ℕ) × (k < i + 1) × (vec y k < t k) × ((v : ℕ) → v < k → vec y v ≡ t v))
        go t p a (yes e) = inl (in_set r l a.0 (subst (λ (s : ℕ). has r s ≡ true) e o.here), λ v q. at v q (ℕ_discrete v i))
          where
            at : (v : ℕ) → v < i + 1 → Dec (v ≡ i) → vec y v ≡ t v
            at v q (yes c) = subst (λ (k : ℕ). vec y k ≡ t k) (sym c) e
            at v q (no c) = same v (omega arith) ∙ a.1 v (omega arith)
        go t p a (no ne) = inr (i, omega arith, omega (arith, w.least t p a.0), λ v q. same v q ∙ a.1 v q)

  pub lead_done : {ok d : List (List Bool)} {i : ℕ} {x : List ℕ} → Lead Plan n ok d i x → i ≡ n → FirstIn Plan n ok true x
  lead_done {ok} {d} {i} {x} z e = record {
    inside = λ _. in_wider z.within z.good.inside;
    plan = λ _. z.good.plan;
    first = λ _ t p h. record { case = ⊎_elim (λ a. inl (λ v q. a.1 v (omega arith))) (λ k. inr (k.0, omega (arith, k.1), k.2, k.3)) (z.rest t p h) };
    none = λ q. true_false q;
  }

  pub first_none : {ok : List (List Bool)} {f : Bool} {x y : List ℕ} → Solved Plan n ok f x → f ≡ false → FirstIn Plan n ok false y
  first_none s e = record { inside = λ q. true_false (sym q); plan = λ q. true_false (sym q); first = λ q. true_false (sym q); none = λ _. s.none e }

  -- ---- each operation in turn at its least start

  pub ahead_start : {ok d : List (List Bool)} → Keeps Plan n ok d → Ahead Plan n ok d 0
  ahead_start k = record { within = k.within; single = λ v l. absurd (omega arith); rest = λ t p h. inl (k.kept t p h) }

  pub ahead_keeps : {ok d e : List (List Bool)} {i : ℕ} → i ≤ n → Ahead Plan n ok d i → Keeps Plan n d e → Ahead Plan n ok e i
  ahead_keeps m h k = record {
    within = within_trans k.within h.within;
    single = λ v l s z a b y w. h.single v l s z a b ((k.within.row v (omega arith)).part s a y) ((k.within.row v (omega arith)).part z b w);
    rest = λ t p q. ⊎_elim (λ a. inl (k.kept t p a)) (λ f. inr (λ u w. f u (in_wider k.within w))) (h.rest t p q);
  }

  module _ {ok d : List (List Bool)} {i x : ℕ} {r : List Bool} (l : i < length d) (m : i < n) (z : Ahead Plan n ok d i) (low : Least (row_of d i) x) (small : x < most_starts) (o : Only x r) where
    pinned_part : Part r (row_of d i)
    pinned_part = record { part = λ t h e. subst (λ (s : ℕ). has (row_of d i) s ≡ true) (sym (o.other t h e)) (low.here small) }

    narrower : Within n (set d i r) d
    narrower = within_set l pinned_part

    pub ahead_pin : Ahead Plan n ok (set d i r) (i + 1)
    ahead_pin = record {
      within = within_trans narrower z.within;
      single = λ v q s w a b. store (λ k row. has row s ≡ true → has row w ≡ true → s ≡ w) d i r [] l (λ y e. o.other s a y ∙ sym (o.other w b e)) v (λ ne. z.single v (omega arith) s w a b);
      rest = λ t p h. ⊎_elim (λ a. go t a (ℕ_discrete (t i) x)) (λ f. inr (λ u w. f u (in_wider narrower w))) (z.rest t p h);
    }
      where
        -- a start of i that is not the least comes later
        later : (t : ℕ → ℕ) → In n d t → t i ≢ x → (u : ℕ → ℕ) → In n (set d i r) u → Sooner n u t
        later t a ne u w = (i, m, smaller (dec_lt (t i) x), λ v q. z.single v q (u v) (t v) (w.small v (omega arith)) (a.small v (omega arith)) ((in_wider narrower w).allowed v (omega arith)) (a.allowed v (omega arith)))
          where
            here : u i ≡ x
            here = o.other (u i) (w.small i m) (subst (λ (q : List Bool). has q (u i) ≡ true) (get_or-set_same d i r [] l) (w.allowed i m))

            smaller : Dec (t i < x) → u i < t i
            smaller (yes q) = absurd (low.before (t i) q (a.allowed i m))
            smaller (no q) = omega (arith, here)

        go : (t : ℕ → ℕ) → In n d t → Dec (t i ≡ x) → In n (set d i r) t ⊎ ((u : ℕ → ℕ) → In n (set d i r) u → Sooner n u t)
        go t a (yes e) = inl (in_set r l a (subst (λ (s : ℕ). has r s ≡ true) (sym e) o.here))
        go t a (no ne) = inr (later t a ne)

  pub ahead_done : {ok d : List (List Bool)} {i : ℕ} {x : List ℕ} → Ahead Plan n ok d i → i ≡ n → Good Plan n d x → FirstIn Plan n ok true x
  ahead_done {x = x} z e g = record {
    inside = λ _. in_wider z.within g.inside;
    plan = λ _. g.plan;
    first = λ _ t p h. record { case = ⊎_elim (λ a. inl (λ v q. z.single v (omega arith) (vec x v) (t v) (g.inside.small v q) (a.small v q) (g.inside.allowed v q) (a.allowed v q))) (λ f. inr (f (vec x) g.inside)) (z.rest t p h) };
    none = λ q. true_false q;
  }

  -- the least starts of d, if they are a plan, are the first one
  pub ahead_least : {ok d : List (List Bool)} {i : ℕ} {x : List ℕ} → Ahead Plan n ok d i → LeastStarts n d x → ((v : ℕ) → v < n → vec x v < most_starts) → Plan (vec x) → FirstIn Plan n ok true x
  ahead_least {ok} {d} {i} {x} z w small p = record {
    inside = λ _. in_wider z.within here;
    plan = λ _. p;
    first = λ _ t q h. record { case = ⊎_elim (λ a. sooner n (vec x) t (below t a)) (λ f. inr (f (vec x) here)) (z.rest t q h) };
    none = λ e. true_false e;
  }
    where
      here : In n d (vec x)
      here = low_in Plan n w small

      below : (t : ℕ → ℕ) → In n d t → (v : ℕ) → v < n → vec x v ≤ t v
      below t a v l = pick (dec_lt (t v) (vec x v))
        where
          pick : Dec (t v < vec x v) → vec x v ≤ t v
          pick (yes q) = absurd ((w.least v l).before (t v) q (a.allowed v l))
          pick (no q) = omega arith

  -- ---- a narrowed domain

  pub lead_keeps : {ok d e : List (List Bool)} {i : ℕ} {x : List ℕ} → i ≤ n → Lead Plan n ok d i x → Keeps Plan n d e → Lead Plan n ok e i x
  lead_keeps {x = x} m h k = record {
    good = record { inside = k.kept (vec x) h.good.plan h.good.inside; plan = h.good.plan };
    within = within_trans k.within h.within;
    pinned = λ v l s a y. h.pinned v l s a ((k.within.row v (omega arith)).part s a y);
    rest = λ t p q. ⊎_elim (λ a. inl (k.kept t p a.0, a.1)) (λ b. inr b) (h.rest t p q);
  }

  -- a plan whose start of i is the least that d allows
  pub lower_least : {d : List (List Bool)} {i u : ℕ} {x : List ℕ} → i < n → Good Plan n d x → Least (row_of d i) u → vec x i ≡ u → Lowered Plan n d i x
  lower_least {d} {i} {u} {x} m g z e = record { good = g; least = λ t p h. pick t h (dec_lt (t i) u) }
    where
      pick : (t : ℕ → ℕ) → In n d t → Dec (t i < u) → vec x i ≤ t i
      pick t h (yes q) = absurd (z.before (t i) q (h.allowed i m))
      pick t h (no q) = omega (arith, e)

  -- the first plan in a narrowed domain is the first in the domain
  pub first_wider : {b a : List (List Bool)} {f : Bool} {x : List ℕ} → Keeps Plan n b a → FirstIn Plan n a f x → FirstIn Plan n b f x
  first_wider k s = record {
    inside = λ y. in_wider k.within (s.inside y);
    plan = s.plan;
    first = λ y t p h. s.first y t p (k.kept t p h);
    none = λ e t p h. s.none e t p (k.kept t p h);
  }
