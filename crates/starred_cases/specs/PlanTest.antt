-- What the tests of a sheet and of plans say of the rules. Assumes nothing.
use Rattle.std.specs.Prelude.{◌≡◌, Bool, false, not, List, ℕ, zero, suc, ◌+◌, ◌%◌, ◌<◌, ◌≤◌, max, eqb, ltb, leb, length, pos, ◌+ℤ◌}
use Rattle.std.proofs.Math.Path.{refl, sym, subst}
use Rattle.std.proofs.Common.{ap, ◌∙◌, inl, inr, ⊎_elim, arith}
use Rattle.std.proofs.Math.Bool.{true, cond}
use Rattle.std.proofs.Math.Decide.{ℕ_discrete}
use Rattle.std.specs.Int.Signed.{le_z}
use borrow.Author.Tests.{eqb-true, eq-eqb, lt-ltb, ltb-true, le-leb, leb-true, not-true}
use Rattle.laws.specs.Entry.{vec}
use Rattle.laws.specs.Z.{true_false, le_z_true, true_le_z}
use Rattle.laws.specs.Count.{both_true, both_show}
use Rattle.dependence.specs.Graph.{edge_at, total}
use Rattle.dependence.specs.Rules.{Meets}
use Rattle.sheet.specs.declared.Sheet.{Sheet}
use Rattle.sheet.specs.Sheet.{InRange, type_of, op_at, graph_of}
use Rattle.sheet.specs.Answer.{sheet_answer}
use Rattle.sheet.specs.AnswerLaws.{sheet_inside}
use Rattle.plan.specs.Rules.{Plan, Rivals, InHorizon, InWindow, StartAllowed}
use Rattle.plan.specs.Order.{Same, Less}
use Rattle.plan.specs.Answers.{First}
use Rattle.plan.specs.Local.{plan_local}
use Rattle.plan.specs.Resource.{greatest}
use Rattle.plan.specs.Total.{same_sym, same_trans}
use Rattle.starred_cases.specs.Tests.{both, up_to, every, lex_then, sheet_test, meets_test, instance_test, shares_test, clear_test, horizon_test, window_test, hold_test, start_test, starts_test, instances_test, apart_test, plan_test, instances_below, plans_test, no_plan_test, first_test}
use Rattle.starred_cases.specs.Lists.{up_at, up_show, every_at, list_of, list_length, list_at, lex_order}

-- ---- the questions about the sheet

pub sheet_is : (s : Sheet) → sheet_test s ≡ true → InRange s
unfolding sheet_test
sheet_is s e = sheet_inside s (eqb-true (sheet_answer s) 0 e)

-- ---- the rules of a plan

instance_is : (a u : ℕ) → instance_test a u ≡ true → (0 < a → u < a) × (a ≡ 0 → u ≡ 0)
instance_is zero u e = ((λ l. absurd (omega arith)), λ _. eqb-true u 0 e)
instance_is (suc a) u e = ((λ l. ltb-true u (suc a) e), λ z. absurd (omega arith))

instance_show : (a u : ℕ) → (0 < a → u < a) → (a ≡ 0 → u ≡ 0) → instance_test a u ≡ true
instance_show zero u l z = eq-eqb u 0 (z refl)
instance_show (suc a) u l z = lt-ltb u (suc a) (l (omega arith))

horizon_is : (H D t : ℕ) → horizon_test H D t ≡ true → InHorizon H D t
horizon_is H D t e = let q = both_true (ltb t H) (leb (t + D) H) e in record { starts = ltb-true t H q.0; finishes = leb-true (t + D) H q.1 }

window_is : (lo hi t : ℕ) → window_test lo hi t ≡ true → InWindow lo hi t
window_is lo hi t e = let q = both_true (leb lo t) (leb t hi) e in record { from = leb-true lo t q.0; to = leb-true t hi q.1 }

hold_is : (a K L : ℕ) → hold_test a K L ≡ true → 0 < a → K ≤ L
hold_is zero K L e l = absurd (omega arith)
hold_is (suc a) K L e l = leb-true K L e

hold_show : (a K L : ℕ) → (0 < a → K ≤ L) → hold_test a K L ≡ true
hold_show zero K L h = refl
hold_show (suc a) K L h = le-leb K L (h (omega arith))

start_is : (s : Sheet) (L i t : ℕ) → start_test s L i t ≡ true → StartAllowed s L i t
start_is s L i t e =
    let h = horizon_test s.horizon (type_of s i).latency t in
    let w = window_test (op_at s i).lo (op_at s i).hi t in
    let k = hold_test (type_of s i).instances (type_of s i).busy L in
    let q = both_true h (both w k) e in
    let r = both_true w k q.1 in
    record {
      in_horizon = horizon_is s.horizon (type_of s i).latency t q.0;
      in_window = window_is (op_at s i).lo (op_at s i).hi t r.0;
      holds = record { fits = hold_is (type_of s i).instances (type_of s i).busy L r.1 };
    }

start_show : (s : Sheet) (L i t : ℕ) → StartAllowed s L i t → start_test s L i t ≡ true
start_show s L i t a =
    let h = a.in_horizon in
    let w = a.in_window in
    let horizon : horizon_test s.horizon (type_of s i).latency t ≡ true = both_show (ltb t s.horizon) _ (lt-ltb t s.horizon h.starts) (le-leb (t + (type_of s i).latency) s.horizon h.finishes) in
    let window : window_test (op_at s i).lo (op_at s i).hi t ≡ true = both_show (leb (op_at s i).lo t) _ (le-leb (op_at s i).lo t w.from) (le-leb t (op_at s i).hi w.to) in
    both_show (horizon_test s.horizon (type_of s i).latency t) _ horizon
    (both_show (window_test (op_at s i).lo (op_at s i).hi t) _ window (hold_show (type_of s i).instances (type_of s i).busy L a.holds.fits))

show_not : (b : Bool) → (b ≡ true → ⊥) → not b ≡ true
show_not true n = absurd (n refl)
show_not false n = refl

where_true : (b x : Bool) → b ≡ true → cond b x true ≡ true → x ≡ true
where_true true x e z = z
where_true false x e z = absurd (true_false (sym e))

show_where : (b x : Bool) → (b ≡ true → x ≡ true) → cond b x true ≡ true
show_where true x f = f refl
show_where false x f = refl

show_ne : (a b : ℕ) → not (eqb a b) ≡ true → a ≡ b → ⊥
show_ne a b e q = true_false (sym (eq-eqb a b q) ∙ not-true (eqb a b) e)

module _ (s : Sheet) (L : ℕ) where
  pub meets_is : (ts : List ℕ) → meets_test s L ts ≡ true → Meets (graph_of s) L (λ i. pos (vec ts i))
  meets_is ts e = record { met = λ k l. le_z_true _ _ (up_at s.edge_count (λ k. le_z (pos (vec ts (edge_at (graph_of s) k).from) +ℤ total (graph_of s) L k) (pos (vec ts (edge_at (graph_of s) k).to))) e k l) }

  module _ (ts us : List ℕ) where
    shares : ℕ → ℕ → Bool
    shares = shares_test s us

    -- slot a of i is not slot b of j
    differ : ℕ → ℕ → ℕ → ℕ → Bool
    differ i j a b = not (eqb ((vec ts i + a) % L) ((vec ts j + b) % L))

    clear : ℕ → ℕ → Bool
    clear i j = clear_test s L i (vec ts i) j (vec ts j)

    pub plan_is : plan_test s L ts us ≡ true → Plan s L (vec ts) (vec us)
    unfolding plan_test shares differ clear
    plan_is e =
        let a = both_true (starts_test s L ts) (both (meets_test s L ts) (both (instances_test s us) (apart_test s L ts us))) e in
        let b = both_true (meets_test s L ts) (both (instances_test s us) (apart_test s L ts us)) a.1 in
        let c = both_true (instances_test s us) (apart_test s L ts us) b.1 in
        record {
          start = λ i l. start_is s L i (vec ts i) (up_at s.op_count (λ j. start_test s L j (vec ts j)) a.0 i l);
          dependence = meets_is ts b.0;
          instance = λ i l. let q = instance_is (type_of s i).instances (vec us i) (up_at s.op_count (λ j. instance_test (type_of s j).instances (vec us j)) c.0 i l) in
              record { limited = q.0; unlimited = q.1 };
          apart = λ i j h k r q o.
              let m : shares i j ≡ true =
              both_show (not (eqb i j)) _ (show_not (eqb i j) (λ z. r.different (eqb-true i j z)))
              (both_show (eqb (op_at s i).resource (op_at s j).resource) _ (eq-eqb _ _ r.one_type)
              (both_show (ltb 0 (type_of s i).instances) _ (lt-ltb 0 (type_of s i).instances r.limited) (eq-eqb (vec us i) (vec us j) q))) in
              let z = up_at s.op_count (λ j. cond (shares i j) (clear i j) true) (up_at s.op_count (λ i. up_to s.op_count (λ j. cond (shares i j) (clear i j) true)) c.1 i h) j k in
              let w : clear i j ≡ true = where_true (shares i j) (clear i j) m z in
              let x = o.first in
              let y = o.second in
              show_ne _ _
              (up_at (type_of s j).busy (differ i j x.after) (up_at (type_of s i).busy (λ a. up_to (type_of s j).busy (differ i j a)) w x.after x.within) y.after y.within)
              (x.there ∙ sym y.there);
        }

    pub plan_show : Plan s L (vec ts) (vec us) → plan_test s L ts us ≡ true
    unfolding plan_test shares differ clear
    plan_show p =
        both_show (starts_test s L ts) _ (up_show s.op_count (λ j. start_test s L j (vec ts j)) (λ i l. start_show s L i (vec ts i) (p.start i l)))
        (both_show (meets_test s L ts) _ (up_show s.edge_count (λ k. le_z (pos (vec ts (edge_at (graph_of s) k).from) +ℤ total (graph_of s) L k) (pos (vec ts (edge_at (graph_of s) k).to))) (λ k l. true_le_z (p.dependence.met k l)))
        (both_show (instances_test s us) _ (up_show s.op_count (λ j. instance_test (type_of s j).instances (vec us j)) (λ i l. instance_show (type_of s i).instances (vec us i) (p.instance i l).limited (p.instance i l).unlimited))
        (up_show s.op_count (λ i. up_to s.op_count (λ j. cond (shares i j) (clear i j) true))
        (λ i h. up_show s.op_count (λ j. cond (shares i j) (clear i j) true) (λ j k. show_where (shares i j) (clear i j) (apart i j h k))))))
      where
        apart : (i j : ℕ) → i < s.op_count → j < s.op_count → shares_test s us i j ≡ true → clear_test s L i (vec ts i) j (vec ts j) ≡ true
        apart i j h k e =
            let a = both_true (not (eqb i j)) _ e in
            let b = both_true (eqb (op_at s i).resource (op_at s j).resource) _ a.1 in
            let c = both_true (ltb 0 (type_of s i).instances) (eqb (vec us i) (vec us j)) b.1 in
            let r : Rivals s i j = record { different = show_ne i j a.0; one_type = eqb-true _ _ b.0; limited = ltb-true 0 (type_of s i).instances c.0 } in
            up_show (type_of s i).busy (λ x. up_to (type_of s j).busy (differ i j x))
            (λ x l. up_show (type_of s j).busy (differ i j x) (λ y m. show_not (eqb ((vec ts i + x) % L) ((vec ts j + y) % L))
            (λ z. p.apart i j h k r (eqb-true (vec us i) (vec us j) c.1) (record {
              at = (vec ts i + x) % L;
              first = record { after = x; within = l; there = refl };
              second = record { after = y; within = m; there = sym (eqb-true _ _ z) };
            }))))

greatest_one : (n : ℕ) (f : ℕ → ℕ) → 1 ≤ greatest n f
unfolding greatest
greatest_one zero f = omega arith
greatest_one (suc n) f = omega (arith, greatest_one n f)

greatest_at : (n : ℕ) (f : ℕ → ℕ) (i : ℕ) → i < n → f i ≤ greatest n f
unfolding greatest
greatest_at zero f i l = absurd (omega arith)
greatest_at (suc n) f i l = pick (ℕ_discrete i n) (greatest_at n f i)
  where
    pick : Dec (i ≡ n) → (i < n → f i ≤ greatest n f) → f i ≤ max (greatest n f) (f n)
    pick (yes e) more = let z = ap f e in omega arith
    pick (no e) more = let z = more (omega arith) in omega arith

-- ---- each plan of a sheet in range

module _ (s : Sheet) (L : ℕ) (ok : InRange s) (t u : ℕ → ℕ) (q : Plan s L t u) where
  ts : List ℕ
  ts = list_of s.op_count t

  us : List ℕ
  us = list_of s.op_count u

  instance_below : (i : ℕ) → i < s.op_count → u i < instances_below s
  instance_below i l = pick (type_of s i).instances refl
    where
      pick : (a : ℕ) → (type_of s i).instances ≡ a → u i < instances_below s
      pick zero e = omega (arith, greatest_one s.op_count (λ j. (type_of s j).instances), (q.instance i l).unlimited e)
      pick (suc a) e = omega (arith, greatest_at s.op_count (λ j. (type_of s j).instances) i l, (q.instance i l).limited (omega arith))

  -- its first numbers pass the test of all plans
  pub plan_has : (p : List ℕ → List ℕ → Bool) → plans_test s L p ≡ true → p (list_of s.op_count t) (list_of s.op_count u) ≡ true
  unfolding plans_test ts us
  plan_has p e =
      let a = every_at s.op_count s.horizon (λ xs. every s.op_count (instances_below s) (λ ys. cond (plan_test s L xs ys) (p xs ys) true)) e ts (list_length s.op_count t)
      (λ i l. subst (λ (x : ℕ). x < s.horizon) (list_at s.op_count t i l) (q.start i l).in_horizon.starts) in
      let b = every_at s.op_count (instances_below s) (λ ys. cond (plan_test s L ts ys) (p ts ys) true) a us (list_length s.op_count u)
      (λ i l. subst (λ (x : ℕ). x < instances_below s) (list_at s.op_count u i l) (instance_below i l)) in
      rw (plan_show s L ts us (plan_local s L ok t u (vec ts) (vec us) (list_at s.op_count t) (list_at s.op_count u) q)) at b

pub no_plan_is : (s : Sheet) (L : ℕ) → InRange s → no_plan_test s L ≡ true → (t u : ℕ → ℕ) → Plan s L t u → ⊥
no_plan_is s L ok e t u q = true_false (sym (plan_has s L ok t u q (λ ts us. false) e))

pub first_is : (s : Sheet) (L : ℕ) (ts us : List ℕ) → InRange s → length ts ≡ s.op_count → length us ≡ s.op_count → first_test s L ts us ≡ true → First s L (vec ts) (vec us)
first_is s L ts us ok lt lu e =
    let a = both_true (plan_test s L ts us) _ e in
    record {
      plan = plan_is s L ts us a.0;
      first = λ t' u' q.
          let n = s.op_count in
          let z = plan_has s L ok t' u' q (λ xs ys. lex_then ts xs (lex_then us ys true)) a.1 in
          ⊎_elim (λ l. inr (inl (right l (list_at n t'))))
          (λ m. ⊎_elim (λ l. inr (inr (same_trans m.0 (same_sym (list_at n t')), right l (list_at n u'))))
          (λ k. inl (same_trans m.0 (same_sym (list_at n t')), same_trans k.0 (same_sym (list_at n u'))))
          (lex_order n us (list_of n u') true lu m.1))
          (lex_order n ts (list_of n t') (lex_then us (list_of n u') true) lt z);
    }
  where
    right : {a b c : ℕ → ℕ} → Less s.op_count a c → Same s.op_count b c → Less s.op_count a b
    right l z = record { at = l.at; within = l.within; equal = λ i h. l.equal i h ∙ sym (z i (omega (arith, l.within))); less = omega (arith, z l.at l.within, l.less) }
