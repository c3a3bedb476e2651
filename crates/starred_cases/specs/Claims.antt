-- The claims of the table: what each says, in the definitions of the rules, and the test that shows it.
use Rattle.std.specs.Prelude.{◌≡◌, refl, Bool, true, not, List, [], ◌∷◌, ◌++◌, ℕ, zero, suc, ◌+◌, ◌-◌, ◌<◌, ◌≤◌, eqb, ltb, leb, length, replicate, ℤ}
use Rattle.std.proofs.Common.{sym, ap, subst, ◌∙◌, arith, add-one, length-append, eqb-true, ltb-true, lt-ltb, leb-true}
use Rattle.std.proofs.Math.Decide.{dec_lt}
use Rattle.std.proofs.lemmas.List.{length-replicate}
use Rattle.std.proofs.Math.ListN.{get_or-eq_default}
use Rattle.std.proofs.lemmas.Bool.{not-true}
use Rattle.sizes.specs.Sizes.{most_operations}
use Rattle.laws.specs.Entry.{vec, ZeroFrom}
use Rattle.laws.specs.Z.{true_false}
use Rattle.laws.specs.Count.{bit, tally, tally_none, tally_more, both_true}
use Rattle.laws.specs.Store.{all_zero}
use Rattle.dependence.specs.Rules.{Meets}
use Rattle.sheet.specs.declared.Sheet.{Sheet}
use Rattle.sheet.specs.Sheet.{InRange, Interval, op_at, type_at, graph_of}
use Rattle.sheet.specs.Facts.{ops_most}
use Rattle.sheet.specs.Questions.{at_no, at_yes}
use Rattle.sheet.specs.Loop.{Feasible, sheet_exactly}
use Rattle.sheet_lines.specs.Found.{padded}
use Rattle.plan.specs.declared.PlanAnswer.{PlanAnswer}
use Rattle.plan.specs.Rules.{Plan}
use Rattle.plan.specs.Resource.{resource_bound, greatest, share_of, ResourceAt}
use Rattle.plan.specs.Answers.{refused, looped, planned, HasPlan, First, PlanAt, LeastInterval}
use Rattle.plan.specs.AfterPlan.{plan_given}
use Rattle.timing.specs.Answers.{RecurrenceAt}
use Rattle.pair_order.specs.Pairs.{pair_count, PairNumber}
use Rattle.pair_order.specs.Answers as order
use Rattle.starred_cases.specs.Tests.{both, up_to, count, bound_of, sheet_test, meets_test, plan_test, no_plan_test, first_test, bad_test, first_walk_test}
use Rattle.starred_cases.specs.Lists.{up_at}
use Rattle.starred_cases.specs.PlanTest.{sheet_is, meets_is, plan_is, no_plan_is, first_is}
use Rattle.starred_cases.specs.WalkTest.{bad_is, first_walk_is}

-- a claim of 01, with what the test needs to see it: starts that meet the dependences, a plan, or walks
pub data Claim : Type 0 where
  refuses_outside : Claim
  refuses_walk : Sheet → ℕ → List ℕ → Claim
  always_refuses_walk : Sheet → List ℕ → Claim
  refuses_plan : Sheet → ℕ → List ℕ → Claim
  always_refuses_plan : Sheet → List ℕ → Claim
  gives : Sheet → ℕ → List ℕ → List ℕ → Claim
  always_gives : Sheet → List ℕ → List ℕ → Claim
  least_is : Sheet → ℕ → List ℕ → List ℕ → Claim
  least_refused : Sheet → Claim
  recurrence_is : Sheet → ℕ → List ℕ → List ℕ → Claim
  recurrence_refused : Sheet → List ℕ → Claim
  resource_is : Sheet → ℕ → Claim
  pair_out : Sheet → ℕ → List ℕ → List ℕ → ℕ → Claim
  pair_in : ℕ → ℕ → Claim

-- 0 with the starts and instances of a plan
abbrev pub plan_of : List ℕ → List ℕ → PlanAnswer
plan_of ts us = planned (padded most_operations 0 ts) (padded most_operations 0 us)

-- 5 with the edges of a walk
abbrev pub loop_of : List ℕ → PlanAnswer
loop_of ks = looped (length ks) (padded most_operations 0 ks)

-- what a claim states: the answer of a service with every number beside it, also of every interval or of every sheet in
-- range, or that a pair number passes question 14 with N operations
abbrev pub Stated : Claim → Type 0
Stated refuses_outside = (s : Sheet) → InRange s → PlanAt s 0 (refused 4) × PlanAt s (s.cap + 1) (refused 4)
Stated (refuses_walk s L ks) = PlanAt s L (loop_of ks)
Stated (always_refuses_walk s ks) = (L : ℕ) → Interval s L → PlanAt s L (loop_of ks)
Stated (refuses_plan s L ts) = PlanAt s L (refused 6)
Stated (always_refuses_plan s ts) = (L : ℕ) → Interval s L → PlanAt s L (refused 6)
Stated (gives s L ts us) = PlanAt s L (plan_of ts us)
Stated (always_gives s ts us) = (L : ℕ) → Interval s L → PlanAt s L (plan_of ts us)
Stated (least_is s L ts us) = LeastInterval s (record { answer = 0; interval = L })
Stated (least_refused s) = LeastInterval s (record { answer = 7; interval = 0 })
Stated (recurrence_is s l ts ks) = RecurrenceAt s (record { answer = 0; value = l })
Stated (recurrence_refused s ks) = RecurrenceAt s (record { answer = 8; value = 0 })
Stated (resource_is s b) = ResourceAt s (record { answer = 0; value = b })
Stated (pair_out s L ts us pair) = order.SlotOrderAt s L pair (order.refused 14)
Stated (pair_in n pair) = PairNumber n pair

-- each interval from 1 below m has p
abbrev pub intervals : ℕ → (ℕ → Bool) → Bool
intervals m p = up_to (m - 1) (λ k. p (suc k))

-- question 4, computed: the interval (initiation interval) is in 1 to the cap
abbrev pub interval_test : Sheet → ℕ → Bool
interval_test s L = both (leb 1 L) (leb L s.cap)

-- the sheet's questions and 4 to 6 got a yes, and this is the first plan
abbrev pub gives_test : Sheet → ℕ → List ℕ → List ℕ → Bool
gives_test s L ts us = both (sheet_test s) (both (interval_test s L) (both (eqb (length ts) s.op_count) (both (eqb (length us) s.op_count) (first_test s L ts us))))

-- the sheet's questions and 4 got a yes, and this is the first bad closed walk
abbrev pub walk_test : Sheet → ℕ → List ℕ → Bool
walk_test s L ks = both (sheet_test s) (both (interval_test s L) (both (leb (length ks) most_operations) (first_walk_test (graph_of s) L ks)))

-- the sheet's questions, 4 and 5 got a yes, as these starts meet the dependences, and there is no plan
abbrev pub denial_test : Sheet → ℕ → List ℕ → Bool
denial_test s L ts = both (sheet_test s) (both (interval_test s L) (both (meets_test s L ts) (no_plan_test s L)))

-- what is computed to show a claim; plans and walks are tried one by one
abbrev pub test : Claim → Bool
test refuses_outside = true
test (refuses_walk s L ks) = walk_test s L ks
test (always_refuses_walk s ks) = intervals (suc s.cap) (λ L. walk_test s L ks)
test (refuses_plan s L ts) = denial_test s L ts
test (always_refuses_plan s ts) = intervals (suc s.cap) (λ L. denial_test s L ts)
test (gives s L ts us) = gives_test s L ts us
test (always_gives s ts us) = intervals (suc s.cap) (λ L. gives_test s L ts us)
test (least_is s L ts us) = both (sheet_test s) (both (interval_test s L) (both (plan_test s L ts us) (intervals L (no_plan_test s))))
test (least_refused s) = both (sheet_test s) (intervals (suc s.cap) (no_plan_test s))
test (recurrence_is s l ts ks) = both (sheet_test s) (both (interval_test s l) (both (meets_test s l ts) (intervals l (λ L. bad_test (graph_of s) L ks))))
test (recurrence_refused s ks) = both (sheet_test s) (intervals (suc s.cap) (λ L. bad_test (graph_of s) L ks))
test (resource_is s b) = both (sheet_test s) (eqb (bound_of s) b)
test (pair_out s L ts us pair) = both (gives_test s L ts us) (not (ltb pair (pair_count s.op_count)))
test (pair_in n pair) = ltb pair (pair_count n)

-- ---- laws

padded_at : (xs : List ℕ) (m i : ℕ) → vec (xs ++ replicate m 0) i ≡ vec xs i
padded_at [] m i = all_zero m i
padded_at (x ∷ xs) m zero = refl
padded_at (x ∷ xs) m (suc i) = padded_at xs m i

padded_length : (xs : List ℕ) → length xs ≤ most_operations → length (padded most_operations 0 xs) ≡ most_operations
padded_length xs h = length-append xs (replicate (most_operations - length xs) 0) ∙ whole
  where
    whole : length xs + length (replicate {A = ℕ} (most_operations - length xs) 0) ≡ most_operations
    whole = omega (arith, length-replicate {A = ℕ} (most_operations - length xs) 0)

padded_column : (xs : List ℕ) → vec xs ≡ vec (padded most_operations 0 xs)
padded_column xs = λ k i. sym (padded_at xs (most_operations - length xs) i) k

padded_zero : (n : ℕ) (xs : List ℕ) → length xs ≡ n → n ≤ most_operations → ZeroFrom n (padded most_operations 0 xs)
padded_zero n xs e h = record {
  whole = padded_length xs (omega arith);
  rest = λ i l. padded_at xs (most_operations - length xs) i ∙ get_or-eq_default xs 0 (omega arith);
}

interval_is : (s : Sheet) (L : ℕ) → interval_test s L ≡ true → Interval s L
interval_is s L e = let q = both_true (leb 1 L) (leb L s.cap) e in record { low = leb-true 1 L q.0; high = leb-true L s.cap q.1 }

below : (m : ℕ) (p : ℕ → Bool) → intervals m p ≡ true → (L : ℕ) → 1 ≤ L → L < m → p L ≡ true
below m p e zero l h = absurd (omega arith)
below m p e (suc L) l h = up_at (m - 1) (λ k. p (suc k)) e L (omega arith)

count_is : (n : ℕ) (f : ℕ → Bool) → tally n f ≡ count n f
unfolding count
count_is zero f = tally_none f
count_is (suc n) f = rw (← add-one n) (tally_more n f) ∙ ap (λ (c : ℕ). c + bit (f n)) (count_is n f)

bound_same : (s : Sheet) → resource_bound s ≡ bound_of s
unfolding resource_bound
bound_same s = λ k. greatest s.type_count (λ r. share_of (count_is s.op_count (λ i. eqb (op_at s i).resource r) k) (type_at s r))

-- starts that meet the dependences: no closed walk is bad
feasible : {s : Sheet} {L : ℕ} {t : ℕ → ℤ} → InRange s → Interval s L → Meets (graph_of s) L t → Feasible s L
feasible {t = t} ok iv m p b = (sheet_exactly ok iv).no_starts p b t m

has : {s : Sheet} {L : ℕ} {t u : ℕ → ℕ} → Plan s L t u → HasPlan s L
has {t = t} {u = u} p = record { starts = t; instances = u; plan = p }

no_plan : (s : Sheet) (L : ℕ) → InRange s → no_plan_test s L ≡ true → HasPlan s L → ⊥
no_plan s L ok e h = no_plan_is s L ok e h.starts h.instances h.plan

-- the test shows the plan at the interval
given_is : (s : Sheet) (L : ℕ) (ts us : List ℕ) → gives_test s L ts us ≡ true → PlanAt s L (plan_of ts us)
given_is s L ts us e =
    let a = both_true (sheet_test s) (both (interval_test s L) (both (eqb (length ts) s.op_count) (both (eqb (length us) s.op_count) (first_test s L ts us)))) e in
    let b = both_true (interval_test s L) (both (eqb (length ts) s.op_count) (both (eqb (length us) s.op_count) (first_test s L ts us))) a.1 in
    let c = both_true (eqb (length ts) s.op_count) (both (eqb (length us) s.op_count) (first_test s L ts us)) b.1 in
    let d = both_true (eqb (length us) s.op_count) (first_test s L ts us) c.1 in
    let ok = sheet_is s a.0 in
    let lt = eqb-true (length ts) s.op_count c.0 in
    let lu = eqb-true (length us) s.op_count d.0 in
    let f = subst (λ (x : ℕ → ℕ). First s L x (vec (padded most_operations 0 us))) (padded_column ts) (subst (λ (x : ℕ → ℕ). First s L (vec ts) x) (padded_column us) (first_is s L ts us ok lt lu d.1)) in
    let iv = interval_is s L b.0 in
    at_yes ok (at_yes iv (at_yes (feasible ok iv f.plan.dependence) (at_yes (has f.plan) (record {
      starts = padded most_operations 0 ts;
      instances = padded most_operations 0 us;
      first = f;
      starts_rest = padded_zero s.op_count ts lt (ops_most ok);
      instances_rest = padded_zero s.op_count us lu (ops_most ok);
      pinned = refl;
    }))))

-- the test shows the first bad closed walk
walk_is : (s : Sheet) (L : ℕ) (ks : List ℕ) → walk_test s L ks ≡ true → PlanAt s L (loop_of ks)
walk_is s L ks e =
    let a = both_true (sheet_test s) (both (interval_test s L) (both (leb (length ks) most_operations) (first_walk_test (graph_of s) L ks))) e in
    let b = both_true (interval_test s L) (both (leb (length ks) most_operations) (first_walk_test (graph_of s) L ks)) a.1 in
    let c = both_true (leb (length ks) most_operations) (first_walk_test (graph_of s) L ks) b.1 in
    let ok = sheet_is s a.0 in
    let iv = interval_is s L b.0 in
    let w = first_walk_is (graph_of s) L ks c.1 in
    let fits = leb-true (length ks) most_operations c.0 in
    at_yes ok (at_yes iv (at_no (λ f. f ks w.bad) (record {
      walk = ks;
      edges = padded most_operations 0 ks;
      first = w;
      padded = record { whole = padded_length ks fits; fits = fits; front = padded_at ks (most_operations - length ks) };
      pinned = refl;
    })))

-- the test shows the denial
denial_is : (s : Sheet) (L : ℕ) (ts : List ℕ) → denial_test s L ts ≡ true → PlanAt s L (refused 6)
denial_is s L ts e =
    let a = both_true (sheet_test s) (both (interval_test s L) (both (meets_test s L ts) (no_plan_test s L))) e in
    let b = both_true (interval_test s L) (both (meets_test s L ts) (no_plan_test s L)) a.1 in
    let c = both_true (meets_test s L ts) (no_plan_test s L) b.1 in
    let ok = sheet_is s a.0 in
    let iv = interval_is s L b.0 in
    at_yes ok (at_yes iv (at_yes (feasible ok iv (meets_is s L ts c.0)) (at_no (no_plan s L ok c.1) refl)))

-- the tests show the claims
pub shown : (c : Claim) → test c ≡ true → Stated c
shown refuses_outside e = λ s ok. (at_yes ok (at_no (λ i. omega (arith, i.low)) refl), at_yes ok (at_no (λ i. omega (arith, i.high)) refl))
shown (refuses_walk s L ks) e = walk_is s L ks e
shown (always_refuses_walk s ks) e = λ L i. walk_is s L ks (below (suc s.cap) (λ L. walk_test s L ks) e L i.low (omega (arith, i.high)))
shown (refuses_plan s L ts) e = denial_is s L ts e
shown (always_refuses_plan s ts) e = λ L i. denial_is s L ts (below (suc s.cap) (λ L. denial_test s L ts) e L i.low (omega (arith, i.high)))
shown (gives s L ts us) e = given_is s L ts us e
shown (always_gives s ts us) e = λ L i. given_is s L ts us (below (suc s.cap) (λ L. gives_test s L ts us) e L i.low (omega (arith, i.high)))
shown (least_is s L ts us) e =
    let a = both_true (sheet_test s) (both (interval_test s L) (both (plan_test s L ts us) (intervals L (no_plan_test s)))) e in
    let b = both_true (interval_test s L) (both (plan_test s L ts us) (intervals L (no_plan_test s))) a.1 in
    let c = both_true (plan_test s L ts us) (intervals L (no_plan_test s)) b.1 in
    let ok = sheet_is s a.0 in
    let iv = interval_is s L b.0 in
    let h = has (plan_is s L ts us c.0) in
    at_yes ok (at_yes (record { at = L; interval = iv; plan = h }) (record {
      at = L;
      interval = iv;
      plan = h;
      least = λ L' i p. at s L ok c.1 L' i p (dec_lt L' L);
      pinned = refl;
    }))
  where
    at : (s : Sheet) (L : ℕ) → InRange s → intervals L (no_plan_test s) ≡ true → (L' : ℕ) → Interval s L' → HasPlan s L' → Dec (L' < L) → L ≤ L'
    at s L ok e L' i p (yes h) = absurd (no_plan s L' ok (below L (no_plan_test s) e L' i.low h) p)
    at s L ok e L' i p (no h) = omega arith
shown (least_refused s) e =
    let a = both_true (sheet_test s) (intervals (suc s.cap) (no_plan_test s)) e in
    let ok = sheet_is s a.0 in
    at_yes ok (at_no (λ x. no_plan s x.at ok (below (suc s.cap) (no_plan_test s) a.1 x.at x.interval.low (omega (arith, x.interval.high))) x.plan) refl)
shown (recurrence_is s l ts ks) e =
    let a = both_true (sheet_test s) (both (interval_test s l) (both (meets_test s l ts) (intervals l (λ L. bad_test (graph_of s) L ks)))) e in
    let b = both_true (interval_test s l) (both (meets_test s l ts) (intervals l (λ L. bad_test (graph_of s) L ks))) a.1 in
    let c = both_true (meets_test s l ts) (intervals l (λ L. bad_test (graph_of s) L ks)) b.1 in
    let ok = sheet_is s a.0 in
    let iv = interval_is s l b.0 in
    let f = feasible ok iv (meets_is s l ts c.0) in
    at_yes ok (at_yes (record { at = l; interval = iv; feasible = f }) (record {
      at = l;
      interval = iv;
      feasible = f;
      least = λ L i g. at s l ks c.1 L i g (dec_lt L l);
      pinned = refl;
    }))
  where
    at : (s : Sheet) (l : ℕ) (ks : List ℕ) → intervals l (λ L. bad_test (graph_of s) L ks) ≡ true → (L : ℕ) → Interval s L → Feasible s L → Dec (L < l) → l ≤ L
    at s l ks e L i g (yes h) = absurd (g ks (bad_is (graph_of s) L ks (below l (λ L. bad_test (graph_of s) L ks) e L i.low h)))
    at s l ks e L i g (no h) = omega arith
shown (recurrence_refused s ks) e =
    let a = both_true (sheet_test s) (intervals (suc s.cap) (λ L. bad_test (graph_of s) L ks)) e in
    let ok = sheet_is s a.0 in
    at_yes ok (at_no (λ x. x.feasible ks (bad_is (graph_of s) x.at ks (below (suc s.cap) (λ L. bad_test (graph_of s) L ks) a.1 x.at x.interval.low (omega (arith, x.interval.high))))) refl)
shown (resource_is s b) e =
    let a = both_true (sheet_test s) (eqb (bound_of s) b) e in
    at_yes (sheet_is s a.0) (ap (λ (x : ℕ). record { answer = 0; value = x }) (sym (bound_same s ∙ eqb-true (bound_of s) b a.1)))
shown (pair_out s L ts us pair) e =
    let a = both_true (gives_test s L ts us) (not (ltb pair (pair_count s.op_count))) e in
    plan_given order.refused_by (given_is s L ts us a.0) refl (at_no (λ h. true_false (sym (lt-ltb pair (pair_count s.op_count) h) ∙ not-true (ltb pair (pair_count s.op_count)) a.1)) refl)
shown (pair_in n pair) e = ltb-true pair (pair_count n) e
