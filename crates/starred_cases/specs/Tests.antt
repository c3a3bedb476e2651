-- Tests that compute: of the sheet's ranges, of the rules of a plan, of the order of plans, and of bad closed walks.
-- Exhaustive, and only for small sheets.
use Rattle.std.specs.Prelude.{Bool, true, false, cond, not, List, [], ◌∷◌, ℕ, zero, suc, ◌+◌, ◌%◌, eqb, ltb, leb, length, pos, ◌+ℤ◌}
use Rattle.std.specs.Int.Signed.{le_z, lt_z}
use Rattle.laws.specs.Entry.{vec}
use Rattle.dependence.specs.declared.Graph.{Graph}
use Rattle.dependence.specs.Graph.{edge_at, total}
use Rattle.dependence.specs.Rules.{sum}
use Rattle.sheet.specs.declared.Sheet.{Sheet}
use Rattle.sheet.specs.Sheet.{type_at, type_of, op_at, graph_of}
use Rattle.sheet.specs.Answer.{sheet_answer}
use Rattle.plan.specs.Resource.{greatest, share_of}
use Rattle.laws.specs.Count.{bit}

-- a and b are both true
abbrev pub both : Bool → Bool → Bool
both a b = cond a b false

-- each i below n has p
unfoldable pub up_to : ℕ → (ℕ → Bool) → Bool
up_to zero p = true
up_to (suc n) p = both (up_to n p) (p n)

-- each list of n numbers below h has p
unfoldable pub every : ℕ → ℕ → (List ℕ → Bool) → Bool
every zero h p = p []
every (suc n) h p = up_to h (λ x. every n h (λ xs. p (x ∷ xs)))

-- the first list comes before the second; where they are the same, b decides
unfoldable pub lex_then : List ℕ → List ℕ → Bool → Bool
lex_then [] ys b = b
lex_then (x ∷ xs) [] b = false
lex_then (x ∷ xs) (y ∷ ys) b = cond (ltb x y) true (both (eqb x y) (lex_then xs ys b))

-- ---- the questions about the sheet

-- the sheet answers 0
unfoldable pub sheet_test : Sheet → Bool
sheet_test s = eqb (sheet_answer s) 0

-- ---- the rules of a plan

-- dependence: t of i plus the total is at most t of j, for every edge
abbrev pub meets_test : Sheet → ℕ → List ℕ → Bool
meets_test s L ts = up_to s.edge_count (λ k. le_z (pos (vec ts (edge_at (graph_of s) k).from) +ℤ total (graph_of s) L k) (pos (vec ts (edge_at (graph_of s) k).to)))

-- instance: u is below a; where a is 0 (unlimited) u is 0
abbrev pub instance_test : ℕ → ℕ → Bool
instance_test zero u = eqb u 0
instance_test (suc a) u = ltb u (suc a)

-- two operations of one limited type on one instance
abbrev pub shares_test : Sheet → List ℕ → ℕ → ℕ → Bool
shares_test s us i j =
    both (not (eqb i j))
    (both (eqb (op_at s i).resource (op_at s j).resource)
    (both (ltb 0 (type_of s i).instances) (eqb (vec us i) (vec us j))))

-- i at start t and j at start t' hold no slot in common
abbrev pub clear_test : Sheet → ℕ → ℕ → ℕ → ℕ → ℕ → Bool
clear_test s L i t j t' = up_to (type_of s i).busy (λ a. up_to (type_of s j).busy (λ b. not (eqb ((t + a) % L) ((t' + b) % L))))

-- t is below H, and t plus D is at most H
abbrev pub horizon_test : ℕ → ℕ → ℕ → Bool
horizon_test H D t = both (ltb t H) (leb (t + D) H)

-- t is from lo to hi
abbrev pub window_test : ℕ → ℕ → ℕ → Bool
window_test lo hi t = both (leb lo t) (leb t hi)

-- where a limits the type, K is at most L
abbrev pub hold_test : ℕ → ℕ → ℕ → Bool
hold_test zero K L = true
hold_test (suc a) K L = leb K L

-- start: inside the horizon, inside the window, and an instance can be held
abbrev pub start_test : Sheet → ℕ → ℕ → ℕ → Bool
start_test s L i t =
    both (horizon_test s.horizon (type_of s i).latency t)
    (both (window_test (op_at s i).lo (op_at s i).hi t) (hold_test (type_of s i).instances (type_of s i).busy L))

-- start, for every operation
abbrev pub starts_test : Sheet → ℕ → List ℕ → Bool
starts_test s L ts = up_to s.op_count (λ i. start_test s L i (vec ts i))

-- instance, for every operation with the A of its type
abbrev pub instances_test : Sheet → List ℕ → Bool
instances_test s us = up_to s.op_count (λ i. instance_test (type_of s i).instances (vec us i))

-- rivals with the same instance share no held slot
abbrev pub apart_test : Sheet → ℕ → List ℕ → List ℕ → Bool
apart_test s L ts us = up_to s.op_count (λ i. up_to s.op_count (λ j. cond (shares_test s us i j) (clear_test s L i (vec ts i) j (vec ts j)) true))

-- the starts and instances keep every rule of a plan at L
unfoldable pub plan_test : Sheet → ℕ → List ℕ → List ℕ → Bool
plan_test s L ts us = both (starts_test s L ts) (both (meets_test s L ts) (both (instances_test s us) (apart_test s L ts us)))

-- no instance of a plan is as great as this
abbrev pub instances_below : Sheet → ℕ
instances_below s = greatest s.op_count (λ i. (type_of s i).instances)

-- each plan has p, where p is asked of the starts and the instances
unfoldable pub plans_test : Sheet → ℕ → (List ℕ → List ℕ → Bool) → Bool
plans_test s L p = every s.op_count s.horizon (λ ts. every s.op_count (instances_below s) (λ us. cond (plan_test s L ts us) (p ts us) true))

-- there is no plan at L: the no of question 6
abbrev pub no_plan_test : Sheet → ℕ → Bool
no_plan_test s L = plans_test s L (λ ts us. false)

-- a plan at L, and none comes before it in the order of plans
abbrev pub first_test : Sheet → ℕ → List ℕ → List ℕ → Bool
first_test s L ts us = both (plan_test s L ts us) (plans_test s L (λ ts' us'. lex_then ts ts' (lex_then us us' true)))

-- ---- the resource bound, by a count that computes

-- how many i below n have f: the number that `tally` gives
unfoldable pub count : ℕ → (ℕ → Bool) → ℕ
count zero f = 0
count (suc n) f = count n f + bit (f n)

-- the resource bound (ResMII), by that count
abbrev pub bound_of : Sheet → ℕ
bound_of s = greatest s.type_count (λ r. share_of (count s.op_count (λ i. eqb (op_at s i).resource r)) (type_at s r))

-- ---- bad closed walks

-- the edges lead from i to j, each where the one before it ended
unfoldable pub chain_test : Graph → ℕ → List ℕ → ℕ → Bool
chain_test g i [] j = eqb i j
chain_test g i (k ∷ ks) j = both (ltb k g.edge_count) (both (eqb (edge_at g k).from i) (chain_test g (edge_at g k).to ks j))

-- a bad closed walk at L: non-empty, back where it began, and its totals sum to more than 0
abbrev pub bad_test : Graph → ℕ → List ℕ → Bool
bad_test g L [] = false
bad_test g L (k ∷ ks) = both (chain_test g (edge_at g k).from (k ∷ ks) (edge_at g k).from) (lt_z (pos 0) (sum g L (k ∷ ks)))

-- a bad closed walk, and none has fewer edges or as many and comes before it
unfoldable pub first_walk_test : Graph → ℕ → List ℕ → Bool
first_walk_test g L ks =
    both (bad_test g L ks)
    (up_to (suc (length ks)) (λ m. every m g.edge_count (λ js. cond (bad_test g L js) (both (eqb m (length ks)) (lex_then ks js true)) true)))
