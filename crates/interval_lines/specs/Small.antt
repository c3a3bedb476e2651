-- The numbers of an answer about a sheet in range have at most three digits.
-- Assumes nothing.
use Rattle.std.specs.Prelude.{◌≡◌, refl, List, ℕ, zero, suc, ◌≤◌, ◌<◌, length, get_or, replicate}
use Rattle.std.proofs.Common.{sym, subst, arith}
use Rattle.std.proofs.Math.Decide.{dec_lt}
use Rattle.sizes.specs.Sizes.{most_operations, most_edges}
use Rattle.laws.specs.Entry.{zeros, vec, ZeroFrom}
use Rattle.text.specs.Sizes.{three_digits}
use Rattle.dependence.specs.declared.Graph.{Graph}
use Rattle.dependence.specs.Rules.{Chain, here, step}
use Rattle.sheet.specs.declared.Sheet.{Sheet}
use Rattle.sheet.specs.Sheet.{InRange, Interval, type_of}
use Rattle.sheet.specs.Questions.{at_no, at_yes}
use Rattle.sheet.specs.Loop.{Loop}
use Rattle.sheet.specs.Facts.{horizon_most, cap_most, ops_most, edges_most, op_instances_most}
use Rattle.plan.specs.declared.PlanAnswer.{PlanAnswer}
use Rattle.plan.specs.Rules.{Plan, InstanceAllowed}
use Rattle.plan.specs.Answers.{PlanAt, looped, planned}
use Rattle.plan.specs.Exactly.{accepted_given}

-- each number of a list has at most three digits
abbrev pub SmallList : List ℕ → Type 0
SmallList xs = (i : ℕ) → vec xs i ≤ three_digits

-- the numbers that are printed of a plan's answer have at most three digits, and each operation or edge of a loop has
-- its place
pub record SmallAnswer (s : Sheet) (L : ℕ) (a : PlanAnswer) : Type 0 where
  pub answer : a.answer ≤ three_digits
  pub interval : L ≤ three_digits
  pub ops : s.op_count ≤ most_operations
  pub starts : SmallList a.starts
  pub instances : SmallList a.instances
  pub edges : SmallList a.loop_edges
  pub room : length a.loop_edges ≡ most_operations

zero_small : SmallList zeros
zero_small i = go most_operations i
  where
    go : (n i : ℕ) → get_or (replicate n 0) i 0 ≤ three_digits
    go zero i = omega arith
    go (suc n) zero = omega arith
    go (suc n) (suc i) = go n i

-- the edges of a chain are edges of the graph
chain_small : {g : Graph} {u v : ℕ} {ks : List ℕ} → g.edge_count ≤ most_edges → Chain g u ks v → SmallList ks
chain_small h here i = omega arith
chain_small h (step k c) zero = omega arith
chain_small h (step k c) (suc i) = chain_small h c i

-- the edges of a loop are edges of the sheet
pub loop_edges_small : {A : Type 0} {s : Sheet} {L : ℕ} {made : ℕ → List ℕ → A} {a : A} → InRange s → (p : Loop s L made a) → SmallList p.edges
loop_edges_small ok p i = let e = p.padded.front i in let b = chain_small (edges_most ok) p.first.bad.chain i in omega arith

-- an interval of a sheet in range
pub interval_small : {s : Sheet} {L : ℕ} → InRange s → Interval s L → L ≤ three_digits
interval_small ok v = let c = cap_most ok in let l = v.high in omega arith

module _ {s : Sheet} {L : ℕ} (ok : InRange s) (v : Interval s L) where
  instance_small : (i u : ℕ) → i < s.op_count → InstanceAllowed s i u → u ≤ three_digits
  instance_small i u h a = at (dec_lt 0 (type_of s i).instances)
    where
      at : Dec (0 < (type_of s i).instances) → u ≤ three_digits
      at (yes l) = let m = op_instances_most ok i h in let b = a.limited l in omega arith
      at (no l) = let e = a.unlimited (omega arith) in omega arith

  module _ (ts us : List ℕ) (p : Plan s L (vec ts) (vec us)) where
    start_small : ZeroFrom s.op_count ts → (i : ℕ) → Dec (i < s.op_count) → vec ts i ≤ three_digits
    start_small z i (yes l) = let h = horizon_most ok in let t = (p.start i l).in_horizon.starts in omega arith
    start_small z i (no l) = let e = z.rest i (omega arith) in omega arith

    unit_small : ZeroFrom s.op_count us → (i : ℕ) → Dec (i < s.op_count) → vec us i ≤ three_digits
    unit_small z i (yes l) = instance_small i (vec us i) l (p.instance i l)
    unit_small z i (no l) = let e = z.rest i (omega arith) in omega arith

  -- 5 with edges of the sheet
  loop_small : (n : ℕ) (es : List ℕ) → SmallList es → length es ≡ most_operations → SmallAnswer s L (looped n es)
  loop_small n es e l = record {
    answer = omega arith;
    interval = interval_small ok v;
    ops = ops_most ok;
    starts = zero_small;
    instances = zero_small;
    edges = e;
    room = l;
  }

  -- 0 with starts and instances of a plan
  given_small : (ts us : List ℕ) → SmallList ts → SmallList us → SmallAnswer s L (planned ts us)
  given_small ts us t u = record {
    answer = omega arith;
    interval = interval_small ok v;
    ops = ops_most ok;
    starts = t;
    instances = u;
    edges = zero_small;
    room = refl;
  }

  pub small : {a : PlanAnswer} → PlanAt s L a → SmallAnswer s L a
  small (at_no n _) = absurd (n ok)
  small (at_yes _ (at_no n _)) = absurd (n v)
  small (at_yes _ (at_yes _ (at_no _ p))) =
      subst (SmallAnswer s L) (sym p.pinned) (loop_small (length p.walk) p.edges (loop_edges_small ok p) p.padded.whole)
  small (at_yes _ (at_yes _ (at_yes _ (at_no _ e)))) =
      subst (SmallAnswer s L) (sym e) (record {
        answer = omega arith;
        interval = interval_small ok v;
        ops = ops_most ok;
        starts = zero_small;
        instances = zero_small;
        edges = zero_small;
        room = refl;
      })
  small (at_yes _ (at_yes _ (at_yes _ (at_yes _ g)))) =
      let ts = g.starts in
      let us = g.instances in
      subst (SmallAnswer s L) (sym g.pinned) (given_small ts us
      (λ i. start_small ts us g.first.plan g.starts_rest i (dec_lt i s.op_count))
      (λ i. unit_small ts us g.first.plan g.instances_rest i (dec_lt i s.op_count)))

-- a plan is only given of a sheet in range at an interval in range
pub plan_small : {s : Sheet} {L : ℕ} {a : PlanAnswer} → PlanAt s L a → a.answer ≡ 0 → SmallAnswer s L a
plan_small p z = let y = (accepted_given p z).0 in small y.sheet y.interval p
