-- From what the parts answer to what the services answer. Assumes nothing.
use Rattle.std.specs.Prelude.{◌≡◌, refl, Bool, true, false, List, ℕ, ◌+◌, ◌<◌, ◌≤◌, ℤ}
use Rattle.std.proofs.Common.{ap, subst, arith}
use Rattle.std.proofs.Math.Decide.{dec_lt, ℕ_discrete}
use Rattle.dependence.specs.Answer.{Lags, TableAnswer, table_refused_lem, table_bad, table_found}
use Rattle.sheet.specs.declared.Sheet.{Sheet}
use Rattle.sheet.specs.Sheet.{Interval, graph_of}
use Rattle.sheet.specs.Facts.{graph_in_range, interval_in_range}
use Rattle.sheet.specs.Questions.{at_no, at_yes, Accepted}
use Rattle.sheet.specs.Loop.{Feasible}
use Rattle.plan.specs.declared.PlanAnswer.{PlanAnswer}
use Rattle.plan.specs.declared.resource.Bound.{Bound}
use Rattle.plan.specs.Resource.{resource_bound, ResourceAt}
use Rattle.plan.specs.ResourceLaws.{bound_below}
use Rattle.plan.specs.Answers.{refused, planned, HasPlan, IfPlan, PlanAt, IfInterval}
use Rattle.plan.specs.Exactly.{decides, accepted_given}
use Rattle.domain.specs.Domain.{FirstIn}
use Rattle.task.specs.declared.Task.{Task}
use Rattle.task.specs.Plan.{PlanOf}
use Rattle.model.specs.Bridge.{SeatsFor, none_found, first_found}
use Rattle.model.specs.Domain.{DomainFor}
use Rattle.model.specs.Task.{TaskFor}
use Rattle.arrays.specs.Cut.{Cut}

-- what question 6 is put after
pub record FeasibleAt (s : Sheet) (L : ℕ) : Type 0 where
  pub accepted : Accepted s L
  pub feasible : Feasible s L

-- ---- question 6

-- below the resource bound there is no plan
pub below_bound : {s : Sheet} {L : ℕ} {b : Bound} → FeasibleAt s L → ResourceAt s b → L < b.value → {a : PlanAnswer} → a ≡ refused 6 → IfPlan s L a
below_bound {s} {L} {b} y r l q = at_no (λ h. omega (arith, is r, bound_below s L h.starts h.instances y.accepted.sheet y.accepted.interval.low h.plan)) q
  where
    is : ResourceAt s b → b.value ≡ resource_bound s
    is (at_no n _) = absurd (n y.accepted.sheet)
    is (at_yes _ e) = ap (λ (x : Bound). x.value) e

module _ {s : Sheet} {L : ℕ} (y : FeasibleAt s L) where
  -- no bad closed walk: the table holds lags
  pub lags_found : {table : List (List ℤ)} → TableAnswer (graph_of s) L (Lags (graph_of s) L) table → Lags (graph_of s) L table
  lags_found (table_refused_lem _ n) = absurd (n (graph_in_range y.accepted.sheet, interval_in_range y.accepted.sheet y.accepted.interval))
  lags_found (table_bad _ _ _ p b) = absurd (y.feasible p b)
  lags_found (table_found _ _ _ l) = l

  module _ (table : List (List ℤ)) (l : Lags (graph_of s) L table) (p : Task) (f : TaskFor s L table p) (dom : List (List Bool)) (d : DomainFor s L dom)
      {found : Bool} {x : List ℕ} (r : FirstIn (PlanOf p) p.ops dom found x) where
    pub denied_answer : found ≡ false → {a : PlanAnswer} → a ≡ refused 6 → IfPlan s L a
    denied_answer e q = at_no (λ h. none_found s L table p y.accepted.sheet y.accepted.interval f l dom d r e h.starts h.instances h.plan) q

    pub given_answer : found ≡ true → (z u w : List ℕ) → Cut s.op_count x z → SeatsFor p z u → Cut s.op_count u w → IfPlan s L (planned z w)
    given_answer e z u w cz seats cw =
        let first = first_found s L table p y.accepted.sheet y.accepted.interval f l dom d r e z u w cz seats cw in
        at_yes (record { starts = _; instances = _; plan = first.plan }) (record {
          starts = z;
          instances = w;
          first = first;
          starts_rest = cz.back;
          instances_rest = cw.back;
          pinned = refl;
        })

-- ---- the least interval

-- no interval from 1 below m has a plan
pub record NoneBelow (s : Sheet) (m : ℕ) : Type 0 where
  pub none : (L : ℕ) → 1 ≤ L → L < m → HasPlan s L → ⊥

pub none_below_one : (s : Sheet) → NoneBelow s 1
none_below_one s = record { none = λ L h k. absurd (omega arith) }

-- an answer other than 0 to an interval in range: it has no plan
pub none_more : {s : Sheet} {m : ℕ} {r : PlanAnswer} → NoneBelow s m → Accepted s m → PlanAt s m r → (r.answer ≡ 0 → ⊥) → NoneBelow s (m + 1)
none_more {s} {m} b y a n = record { none = λ L h k. at L h k (ℕ_discrete L m) }
  where
    at : (L : ℕ) → 1 ≤ L → L < m + 1 → Dec (L ≡ m) → HasPlan s L → ⊥
    at L h k (yes e) p = (decides y.sheet y.interval a).none n (subst (HasPlan s) e p)
    at L h k (no e) p = b.none L h (omega arith) p

-- the first interval that has a plan is the least
pub least_answer : {s : Sheet} {L : ℕ} {r : PlanAnswer} → PlanAt s L r → r.answer ≡ 0 → NoneBelow s L → IfInterval s (record { answer = 0; interval = L })
least_answer {s} {L} a e b =
    let q = accepted_given a e in
    let h : HasPlan s L = record { starts = _; instances = _; plan = q.1.first.plan } in
    at_yes (record { at = L; interval = q.0.interval; plan = h }) (record {
      at = L;
      interval = q.0.interval;
      plan = h;
      least = λ L' i p. at L' i p (dec_lt L' L);
      pinned = refl;
    })
  where
    at : (L' : ℕ) → Interval s L' → HasPlan s L' → Dec (L' < L) → L ≤ L'
    at L' i p (yes h) = absurd (b.none L' i.low h p)
    at L' i p (no h) = omega arith
