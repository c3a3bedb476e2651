-- The rules among the first operations: those among all of them are the rules of a plan; where there is no plan exactly
-- one operation is the first that breaks a rule, and where there is one none is. Assumes nothing.
use Rattle.std.specs.Prelude.{◌≡◌, ◌⊎◌, ℕ, zero, suc, ◌≤◌, ◌<◌}
use Rattle.std.proofs.Common.{sym, ◌∙◌, inl, inr, ⊎_elim, add-one, arith}
use Rattle.std.proofs.Math.Decide.{dec_lt}
use Rattle.sheet.specs.declared.Sheet.{Sheet}
use Rattle.sheet.specs.Sheet.{InRange}
use Rattle.sheet.specs.Facts.{from_below, to_below}
use Rattle.plan.specs.Rules.{Plan}
use Rattle.verify.specs.Broken.{PlanUpTo, FirstBroken, Breaks, none, first}
use Rattle.verify.specs.Decide.{up_to_decided}

module _ {s : Sheet} {L : ℕ} {t u : ℕ → ℕ} where
  -- ---- among fewer operations, none, all

  up_to_less : {m n : ℕ} → m ≤ n → PlanUpTo s L t u n → PlanUpTo s L t u m
  up_to_less h p = record {
    start = λ i l. p.start i (omega arith);
    dependence = λ k e a b. p.dependence k e (omega arith) (omega arith);
    instance = λ i l. p.instance i (omega arith);
    apart = λ i j a b. p.apart i j (omega arith) (omega arith);
  }

  pub up_to_none : PlanUpTo s L t u 0
  up_to_none = record {
    start = λ i h. absurd (omega arith);
    dependence = λ k e a b. absurd (omega arith);
    instance = λ i h. absurd (omega arith);
    apart = λ i j a b. absurd (omega arith);
  }

  pub plan_up_to : Plan s L t u → PlanUpTo s L t u s.op_count
  plan_up_to p = record {
    start = p.start;
    dependence = λ k h a b. p.dependence.met k h;
    instance = p.instance;
    apart = p.apart;
  }

  pub up_to_plan : InRange s → PlanUpTo s L t u s.op_count → Plan s L t u
  up_to_plan ok p = record {
    start = p.start;
    dependence = record { met = λ k h. p.dependence k h (from_below ok k h) (to_below ok k h) };
    instance = p.instance;
    apart = p.apart;
  }

  -- ---- the first that breaks a rule

  -- where there is a plan none is
  pub plan_unbroken : {i : ℕ} → Plan s L t u → FirstBroken s L t u i → ⊥
  plan_unbroken p b = b.with (up_to_less (omega (arith, b.operation)) (plan_up_to p))

  -- at most one is
  not_before : {i j : ℕ} → FirstBroken s L t u i → FirstBroken s L t u j → i < j → ⊥
  not_before a b h = a.with (up_to_less (omega arith) b.before)

  pub broken_one : {i j : ℕ} → FirstBroken s L t u i → FirstBroken s L t u j → i ≡ j
  broken_one {i} {j} a b = pick (dec_lt i j) (dec_lt j i)
    where
      pick : Dec (i < j) → Dec (j < i) → i ≡ j
      pick (yes h) _ = absurd (not_before a b h)
      pick (no _) (yes h) = absurd (not_before b a h)
      pick (no m) (no n) = omega arith

  pub breaks_one : {r q : ℕ} → Breaks s L t u r → Breaks s L t u q → r ≡ q
  breaks_one (none a p) (none b q) = a ∙ sym b
  breaks_one (none a p) (first b) = absurd (plan_unbroken p b)
  breaks_one (first a) (none b q) = absurd (plan_unbroken q a)
  breaks_one (first a) (first b) = broken_one a b

  -- where there is no plan some operation is
  module _ (ok : InRange s) where
    kept_or_broken : (n : ℕ) → n ≤ s.op_count → PlanUpTo s L t u n ⊎ ((i : ℕ) × FirstBroken s L t u i)
    kept_or_broken zero h = inl up_to_none
    kept_or_broken (suc n) h =
        ⊎_elim (λ p. at p (up_to_decided (suc n))) inr (kept_or_broken n (omega arith))
      where
        at : PlanUpTo s L t u n → Dec (PlanUpTo s L t u (suc n))
            → PlanUpTo s L t u (suc n) ⊎ ((i : ℕ) × FirstBroken s L t u i)
        at p (yes q) = inl q
        at p (no q) = inr (n, record { operation = omega arith; before = p; with = rw add-one q })

    pub broken_some : (Plan s L t u → ⊥) → (i : ℕ) × FirstBroken s L t u i
    broken_some n =
        ⊎_elim (λ p. absurd (n (up_to_plan ok p))) (λ b. b) (kept_or_broken s.op_count (omega arith))
