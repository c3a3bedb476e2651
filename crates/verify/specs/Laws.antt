-- At most one answer of the check fits; a yes is a plan, a plan gets a yes, and so does what the plan at an interval
-- gives. Assumes nothing.
use Rattle.std.specs.Prelude.{◌≡◌, Bool, true, ℕ}
use Rattle.std.proofs.Math.Path.{sym, ap₂}
use Rattle.std.proofs.Common.{ap, ◌∙◌}
use Rattle.laws.specs.Entry.{vec}
use Rattle.laws.specs.Says.{says_true, says_one}
use Rattle.laws.specs.Z.{true_false}
use Rattle.sheet.specs.declared.Sheet.{Sheet}
use Rattle.sheet.specs.Questions.{at_no, at_yes, One, at_interval_one, Accepted}
use Rattle.plan.specs.declared.PlanAnswer.{PlanAnswer}
use Rattle.plan.specs.Rules.{Plan}
use Rattle.plan.specs.Answers.{PlanAt}
use Rattle.plan.specs.Exactly.{accepted_given, given_first}
use Rattle.verify.specs.declared.Checked.{Checked}
use Rattle.verify.specs.Check.{check_refused, Decided, CheckedAt}

-- 0, and whether it is a plan
abbrev pub checked : Bool → Checked
checked b = record { answer = 0; plan = b }

-- an answer from its two parts
made : ℕ → Bool → Checked
made n b = record { answer = n; plan = b }

module _ {s : Sheet} {L : ℕ} {t u : ℕ → ℕ} where
  decided_one : One (Decided s L t u)
  unfolding made
  decided_one a b p q = ap₂ made (p.number ∙ sym q.number) (says_one a.plan b.plan p.says q.says)

  pub checked_unique : One (CheckedAt s L t u)
  checked_unique = at_interval_one check_refused decided_one

  module _ {a : Checked} where
    -- a yes is a plan, of an accepted sheet and interval
    pub yes_plan : CheckedAt s L t u a → a.plan ≡ true → Accepted s L × Plan s L t u
    yes_plan (at_no n e) y = true_false (sym y ∙ ap (λ (c : Checked). c.plan) e)
    yes_plan (at_yes ok (at_no n e)) y = true_false (sym y ∙ ap (λ (c : Checked). c.plan) e)
    yes_plan (at_yes ok (at_yes iv d)) y = (record { sheet = ok; interval = iv }, d.says.yes y)

    -- and there a plan gets a yes
    pub plan_yes : Accepted s L → Plan s L t u → CheckedAt s L t u a → a ≡ checked true
    unfolding made
    plan_yes y p (at_no n e) = absurd (n y.sheet)
    plan_yes y p (at_yes ok (at_no n e)) = absurd (n y.interval)
    plan_yes y p (at_yes ok (at_yes iv d)) = ap₂ made d.number (says_true a.plan d.says p)

-- what the plan at an interval gives passes the check
pub given_passes : {s : Sheet} {L : ℕ} {r : PlanAnswer} {a : Checked} → PlanAt s L r → r.answer ≡ 0 → CheckedAt s L (vec r.starts) (vec r.instances) a → a ≡ checked true
given_passes g z = let h = accepted_given g z in plan_yes h.0 (given_first h.1).plan
