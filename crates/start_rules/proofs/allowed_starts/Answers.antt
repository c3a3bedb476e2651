-- Each start passed has its flag, by the operation's type and by the operation itself.
use Rattle.std.proofs.Common.{ℕ, Bool, false, ap, subst, ◌∙◌, get_or, arith}
use Rattle.laws.specs.Says.{Says}
use Rattle.sheet.specs.declared.Operation.{Operation}
use Rattle.sheet.specs.declared.ResourceType.{ResourceType}
use Rattle.sheet.specs.Sheet.{type_at, op_at}
use Rattle.plan.specs.Rules.{MayStart}
use Rattle.start_rules.proofs.allowed_starts.Goals as goal

-- what is tested of each start
abbrev Tested : ℕ → ResourceType → Operation → ℕ → ℕ → Bool → Type 0
Tested horizon kind o interval k z = Says (MayStart horizon kind o interval k) z

pub returns : goal.returns
returns c =
    let a = c.args in
    let H = a.sheet.horizon in
    let row = c.loop-t.allowed-items in
    let kind = c.type_at-kind.ensures ∙ ap (λ (x : Operation). type_at a.sheet x.resource) c.operation_at-operation.ensures in
    record {
      start = λ k h.
          subst (λ (x : ResourceType). Tested H x (op_at a.sheet a.op) a.interval k (get_or row k false)) kind
          (subst (λ (x : Operation). Tested H c.type_at-kind.result x a.interval k (get_or row k false)) c.operation_at-operation.ensures
          (c.loop-t.invariant k (omega arith)));
    }
