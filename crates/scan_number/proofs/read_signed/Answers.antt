-- A number with a minus is one where it is not 0.
use Rattle.std.proofs.Common.{arith, inl, inr}
use Rattle.std.proofs.lemmas.Grind.{common_steps}
use Rattle.scan_number.proofs.Signs.{signed_plain, signed_minus}
use Rattle.scan_number.proofs.read_signed.Goals as goal

pub returns-clause-result_value : goal.returns-clause-result_value
returns-clause-result_value c =
    let read = c.in_ok-n.ensures.result_value in
    elim c.else-negative.either [
      | inl w ↦ grind (arith, common_steps, signed_minus _ _ _ read (λ z. omega arith))
      | inr w ↦ grind (arith, common_steps, signed_plain _ _ _ read)
    ]
