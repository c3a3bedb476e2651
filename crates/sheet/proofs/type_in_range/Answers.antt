-- Each test is that of one field of the record.
use Rattle.std.proofs.Common.{sym, ◌∙◌}
use Rattle.laws.specs.Tests.{last}
use Rattle.sheet.proofs.type_in_range.Goals.{then-inside_unsigned, else-inside_unsigned}
use Rattle.sheet.proofs.type_in_range.Goals as goal

pub returns-then-inside_unsigned-2 : goal.returns-then-inside_unsigned-2
returns-then-inside_unsigned-2 c =
    elim c.if-inside_unsigned.branch [
      | then-inside_unsigned w ↦
          last c.inside_unsigned-then-inside_unsigned-2.ensures
          (λ e. record {
            instances = c.inside_unsigned.ensures.yes w.if-inside_unsigned.true;
            latency = w.inside_unsigned-then-inside_unsigned.ensures.yes (sym w.value-is ∙ c.if-inside_unsigned-2.true);
            busy = e;
          }) (λ x. x.busy)
      | else-inside_unsigned w ↦ cc
    ]
