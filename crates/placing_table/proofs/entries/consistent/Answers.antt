-- Each test is one field of the record.
use Rattle.laws.specs.Tests.{last}
use Rattle.placing_table.proofs.entries.consistent.Goals as goal

pub returns-then-entries_allowed : goal.returns-then-entries_allowed
returns-then-entries_allowed c =
    last c.all_apart.ensures (λ a. record { entries = c.entries_allowed.ensures.yes c.if-entries_allowed.true; apart = a }) (λ x. x.apart)
