-- The entries of the table are allowed; past its end nothing is placed.
use Rattle.std.proofs.Common.{◌≡◌, ℕ, ◌<◌, length, rules}
use Rattle.sizes.specs.Sizes.{most_operations}
use Rattle.laws.specs.Says.{Says}
use Rattle.laws.specs.Tests.{last}
use Rattle.placing_table.specs.Table.{placement_at, EntryAllowed}
use Rattle.placing_table.specs.Entries.{past_allowed, everywhere}
use Rattle.placing_table.proofs.entries.entries_allowed.Goals as goal

pub returns : goal.returns
returns c =
    let a = c.args in
    let n : length a.table.entries ≡ most_operations = search rules in
    let e : Says ((i : ℕ) → i < most_operations → EntryAllowed a.sheet a.interval i (placement_at a.table i)) c.all.result = search rules in
    last e (λ h. everywhere _ h (past_allowed a.sheet a.interval a.table n)) (λ h i _. h i)
