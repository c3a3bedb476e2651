use Rattle.std.proofs.Common.{true, false}
use Rattle.std.proofs.lemmas.List.{get_or-replicate}
use Rattle.sizes.specs.Sizes.{most_starts}
use Rattle.anchor.proofs.anchor_row.Goals as goal

pub returns-then-not-inside : goal.returns-then-not-inside
returns-then-not-inside c = record { here = λ a b. cc; any = λ a b t h. cc; outside = λ e. c.only.ensures.here }

pub returns-then-anchor : goal.returns-then-anchor
returns-then-anchor c = record { here = λ a b. c.only-then-anchor.ensures.here; any = λ a b t h. cc; outside = λ e. cc }

pub returns-else-anchor : goal.returns-else-anchor
returns-else-anchor c = record { here = λ a b. cc; any = λ a b t h. get_or-replicate most_starts t true false h; outside = λ e. cc }
