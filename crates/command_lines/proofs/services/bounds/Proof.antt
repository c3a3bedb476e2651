-- `command_lines::services::bounds` meets its contract.
-- From what the two services and `bound` ensure, and that their numbers are small.
use mathlib.Core.Path.{sym, subst}
use mathlib.Core.List.{[]}
use Rattle.text.specs.Keys.{recurrence_key}
use Rattle.lines.specs.declared.Lines.{Lines}
use Rattle.command_lines.specs.Shows.{Shows, nothing, lists}
use Rattle.command_lines.specs.Printable.{recurrence_few, resource_few}
use Rattle.command_lines.specs.Answers.{bound_short}
use Rattle.command_lines.specs.Listing.{bound_lines}
use Rattle.command_lines.specs.Prints.{bounds}
use native.Mathlib.Omega.{arith}
use borrow.Author.Rules.{rules}
use Rattle.command_lines.proofs.services.bounds.Statement.{statement}
use Rattle.command_lines.proofs.services.bounds.Tie as tie

empty : (c : tie.After-none) → Shows c.none.result []
empty c = subst (λ (ls : Lines). Shows ls []) (sym c.none.ensures) nothing

recurrence_bound_requires : tie.Need-recurrence_bound-recurrence-requires
recurrence_bound_requires c κs = search rules

none_requires : tie.Need-none-requires
none_requires c κs = search rules

bound_requires : tie.Need-bound-first-requires
bound_requires c κs =
    let n = (empty c).count in
    let h = recurrence_few c.requires c.recurrence_bound-recurrence.ensures in
    (omega arith, h.0, h.1)

-- the recurrence bound's lines
first : (c : tie.After-bound-first) → let r = c.recurrence_bound-recurrence.result in Shows c.bound-first.result (bound_lines recurrence_key r.answer r.value)
first c = c.bound-first.ensures [] (empty c.before)

resource_bound_requires : tie.Need-resource_bound-resource-requires
resource_bound_requires c κs = search rules

bound_requires_2 : tie.Need-bound-requires
bound_requires_2 c κs =
    let r = c.recurrence_bound-recurrence.result in
    let n = (first c.before).count in
    let m = bound_short recurrence_key r.answer r.value in
    let h = resource_few c.requires c.resource_bound-resource.ensures in
    (omega arith, h.0, h.1)

returns : tie.Need-returns
returns c =
    let r = c.recurrence_bound-recurrence in
    lists (c.bound.ensures (bound_lines recurrence_key r.result.answer r.result.value) (first c.before.before)) (bounds r.ensures c.resource_bound-resource.ensures)

pub bounds_spec : {M : Type 1} → statement M
bounds_spec =
    tie.close
    (tie.spec
    recurrence_bound_requires
    none_requires
    bound_requires
    resource_bound_requires
    bound_requires_2
    returns)
