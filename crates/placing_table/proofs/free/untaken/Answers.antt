-- No operation of the table takes the instance; past its end nothing is placed.
use Rattle.std.proofs.Common.{◌≡◌, length, arith, below_more, rules}
use Rattle.sizes.specs.Sizes.{most_operations}
use Rattle.laws.specs.Says.{yes_says, no_says}
use Rattle.placing_table.specs.Entries.{unplaced_past, everywhere}
use Rattle.placing_table.proofs.free.untaken.Goals as goal

pub returns-then-takes : goal.returns-then-takes
returns-then-takes c = no_says (λ u. u c.loop-j.j (c.takes.ensures.yes c.if-takes.true))

pub loop-j-preserved : goal.loop-j-preserved
loop-j-preserved c = below_more _ _ c.loop-j.invariant (c.takes.ensures.no c.if-takes.false)

pub returns : goal.returns
returns c =
    let n : length c.args.table.entries ≡ most_operations = search rules in
    yes_says (everywhere _ (λ j h. c.loop-j.invariant j (omega arith)) (λ j h t. unplaced_past c.args.table n h t.placed))
