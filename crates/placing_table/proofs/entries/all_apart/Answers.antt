-- The operations of the table are apart; past its end nothing is placed.
use Rattle.std.proofs.Common.{◌≡◌, length, arith, below_more, rules}
use Rattle.sizes.specs.Sizes.{most_operations}
use Rattle.laws.specs.Says.{yes_says, no_says}
use Rattle.placing_table.specs.Entries.{unplaced_past, everywhere}
use Rattle.placing_table.proofs.entries.all_apart.Goals as goal

pub returns-then-not-apart : goal.returns-then-not-apart
returns-then-not-apart c = no_says (λ all. c.apart.ensures.no c.if-not-apart.true (all c.loop-i.i))

pub loop-i-preserved : goal.loop-i-preserved
loop-i-preserved c = below_more _ _ c.loop-i.invariant (c.apart.ensures.yes c.if-not-apart.false)

pub returns : goal.returns
returns c =
    let n : length c.args.table.entries ≡ most_operations = search rules in
    yes_says (everywhere _ (λ i h. c.loop-i.invariant i (omega arith)) (λ i h p. absurd (unplaced_past c.args.table n h p)))
