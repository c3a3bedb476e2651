use Rattle.std.proofs.Common.{refl, arith}
use Rattle.refusal.specs.Number.{no_zero}
use Rattle.command_lines.specs.Shows.{lists}
use Rattle.command_lines.specs.Printable.{asked_four}
use Rattle.command_lines.specs.Answers.{put, plan_four, interval_put}
use Rattle.commands.proofs.plan.Goals as goal

pub alone-requires : goal.alone-requires
alone-requires c = let n = asked_four c.requires c.in-Err.ensures (no_zero _) in omega (arith, c.number.ensures)

pub returns-in-Err : goal.returns-in-Err
returns-in-Err c =
    let n = asked_four c.requires c.in-Err.ensures (no_zero _) in
    let w = c.put.ensures in
    put (lists c.alone.ensures (rw c.number.ensures (plan_four c.requires c.in-Err.ensures n))) w.value w.out_after

pub returns : goal.returns
returns c = interval_put c.requires c.in_default.ensures refl c.interval_text.ensures
