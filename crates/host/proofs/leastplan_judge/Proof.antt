-- The C call of the judgement meets its contract.
-- From what reading the sheet and the service ensure.
use borrow.Author.Rules.{rules}
use Rattle.host.specs.Calls.{judge_unread, judge_served}
use Rattle.host.proofs.leastplan_judge.Statement.{statement}
use Rattle.host.proofs.leastplan_judge.Tie as tie

read_requires : tie.Need-read-read-requires
read_requires c κs = search rules

returns : tie.Need-returns-then-refusal-ne0
returns c = judge_unread _ c.read-read.ensures _ c.if-refusal-ne0.true

judge_requires : tie.Need-judge-requires
judge_requires c κs = search rules

returns_2 : tie.Need-returns
returns_2 c =
    let i = c in
    judge_served _ i.read-read.ensures _ i.if-refusal-ne0.false c.judge.ensures

pub leastplan_judge_spec : {M : Type 1} → statement M
leastplan_judge_spec = tie.close (tie.spec read_requires returns judge_requires returns_2)
