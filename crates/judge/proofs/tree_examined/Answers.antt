-- One law of `Steps` for each return.
use Rattle.std.proofs.Common.{sym, ◌∙◌, arith}
use Rattle.refusal.specs.Number.{err_refuses, ok_passes}
use Rattle.judge.specs.Steps.{is_interval, no_interval, more_after, tree_interval, tree_passes, tree_fails}
use Rattle.judge.proofs.tree_examined.Goals as goal

pub returns-then-tree-text : goal.returns-then-tree-text
returns-then-tree-text c =
    more_after c.some_interval-used.ensures c.in-Ok.ensures c.if-tree-text.true c.unreadable-then-tree-text.ensures

pub returns-then-is_err : goal.returns-then-is_err
returns-then-is_err c =
    tree_interval c.some_interval-used.ensures c.in-Ok.ensures (omega (arith, c.if-tree-text.false))
    (no_interval c.requires c.asked.ensures (err_refuses _ (sym c.is_err.ensures.value ∙ c.if-is_err.true)))

pub returns-in-Some : goal.returns-in-Some
returns-in-Some c =
    tree_fails c.some_interval-used.ensures c.in-Ok.ensures (omega (arith, c.if-tree-text.false))
    (is_interval c.requires c.asked.ensures (ok_passes _ (sym c.is_err.ensures.value ∙ c.if-is_err.false))) c.in-Some.is

pub returns-in-None : goal.returns-in-None
returns-in-None c =
    tree_passes c.some_interval-used.ensures c.in-Ok.ensures (omega (arith, c.if-tree-text.false))
    (is_interval c.requires c.asked.ensures (ok_passes _ (sym c.is_err.ensures.value ∙ c.if-is_err.false))) c.in-None.is
