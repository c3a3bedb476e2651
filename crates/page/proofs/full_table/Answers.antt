-- `page::full_table` meets its contract.
use Rattle.std.proofs.Common.{◌≡◌, ℕ, ap, ◌∙◌, arith}
use Rattle.laws.specs.Entry.{vec}
use Rattle.placing_table.specs.declared.Table.{Table}
use Rattle.placing_table.specs.Table.{placing}
use Rattle.page.specs.Answers.{full_table}
use Rattle.page.specs.Tables.{full_none, full_more}
use Rattle.page.proofs.full_table.Goals as goal

pub loop-i-init : goal.loop-i-init
loop-i-init c = full_none c.args.starts.now c.args.instances.now

pub loop-i-preserved : goal.loop-i-preserved
loop-i-preserved c =
    let l = c.loop-i in
    ap (λ (t : Table). placing t l.i (vec c.args.starts.now l.i) (vec c.args.instances.now l.i)) l.invariant ∙ full_more l.i c.args.starts.now c.args.instances.now

pub returns : goal.returns
returns c =
    let e : c.loop-i.i ≡ c.args.count = omega (arith, c.loop-i.auto.i-end, c.loop-i-test.false) in
    c.loop-i.invariant ∙ ap (λ (n : ℕ). full_table n c.args.starts.now c.args.instances.now) e
