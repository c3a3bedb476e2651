-- What the filter counts is the tally.
use Rattle.std.proofs.Common.{◌≡◌, ◌≤◌, ◌∙◌, eqb, count_by, length, take, rules}
use Rattle.sheet.specs.declared.Operation.{Operation}
use Rattle.sheet.specs.Sheet.{no_operation}
use Rattle.sheet.specs.Facts.{ops_most}
use Rattle.laws.specs.Count.{tally_front}
use Rattle.plan.proofs.resource.operations_of.Goals as goal

pub returns : goal.returns
returns c =
    let s = c.args.sheet in
    let h = ops_most c.requires in
    let l : s.op_count ≤ length s.ops = search rules in
    let e : c.count.result ≡ count_by (λ (o : Operation). eqb o.resource c.args.r) (take s.op_count s.ops) = search rules in
    e ∙ tally_front (λ (o : Operation). eqb o.resource c.args.r) s.ops no_operation s.op_count l
