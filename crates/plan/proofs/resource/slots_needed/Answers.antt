-- A quotient rounded up is the one that the definition has.
use Rattle.std.proofs.Common.{ap, ◌∙◌, max, ◌*◌}
use Rattle.plan.specs.ResourceLaws.{rounded_up}
use Rattle.plan.proofs.resource.slots_needed.Goals as goal

pub returns : goal.returns
returns c =
    let a = c.args in
    c.max.ensures ∙ ap (max a.busy) (c.div_ceil-shared.ensures ∙ rounded_up (a.operations * a.busy) a.instances c.requires.1)
