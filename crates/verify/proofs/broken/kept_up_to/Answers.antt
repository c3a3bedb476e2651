-- Each test is one of the rules, and together they are all of them.
use Rattle.std.proofs.Common.{◌≡◌, true, subst}
use Rattle.laws.specs.Entry.{vec}
use Rattle.dependence.specs.declared.Graph.{Graph}
use Rattle.sheet.specs.Facts.{graph_in_range, interval_in_range}
use Rattle.verify.specs.Parts.{EachMet, starts_low, apart_decides}
use Rattle.verify.proofs.broken.kept_up_to.Goals as goal
use Rattle.verify.proofs.broken.kept_up_to.Goals.{then-starts_allowed, else-starts_allowed, then-instances_allowed, else-instances_allowed}

pub all_met-requires : goal.all_met-requires
all_met-requires c =
    let p = c.requires in
    elim c.if-starts_allowed.branch [
      | then-starts_allowed w ↦
          rw c.graph_of.ensures (graph_in_range p.0, interval_in_range p.0 p.1, starts_low p.0 (c.starts_allowed.ensures.yes w.if-starts_allowed.true))
      | else-starts_allowed w ↦ cc
    ]

pub returns-then-all_met : goal.returns-then-all_met
returns-then-all_met c =
    let a = c.args in
    elim c.if-starts_allowed.branch [
      | then-starts_allowed v ↦
          elim c.if-instances_allowed.branch [
            | then-instances_allowed w ↦
                let each : v.instances_allowed.result ≡ true = cc in
                let met : w.all_met.result ≡ true = cc in
                apart_decides (c.starts_allowed.ensures.yes v.if-starts_allowed.true) (v.instances_allowed.ensures.yes each)
                (subst (λ (x : Graph). EachMet x a.interval (vec a.starts) a.n) w.graph_of.ensures (w.all_met.ensures.yes met))
                c.all_apart.ensures
            | else-instances_allowed w ↦ cc
          ]
      | else-starts_allowed v ↦
          elim c.if-instances_allowed.branch [ then-instances_allowed w ↦ cc | else-instances_allowed w ↦ cc ]
    ]
