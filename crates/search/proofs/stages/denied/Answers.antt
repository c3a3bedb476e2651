use Rattle.search.proofs.stages.denied.Goals as goal

pub returns-then-anchors_deny : goal.returns-then-anchors_deny
returns-then-anchors_deny c = record { none = λ e t h _. c.anchors_deny.ensures.denied e t h }
