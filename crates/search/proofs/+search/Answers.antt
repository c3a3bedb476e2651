-- The classes of the operation that is split, one after the other.
use Rattle.std.proofs.Common.{◌≡◌, true, false, length, is_some, refl, ◌∙◌, arith, rules}
use Rattle.sizes.specs.Sizes.{most_operations}
use Rattle.domain.specs.Split.{size_le, solved_wider, child_less, left_next, left_none, rest_less}
use Rattle.task.specs.Plan.{PlanOf}
use Rattle.search_steps.specs.Steps.{denied_by}
use Rattle.search.specs.StageLaws.{found_none, child_answer}
use Rattle.search.proofs.+search.Goals as goal

pub returns-then-t-eq-MOST_STARTS-clause-answer : goal.returns-then-t-eq-MOST_STARTS-clause-answer
returns-then-t-eq-MOST_STARTS-clause-answer t c =
    let len : length c.narrow-d.result ≡ most_operations = search rules in
    solved_wider (PlanOf c.args.p) _ c.narrow-d.ensures (left_none (PlanOf c.args.p) _ len c.requires.ops_ok c.in-Split.ensures c.classes.invariant.1 c.least-t.ensures c.if-t-eq-MOST_STARTS.true)

pub search-g-requires : goal.search-g-requires
search-g-requires t c =
    let len : length c.narrow-d.result ≡ most_operations = search rules in
    (omega (arith, c.decreases, size_le c.narrow-d.ensures.within, child_less (PlanOf c.args.p) _ len c.requires.ops_ok c.in-Split.ensures c.classes.invariant.1 c.only_class.ensures), c.requires)

pub returns-then-not-none-clause-answer : goal.returns-then-not-none-clause-answer
returns-then-not-none-clause-answer t c =
    let len : length c.narrow-d.result ≡ most_operations = search rules in
    let found : denied_by c.search-g.result.answer ≡ false = search rules in
    child_answer (PlanOf c.args.p) _ c.narrow-d.ensures len c.requires.ops_ok c.in-Split.ensures c.classes.invariant.1 c.only_class.ensures (is_some c.classes.rest) _ c.search-g.result.answer c.search-g.ensures.answer c.classes.invariant.0 found

pub classes-smaller : goal.classes-smaller
classes-smaller t c = rest_less c.without_class-others.ensures c.least-t.ensures (omega (arith, c.least-t.ensures.within, c.if-t-eq-MOST_STARTS.false)) refl

pub classes-preserved : goal.classes-preserved
classes-preserved t c =
    let len : length c.narrow-d.result ≡ most_operations = search rules in
    let none : denied_by c.search-g.result.answer ≡ true = search rules in
    (c.search-g.ensures.left ∙ c.classes.invariant.0, left_next (PlanOf c.args.p) _ len c.requires.ops_ok c.in-Split.ensures c.classes.invariant.1 c.only_class.ensures (found_none (PlanOf c.args.p) _ (is_some c.classes.rest) c.search-g.result.answer c.search-g.ensures.answer none) refl c.without_class-others.ensures)
