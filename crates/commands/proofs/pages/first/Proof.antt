-- `commands::pages::first` meets its contract.
-- From what `plan_at`, `denied`, `put` and `given` ensure.
use mathlib.Core.Path.{◌≡◌, sym, subst}
use lib.ListN.{length}
use lib.Seq.{length-take-le}
use Rattle.sizes.specs.Sizes.{most_operations}
use Rattle.text.specs.PutLaws.{weaken}
use Rattle.sheet.specs.Facts.{ops_most}
use Rattle.words.specs.declared.Command.TheVariants.{Page}
use Rattle.command_lines.specs.Shows.{lists}
use Rattle.command_lines.specs.Printable.{plan_sized}
use Rattle.command_lines.specs.Answers.{put, page_denied}
use Rattle.commands.specs.Pages.{first_served}
use Rattle.command_lines.specs.Prints.{Serves}
use Rattle.command_lines.specs.Prints as prints
use native.Mathlib.Omega.{arith}
use borrow.Author.Rules.{rules}
use Rattle.commands.proofs.pages.first.Statement.{statement}
use Rattle.commands.proofs.pages.first.Tie as tie

plan_at_requires : tie.Need-plan_at-found-requires
plan_at_requires c κs = search rules

denied_requires : tie.Need-denied-requires
denied_requires c κs =
    let z = plan_sized c.requires c.plan_at-found.ensures in (z.few, z.edges)

put_requires : tie.Need-put-requires
put_requires c κs = search rules

same_length : tie.Need-shape_of-out-then-found-ne0
same_length c = search rules

returns : tie.Need-returns-then-found-ne0
returns c =
    let p = c.plan_at-found in
    let a = c.args in
    let w = c.put.ensures in
    put (lists c.denied.ensures (subst (Serves a.sheet (Page a.interval)) (page_denied a.sheet a.interval p.result c.if-found-ne0.true) (prints.page p.ensures))) w.0 w.1

array_share_prefix_starts : tie.Need-slice_bounds-starts-end
array_share_prefix_starts c =
    let h = ops_most c.requires in
    let a = c.plan_at-found.result in
    let n : length a.starts ≡ most_operations = search rules in
    let m : length a.instances ≡ most_operations = search rules in
    omega arith

slice_aggregate_given : tie.Need-slice_bounds-given-end
slice_aggregate_given c =
    let h = ops_most c.requires in
    let a = c.plan_at-found.result in
    let n : length a.starts ≡ most_operations = search rules in
    let m : length a.instances ≡ most_operations = search rules in
    sym (length-take-le _ _ (omega arith))

array_share_prefix_instances : tie.Need-slice_bounds-instances-end
array_share_prefix_instances c =
    let h = ops_most c.requires in
    let a = c.plan_at-found.result in
    let n : length a.starts ≡ most_operations = search rules in
    let m : length a.instances ≡ most_operations = search rules in
    omega arith

slice_aggregate_given_2 : tie.Need-slice_bounds-given-end-2
slice_aggregate_given_2 c =
    let h = ops_most c.requires in
    let a = c.plan_at-found.result in
    let n : length a.starts ≡ most_operations = search rules in
    let m : length a.instances ≡ most_operations = search rules in
    sym (length-take-le _ _ (omega arith))

given_requires : tie.Need-given-requires
given_requires c κs = search rules

same_length_2 : tie.Need-shape_of-out
same_length_2 c = search rules

returns_2 : tie.Need-returns
returns_2 c =
    weaken (first_served c.plan_at-found.ensures c.if-found-ne0.false) c.given.ensures

pub first_spec : {M : Type 1} → statement M
first_spec =
    tie.close
    (tie.spec
    plan_at_requires
    denied_requires
    put_requires
    same_length
    returns
    array_share_prefix_starts
    slice_aggregate_given
    array_share_prefix_instances
    slice_aggregate_given_2
    given_requires
    same_length_2
    returns_2)
