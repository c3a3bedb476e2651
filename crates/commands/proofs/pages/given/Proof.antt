-- `commands::pages::given` meets its contract.
-- From what `page`, `alone`, `put` and `put_text` ensure: the page is made in a buffer of its own, and goes into the
-- lent one whole.
use mathlib.Core.Path.{sym}
use lib.Seq.{length-take-le}
use Rattle.command_lines.specs.Shows.{lists}
use Rattle.command_lines.specs.Answers.{put}
use Rattle.commands.specs.Pages.{page_refused_lem, page_within, given_put}
use native.Mathlib.Omega.{arith}
use borrow.Author.Rules.{rules}
use Rattle.commands.proofs.pages.given.Statement.{statement}
use Rattle.commands.proofs.pages.given.Tie as tie

slice_aggregate_page : tie.Need-slice_bounds-page-end
slice_aggregate_page c = search rules

page_requires : tie.Need-page-written-requires
page_requires c κs = search rules

alone_requires : tie.Need-alone-requires
alone_requires c κs =
    let q = (page_refused_lem c.requires (omega arith) c.page-written.ensures c.if-written-ne0.true).1 in omega arith

put_requires : tie.Need-put-requires
put_requires c κs = search rules

same_length : tie.Need-shape_of-out-then-written-ne0
same_length c = search rules

returns : tie.Need-returns-then-written-ne0
returns c =
    let q = page_refused_lem c.requires (omega arith) c.page-written.ensures c.if-written-ne0.true in
    let w = c.put.ensures in
    put (lists c.alone.ensures q.0) w.0 w.1

array_share_prefix_text : tie.Need-slice_bounds-text-end
array_share_prefix_text c = page_within c.requires (omega arith) c.page-written.ensures

slice_aggregate_put_text : tie.Need-slice_bounds-put_text-end
slice_aggregate_put_text c =
    let p = c.page-written in
    sym (length-take-le p.result.count _ (page_within c.requires (omega arith) p.ensures))

put_text_requires : tie.Need-put_text-requires
put_text_requires c κs = search rules

same_length_2 : tie.Need-shape_of-out
same_length_2 c = search rules

returns_2 : tie.Need-returns
returns_2 c =
    let p = c.page-written in
    let t = c.put_text.ensures in
    given_put c.requires (omega arith) p.ensures c.if-written-ne0.false t.0 t.1

pub given_spec : {M : Type 1} → statement M
given_spec =
    tie.close
    (tie.spec
    slice_aggregate_page
    page_requires
    alone_requires
    put_requires
    same_length
    returns
    array_share_prefix_text
    slice_aggregate_put_text
    put_text_requires
    same_length_2
    returns_2)
