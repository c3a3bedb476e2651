-- `table_command::listing::put_table` meets its contract: the steps, the entries and the page, one after the other.
-- From what `put_steps`, `put_entries` and `put_page` ensure.
use Prim.Native.Nat.{◌+◌, ◌≤◌}
use native.Mathlib.Omega.{arith}
use lib.ListN.{length}
use Rattle.text.specs.Pasting.{pasted_part}
use Rattle.text.specs.Writing.{part_length}
use Rattle.page_text.specs.Widths.{longest_page, page_most}
use Rattle.table_command.specs.Whole.{entries_fit, page_fits, page_room, listed}
use borrow.Author.Rules.{rules}
use Rattle.table_command.proofs.listing.put_table.Statement.{statement}
use Rattle.table_command.proofs.listing.put_table.Tie as tie

put_steps_requires : tie.Need-put_steps-run-requires
put_steps_requires c κs = let s = c in (s.requires.0, s.requires.1, omega (arith, s.requires.2))

put_entries_requires : tie.Need-put_entries-end-requires
put_entries_requires c κs =
    let r = c in
    let s = r in
    entries_fit s.requires.0 r.put_steps-run.ensures s.requires.2

-- the page has room after the entries
page_here : (c : tie.After-slice_known-3-1) → c.put_entries-end.result + longest_page ≤ length c.put_entries-end.new.out
page_here c =
    let p = c in
    let r = p in
    let s = r in
    page_fits s.requires.0 r.put_steps-run.ensures s.requires.2 p.put_entries-end.ensures

sub_put_page : tie.Need-slice_bounds-put_page-count
sub_put_page c = let h = page_here c in omega arith

part_put_page_start : tie.Need-slice_bounds-put_page-start
part_put_page_start c = let h = page_here c in omega arith

part_put_page_end : tie.Need-slice_bounds-put_page-end
part_put_page_end c = search rules

put_page_requires : tie.Need-put_page-requires
put_page_requires c κs =
    let h = page_here c.before in
    let p = c in
    let y = p.requires.0 in
    let n = part_length p.put_entries-end.new.out p.put_entries-end.result (omega arith) in
    (y, omega (arith, h, n, page_most y))

add_result : tie.Need-overflow_add-result
add_result c =
    let p = c in
    let r = p in
    let s = r in
    let h = page_room s.requires.0 r.put_steps-run.ensures s.requires.2 p.put_entries-end.ensures in
    omega (arith, c.put_page.ensures.0, h, r.put_steps-run.ensures.pasted.size, p.put_entries-end.ensures.size, s.well_formed.0.0)

same_length : tie.Need-shape_of-out
same_length c = search rules

returns : tie.Need-returns
returns c =
    let p = c in
    let r = p in
    let s = r in
    let g = c.put_page.ensures in
    let a = r.put_steps-run.ensures in
    listed s.requires.0 a s.requires.2 p.put_entries-end.ensures
    (pasted_part _ p.put_entries-end.new.out p.put_entries-end.result (page_room s.requires.0 a s.requires.2 p.put_entries-end.ensures) g.0 g.1)

pub put_table_spec : {M : Type 1} → statement M
put_table_spec =
    tie.close
    (tie.spec
    put_steps_requires
    put_entries_requires
    sub_put_page
    part_put_page_start
    part_put_page_end
    put_page_requires
    add_result
    same_length
    returns)
