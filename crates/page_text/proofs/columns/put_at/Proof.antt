-- `page_text::columns::put_at` meets its contract.
-- From what `put_text` ensures, by the law of a part that was lent and came back.
use Prim.Native.Nat.{◌-◌}
use native.Mathlib.Omega.{arith}
use mathlib.Core.Path.{◌≡◌, ◌∙◌}
use lib.ListN.{length, take, drop}
use Rattle.text.specs.Writing.{part_length, fitting}
use Rattle.text.specs.Pasting.{whole_count, pasted_part}
use borrow.Author.Rules.{rules}
use Rattle.page_text.proofs.columns.put_at.Statement.{statement}
use Rattle.page_text.proofs.columns.put_at.Tie as tie

sub_put_text : tie.Need-slice_bounds-put_text-count
sub_put_text c = search rules

part_put_text_start : tie.Need-slice_bounds-put_text-start
part_put_text_start c = search rules

part_put_text_end : tie.Need-slice_bounds-put_text-end
part_put_text_end c = search rules

put_text_requires : tie.Need-put_text-written-requires
put_text_requires c κs = search rules

add_result : tie.Need-overflow_add-result
add_result c =
    let s = c in
    let a = s.args in
    let p = c.put_text-written in
    let h = s.requires in
    let n = part_length a.out.now a.at (omega arith) in
    let k : p.result.count ≡ length a.bytes.now = whole_count a.bytes.now (take (length a.out.now - a.at) (drop a.at a.out.now)) (omega arith) p.ensures.0 in
    omega (arith, k, s.well_formed.0.0)

same_length : tie.Need-shape_of-out
same_length c = search rules

returns : tie.Need-returns
returns c =
    let s = c in
    let a = s.args in
    let p = c.put_text-written in
    let h = s.requires in
    let n = part_length a.out.now a.at (omega arith) in
    let part = take (length a.out.now - a.at) (drop a.at a.out.now) in
    let k : p.result.count ≡ length a.bytes.now = whole_count a.bytes.now part (omega arith) p.ensures.0 in
    pasted_part a.bytes.now a.out.now a.at h k (p.ensures.1 ∙ (fitting a.bytes.now part (omega arith)).1)

pub put_at_spec : {M : Type 1} → statement M
put_at_spec =
    tie.close
    (tie.spec
    sub_put_text
    part_put_text_start
    part_put_text_end
    put_text_requires
    add_result
    same_length
    returns)
