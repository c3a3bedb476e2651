-- `page_text::columns::put_in_four` meets its contract.
-- From what `in_five` and `put_at` ensure: four columns are five without the first.
use Prim.Native.Nat.{ℕ}
use mathlib.Core.Path.{sym, ap, ◌∙◌}
use mathlib.Core.List.{List}
use lib.ListN.{drop, take}
use Rattle.page_text.specs.Digits.{five_bytes, four_bytes}
use Rattle.text.specs.Pasting.{pasted_as}
use borrow.Author.Rules.{rules}
use Rattle.page_text.proofs.columns.put_in_four.Statement.{statement}
use Rattle.page_text.proofs.columns.put_in_four.Tie as tie

in_five_requires : tie.Need-in_five-bytes-requires
in_five_requires c κs = search rules

sub_put_at : tie.Need-slice_bounds-put_at-count
sub_put_at c = search rules

part_put_at_start : tie.Need-slice_bounds-put_at-start
part_put_at_start c = search rules

part_put_at_end : tie.Need-slice_bounds-put_at-end
part_put_at_end c = search rules

put_at_requires : tie.Need-put_at-requires
put_at_requires c κs = search rules

same_length : tie.Need-shape_of-out
same_length c = search rules

returns : tie.Need-returns
returns c =
    let s = c in
    pasted_as (ap (λ (xs : List ℕ). take 4 (drop 1 xs)) (c.in_five-bytes.ensures ∙ five_bytes s.args.n s.requires.0) ∙ sym (four_bytes s.args.n s.requires.0)) c.put_at.ensures

pub put_in_four_spec : {M : Type 1} → statement M
put_in_four_spec =
    tie.close
    (tie.spec
    in_five_requires
    sub_put_at
    part_put_at_start
    part_put_at_end
    put_at_requires
    same_length
    returns)
