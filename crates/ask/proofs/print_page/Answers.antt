-- The bytes that it prints lie within its buffer: from what the call ensures of the count.
use Rattle.std.proofs.Common.{arith, sym}
use lib.Seq.{length-take-le}
use Rattle.text.specs.PutLaws.{put_within}
use Rattle.ask.proofs.print_page.Goals as goal

pub slice_bounds-out-end : goal.slice_bounds-out-end
slice_bounds-out-end g c = let w = put_within c.page_of_plan-written.ensures in omega (arith, w, c.page_of_plan-written.auto)

pub slice_bounds-write_all-end : goal.slice_bounds-write_all-end
slice_bounds-write_all-end g c =
    let w = put_within c.page_of_plan-written.ensures in
    sym (length-take-le _ _ (omega (arith, w, c.page_of_plan-written.auto)))
