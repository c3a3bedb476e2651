use Rattle.std.proofs.Common.{◌∙◌}
use Rattle.test_frames.specs.Piece.{seen_piece}
use Rattle.test_frames.specs.PieceLaws.{line_read, negative, too_few}
use Rattle.test_frames.proofs.next.Goals as goal

pub returns-then-size-lt0-clause-result_value : goal.returns-then-size-lt0-clause-result_value
unfolding seen_piece
returns-then-size-lt0-clause-result_value c =
    let l = c.in-Some.ensures in
    negative _ _ c.if-size-lt0.true ∙ line_read c.args.s.now _ c.in-Some.line l.result_value l.line_fits

pub returns-then-left-size-clause-result_value : goal.returns-then-left-size-clause-result_value
unfolding seen_piece
returns-then-left-size-clause-result_value c =
    let l = c.in-Some.ensures in
    too_few _ c.args.s.now _ c.if-size-lt0.false c.if-left-size.true ∙ line_read c.args.s.now _ c.in-Some.line l.result_value l.line_fits
