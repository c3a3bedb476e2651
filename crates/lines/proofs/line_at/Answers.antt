use Rattle.lines.specs.Shown as shown
use Rattle.lines.proofs.line_at.Goals as goal

pub returns : goal.returns
returns c = shown.line_at c.args.ls.now c.args.i _ c.requires
