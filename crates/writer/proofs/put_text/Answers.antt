-- From what `put_lines` ensures of the sheet's lines.
use Rattle.std.proofs.Common.{rules}
use Rattle.sheet.specs.Text.{sheet_lines}
use Rattle.writer.proofs.put_text.Goals as goal

pub returns : goal.returns
returns c = c.put_lines.ensures (sheet_lines c.args.s) (search rules)
