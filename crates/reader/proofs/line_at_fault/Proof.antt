-- `reader::line_at_fault` meets its contract: what was read of all the bytes says whether there is a line, and which.
-- Assumes nothing.
use mathlib.Core.Path.{sym, ◌∙◌}
use Rattle.reader.specs.FaultLaws.{fault_found, fault_refused}
use Rattle.sheet_lines.specs.Steps.{is_found, is_refused}
use borrow.Author.Rules.{rules}
use Rattle.reader.proofs.line_at_fault.Statement.{statement}
use Rattle.reader.proofs.line_at_fault.Tie as tie

read_whole_requires : tie.Need-read_whole-whole-requires
read_whole_requires c κs = search rules

returns : tie.Need-returns-then-whole-eq0
returns c = sym (fault_found _ (is_found c.read_whole-whole.ensures.reads c.if-whole-eq0.true))

line_number_requires : tie.Need-line_number-requires
line_number_requires c κs = search rules

returns_2 : tie.Need-returns
returns_2 c =
    let r = c.read_whole-whole.ensures.reads in
    c.line_number.ensures ∙ sym (fault_refused _ _ r.within (is_refused r c.if-whole-eq0.false))

pub line_at_fault_spec : {M : Type 1} → statement M
line_at_fault_spec = tie.close (tie.spec read_whole_requires returns line_number_requires returns_2)
