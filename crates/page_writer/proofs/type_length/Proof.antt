-- `page_writer::type_length` meets its contract.
-- Assumes nothing.
use mathlib.Core.Path.{sym}
use native.Mathlib.Omega.{arith}
use Rattle.page_text.specs.Widths.{limited_length, unlimited_length}
use borrow.Author.Rules.{rules}
use Rattle.page_writer.proofs.type_length.Statement.{statement}
use Rattle.page_writer.proofs.type_length.Tie as tie

returns : tie.Need-returns-then-limit-eq0
returns c = let a = c.args in sym (unlimited_length a.interval a.limit c.if-limit-eq0.true)

add_result : tie.Need-overflow_add-result
add_result c = search rules

mul_result : tie.Need-overflow_mul-result
mul_result c = search rules

returns_2 : tie.Need-returns
returns_2 c =
    let a = c.args in sym (limited_length a.interval a.limit (omega (arith, c.if-limit-eq0.false)))

pub type_length_spec : {M : Type 1} → statement M
type_length_spec = tie.close (tie.spec returns add_result mul_result returns_2)
