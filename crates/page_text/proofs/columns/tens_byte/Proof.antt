-- `page_text::columns::tens_byte` meets its contract.
-- Assumes nothing.
use borrow.Author.Tests.{lt-ltb, le-ltb}
use borrow.Author.Rules.{rules}
use Rattle.page_text.proofs.columns.tens_byte.Statement.{statement}
use Rattle.page_text.proofs.columns.tens_byte.Tie as tie

returns : tie.Need-returns-then-n-lt10
returns c = rw (lt-ltb _ 10 c.if-n-lt10.true)

add_result : tie.Need-overflow_add-result
add_result c = search rules

cast_result : tie.Need-overflow_cast-result
cast_result c = search rules

returns_2 : tie.Need-returns
returns_2 c = rw (le-ltb _ 10 c.if-n-lt10.false)

pub tens_byte_spec : {M : Type 1} → statement M
tens_byte_spec = tie.close (tie.spec returns add_result cast_result returns_2)
