-- `lines::with` meets its contract.
-- From the laws of one line more, with room and without.
use mathlib.Core.Path.{sym}
use native.Mathlib.Omega.{arith}
use Rattle.lines.specs.Shown.{with_room, with_full}
use borrow.Author.Rules.{rules}
use Rattle.lines.proofs.with.Statement.{statement}
use Rattle.lines.proofs.with.Tie as tie

mul_lines : tie.Need-offset_bounds-lines-at
mul_lines c = search rules

array_set_from_lines : tie.Need-bounds-lines-at
array_set_from_lines c = search rules

add_t6 : tie.Need-overflow_add-result
add_t6 c = search rules

returns_2 : tie.Need-returns
returns_2 c = sym (with_room _ _ (omega arith))

pub with_spec : {M : Type 1} → statement M
with_spec = tie.close (tie.spec (λ c. sym (with_full _ _ (omega arith))) mul_lines array_set_from_lines add_t6 returns_2)
