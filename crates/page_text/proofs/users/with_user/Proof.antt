-- `page_text::users::with_user` meets its contract.
-- Assumes nothing.
use borrow.Author.Tests.{lt-ltb, le-ltb}
use Rattle.sizes.specs.Sizes.{most_instances}
use Rattle.page_text.specs.Users.{with_user}
use borrow.Author.Rules.{rules}
use Rattle.page_text.proofs.users.with_user.Statement.{statement}
use Rattle.page_text.proofs.users.with_user.Tie as tie

returns : tie.Need-returns-then-not-is_there
unfolding with_user
returns c = let a = c.args in rw c.if-not-is_there.true

returns_2 : tie.Need-returns-then-instance-ge-MOST_INSTANCES
unfolding with_user
returns_2 c =
    let a = c.args in rw (c.if-not-is_there.false, le-ltb a.instance most_instances c.if-instance-ge-MOST_INSTANCES.true)

add_of : tie.Need-overflow_add-of
add_of c = search rules

mul_of : tie.Need-offset_bounds-of-instance
mul_of c = search rules

array_write_of : tie.Need-bounds-of-instance
array_write_of c = search rules

returns_3 : tie.Need-returns
unfolding with_user
returns_3 c =
    let a = c.args in rw (c.if-not-is_there.false, lt-ltb a.instance most_instances c.if-instance-ge-MOST_INSTANCES.false)

pub with_user_spec : {M : Type 1} → statement M
with_user_spec = tie.close (tie.spec returns returns_2 add_of mul_of array_write_of returns_3)
