-- `page_text::columns::in_five` meets its contract.
-- From what `hundreds_byte` and `tens_byte` ensure, by the law of five bytes.
use Prim.Native.Nat.{ℕ, ◌+◌, ◌%◌}
use mathlib.Core.Path.{sym, ap₂, ◌∙◌}
use mathlib.Core.List.{[], ◌∷◌}
use Rattle.page_text.specs.Digits.{five_bytes}
use borrow.Author.Rules.{rules}
use Rattle.page_text.proofs.columns.in_five.Statement.{statement}
use Rattle.page_text.proofs.columns.in_five.Tie as tie

add_ones_byte : tie.Need-overflow_add-ones_byte
add_ones_byte c = search rules

cast_ones_byte : tie.Need-overflow_cast-ones_byte
cast_ones_byte c = search rules

hundreds_byte_requires : tie.Need-hundreds_byte-requires
hundreds_byte_requires c κs = search rules

tens_byte_requires : tie.Need-tens_byte-requires
tens_byte_requires c κs = search rules

returns : tie.Need-returns
returns c =
    let s = c in
    ap₂ (λ (x y : ℕ). 32 ∷ 32 ∷ x ∷ y ∷ (48 + s.args.n % 10) ∷ []) c.hundreds_byte.ensures c.tens_byte.ensures ∙ sym (five_bytes s.args.n s.requires)

pub in_five_spec : {M : Type 1} → statement M
in_five_spec =
    tie.close
    (tie.spec add_ones_byte cast_ones_byte hundreds_byte_requires tens_byte_requires returns)
