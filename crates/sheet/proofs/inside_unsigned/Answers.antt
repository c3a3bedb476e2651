-- A number that does not fit an i32 is past every range of the table; one that fits is looked up as it is.
use Rattle.std.proofs.Common.{◌≡◌, ℕ, ℤ, pos, Bool, false, arith, rules}
use Rattle.std.specs.Result.{MatchResult, OkIff}
use Rattle.std.specs.Prelude.{Result, Ok, Err, FitsSigned}
use Rattle.std.specs.Int.{w32}
use Rattle.laws.specs.Says.{Says, no_says}
use Rattle.laws.specs.Z.{fits32}
use Rattle.sheet.specs.Ranges.{Inside, row_of}
use Rattle.sheet.specs.Table.{inside_short}
use Rattle.sheet.proofs.inside_unsigned.Goals as goal

by_fit : {E : Type 0} {P : ℤ → Type 0} (f n : ℕ) (r : Result ℤ E) (b : Bool) → ((z : ℤ) → z ≡ pos n → P z → Says (Inside f (pos n)) b)
    → OkIff r (FitsSigned w32 (pos n)) (pos n) → MatchResult r P (λ _. b ≡ false) → Says (Inside f (pos n)) b
by_fit f n (Ok z) b at t m = at z t.1 m
by_fit f n (Err e) b at t m = rw m (no_says (λ i. let h = inside_short i in t (fits32 (omega arith))))

pub returns : goal.returns
returns c = by_fit (row_of c.args.field) c.args.value _ _ (λ z e p. search rules) c.try_from.ensures c.map_or.ensures
