use Rattle.std.proofs.Common.{◌≡◌, ◌<◌, refl, ℕ, true, length, get_or, subst, rules, arith}
use Rattle.std.specs.Bool.{⊤}
use Rattle.std.specs.List.{range_with_len, HoldsAt}
use Rattle.std.proofs.lemmas.Iterator.{cases_from_any, YieldsList-from_range}
use Rattle.std.proofs.lemmas.List.FromFn.{length-range_with_len, get_or-range_with_len}
use Rattle.colouring.specs.Parts.{SameColumn}
use Rattle.colouring.proofs.twins.twin.Goals as goal

-- the place of a number below v is the number
below : (P : ℕ → Type 0) (v : ℕ) → (k : ℕ) × (k < length (range_with_len 0 v)) × HoldsAt P (range_with_len 0 v) k → (w : ℕ) × (w < v) × P w
below P v s =
    let less : s.0 < v = omega (arith, s.1, length-range_with_len 0 v) in
    let is : get_or (range_with_len 0 v) s.0 0 ≡ s.0 = omega (arith, get_or-range_with_len 0 v s.0 0 less) in
    (s.0, less, subst P is (s.2 0))

-- a colour that passes the test has the column of v
pub returns : goal.returns
returns c =
    let a = c.args in
    let same = λ (w : ℕ). SameColumn a.count a.done.now a.table.now a.v w true in
    let cases = cases_from_any _ _ c.any.result same (λ w. ⊤) c.any.ensures.ran (YieldsList-from_range 0 a.v a.v refl (omega arith)) (λ w q k. search rules) (λ w q k. search rules) in
    record { yes = λ e. below same a.v (rw e at cases) }
