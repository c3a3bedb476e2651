-- What `read_step` promises of its result fixes it: two that meet its contract at one place of the bytes are equal.
-- Assumes nothing.
use Rattle.std.specs.Prelude.{◌≡◌, refl, List, ℕ, ◌≤◌, length, drop, Option, Some, None, IfSome}
use Rattle.std.proofs.Common.{sym, ◌∙◌}
use Rattle.scan.specs.OneLine.{same_place}
use Rattle.table_script.specs.declared.Step.{Step}
use Rattle.table_script.specs.Script.{seen}
use Rattle.table_script.specs.Steps.{ReadAt, no_read}

one : (s : List ℕ) (r q : Option (Step × ℕ)) → IfSome r (λ x. x.1 ≤ length s) → IfSome q (λ x. x.1 ≤ length s) → seen s r ≡ seen s q → r ≡ q
one s (Some (st, p)) (Some (su, q)) f g e =
    let x : st ≡ su = cc in
    let y : drop p s ≡ drop q s = cc in
    let z = same_place s f g y in
    λ i. Some (x i, z i)
one s (Some (st, p)) None f g e = absurd (no_read e)
one s None (Some (su, q)) f g e = absurd (no_read (sym e))
one s None None f g e = refl

pub read_step_unique : (s : List ℕ) (at : ℕ) (r q : Option (Step × ℕ)) → ReadAt s at r → ReadAt s at q → r ≡ q
read_step_unique s at r q a b = one s r q a.1 b.1 (a.0 ∙ sym b.0)
