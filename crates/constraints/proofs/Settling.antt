-- What is known of an option after the test whether it holds a value.
use Rattle.std.specs.Prelude.{◌≡◌, Bool, true, false, MatchOption, Option, Some, None}
use Rattle.std.specs.Option.{is_some}
use Rattle.std.proofs.Common.{sym, ◌∙◌}
use Rattle.laws.specs.Z.{true_false}

pub when_some : {A : Type 0} (o : Option A) (P : Type 0) (Q : A → Type 0) (r : Bool) → r ≡ is_some o → r ≡ true → MatchOption o P Q → (x : A) × Q x
when_some None P Q r e y m = true_false (sym y ∙ e)
when_some (Some x) P Q r e y m = (x, m)

pub when_none : {A : Type 0} (o : Option A) (P : Type 0) (Q : A → Type 0) (r : Bool) → r ≡ is_some o → r ≡ false → MatchOption o P Q → P
when_none None P Q r e y m = m
when_none (Some x) P Q r e y m = true_false (sym e ∙ y)
