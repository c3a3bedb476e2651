-- The lines of a refused sheet by the kind of command.
-- Assumes nothing.
use mathlib.Core.Path.{◌≡◌, refl}
use mathlib.Core.Logic.{inl, inr}
use mathlib.Core.List.{[], ◌∷◌}
use Prim.Native.Nat.{ℕ}
use native.Mathlib.Omega.{arith}
use types.Run.{OneOf}
use denote.Enum.Declared.{tag_of}
use Rattle.text.specs.Answers.{answer_line}
use Rattle.words.specs.declared.Command.{Command}
use Rattle.words.specs.declared.Command.TheVariants.{Bounds, Starts, Separations, Plan, Page, Order, Check, Write}
use Rattle.command_lines.specs.Listing.{refusal_lines}
use Rattle.words.specs.contracts.Command as T

-- every command but `check`
pub not_check : (c : Command) (n line : ℕ) → OneOf (0 ∷ 1 ∷ 2 ∷ 3 ∷ 4 ∷ 5 ∷ 7 ∷ []) (tag_of T.the_type c) → refusal_lines c n line ≡ answer_line n ∷ []
unfolding refusal_lines
not_check Bounds n line o = refl
not_check (Starts L) n line o = refl
not_check (Separations L) n line o = refl
not_check (Plan L) n line o = refl
not_check (Page L) n line o = refl
not_check (Order L pair) n line o = refl
not_check Check n line (inl e) = absurd (omega arith)
not_check Check n line (inr (inl e)) = absurd (omega arith)
not_check Check n line (inr (inr (inl e))) = absurd (omega arith)
not_check Check n line (inr (inr (inr (inl e)))) = absurd (omega arith)
not_check Check n line (inr (inr (inr (inr (inl e))))) = absurd (omega arith)
not_check Check n line (inr (inr (inr (inr (inr (inl e)))))) = absurd (omega arith)
not_check Check n line (inr (inr (inr (inr (inr (inr e)))))) = absurd (omega arith)
not_check Write n line o = refl
