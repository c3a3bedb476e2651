-- The starred cases hold: one computed test over the whole table, and the law that turns it into the claim at each row.
-- Assumes nothing.
use Rattle.std.specs.Prelude.{◌≡◌, refl, Bool, true, List, [], ◌∷◌, ℕ, zero, suc, ◌<◌, length, get_or}
use Rattle.std.proofs.Common.{arith}
use Rattle.laws.specs.Count.{both_true}
use Rattle.plan.specs.Resource.{greatest}
use Rattle.dependence.specs.Rules.{sum}
use Rattle.starred_cases.specs.Tests.{both, up_to, every, count, lex_then, sheet_test, plan_test, plans_test, chain_test, first_walk_test}
use Rattle.sheet.specs.Answer.{first_of, number_answer, type_answer, op_answer, edge_answer, sheet_answer}
use Rattle.starred_cases.specs.Claims.{Claim, pair_in, Stated, test, shown}
use Rattle.starred_cases.specs.Table.{table}

-- every claim of a list passes its test
unfoldable pass : List Claim → Bool
pass [] = true
pass (c ∷ cs) = both (test c) (pass cs)

passes : pass table ≡ true
unfolding pass greatest count sum up_to every lex_then first_of number_answer type_answer op_answer edge_answer sheet_answer sheet_test plan_test plans_test chain_test first_walk_test
passes = refl

row : (cs : List Claim) → pass cs ≡ true → (k : ℕ) → k < length cs → Stated (get_or cs k (pair_in 24 275))
unfolding pass
row [] e k h = absurd (omega arith)
row (c ∷ cs) e zero h = shown c (both_true (test c) (pass cs) e).0
row (c ∷ cs) e (suc k) h = row cs (both_true (test c) (pass cs) e).1 k (omega arith)

-- the lemma: the claim at each row of the table holds
pub cases : (k : ℕ) → k < length table → Stated (get_or table k (pair_in 24 275))
cases = row table passes
