-- Entries past R, N or E are no part of a sheet: an answer is judged alike for sheets that differ only there.
-- Assumes nothing.
use Rattle.std.specs.Prelude.{ℕ, ◌≡◌, refl, List}
use Rattle.std.proofs.Common.{ap₂, subst}
use Rattle.sheet.specs.declared.Sheet.{Sheet}
use Rattle.sheet.specs.Sheet.{InRange}
use Rattle.sheet.specs.Questions.{at_no, at_yes}
use Rattle.sheet.specs.Entries.{SameSheet, turn, range_same, interval_same, on_sheet_same}
use Rattle.plan.specs.Entries.{plan_same}
use Rattle.denial.specs.Tree.{Tree, Known}
use Rattle.denial.specs.Entries.{passes_same}
use Rattle.judge.specs.Text.{AnswerRead, plan, denial, unreadable, answer_of}
use Rattle.judge.specs.Answers.{Claimed, Judged, JudgedAt}
use Rattle.judge.specs.Theorems.{denial_known}

claimed_same : {s s' : Sheet} → SameSheet s s' → {L : ℕ} {P Q : Type 0} {r : ℕ} → (P → Q) → (Q → P) → Claimed s L P r
    → Claimed s' L Q r
claimed_same e f g (at_no n p) = at_no (λ i. n (interval_same (turn e) i)) p
claimed_same e f g (at_yes i (at_no n p)) = at_yes (interval_same e i) (at_no (λ q. n (g q)) p)
claimed_same e f g (at_yes i (at_yes h p)) = at_yes (interval_same e i) (at_yes (f h) p)

module _ {s s' : Sheet} (e : SameSheet s s') (bs : List ℕ) (r : ℕ) where
  known_there : (t : Tree) → Known s.op_count s.edge_count t → Known s'.op_count s'.edge_count t
  known_there t k =
      subst (λ (m : ℕ). Known s'.op_count m t) e.edge_count
      (subst (λ (n : ℕ). Known n s.edge_count t) e.op_count k)

  judged_same : InRange s → (x : AnswerRead) → answer_of s.op_count s.edge_count bs ≡ x → Judged s x r
      → Judged s' x r
  judged_same ok (plan L ts us) q = claimed_same e (plan_same e ok) (plan_same (turn e) (range_same e ok))
  judged_same ok (denial L t) q =
      let k = denial_known s.op_count s.edge_count bs q in
      claimed_same e (passes_same e ok L t k) (passes_same (turn e) (range_same e ok) L t (known_there t k))
  judged_same ok (unreadable l) q = λ p. p

  pub judge_same : JudgedAt s bs r → JudgedAt s' bs r
  judge_same =
      on_sheet_same e (λ (n : ℕ). n) (λ ok j.
      subst (λ (x : AnswerRead). Judged s' x r) (ap₂ (λ (n m : ℕ). answer_of n m bs) e.op_count e.edge_count)
      (judged_same ok (answer_of s.op_count s.edge_count bs) refl j))
