-- The lines of a denial whose tree is not too large read as that denial, and bytes that read as a denial or as a plan
-- are its lines. So where no plan exists some denial passes, if its tree is not too large. Assumes nothing.
use Rattle.std.specs.Prelude.{ℕ, ◌+◌, ◌≤◌, ◌≡◌, true, List, [], ◌∷◌, ◌++◌, eqb, pos}
use Rattle.std.proofs.Common.{arith, sym, ◌∙◌, append-nil, eqb-true}
use Rattle.std.proofs.Math.Path.{refl, ap}
use Rattle.laws.specs.Tests.{by_test}
use Rattle.text.specs.Keys.{answer_key, interval_key}
use Rattle.text.specs.Lines.{lines_text}
use Rattle.text.specs.Sizes.{four_digits}
use Rattle.text.specs.Text.{line_text}
use Rattle.scan.specs.Line.{fields, no_minus, line_of}
use Rattle.scan.specs.RoundTrip.{reads_line}
use Rattle.plan_lines.specs.Lines.{first_at}
use Rattle.plan_lines.specs.Steps as plans
use Rattle.sheet.specs.declared.Sheet.{Sheet}
use Rattle.sheet.specs.Sheet.{InRange, Interval}
use Rattle.denial.specs.Tree.{Tree, Known, lines, depth}
use Rattle.denial.specs.Passes.{Passes}
use Rattle.denial.specs.At.{rules_at, root_at}
use Rattle.tree_judge.specs.Reading.{most_lines, most_cuts, read, tree_from}
use Rattle.tree_judge.specs.Text.{tree_lines, TreeFits}
use Rattle.tree_judge.specs.RoundTrip.{reads_tree}
use Rattle.judge.specs.Text.{denial, denies, whole_tree, answer_read, answer_of}
use Rattle.judge.specs.Answers.{JudgedAt}
use Rattle.judge.specs.Lines.{denial_lines}
use Rattle.judge.specs.Steps.{has_tree}
use Rattle.judge.specs.Theorems.{denial_passes}

-- what the lines of an answer can show of a denial: its tree has at most 64 cuts above a leaf and, with the two lines
-- before it, at most 1,024 lines
pub record Shown (n m L : ℕ) (t : Tree) : Type 0 where
  pub interval : L ≤ four_digits
  pub known : Known n m t
  pub fits : TreeFits t
  pub deep : depth t ≤ most_cuts
  pub long : 2 + lines t ≤ most_lines

-- 5 or 6
denying : (a : ℕ) → denies a ≡ true → (a ≡ 0 → ⊥) × (a ≤ four_digits)
denying a d = by_test (eqb a 5)
    (λ e. let q = eqb-true a 5 e in (λ z. omega arith, omega arith))
    (λ e. let q = eqb-true a 6 (rw e at d) in (λ z. omega arith, omega arith))

module _ (n m a L : ℕ) (t : Tree) (d : denies a ≡ true) (w : Shown n m L t) where
  abbrev tail : List ℕ
  tail = lines_text (tree_lines t)

  abbrev after_answer : List ℕ
  after_answer = line_text interval_key (pos L ∷ []) ++ tail

  answer_line_lem : line_of answer_key 1 no_minus (lines_text (denial_lines a L t)) ≡ fields (pos a ∷ []) after_answer
  unfolding lines_text
  answer_line_lem = reads_line answer_key no_minus (pos a ∷ []) after_answer ((denying a d).1, refl, tt)

  interval_line_lem : line_of interval_key 1 no_minus after_answer ≡ fields (pos L ∷ []) tail
  interval_line_lem = reads_line interval_key no_minus (pos L ∷ []) tail (w.interval, refl, tt)

  tree : tree_from n m most_cuts first_at tail ≡ read t (first_at + lines t) []
  tree =
      ap (tree_from n m most_cuts first_at) (sym (append-nil tail))
      ∙ reads_tree n m t most_cuts first_at [] w.known w.fits w.deep (omega (arith, w.long))

  -- the lines of a denial read as that denial
  pub reads_denial : answer_of n m (lines_text (denial_lines a L t)) ≡ denial L t
  unfolding answer_of
  reads_denial =
      ap (answer_read n m (lines_text (denial_lines a L t)))
      (plans.another_answer (lines_text (denial_lines a L t)) a after_answer answer_line_lem (denying a d).0)
      ∙ has_tree n m _ (lines_text (denial_lines a L t)) a after_answer answer_line_lem d L tail interval_line_lem
      ∙ ap (whole_tree L) tree

-- a tree that passes makes a denial that is passed, whichever of 5 and 6 it names
pub tree_passed : {s : Sheet} {L : ℕ} (a : ℕ) {t : Tree} → InRange s → Interval s L → denies a ≡ true
    → Shown s.op_count s.edge_count L t → Passes (rules_at s L) (root_at s) t
    → JudgedAt s (lines_text (denial_lines a L t)) 0
tree_passed {s} {L} a {t} ok i d w p =
    denial_passes s (lines_text (denial_lines a L t)) ok (reads_denial s.op_count s.edge_count a L t d w) i p
