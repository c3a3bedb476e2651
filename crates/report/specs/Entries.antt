-- Entries past R, N or E are no part of a sheet: sheets that differ only there get the same texts of plans. Assumes
-- nothing.
use Rattle.std.specs.Prelude.{◌≡◌, List, [], ◌∷◌, ℕ, eqb, take}
use Rattle.std.proofs.Common.{sym, subst}
use Rattle.std.proofs.Math.Path.{ap}
use Rattle.std.proofs.Math.Bool.{cond}
use Rattle.laws.specs.Entry.{vec}
use Rattle.laws.specs.Each.{each}
use Rattle.text.specs.Text.{buffer_of}
use Rattle.text.specs.Line.{written_of}
use Rattle.text.specs.Lines.{lines_text}
use Rattle.text.specs.Answers.{answer_line, interval_line, loop_line, at_line}
use Rattle.sheet.specs.declared.Sheet.{Sheet}
use Rattle.sheet.specs.Entries.{SameSheet}
use Rattle.plan.specs.declared.PlanAnswer.{PlanAnswer}
use Rattle.plan.specs.Entries.{plan_at_same}
use Rattle.report.specs.declared.PlanWritten.{PlanWritten}
use Rattle.interval_lines.specs.IntervalLines.{detail, interval_lines, plan_text}
use Rattle.report.specs.PlanText.{edgeless, PlanText, refusal, text}

module _ {s s' : Sheet} (e : SameSheet s s') where
  plan_lines_same : (L : ℕ) (a : PlanAnswer) → plan_text s L a ≡ plan_text s' L a
  unfolding interval_lines detail
  plan_lines_same L a =
      ap (λ (n : ℕ). lines_text (answer_line a.answer ∷ interval_line L ∷
      cond (eqb a.answer 0)
      (each n (λ i. at_line (vec a.starts i) (vec a.instances i)))
      (cond (eqb a.answer 5) (loop_line (take a.loop_length a.loop_edges) ∷ []) []))) e.op_count

  pub plan_text_same : {L : ℕ} {old new : List ℕ} {r : PlanWritten} → PlanText s L old r new → PlanText s' L old r new
  plan_text_same (refusal p n) = refusal (plan_at_same e p) n
  plan_text_same {L} {old} (text {a} p z) =
      subst (λ (t : List ℕ). PlanText s' L old (edgeless (written_of t old)) (buffer_of t old)) (sym (plan_lines_same L a)) (text (plan_at_same e p) z)
