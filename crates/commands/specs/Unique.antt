-- At most one text fits a command and the bytes of a sheet, or those and a plan, and so one answer and one buffer; and
-- `write` gives the sheet's own bytes back. Assumes nothing.
use Rattle.std.specs.Prelude.{◌≡◌, refl, List, ℕ, ◌<◌, ℤ}
use Rattle.std.proofs.Common.{sym, ap, ap₂, ◌∙◌, arith}
use Rattle.sizes.specs.Sizes.{most_operations}
use Rattle.laws.specs.Entry.{cell}
use Rattle.laws.specs.Each.{each_same}
use Rattle.text.specs.declared.Written.{Written}
use Rattle.text.specs.Lines.{lines_text}
use Rattle.text.specs.Answers.{refusal_text}
use Rattle.text.specs.PutLaws.{put_one}
use Rattle.constraints.specs.declared.bound.Bound as recurrence
use Rattle.constraints.specs.declared.loops.BadWalk as loops
use Rattle.constraints.specs.declared.starts.Starts as earliest
use Rattle.dependence.specs.Answer.{table_found}
use Rattle.dependence.specs.Unique.{separations_one}
use Rattle.sheet.specs.declared.Sheet.{Sheet}
use Rattle.sheet.specs.Sheet.{InRange}
use Rattle.sheet.specs.Facts.{ops_most, graph_in_range, interval_in_range}
use Rattle.sheet.specs.Questions.{One, is_one, asked_one, at_interval_one, at_no, at_yes}
use Rattle.reader.specs.Read.{read_of}
use Rattle.round_trip.proofs.RoundTrip.{writes_back}
use Rattle.timing.specs.Answers.{SeparationsAt}
use Rattle.timing.specs.Unique.{walk_at_unique, starts_at_unique, recurrence_at_unique}
use Rattle.plan.specs.declared.resource.Bound as resource
use Rattle.plan.specs.declared.PlanAnswer.{PlanAnswer}
use Rattle.plan.specs.Unique.{plan_at_unique, resource_unique}
use Rattle.pair_order.specs.declared.SlotOrder.{SlotOrder}
use Rattle.pair_order.specs.Unique.{slot_order_unique}
use Rattle.round_trip.proofs.Reading.{read_in_range}
use Rattle.words.specs.declared.Command.{Command}
use Rattle.words.specs.declared.Command.TheVariants.{Write}
use Rattle.command_lines.specs.Listing.{cell_of, row_line, bounds_lines, starts_lines, separations_lines, plan_lines, order_lines, first_page, answer_at}
use Rattle.command_lines.specs.Prints as prints
use Rattle.command_lines.specs.Prints.{Serves, Prints, PrintsPage, Answered, AnsweredPage}

module _ {s : Sheet} (ok : InRange s) where
  -- one table, cell by cell
  cells_one : {L : ℕ} {t u : List (List ℤ)} → SeparationsAt s L t → SeparationsAt s L u → (i j : ℕ) → i < most_operations → j < most_operations → cell t i j ≡ cell u i j
  cells_one (at_no n _) (at_no _ _) i j hi hj = absurd (n ok)
  cells_one (at_no n _) (at_yes _ _) i j hi hj = absurd (n ok)
  cells_one (at_yes _ _) (at_no n _) i j hi hj = absurd (n ok)
  cells_one (at_yes _ (at_no _ p)) (at_yes _ (at_no _ q)) i j hi hj = ap (λ (t : List (List ℤ)). cell t i j) (p ∙ sym q)
  cells_one (at_yes _ (at_no n _)) (at_yes _ (at_yes v _)) i j hi hj = absurd (n v)
  cells_one (at_yes _ (at_yes v _)) (at_yes _ (at_no n _)) i j hi hj = absurd (n v)
  cells_one (at_yes _ (at_yes _ (at_no _ p))) (at_yes _ (at_yes _ (at_no _ q))) i j hi hj = ap (λ (t : List (List ℤ)). cell t i j) (p ∙ sym q)
  cells_one (at_yes _ (at_yes _ (at_no n _))) (at_yes _ (at_yes _ (at_yes f _))) i j hi hj = absurd (n f)
  cells_one (at_yes _ (at_yes _ (at_yes f _))) (at_yes _ (at_yes _ (at_no n _))) i j hi hj = absurd (n f)
  cells_one (at_yes _ (at_yes v (at_yes f x))) (at_yes _ (at_yes _ (at_yes _ y))) i j hi hj =
      let g = graph_in_range ok in
      let l = interval_in_range ok v in
      separations_one (table_found g l f x) (table_found g l f y) i j hi hj

  rows_one : {L : ℕ} {t u : List (List ℤ)} (w : loops.BadWalk) → SeparationsAt s L t → SeparationsAt s L u → separations_lines s L w t ≡ separations_lines s L w u
  rows_one {L} {t} {u} w p q =
      let n = s.op_count in
      let m = ops_most ok in
      ap (answer_at w.answer L _)
      (each_same n (λ i. row_line n (cell t i)) (λ i. row_line n (cell u i)) (λ i hi.
      ap (λ (vs : List ℤ). record { key = (row_line n (cell t i)).key; values = vs })
      (each_same n (λ j. cell_of (cell t i j)) (λ j. cell_of (cell u i j)) (λ j hj. ap cell_of (cells_one p q i j (omega arith) (omega arith))))))

  -- one text of a sheet that was read
  serves_one : (c : Command) → One (Serves s c)
  serves_one c _ _ (prints.bounds p q) (prints.bounds r t) = ap₂ (λ (x : recurrence.Bound) (y : resource.Bound). lines_text (bounds_lines x y)) (recurrence_at_unique _ _ p r) (resource_unique _ _ q t)
  serves_one c _ _ (prints.starts {L} p) (prints.starts q) = ap (λ (a : earliest.Starts). lines_text (starts_lines s L a)) (starts_at_unique _ _ p q)
  serves_one c _ _ (prints.separations {L} {w} {t} p q) (prints.separations {w = v} {t = u} r z) =
      ap lines_text (rows_one w q z) ∙ ap (λ (x : loops.BadWalk). lines_text (separations_lines s L x u)) (walk_at_unique _ _ p r)
  serves_one c _ _ (prints.plan {L} p) (prints.plan q) = ap (λ (a : PlanAnswer). lines_text (plan_lines s L a)) (plan_at_unique _ _ p q)
  serves_one c _ _ (prints.page {L} p) (prints.page q) = ap (first_page s L) (plan_at_unique _ _ p q)
  serves_one c _ _ (prints.order p) (prints.order q) = ap (λ (a : SlotOrder). lines_text (order_lines a)) (slot_order_unique _ _ p q)
  serves_one c _ _ prints.check prints.check = refl
  serves_one c _ _ prints.write prints.write = refl

prints_one : {bytes : List ℕ} {c : Command} → One (Prints bytes c)
prints_one _ _ (prints.refused n) (prints.refused m) = refl
prints_one _ _ (prints.refused n) (prints.read z _) = absurd (n z)
prints_one _ _ (prints.read z _) (prints.refused n) = absurd (n z)
prints_one {bytes} {c} x y (prints.read z p) (prints.read _ q) = serves_one (read_in_range bytes z) c x y p q

page_one : (bytes : List ℕ) {L : ℕ} {ts us : List ℕ} → One (PrintsPage bytes L ts us)
page_one bytes = asked_one (is_one _) (at_interval_one refusal_text (asked_one (is_one (refusal_text 10)) (is_one _)))

-- at most one answer and one buffer fit
pub once : {bytes old : List ℕ} {c : Command} {r r' : Written} {new new' : List ℕ} → Answered c bytes old r new → Answered c bytes old r' new' → (r ≡ r') × (new ≡ new')
once = put_one prints_one

pub page_once : (bytes : List ℕ) {L : ℕ} {ts us old : List ℕ} {r r' : Written} {new new' : List ℕ}
    → AnsweredPage bytes L ts us old r new → AnsweredPage bytes L ts us old r' new' → (r ≡ r') × (new ≡ new')
page_once bytes = put_one (page_one bytes)

-- what `write` prints of an accepted sheet are its own bytes
pub own_bytes : {bytes text : List ℕ} → (read_of bytes).answer ≡ 0 → Prints bytes Write text → text ≡ bytes
own_bytes z (prints.refused n) = absurd (n z)
own_bytes {bytes} z (prints.read _ prints.write) = writes_back bytes z
