-- What a command prints for the bytes of a sheet, and where it goes.
use Rattle.std.specs.Prelude.{ℕ, ◌≡◌, List, [], ◌∷◌, ℤ}
use Rattle.text.specs.declared.Written.{Written}
use Rattle.text.specs.Lines.{lines_text}
use Rattle.text.specs.Answers.{answer_line, refusal_text}
use Rattle.text.specs.Put as lent
use Rattle.constraints.specs.declared.bound.Bound as recurrence
use Rattle.constraints.specs.declared.loops.BadWalk as loops
use Rattle.constraints.specs.declared.starts.Starts as earliest
use Rattle.sheet.specs.declared.Sheet.{Sheet}
use Rattle.sheet.specs.Text.{sheet_text}
use Rattle.sheet.specs.Questions.{Asked, Is, AtInterval}
use Rattle.reader.specs.Read.{read_of}
use Rattle.reader.specs.Fault.{fault_of}
use Rattle.timing.specs.Answers.{WalkAt, StartsAt, SeparationsAt, RecurrenceAt}
use Rattle.plan.specs.declared.resource.Bound as resource
use Rattle.plan.specs.declared.PlanAnswer.{PlanAnswer}
use Rattle.plan.specs.Resource.{ResourceAt}
use Rattle.plan.specs.Answers.{PlanAt}
use Rattle.pair_order.specs.declared.SlotOrder.{SlotOrder}
use Rattle.pair_order.specs.Answers.{SlotOrderAt}
use Rattle.page.specs.Answers.{plan_page, IfTabled}
use Rattle.words.specs.declared.Command.{Command}
use Rattle.words.specs.declared.Command.TheVariants.{Bounds, Starts, Separations, Plan, Page, Order, Check, Write}
use Rattle.command_lines.specs.Listing.{bounds_lines, starts_lines, separations_lines, plan_lines, order_lines, first_page, refusal_lines}

-- of a sheet that was read: the lines of the service's answer; `page` gives a page, `check` has nothing to add, `write`
-- gives the sheet's own text
pub data Serves (s : Sheet) : Command → List ℕ → Type 0 where
  bounds : {r : recurrence.Bound} {q : resource.Bound} → RecurrenceAt s r → ResourceAt s q → Serves s Bounds (lines_text (bounds_lines r q))
  starts : {L : ℕ} {a : earliest.Starts} → StartsAt s L a → Serves s (Starts L) (lines_text (starts_lines s L a))
  separations : {L : ℕ} {w : loops.BadWalk} {t : List (List ℤ)} → WalkAt s L w → SeparationsAt s L t → Serves s (Separations L) (lines_text (separations_lines s L w t))
  plan : {L : ℕ} {a : PlanAnswer} → PlanAt s L a → Serves s (Plan L) (lines_text (plan_lines s L a))
  page : {L : ℕ} {a : PlanAnswer} → PlanAt s L a → Serves s (Page L) (first_page s L a)
  order : {L pair : ℕ} {a : SlotOrder} → SlotOrderAt s L pair a → Serves s (Order L pair) (lines_text (order_lines a))
  check : Serves s Check (lines_text (answer_line 0 ∷ []))
  write : Serves s Write (sheet_text s)

-- of the bytes of a sheet
pub data Prints (bytes : List ℕ) (command : Command) : List ℕ → Type 0 where
  refused : ((read_of bytes).answer ≡ 0 → ⊥) → Prints bytes command (lines_text (refusal_lines command (read_of bytes).answer (fault_of bytes)))
  read : (read_of bytes).answer ≡ 0 → {text : List ℕ} → Serves (read_of bytes).sheet command text → Prints bytes command text

-- ---- a plan that is given besides the sheet, by its starts and instances

-- of a sheet that was read: 4 and 10, then the plan's page
abbrev pub ServesPage : Sheet → ℕ → List ℕ → List ℕ → List ℕ → Type 0
ServesPage s L ts us = AtInterval refusal_text s L (IfTabled refusal_text s L ts us (Is (plan_page s L ts us)))

-- of the bytes of a sheet
abbrev pub PrintsPage : List ℕ → ℕ → List ℕ → List ℕ → List ℕ → Type 0
PrintsPage bytes L ts us = Asked ((read_of bytes).answer ≡ 0) (Is (refusal_text (read_of bytes).answer)) (ServesPage (read_of bytes).sheet L ts us)

-- ---- the lent buffer

-- bytes that are enough for whatever is printed: the longest is a page, of 23,400 bytes at most
abbrev pub room : ℕ
room = 24576

-- a text of which P holds, at the front of the buffer old where the whole of it fits, else 9
abbrev pub Put : (List ℕ → Type 0) → List ℕ → Written → List ℕ → Type 0
Put = lent.Put room

-- all that a command prints
abbrev pub Answered : Command → List ℕ → List ℕ → Written → List ℕ → Type 0
Answered command bytes = Put (Prints bytes command)

-- all that is printed of a plan that is given besides
abbrev pub AnsweredPage : List ℕ → ℕ → List ℕ → List ℕ → List ℕ → Written → List ℕ → Type 0
AnsweredPage bytes L ts us = Put (PrintsPage bytes L ts us)
