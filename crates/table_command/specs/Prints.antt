-- What the command `table` does with the steps of a script, and all that it prints for the bytes of a sheet and of a
-- script.
use Rattle.std.specs.Prelude.{ℕ, ◌≡◌, cond, List, [], ◌∷◌, ◌++◌, eqb}
use Rattle.laws.specs.Count.{bit}
use Rattle.laws.specs.Each.{each}
use Rattle.text.specs.declared.Written.{Written}
use Rattle.text.specs.Lines.{Line, lines_text}
use Rattle.text.specs.Answers.{answer_line, instance_line, entry_line, refusal_text}
use Rattle.text.specs.Put.{Put}
use Rattle.sheet.specs.declared.Sheet.{Sheet}
use Rattle.sheet.specs.Questions.{Asked, Is, AtInterval}
use Rattle.reader.specs.Read.{read_of}
use Rattle.placing_table.specs.declared.Placement.{Placement}
use Rattle.placing_table.specs.declared.Table.{Table}
use Rattle.placing_table.specs.Table.{empty_table, placement_at}
use Rattle.placing.specs.declared.OfferAnswer.{OfferAnswer}
use Rattle.placing.specs.declared.PlaceAnswer.{PlaceAnswer}
use Rattle.placing.specs.Answers.{PlaceAt, OfferAt, BookAt}
use Rattle.page_text.specs.Page.{page_text}
use Rattle.table_script.specs.declared.Step.{Step}
use Rattle.table_script.specs.declared.Step.TheVariants.{Offer, Book, Place}
use Rattle.table_script.specs.Script.{ScriptRead, steps, fault, script_of}

-- ---- a step

-- the answer of an offer, with the table, which it leaves as it was
abbrev pub beside_table : Table → OfferAnswer → PlaceAnswer
beside_table table o = record { answer = o.answer; instance = o.offer.instance; table = table }

-- what it answers, by the service that it names: number, instance, and the table afterwards
pub data StepAt (s : Sheet) (L : ℕ) (table : Table) : Step → PlaceAnswer → Type 0 where
  offered : {op start : ℕ} {o : OfferAnswer} → OfferAt s L table op start o
      → StepAt s L table (Offer op start) (beside_table table o)
  booked : {op start u : ℕ} {a : PlaceAnswer} → BookAt s L table (record { operation = op; start = start; instance = u }) a
      → StepAt s L table (Book op start u) a
  placed : {op start : ℕ} {a : PlaceAnswer} → PlaceAt s L table op start a → StepAt s L table (Place op start) a

-- its lines: the answer and, with 0, the instance
unfoldable pub answer_lines : PlaceAnswer → List Line
answer_lines a = answer_line a.answer ∷ cond (eqb a.answer 0) (instance_line a.instance ∷ []) []

-- the steps, one after the other from a table on: the table after them, and the lines of all of them
pub data Runs (s : Sheet) (L : ℕ) : Table → List Step → Table → List Line → Type 0 where
  ends : {table : Table} → Runs s L table [] table []
  then : {table after : Table} {st : Step} {sts : List Step} {a : PlaceAnswer} {ls : List Line}
      → StepAt s L table st a → Runs s L a.table sts after ls → Runs s L table (st ∷ sts) after (answer_lines a ++ ls)

-- ---- the table at the end

-- `entry=placed,start,instance`, where placed is 1 for yes, 0 for no
abbrev pub entry_of : Placement → Line
entry_of p = entry_line (bit p.placed) p.start p.instance

-- one for each of n operations
abbrev pub entry_lines : ℕ → Table → List Line
entry_lines n table = each n (λ i. entry_of (placement_at table i))

-- ---- the whole

-- of a sheet and an interval that are accepted: the steps on a new table, the entries, and the page of what is placed
pub record TableText (s : Sheet) (L : ℕ) (sts : List Step) (text : List ℕ) : Type 0 where
  pub table : Table
  pub lines : List Line
  pub runs : Runs s L empty_table sts table lines
  pub pinned : text ≡ lines_text lines ++ (lines_text (entry_lines s.op_count table) ++ page_text s L table)

-- of the bytes of a sheet: its refusal, and 4, alone
abbrev pub Serves : List ℕ → ℕ → List Step → List ℕ → Type 0
Serves bytes L sts =
    Asked ((read_of bytes).answer ≡ 0) (Is (refusal_text (read_of bytes).answer))
    (AtInterval refusal_text (read_of bytes).sheet L (TableText (read_of bytes).sheet L sts))

-- of a script besides: nothing where a line of it is at fault
pub data PrintsTable (bytes : List ℕ) (L : ℕ) : ScriptRead → List ℕ → Type 0 where
  at_fault : {n : ℕ} → PrintsTable bytes L (fault n) []
  run : {sts : List Step} {text : List ℕ} → Serves bytes L sts text → PrintsTable bytes L (steps sts) text

-- bytes that are enough for whatever is printed: a page has 23,400 at most
abbrev pub room : ℕ
room = 49152

-- all that is printed, at the front of the lent buffer, or 9
abbrev pub Answered : List ℕ → ℕ → List ℕ → List ℕ → Written → List ℕ → Type 0
Answered bytes L script = Put room (PrintsTable bytes L (script_of script))
