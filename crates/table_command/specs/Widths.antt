-- How many bytes the lines of a step, those of the entries and the whole have at most, where their numbers have at most
-- three digits. Assumes nothing.
use Rattle.std.specs.Prelude.{◌≡◌, refl, ℕ, zero, suc, ◌+◌, ◌*◌, ◌≤◌, eqb, pos, length}
use Rattle.std.proofs.Common.{ap, subst, ◌∙◌, add-one, arith, length-append, eqb-true, eq-eqb, ne_eqb}
use mathlib.Core.List.{List, [], ◌∷◌, ◌++◌, append-nil}
use Rattle.std.proofs.lemmas.Bool.{eqb-false}
use Rattle.sizes.specs.Sizes.{most_operations}
use Rattle.laws.specs.Count.{bit, bit_small}
use Rattle.laws.specs.Each.{each, each_more}
use Rattle.laws.specs.Tests.{by_test}
use Rattle.text.specs.Keys as key
use Rattle.text.specs.Sizes.{three_digits}
use Rattle.text.specs.Lines.{Line, line_text_of, lines_text}
use Rattle.text.specs.Answers.{answer_line, instance_line}
use Rattle.text.specs.Bounds.{line_most, number_most, number_most_lem, one_most}
use Rattle.text.specs.Filling.{lines_append, one_line}
use Rattle.placing_table.specs.declared.Placement.{Placement}
use Rattle.placing_table.specs.declared.Table.{Table}
use Rattle.placing_table.specs.Table.{placement_at}
use Rattle.placing.specs.declared.PlaceAnswer.{PlaceAnswer}
use Rattle.page_text.specs.Widths.{longest_page}
use Rattle.table_script.specs.Script.{most_steps}
use Rattle.table_command.specs.Prints.{answer_lines, entry_of, entry_lines}

-- the lines `answer=` and `instance=`
abbrev pub step_most : ℕ
step_most = (length key.answer_key + number_most) + (length key.instance_key + number_most)

-- the line `entry=` with its three numbers
abbrev pub entry_most : ℕ
entry_most = length key.entry_key + number_most * 3

-- all that is printed of a sheet and an interval that are accepted
abbrev pub table_most : ℕ
table_most = step_most * most_steps + (entry_most * most_operations + longest_page)

-- ---- numbers

-- the numbers of a step's answer
pub record SmallAnswer (a : PlaceAnswer) : Type 0 where
  pub answer : a.answer ≤ three_digits
  pub instance : a.instance ≤ three_digits

-- those of an entry
pub record SmallEntry (p : Placement) : Type 0 where
  pub start : p.start ≤ three_digits
  pub instance : p.instance ≤ three_digits

abbrev pub SmallTable : Table → Type 0
SmallTable table = (i : ℕ) → SmallEntry (placement_at table i)

pub entry_most_lem : (p : Placement) → SmallEntry p → length (line_text_of (entry_of p)) ≤ entry_most
entry_most_lem p h =
    let f = number_most_lem (bit p.placed) (omega (arith, bit_small p.placed)) in
    omega (
      arith,
      line_most 3 key.entry_key (pos (bit p.placed) ∷ pos p.start ∷ pos p.instance ∷ [])
          (f, (number_most_lem p.start h.start, (number_most_lem p.instance h.instance, tt))),
    )

-- ---- a step

module _ (a : PlaceAnswer) where
  -- with a refusal the answer alone, with 0 the instance too
  pub lines_refused : (a.answer ≡ 0 → ⊥) → lines_text (answer_lines a) ≡ line_text_of (answer_line a.answer)
  unfolding answer_lines
  lines_refused n = rw (ne_eqb a.answer 0 n) (one_line (answer_line a.answer))

  pub lines_given : a.answer ≡ 0 → lines_text (answer_lines a) ≡ line_text_of (answer_line a.answer) ++ line_text_of (instance_line a.instance)
  unfolding answer_lines lines_text
  lines_given e = rw (eq-eqb a.answer 0 e) (ap (λ (x : List ℕ). line_text_of (answer_line a.answer) ++ x) (append-nil (line_text_of (instance_line a.instance))))

  module _ (h : SmallAnswer a) where
    pub answer_short : length (line_text_of (answer_line a.answer)) ≤ length key.answer_key + number_most
    answer_short = one_most key.answer_key a.answer h.answer

    pub instance_short : length (line_text_of (instance_line a.instance)) ≤ length key.instance_key + number_most
    instance_short = one_most key.instance_key a.instance h.instance

    pub step_most_lem : length (lines_text (answer_lines a)) ≤ step_most
    step_most_lem = by_test (eqb a.answer 0)
        (λ t. omega (arith, ap length (lines_given (eqb-true a.answer 0 t)), length-append (line_text_of (answer_line a.answer)) (line_text_of (instance_line a.instance)), answer_short, instance_short))
        (λ t. omega (arith, ap length (lines_refused (eqb-false a.answer 0 t)), answer_short))

-- ---- entries

pub entries_none : (table : Table) → lines_text (entry_lines 0 table) ≡ []
unfolding each lines_text
entries_none table = refl

pub entries_more : (n : ℕ) (table : Table) → lines_text (entry_lines (n + 1) table) ≡ lines_text (entry_lines n table) ++ line_text_of (entry_of (placement_at table n))
entries_more n table =
    let f : ℕ → Line = λ i. entry_of (placement_at table i) in
    ap lines_text (each_more n f) ∙ lines_append (each n f) (f n ∷ []) ∙ ap (λ (x : List ℕ). lines_text (each n f) ++ x) (one_line (f n))

pub entries_most : (n : ℕ) (table : Table) → SmallTable table → length (lines_text (entry_lines n table)) ≤ entry_most * n
entries_most zero table h = omega (arith, ap length (entries_none table))
entries_most (suc n) table h =
    let e = subst (λ (k : ℕ). lines_text (entry_lines k table) ≡ lines_text (entry_lines n table) ++ line_text_of (entry_of (placement_at table n))) (add-one n) (entries_more n table) in
    let l = length-append (lines_text (entry_lines n table)) (line_text_of (entry_of (placement_at table n))) in
    omega (arith, ap length e, l, entries_most n table h, entry_most_lem (placement_at table n) (h n))
