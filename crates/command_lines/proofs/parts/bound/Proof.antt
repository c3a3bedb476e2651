-- `command_lines::parts::bound` meets its contract.
-- From what `count_line` and `with` ensure, by the law of one line more.
use mathlib.Core.Path.{◌≡◌, sym, ap, subst, ◌∙◌}
use mathlib.Core.List.{List, [], ◌∷◌, ◌++◌, append_assoc}
use lib.ListN.{length, length-append}
use Rattle.text.specs.declared.Key.TheVariants as keys
use Rattle.text.specs.Sizes.{most_values}
use Rattle.text.specs.Line.{key_of}
use Rattle.text.specs.Lines.{Line, count_line}
use Rattle.text.specs.Answers.{answer_line}
use Rattle.command_lines.specs.Shows.{Shows, added, one}
use Rattle.command_lines.specs.Answers.{bound_refused_lem, bound_given}
use native.Mathlib.Omega.{arith}
use borrow.Author.Rules.{rules}
use Rattle.command_lines.proofs.parts.bound.Statement.{statement}
use Rattle.command_lines.proofs.parts.bound.Tie as tie

count_line_requires : tie.Need-count_line-requires
count_line_requires c κs = search rules

with_requires : tie.Need-with-answered-requires
with_requires c κs = search rules

-- the answer's line
answered : (c : tie.After-with-answered) (want : List Line) → Shows c.args.ls want → Shows c.with-answered.result (want ++ (answer_line c.args.answer ∷ []))
answered c want shows =
    let l = c.count_line in
    let s = c in
    let w : length l.result.values ≡ most_values = search rules in
    let n = shows.count in
    let h = s.requires.0 in
    added shows (omega arith) l.result (answer_line s.args.answer) w (one keys.Answer s.args.answer l.result s.requires.1 l.ensures) c.with-answered.ensures

returns : tie.Need-returns-then-answer-ne0
returns c =
    let a = c.args in
    λ want shows.
    subst (λ (x : List Line). Shows c.with-answered.result (want ++ x)) (sym (bound_refused_lem (key_of a.key) a.answer a.value c.if-answer-ne0.true)) (answered c.before want shows)

count_line_requires_2 : tie.Need-count_line-requires-2
count_line_requires_2 c κs = search rules

with_requires_2 : tie.Need-with-requires
with_requires_2 c κs = search rules

returns_2 : tie.Need-returns
returns_2 c =
    let l = c.count_line-2 in
    let s = c in
    let a = s.args in
    let w : length l.result.values ≡ most_values = search rules in
    λ want shows.
    let n = shows.count in
    let h = s.requires.0 in
    let m = length-append want (answer_line a.answer ∷ []) in
    subst (Shows c.with.result)
    (append_assoc want (answer_line a.answer ∷ []) (count_line (key_of a.key) a.value ∷ [])
    ∙ ap (λ (x : List Line). want ++ x) (sym (bound_given (key_of a.key) a.answer a.value c.if-answer-ne0.false)))
    (added (answered c.before.before.before want shows) (omega arith) l.result (count_line (key_of a.key) a.value) w
    (one a.key a.value l.result s.requires.2 l.ensures) c.with.ensures)

pub bound_spec : {M : Type 1} → statement M
bound_spec =
    tie.close
    (tie.spec
    count_line_requires
    with_requires
    returns
    count_line_requires_2
    with_requires_2
    returns_2)
