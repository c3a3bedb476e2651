-- `commands::page_of_plan` meets its contract.
-- From what `read`, `alone`, `put` and `given` ensure.
use mathlib.Core.Path.{sym, ap, subst, ◌∙◌}
use Rattle.text.specs.Answers.{refusal_text}
use Rattle.text.specs.PutLaws.{weaken}
use Rattle.sheet.specs.declared.Sheet.{Sheet}
use Rattle.sheet.specs.Sheet.{InRange}
use Rattle.sheet.specs.Questions.{at_no, at_yes}
use Rattle.reader.specs.declared.ReadAnswer.{ReadAnswer}
use Rattle.round_trip.proofs.Reading.{read_small, read_in_range}
use Rattle.command_lines.specs.Shows.{lists}
use Rattle.command_lines.specs.Answers.{put}
use Rattle.command_lines.specs.Prints.{ServesPage}
use native.Mathlib.Omega.{arith}
use borrow.Author.Rules.{rules}
use Rattle.commands.proofs.page_of_plan.Statement.{statement}
use Rattle.commands.proofs.page_of_plan.Tie as tie

read_requires : tie.Need-read-read-requires
read_requires c κs = search rules

alone_requires : tie.Need-alone-requires
alone_requires c κs =
    let e = ap (λ (x : ReadAnswer). x.answer) c.read-read.ensures in
    let h = read_small c.args.bytes.now in
    omega arith

put_requires : tie.Need-put-requires
put_requires c κs = search rules

same_length : tie.Need-shape_of-out-then-refusal-ne0
same_length c = search rules

returns : tie.Need-returns-then-refusal-ne0
returns c =
    let e = ap (λ (x : ReadAnswer). x.answer) c.read-read.ensures in
    let w = c.put.ensures in
    put (lists c.alone.ensures (at_no (λ z. c.if-refusal-ne0.true (e ∙ z)) (ap refusal_text e))) w.0 w.1

given_requires : tie.Need-given-requires
given_requires c κs =
    let r = c.read-read in
    let e = ap (λ (x : ReadAnswer). x.answer) r.ensures in
    subst InRange (sym (ap (λ (x : ReadAnswer). x.sheet) r.ensures)) (read_in_range c.args.bytes.now (sym e ∙ c.if-refusal-ne0.false))

same_length_2 : tie.Need-shape_of-out
same_length_2 c = search rules

returns_2 : tie.Need-returns
returns_2 c =
    let r = c.read-read in
    let a = c.args in
    let e = ap (λ (x : ReadAnswer). x.answer) r.ensures in
    let g = ap (λ (x : ReadAnswer). x.sheet) r.ensures in
    weaken (λ t p. at_yes (sym e ∙ c.if-refusal-ne0.false) (subst (λ (x : Sheet). ServesPage x a.interval a.starts.now a.instances.now t) g p)) c.given.ensures

pub page_of_plan_spec : {M : Type 1} → statement M
page_of_plan_spec =
    tie.close
    (tie.spec
    read_requires
    alone_requires
    put_requires
    same_length
    returns
    given_requires
    same_length_2
    returns_2)
