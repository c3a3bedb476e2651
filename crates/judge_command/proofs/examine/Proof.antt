-- `judge_command::examine` meets its contract.
-- From what `read`, `judge` and `line_at_fault` ensure.
use mathlib.Core.Path.{◌≡◌, refl, sym, ap, subst, ◌∙◌}
use Rattle.sheet.specs.declared.Sheet.{Sheet}
use Rattle.sheet.specs.Questions.{at_no, at_yes}
use Rattle.reader.specs.declared.ReadAnswer.{ReadAnswer}
use Rattle.reader.specs.Read.{read_of}
use Rattle.judge.specs.Answers.{JudgedAt}
use Rattle.judge.specs.Fault.{FaultAt}
use borrow.Author.Rules.{rules}
use Rattle.judge_command.proofs.examine.Statement.{statement}
use Rattle.judge_command.proofs.examine.Tie as tie

-- what was read
number : (c : tie.After-read-read) → c.read-read.result.answer ≡ (read_of c.args.bytes.now).answer
number c = ap (λ (x : ReadAnswer). x.answer) c.read-read.ensures

sheet : (c : tie.After-read-read) → c.read-read.result.sheet ≡ (read_of c.args.bytes.now).sheet
sheet c = ap (λ (x : ReadAnswer). x.sheet) c.read-read.ensures

read_requires : tie.Need-read-read-requires
read_requires c κs = search rules

returns : tie.Need-returns-then-refusal-ne0
returns c =
    let e = number c.before in
    record { answer = at_no (λ z. c.if-refusal-ne0.true (e ∙ z)) e; line = at_no (λ z. c.if-refusal-ne0.true (e ∙ z)) refl }

judge_requires : tie.Need-judge-answer-requires
judge_requires c κs = search rules

line_at_fault_requires : tie.Need-line_at_fault-line-requires
line_at_fault_requires c κs = search rules

returns_2 : tie.Need-returns
returns_2 c =
    let j = c in
    let i = j in
    let r = i.before.before.before.before in
    let given = r.args.given.now in
    let yes = sym (number r) ∙ i.if-refusal-ne0.false in
    record {
      answer = at_yes yes (subst (λ (x : Sheet). JudgedAt x given j.judge-answer.result) (sheet r) j.judge-answer.ensures);
      line = at_yes yes (subst (λ (x : Sheet). FaultAt x given c.line_at_fault-line.result) (sheet r) c.line_at_fault-line.ensures);
    }

pub examine_spec : {M : Type 1} → statement M
examine_spec =
    tie.close (tie.spec read_requires returns judge_requires line_at_fault_requires returns_2)
