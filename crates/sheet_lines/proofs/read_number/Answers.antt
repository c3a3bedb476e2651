-- The line, and what its entry answers, pick the case of `line_from`.
use Rattle.std.proofs.Common.{◌≡◌, ap, arith, nat_abs, take, get_or, pos, to_z, of_z, sym, refl, ◌∙◌}
use Rattle.std.specs.Int.{w32}
use Rattle.scan.specs.Values.{bits}
use Rattle.scan.specs.declared.Line.{Line}
use Rattle.scan.specs.Line.{LineFits}
use Rattle.refusal.specs.Number.{no_zero}
use Rattle.sheet.specs.Ranges.{row_of}
use Rattle.sheet_lines.specs.Kinds.{number_kind}
use Rattle.sheet_lines.specs.Steps.{malformed, value_at_lem, cast_at, refuses, entry}
use Rattle.sheet_lines.proofs.read_number.Goals as goal

pub returns-in_default : goal.returns-in_default
returns-in_default c = malformed (number_kind c.args.key.now (row_of c.args.field)) _ c.args.at c.in_default.ensures.result_value c.requires 0

pub overflow_cast-value : goal.overflow_cast-value
overflow_cast-value c = let r = c.in-Some.ensures in cast_at (number_kind c.args.key.now (row_of c.args.field)) _ c.args.at c.in-Some.line r.result_value r.line_fits 0 (λ z. absurd (omega arith))

pub returns-in-Err : goal.returns-in-Err
returns-in-Err c =
    let r = c.in-Some.ensures in
    let at = value_at_lem (number_kind c.args.key.now (row_of c.args.field)) _ c.args.at c.in-Some.line r.result_value r.line_fits in
    refuses (number_kind c.args.key.now (row_of c.args.field)) _ c.args.at c.in-Some.line r.result_value r.line_fits _ (ap nat_abs (at 0 (omega arith))) c.requires 0 (c.number.ensures ∙ c.in-Err.ensures) (λ z. no_zero _ (sym c.number.ensures ∙ z))

pub returns : goal.returns
returns c =
    let r = c.in-Some.ensures in
    let at = value_at_lem (number_kind c.args.key.now (row_of c.args.field)) _ c.args.at c.in-Some.line r.result_value r.line_fits in
    entry (number_kind c.args.key.now (row_of c.args.field)) _ c.args.at c.in-Some.line r.result_value r.line_fits _ (ap nat_abs (at 0 (omega arith))) c.in_default-number_answer.ensures refl
