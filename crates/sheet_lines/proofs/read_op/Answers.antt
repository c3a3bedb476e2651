-- The line, and what its entry answers, pick the case of `line_from`.
use Rattle.std.proofs.Common.{◌≡◌, ap, arith, nat_abs, take, get_or, pos, to_z, of_z, sym, refl, ◌∙◌}
use Rattle.std.specs.Int.{w32}
use Rattle.scan.specs.Values.{bits}
use Rattle.scan.specs.declared.Line.{Line}
use Rattle.scan.specs.Line.{LineFits}
use Rattle.refusal.specs.Number.{no_zero}
use Rattle.sheet_lines.specs.Kinds.{op_kind}
use Rattle.sheet_lines.specs.Steps.{malformed, value_at_lem, cast_at, refuses, entry}
use Rattle.sheet.specs.Sheet.{no_operation}
use Rattle.sheet_lines.proofs.read_op.Goals as goal

pub returns-in_default : goal.returns-in_default
returns-in_default c = malformed (op_kind c.args.types c.args.horizon) _ c.args.at c.in_default.ensures.result_value c.requires no_operation

pub overflow_cast-resource : goal.overflow_cast-resource
overflow_cast-resource c = let r = c.in-Some.ensures in cast_at (op_kind c.args.types c.args.horizon) _ c.args.at c.in-Some.line r.result_value r.line_fits 0 (λ z. absurd (omega arith))

pub overflow_cast-lo : goal.overflow_cast-lo
overflow_cast-lo c = let r = c.in-Some.ensures in cast_at (op_kind c.args.types c.args.horizon) _ c.args.at c.in-Some.line r.result_value r.line_fits 1 (λ z. absurd (omega arith))

pub overflow_cast-hi : goal.overflow_cast-hi
overflow_cast-hi c = let r = c.in-Some.ensures in cast_at (op_kind c.args.types c.args.horizon) _ c.args.at c.in-Some.line r.result_value r.line_fits 2 (λ z. absurd (omega arith))

pub returns-in-Err : goal.returns-in-Err
returns-in-Err c =
    let r = c.in-Some.ensures in
    let at = value_at_lem (op_kind c.args.types c.args.horizon) _ c.args.at c.in-Some.line r.result_value r.line_fits in
    refuses (op_kind c.args.types c.args.horizon) _ c.args.at c.in-Some.line r.result_value r.line_fits _ (λ j. record { resource = nat_abs (at 0 (omega arith) j); lo = nat_abs (at 1 (omega arith) j); hi = nat_abs (at 2 (omega arith) j) }) c.requires no_operation (c.number.ensures ∙ c.in-Err.ensures) (λ z. no_zero _ (sym c.number.ensures ∙ z))

pub returns : goal.returns
returns c =
    let r = c.in-Some.ensures in
    let at = value_at_lem (op_kind c.args.types c.args.horizon) _ c.args.at c.in-Some.line r.result_value r.line_fits in
    entry (op_kind c.args.types c.args.horizon) _ c.args.at c.in-Some.line r.result_value r.line_fits _ (λ j. record { resource = nat_abs (at 0 (omega arith) j); lo = nat_abs (at 1 (omega arith) j); hi = nat_abs (at 2 (omega arith) j) }) c.in_default-op_answer.ensures refl
