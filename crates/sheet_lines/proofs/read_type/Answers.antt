-- The line, and what its entry answers, pick the case of `line_from`.
use Rattle.std.proofs.Common.{◌≡◌, ap, arith, nat_abs, take, get_or, pos, to_z, of_z, sym, refl, ◌∙◌}
use Rattle.std.specs.Int.{w32}
use Rattle.scan.specs.Values.{bits}
use Rattle.scan.specs.declared.Line.{Line}
use Rattle.scan.specs.Line.{LineFits}
use Rattle.refusal.specs.Number.{no_zero}
use Rattle.sheet_lines.specs.Kinds.{type_kind}
use Rattle.sheet_lines.specs.Steps.{malformed, value_at_lem, cast_at, refuses, entry}
use Rattle.sheet.specs.Sheet.{no_type}
use Rattle.sheet_lines.proofs.read_type.Goals as goal

pub returns-in_default : goal.returns-in_default
returns-in_default c = malformed type_kind _ c.args.at c.in_default.ensures.result_value c.requires no_type

pub overflow_cast-instances : goal.overflow_cast-instances
overflow_cast-instances c = let r = c.in-Some.ensures in cast_at type_kind _ c.args.at c.in-Some.line r.result_value r.line_fits 0 (λ z. absurd (omega arith))

pub overflow_cast-latency : goal.overflow_cast-latency
overflow_cast-latency c = let r = c.in-Some.ensures in cast_at type_kind _ c.args.at c.in-Some.line r.result_value r.line_fits 1 (λ z. absurd (omega arith))

pub overflow_cast-busy : goal.overflow_cast-busy
overflow_cast-busy c = let r = c.in-Some.ensures in cast_at type_kind _ c.args.at c.in-Some.line r.result_value r.line_fits 2 (λ z. absurd (omega arith))

pub returns-in-Err : goal.returns-in-Err
returns-in-Err c =
    let r = c.in-Some.ensures in
    let at = value_at_lem type_kind _ c.args.at c.in-Some.line r.result_value r.line_fits in
    refuses type_kind _ c.args.at c.in-Some.line r.result_value r.line_fits _ (λ j. record { instances = nat_abs (at 0 (omega arith) j); latency = nat_abs (at 1 (omega arith) j); busy = nat_abs (at 2 (omega arith) j) }) c.requires no_type (c.number.ensures ∙ c.in-Err.ensures) (λ z. no_zero _ (sym c.number.ensures ∙ z))

pub returns : goal.returns
returns c =
    let r = c.in-Some.ensures in
    let at = value_at_lem type_kind _ c.args.at c.in-Some.line r.result_value r.line_fits in
    entry type_kind _ c.args.at c.in-Some.line r.result_value r.line_fits _ (λ j. record { instances = nat_abs (at 0 (omega arith) j); latency = nat_abs (at 1 (omega arith) j); busy = nat_abs (at 2 (omega arith) j) }) c.in_default-type_answer.ensures refl
