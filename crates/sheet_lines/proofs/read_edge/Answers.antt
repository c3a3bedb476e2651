-- The line, and what its entry answers, pick the case of `line_from`.
use Rattle.std.proofs.Common.{◌≡◌, ap, arith, nat_abs, take, get_or, pos, to_z, of_z, sym, refl, ◌∙◌}
use Rattle.std.specs.Int.{w32}
use Rattle.scan.specs.Values.{bits}
use Rattle.scan.specs.declared.Line.{Line}
use Rattle.scan.specs.Line.{LineFits}
use Rattle.refusal.specs.Number.{no_zero}
use Rattle.sheet_lines.specs.Kinds.{edge_kind}
use Rattle.sheet_lines.specs.Steps.{malformed, value_at_lem, cast_at, refuses, entry}
use Rattle.dependence.specs.Graph.{no_edge}
use Rattle.sheet_lines.proofs.read_edge.Goals as goal

pub returns-in_default : goal.returns-in_default
returns-in_default c = malformed (edge_kind c.args.ops) _ c.args.at c.in_default.ensures.result_value c.requires no_edge

pub overflow_cast-entry : goal.overflow_cast-entry
overflow_cast-entry c = let r = c.in-Some.ensures in cast_at (edge_kind c.args.ops) _ c.args.at c.in-Some.line r.result_value r.line_fits 0 (λ z. absurd (omega arith))

pub overflow_cast-entry-2 : goal.overflow_cast-entry-2
overflow_cast-entry-2 c = let r = c.in-Some.ensures in cast_at (edge_kind c.args.ops) _ c.args.at c.in-Some.line r.result_value r.line_fits 1 (λ z. absurd (omega arith))

pub overflow_cast-entry-3 : goal.overflow_cast-entry-3
overflow_cast-entry-3 c = let r = c.in-Some.ensures in cast_at (edge_kind c.args.ops) _ c.args.at c.in-Some.line r.result_value r.line_fits 3 (λ z. absurd (omega arith))

pub returns-in-Err : goal.returns-in-Err
returns-in-Err c =
    let r = c.in-Some.ensures in
    let at = value_at_lem (edge_kind c.args.ops) _ c.args.at c.in-Some.line r.result_value r.line_fits in
    refuses (edge_kind c.args.ops) _ c.args.at c.in-Some.line r.result_value r.line_fits _ (λ j. record { from = nat_abs (at 0 (omega arith) j); to = nat_abs (at 1 (omega arith) j); delay = at 2 (omega arith) j; distance = nat_abs (at 3 (omega arith) j) }) c.requires no_edge (c.number.ensures ∙ c.in-Err.ensures) (λ z. no_zero _ (sym c.number.ensures ∙ z))

pub returns : goal.returns
returns c =
    let r = c.in-Some.ensures in
    let at = value_at_lem (edge_kind c.args.ops) _ c.args.at c.in-Some.line r.result_value r.line_fits in
    entry (edge_kind c.args.ops) _ c.args.at c.in-Some.line r.result_value r.line_fits _ (λ j. record { from = nat_abs (at 0 (omega arith) j); to = nat_abs (at 1 (omega arith) j); delay = at 2 (omega arith) j; distance = nat_abs (at 3 (omega arith) j) }) c.in_default-edge_answer.ensures refl
