-- `sheet_graph::latency_of` meets its contract: past the array the type is the default, whose latency is 0.
-- Assumes nothing.
use native.Mathlib.Omega.{arith}
use mathlib.Core.Path.{sym, ap}
use lib.ListN.{get_or-eq_default}
use Rattle.sheet.specs.declared.ResourceType.{ResourceType}
use Rattle.sheet.specs.Sheet.{no_type}
use borrow.Author.Rules.{rules}
use Rattle.sheet_graph.proofs.latency_of.Statement.{statement}
use Rattle.sheet_graph.proofs.latency_of.Tie as tie

returns : tie.Need-returns-then-resource-ge-MOST_TYPES
returns c = sym (ap (λ (t : ResourceType). t.latency) (get_or-eq_default c.args.types no_type (omega arith)))

mul_found : tie.Need-offset_bounds-types-resource
mul_found c = search rules

array_copy_out_found : tie.Need-bounds-types-resource
array_copy_out_found c = search rules

returns_2 : tie.Need-returns
returns_2 c = search rules

pub latency_of_spec : {M : Type 1} → statement M
latency_of_spec = tie.close (tie.spec returns mul_found array_copy_out_found returns_2)
