-- `reader::read_whole` meets its contract: where the code stops, `whole_from` stops, with the same number and place.
-- Assumes nothing.
use mathlib.Core.Path.{◌≡◌}
use native.Mathlib.Omega.{arith}
use lib.ListN.{drop, take, drop_of_length-le}
use lib.Seq.{drop-cons}
use Rattle.sheet_lines.specs.Found.{found, line_from, section_from}
use Rattle.sheet_lines.specs.Kinds.{horizon_kind, cap_kind, types_kind, ops_kind, type_kind, op_kind}
use Rattle.sheet_lines.specs.Steps.{is_found, is_refused}
use Rattle.reader.specs.Whole.{too_long, stops_horizon, stops_cap, stops_types, stops_ops, stops_edges, something_more, whole, filled_length, whole_refused, whole_found}
use borrow.Author.Rules.{rules}
use Rattle.reader.proofs.read_whole.Statement.{statement}
use Rattle.reader.proofs.read_whole.Tie as tie

-- what was found by the calls before
horizon_found : (m : tie.After-read_number-cap) → let n = m in let s = n.args.bytes.now in
    line_from horizon_kind s ≡ found n.read_number-horizon.result.value (drop n.read_number-horizon.result.next s)
horizon_found m = is_found m.read_number-horizon.ensures m.if-horizon-ne0.false

cap_found : (t : tie.After-read_types-types) → let m = t in let n = m in let s = n.args.bytes.now in
    line_from cap_kind (drop n.read_number-horizon.result.next s) ≡ found m.read_number-cap.result.value (drop m.read_number-cap.result.next s)
cap_found t = is_found t.read_number-cap.ensures t.if-cap-ne0.false

types_found : (o : tie.After-read_ops-ops) → let t = o in let m = t in let s = m.args.bytes.now in
    section_from types_kind type_kind (drop m.read_number-cap.result.next s) ≡ found (take t.read_types-types.result.count t.read_types-types.result.entries) (drop t.read_types-types.result.next s)
types_found o = is_found o.read_types-types.ensures.0 o.if-types-ne0.false

ops_found : (e : tie.After-read_edges-edges) → let o = e in let t = o in let s = t.args.bytes.now in
    section_from ops_kind (op_kind t.read_types-types.result.count t.read_number-horizon.result.value) (drop t.read_types-types.result.next s) ≡ found (take o.read_ops-ops.result.count o.read_ops-ops.result.entries) (drop o.read_ops-ops.result.next s)
ops_found e = is_found e.read_ops-ops.ensures.0 e.if-ops-ne0.false

refuse_requires : tie.Need-refuse-requires
refuse_requires c κs = search rules

returns : tie.Need-returns-then-bytes-gt-LONGEST_SHEET
returns c = whole_refused c.refuse.ensures (λ z. absurd (omega arith)) (too_long _ c.if-bytes-gt-LONGEST_SHEET.true) (omega (arith, c.if-bytes-gt-LONGEST_SHEET.true))

read_number_requires : tie.Need-read_number-horizon-requires
read_number_requires c κs = search rules

refuse_requires_2 : tie.Need-refuse-requires-then-horizon-ne0
refuse_requires_2 c κs = search rules

returns_2 : tie.Need-returns-then-horizon-ne0
returns_2 c =
    let n = c in
    let h = n.if-bytes-gt-LONGEST_SHEET.false in
    let w = c.if-horizon-ne0.true in
    whole_refused c.refuse-then-horizon-ne0.ensures w (stops_horizon _ h _ _ (is_refused n.read_number-horizon.ensures w)) n.read_number-horizon.ensures.within

read_number_requires_2 : tie.Need-read_number-cap-requires
read_number_requires_2 c κs = search rules

refuse_requires_3 : tie.Need-refuse-requires-then-cap-ne0
refuse_requires_3 c κs = search rules

returns_3 : tie.Need-returns-then-cap-ne0
returns_3 c =
    let m = c.before.before.before in
    let n = m in
    let h = n.if-bytes-gt-LONGEST_SHEET.false in
    let w = c.if-cap-ne0.true in
    whole_refused c.refuse-then-cap-ne0.ensures w (stops_cap _ h _ _ (horizon_found m) _ _ (is_refused m.read_number-cap.ensures w)) m.read_number-cap.ensures.within

read_types_requires : tie.Need-read_types-types-requires
read_types_requires c κs = search rules

refuse_requires_4 : tie.Need-refuse-requires-then-types-ne0
refuse_requires_4 c κs = search rules

returns_4 : tie.Need-returns-then-types-ne0
returns_4 c =
    let t = c.before.before.before in
    let m = t.before.before.before in
    let n = m in
    let h = n.if-bytes-gt-LONGEST_SHEET.false in
    let w = c.if-types-ne0.true in
    whole_refused c.refuse-then-types-ne0.ensures w
    (stops_types _ h _ _ (horizon_found m) _ _ (cap_found t) _ _ (is_refused t.read_types-types.ensures.0 w))
    t.read_types-types.ensures.0.within

read_ops_requires : tie.Need-read_ops-ops-requires
read_ops_requires c κs = search rules

refuse_requires_5 : tie.Need-refuse-requires-then-ops-ne0
refuse_requires_5 c κs = search rules

returns_5 : tie.Need-returns-then-ops-ne0
returns_5 c =
    let o = c.before.before.before in
    let t = o.before.before.before in
    let m = t.before.before.before in
    let n = m in
    let h = n.if-bytes-gt-LONGEST_SHEET.false in
    let w = c.if-ops-ne0.true in
    whole_refused c.refuse-then-ops-ne0.ensures w
    (stops_ops _ h _ _ (horizon_found m) _ _ (cap_found t) _ _ (types_found o) _ (filled_length t.read_types-types.ensures.1) _ _ (is_refused o.read_ops-ops.ensures.0 w))
    o.read_ops-ops.ensures.0.within

read_edges_requires : tie.Need-read_edges-edges-requires
read_edges_requires c κs = search rules

refuse_requires_6 : tie.Need-refuse-requires-then-edges-ne0
refuse_requires_6 c κs = search rules

returns_6 : tie.Need-returns-then-edges-ne0
returns_6 c =
    let e = c.before.before.before in
    let o = e.before.before.before in
    let t = o.before.before.before in
    let m = t.before.before.before in
    let n = m in
    let h = n.if-bytes-gt-LONGEST_SHEET.false in
    let w = c.if-edges-ne0.true in
    whole_refused c.refuse-then-edges-ne0.ensures w
    (stops_edges _ h _ _ (horizon_found m) _ _ (cap_found t) _ _ (types_found o) _ (filled_length t.read_types-types.ensures.1) _ _ (ops_found e) _ (filled_length o.read_ops-ops.ensures.1) _ _
    (is_refused e.read_edges-edges.ensures.0 w))
    e.read_edges-edges.ensures.0.within

returns_7 : tie.Need-returns-then-edges-bytes
returns_7 c =
    let e = c.before.before.before.before.before in
    let o = e.before.before.before in
    let t = o.before.before.before in
    let m = t.before.before.before in
    let n = m in
    let h = n.if-bytes-gt-LONGEST_SHEET.false in
    let s = n.args.bytes.now in
    whole_refused c.refuse-then-edges-bytes.ensures (λ z. absurd (omega arith))
    (something_more _ h _ _ (horizon_found m) _ _ (cap_found t) _ _ (types_found o) _ (filled_length t.read_types-types.ensures.1) _ _ (ops_found e) _ (filled_length o.read_ops-ops.ensures.1) _ _
    (is_found e.read_edges-edges.ensures.0 c.if-edges-ne0.false) _ _ (drop-cons s e.read_edges-edges.result.next 0 c.if-edges-bytes.true))
    e.read_edges-edges.ensures.0.within

accept_requires : tie.Need-accept-requires
accept_requires c κs = search rules

returns_8 : tie.Need-returns
returns_8 c =
    let e = c.before.before.before.before.before in
    let o = e.before.before.before in
    let t = o.before.before.before in
    let m = t.before.before.before in
    let n = m in
    let h = n.if-bytes-gt-LONGEST_SHEET.false in
    let s = n.args.bytes.now in
    whole_found c.accept.ensures t.read_types-types.ensures.1 o.read_ops-ops.ensures.1 e.read_edges-edges.ensures.1
    (whole _ h _ _ (horizon_found m) _ _ (cap_found t) _ _ (types_found o) _ (filled_length t.read_types-types.ensures.1) _ _ (ops_found e) _ (filled_length o.read_ops-ops.ensures.1) _ _
    (is_found e.read_edges-edges.ensures.0 c.if-edges-ne0.false) (drop_of_length-le s (omega arith)))
    e.read_edges-edges.ensures.0.within

pub read_whole_spec : {M : Type 1} → statement M
read_whole_spec =
    tie.close
    (tie.spec
    refuse_requires
    returns
    read_number_requires
    refuse_requires_2
    returns_2
    read_number_requires_2
    refuse_requires_3
    returns_3
    read_types_requires
    refuse_requires_4
    returns_4
    read_ops_requires
    refuse_requires_5
    returns_5
    read_edges_requires
    refuse_requires_6
    returns_6
    (λ c κs. search rules)
    returns_7
    accept_requires
    returns_8)
