-- `writer::line_at` meets its contract.
-- From what the writer of each kind of line ensures, and the places of a sheet's lines.
use Prim.Native.Nat.{ℕ, ◌*◌, ◌-◌, ◌^◌, ◌≤◌, ◌<◌}
use native.Mathlib.Nat.{lt_of_lt_of_le}
use mathlib.Core.Path.{◌≡◌, sym, ap, ◌∙◌}
use lib.ListN.{length}
use Rattle.sizes.specs.Sizes.{most_types, most_operations, most_edges}
use Rattle.text.specs.Keys.{ops_key, edges_key}
use Rattle.text.specs.Lines.{line_text_of}
use Rattle.text.specs.Joined.{one_number}
use Rattle.sheet.specs.Facts.{horizon_most, types_most, ops_most, edges_most}
use Rattle.writer.specs.Lines.{line_count_lem, last_place, type_place, ops_place, op_place, edges_place, edge_place}
use native.Mathlib.Omega.{arith}
use borrow.Author.Rules.{rules}
use Rattle.writer.proofs.line_at.Statement.{statement}
use Rattle.writer.proofs.line_at.Tie as tie

-- the arrays hold the entries counted
fits : (c : tie.Start) → (c.args.s.type_count ≤ length c.args.s.types) × (c.args.s.op_count ≤ length c.args.s.ops) × (c.args.s.edge_count ≤ length c.args.s.edges)
fits c =
    let r = types_most c.requires.0 in
    let n = ops_most c.requires.0 in
    let e = edges_most c.requires.0 in
    let a : length c.args.s.types ≡ most_types = c.well_formed.0.1.1.1.1.1.0.1.0.1 in
    let b : length c.args.s.ops ≡ most_operations = c.well_formed.0.1.1.1.1.1.1.1.0.1.0.1 in
    let d : length c.args.s.edges ≡ most_edges = c.well_formed.0.1.1.1.1.1.1.1.1.1.0.1.0.1 in
    (omega arith, omega arith, omega arith)

-- past the other lines stand those of the edges
edge_below : (c : tie.Start) → 3 ≤ c.args.i → c.args.s.type_count ≤ c.args.i - 3 → (c.args.i - 3 ≡ c.args.s.type_count → ⊥)
    → c.args.s.op_count ≤ c.args.i - 3 - c.args.s.type_count - 1 → (c.args.i - 3 - c.args.s.type_count - 1 ≡ c.args.s.op_count → ⊥)
    → c.args.i - 3 - c.args.s.type_count - 1 - c.args.s.op_count - 1 < c.args.s.edge_count
edge_below c h p q u v =
    let f = fits c in
    let n = line_count_lem c.args.s f.0 f.1 f.2 in
    last_place c.args.i c.args.s.type_count c.args.s.op_count c.args.s.edge_count h p q u v (rw n at c.requires.1)

small_place : (x : ℕ) → x < most_edges → x * 32 < 2 ^ 64
small_place x h = omega arith

head_line_requires : tie.Need-head_line-requires
head_line_requires c κs = (c.requires.0, c.if-i-lt-HEAD_LINES.true)

returns : tie.Need-returns-then-i-lt-HEAD_LINES
returns c = c.head_line.ensures

mul_type_line : tie.Need-offset_bounds-s-j
mul_type_line c = let m = types_most c.requires.0 in omega arith

element_copy_out_type_line : tie.Need-bounds-s-j
element_copy_out_type_line c = let m = types_most c.requires.0 in omega arith

type_line_requires : tie.Need-type_line-requires
type_line_requires c κs = c.requires.0.each_type (c.args.i - 3) c.if-j-s.true

returns_2 : tie.Need-returns-then-j-s
returns_2 c =
    let s = c.before.before.before.before in
    let f = fits s in
    c.type_line.ensures ∙ ap line_text_of (sym (type_place s.args.s f.0 f.1 f.2 s.args.i c.if-i-lt-HEAD_LINES.false c.if-j-s.true))

count_line_requires : tie.Need-count_line-requires
count_line_requires c κs = search rules

returns_3 : tie.Need-returns-then-j-s-2
returns_3 c =
    let s = c.before.before.before.before in
    let f = fits s in
    let m = ops_most s.requires.0 in
    one_number ops_key s.args.s.op_count (omega arith) c.count_line.ensures ∙ ap line_text_of (sym (ops_place s.args.s f.0 f.1 f.2 s.args.i c.if-i-lt-HEAD_LINES.false c.if-j-s-2.true))

sub_k : tie.Need-overflow_sub-k
sub_k c = omega arith

sub_k_2 : tie.Need-overflow_sub-k-2
sub_k_2 c = omega arith

mul_op_line : tie.Need-offset_bounds-s-k
mul_op_line c = let m = ops_most c.requires.0 in omega arith

element_copy_out_op_line : tie.Need-bounds-s-k
element_copy_out_op_line c = let m = ops_most c.requires.0 in omega arith

op_line_requires : tie.Need-op_line-requires
op_line_requires c κs =
    let s = c in
    let o = s.requires.0.each_op (s.args.i - 3 - s.args.s.type_count - 1) c.if-k-s.true in
    let h = horizon_most s.requires.0 in
    record { resource = lt_of_lt_of_le o.resource (types_most s.requires.0); lo = lt_of_lt_of_le o.lo h; hi = lt_of_lt_of_le o.hi h }

returns_4 : tie.Need-returns-then-k-s
returns_4 c =
    let s = c.before.before.before.before.before.before in
    let f = fits s in
    let p = c.if-j-s.false in
    let q = c.if-j-s-2.false in
    c.op_line.ensures ∙ ap line_text_of (sym (op_place s.args.s f.0 f.1 f.2 s.args.i c.if-i-lt-HEAD_LINES.false (omega arith) c.if-k-s.true))

count_line_requires_2 : tie.Need-count_line-requires-then-k-s-2
count_line_requires_2 c κs = search rules

returns_5 : tie.Need-returns-then-k-s-2
returns_5 c =
    let s = c.before.before.before.before.before.before in
    let f = fits s in
    let p = c.if-j-s.false in
    let q = c.if-j-s-2.false in
    let m = edges_most s.requires.0 in
    one_number edges_key s.args.s.edge_count (omega arith) c.count_line-then-k-s-2.ensures ∙ ap line_text_of (sym (edges_place s.args.s f.0 f.1 f.2 s.args.i c.if-i-lt-HEAD_LINES.false (omega arith) c.if-k-s-2.true))

sub_edge_line : tie.Need-overflow_sub-k-3
sub_edge_line c = omega arith

sub_edge_line_2 : tie.Need-overflow_sub-k-4
sub_edge_line_2 c = omega arith

mul_edge_line : tie.Need-offset_bounds-s-k-2
mul_edge_line c = record { fits = small_place _ (lt_of_lt_of_le (edge_below c.before.before.before.before.before c.if-i-lt-HEAD_LINES.false c.if-j-s.false c.if-j-s-2.false c.if-k-s.false c.if-k-s-2.false) (edges_most c.requires.0)) }

element_copy_out_edge_line : tie.Need-bounds-s-k-2
element_copy_out_edge_line c = lt_of_lt_of_le (edge_below c.before.before.before.before.before c.if-i-lt-HEAD_LINES.false c.if-j-s.false c.if-j-s-2.false c.if-k-s.false c.if-k-s-2.false) (edges_most c.requires.0)

edge_line_requires : tie.Need-edge_line-requires
edge_line_requires c κs =
    let s = c.before.before.before.before.before.before in
    let o = ops_most s.requires.0 in
    let e = s.requires.0.each_edge _ (edge_below s c.if-i-lt-HEAD_LINES.false c.if-j-s.false c.if-j-s-2.false c.if-k-s.false c.if-k-s-2.false) in
    record { from = lt_of_lt_of_le e.from o; to = lt_of_lt_of_le e.to o; delay = e.delay; distance = e.distance }

returns_6 : tie.Need-returns
returns_6 c =
    let s = c.before.before.before.before.before.before.before in
    let f = fits s in
    let p = c.if-j-s.false in
    let q = c.if-j-s-2.false in
    let u = c.if-k-s.false in
    let v = c.if-k-s-2.false in
    c.edge_line.ensures ∙ ap line_text_of (sym (edge_place s.args.s f.0 f.1 f.2 s.args.i c.if-i-lt-HEAD_LINES.false (omega arith) (omega arith) s.requires.1))

pub line_at_spec : {M : Type 1} → statement M
line_at_spec =
    tie.close
    (tie.spec
    head_line_requires
    returns
    mul_type_line
    element_copy_out_type_line
    type_line_requires
    returns_2
    count_line_requires
    returns_3
    sub_k
    sub_k_2
    mul_op_line
    element_copy_out_op_line
    op_line_requires
    returns_4
    count_line_requires_2
    returns_5
    sub_edge_line
    sub_edge_line_2
    mul_edge_line
    element_copy_out_edge_line
    edge_line_requires
    returns_6)
