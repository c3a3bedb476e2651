-- `table_command::put_refusal` meets its contract: the line is made in a buffer of its own, and goes into the lent one
-- whole.
-- From what `count_line`, `put_line` and `put_text` ensure.
use Prim.Native.Nat.{ℕ, ◌≤◌}
use native.Mathlib.Omega.{arith}
use mathlib.Core.Path.{◌≡◌, sym, ap, ◌∙◌}
use mathlib.Core.List.{List}
use lib.ListN.{length, take, drop, replicate}
use lib.Seq.{length-take-le, take_at}
use Rattle.text.specs.Keys.{answer_key}
use Rattle.text.specs.Line.{text_of, written_of}
use Rattle.text.specs.Text.{over, buffer_of}
use Rattle.text.specs.Answers.{answer_line, refusal_text}
use Rattle.text.specs.Bounds.{answer_most_lem}
use Rattle.text.specs.Filling.{one_line}
use Rattle.text.specs.Joined.{one_number}
use Rattle.text.specs.Writing.{fitting, length_over}
use borrow.Author.Rules.{rules}
use Rattle.table_command.proofs.put_refusal.Statement.{statement}
use Rattle.table_command.proofs.put_refusal.Tie as tie

-- the line of its own, and that it has room
line_text_lem : (c : tie.After-count_line) → text_of c.count_line.result ≡ refusal_text c.args.answer
line_text_lem c =
    let s = c in
    one_number answer_key s.args.answer (omega (arith, s.requires)) c.count_line.ensures ∙ sym (one_line (answer_line s.args.answer))

line_room : (c : tie.After-count_line) → length (text_of c.count_line.result) ≤ 11
line_room c =
    let s = c in
    omega (arith, ap length (line_text_lem c), answer_most_lem s.args.answer s.requires)

-- it stands at the front of the array, counted whole
line_put : (c : tie.After-put_line-count) → (c.put_line-count.result ≡ length (text_of c.count_line.result)) × (c.put_line-count.new.out ≡ over (text_of c.count_line.result) (replicate 11 0))
line_put c =
    let f = fitting (text_of c.count_line.result) (replicate 11 0) (line_room c.before) in
    (c.put_line-count.ensures.0 ∙ f.0, c.put_line-count.ensures.1 ∙ f.1)

slice_aggregate_put_line : tie.Need-slice_bounds-put_line-end
slice_aggregate_put_line c = search rules

count_line_requires : tie.Need-count_line-requires
count_line_requires c κs = search rules

put_line_requires : tie.Need-put_line-count-requires
put_line_requires c κs = search rules

array_share_prefix_line : tie.Need-slice_bounds-line-end
array_share_prefix_line c =
    let p = c.before.before in
    let e = line_put p in
    omega (arith, e.0, ap length e.1, line_room p.before, length_over (text_of p.count_line.result) (replicate 11 0) (line_room p.before))

slice_aggregate_put_text : tie.Need-slice_bounds-put_text-end
slice_aggregate_put_text c =
    let p = c.before.before.before in
    let e = line_put p in
    sym (length-take-le p.put_line-count.result p.put_line-count.new.out
    (omega (arith, e.0, ap length e.1, line_room p.before, length_over (text_of p.count_line.result) (replicate 11 0) (line_room p.before))))

put_text_requires : tie.Need-put_text-requires
put_text_requires c κs = search rules

same_length : tie.Need-shape_of-out
same_length c = search rules

returns : tie.Need-returns
unfolding over
returns c =
    let p = c.before.before.before.before.before.before in
    let a = p.args in
    let e = line_put p in
    let l = text_of p.count_line.result in
    let t : take p.put_line-count.result p.put_line-count.new.out ≡ refusal_text a.answer =
    ap (take p.put_line-count.result) e.1 ∙ take_at l (drop (length l) (replicate 11 0)) p.put_line-count.result (sym e.0) ∙ line_text_lem p.before in
    let w = c.put_text.ensures in
    (w.0 ∙ ap (λ (x : List ℕ). written_of x a.out.now) t, w.1 ∙ ap (λ (x : List ℕ). buffer_of x a.out.now) t)

pub put_refusal_spec : {M : Type 1} → statement M
put_refusal_spec =
    tie.close
    (tie.spec
    slice_aggregate_put_line
    count_line_requires
    put_line_requires
    array_share_prefix_line
    slice_aggregate_put_text
    put_text_requires
    same_length
    returns)
