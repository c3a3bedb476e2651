-- `writer::head_line` meets its contract.
-- From what `count_line` ensures.
use Prim.Native.Nat.{ℕ}
use mathlib.Core.Path.{◌≡◌, sym, ap, ◌∙◌}
use lib.ListN.{get_or}
use Rattle.text.specs.Keys.{horizon_key, cap_key, types_key}
use Rattle.text.specs.Lines.{line_text_of, no_line}
use Rattle.text.specs.Joined.{one_number}
use Rattle.sheet.specs.Text.{sheet_lines}
use Rattle.sheet.specs.Facts.{horizon_most, cap_most, types_most}
use native.Mathlib.Omega.{arith}
use borrow.Author.Rules.{rules}
use Rattle.writer.proofs.head_line.Statement.{statement}
use Rattle.writer.proofs.head_line.Tie as tie

count_line_requires : tie.Need-count_line-requires
count_line_requires c κs = search rules

returns : tie.Need-returns-then-i-eq0
unfolding sheet_lines
returns c =
    let s = c in
    let m = horizon_most s.requires.0 in
    one_number horizon_key s.args.s.horizon (omega arith) c.count_line.ensures
    ∙ ap (λ (k : ℕ). line_text_of (get_or (sheet_lines s.args.s) k no_line)) (sym c.if-i-eq0.true)

count_line_requires_2 : tie.Need-count_line-requires-then-i-eq1
count_line_requires_2 c κs = search rules

returns_2 : tie.Need-returns-then-i-eq1
unfolding sheet_lines
returns_2 c =
    let s = c in
    let m = cap_most s.requires.0 in
    one_number cap_key s.args.s.cap (omega arith) c.count_line-then-i-eq1.ensures
    ∙ ap (λ (k : ℕ). line_text_of (get_or (sheet_lines s.args.s) k no_line)) (sym c.if-i-eq1.true)

count_line_requires_3 : tie.Need-count_line-requires-2
count_line_requires_3 c κs = search rules

returns_3 : tie.Need-returns
unfolding sheet_lines
returns_3 c =
    let s = c in
    let e : s.args.i ≡ 2 = omega arith in
    let m = types_most s.requires.0 in
    one_number types_key s.args.s.type_count (omega arith) c.count_line-2.ensures
    ∙ ap (λ (k : ℕ). line_text_of (get_or (sheet_lines s.args.s) k no_line)) (sym e)

pub head_line_spec : {M : Type 1} → statement M
head_line_spec =
    tie.close
    (tie.spec
    count_line_requires
    returns
    count_line_requires_2
    returns_2
    count_line_requires_3
    returns_3)
