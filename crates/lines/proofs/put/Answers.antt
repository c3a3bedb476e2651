-- From the text of the lines that are shown.
use Rattle.std.proofs.Common.{rules, ℕ, List, sym, ap, ◌∙◌}
use Rattle.text.specs.Text.{buffer_of}
use Rattle.text.specs.Line.{written_of}
use Rattle.lines.specs.Shown.{shown_lines, shown_text}
use Rattle.lines.proofs.put.Goals as goal

pub returns : goal.returns
returns c =
    let out = c.args.out.now in
    let e = c.put_lines.ensures (shown_lines c.args.ls) (search rules) in
    let t = sym (shown_text c.args.ls) in
    record { value = e.0 ∙ ap (λ (x : List ℕ). written_of x out) t; out_after = e.1 ∙ ap (λ (x : List ℕ). buffer_of x out) t }
