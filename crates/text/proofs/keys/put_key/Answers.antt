-- From the law of text that fits a buffer.
use Rattle.std.proofs.Common.{ℕ, List, ap, ◌∙◌}
use Rattle.text.specs.Text.{buffer_of}
use Rattle.text.specs.Line.{key_of, count_of}
use Rattle.text.specs.Writing.{fitting}
use Rattle.text.proofs.keys.put_key.Goals as goal

pub returns : goal.returns
returns c =
    let out = c.args.out.now in
    let k = c.key_bytes.ensures in
    let p = c.put_bytes.ensures in
    let g = fitting (key_of c.args.key) out c.requires in
    (p.value ∙ ap (λ (x : List ℕ). count_of x out) k ∙ g.0, p.out_after ∙ ap (λ (x : List ℕ). buffer_of x out) k ∙ g.1)
