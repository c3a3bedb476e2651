-- The line has one number, the smaller of n and the greatest that a line can have, which the cast keeps.
use Rattle.std.proofs.Common.{arith, ℤ, pos, [], ◌∷◌, ap, ◌∙◌, w32}
use Rattle.std.proofs.lemmas.Int.{to_z_pos}
use Rattle.text.specs.Text.{line_text}
use Rattle.text.specs.Line.{key_of}
use Rattle.text_line.proofs.count_line.Goals as goal

pub returns : goal.returns
returns c =
    let k = key_of c.args.key in
    c.line_of.ensures.result_value ∙ ap (λ (v : ℤ). line_text k (v ∷ [])) (to_z_pos w32 _ (omega arith) ∙ ap pos (omega arith))
