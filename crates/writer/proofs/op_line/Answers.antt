-- The line has the three numbers of an operation, which are small enough for the casts to keep them.
use Rattle.std.proofs.Common.{arith, [], ◌∷◌, ◌∙◌, w32}
use Rattle.std.proofs.lemmas.Int.{to_z_pos}
use Rattle.text.specs.Text.{line_text}
use Rattle.text.specs.Keys.{op_key}
use Rattle.writer.proofs.op_line.Goals as goal

pub returns : goal.returns
returns c =
    let o = c.args.o in
    let r = to_z_pos w32 o.resource (omega (arith, c.requires.resource)) in
    let l = to_z_pos w32 o.lo (omega (arith, c.requires.lo)) in
    let h = to_z_pos w32 o.hi (omega (arith, c.requires.hi)) in
    c.line_of.ensures.result_value ∙ (λ i. line_text op_key (r i ∷ l i ∷ h i ∷ []))
