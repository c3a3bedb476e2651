-- The line has the three numbers of a type, which are small enough for the casts to keep them.
use Rattle.std.proofs.Common.{arith, [], ◌∷◌, ◌∙◌, w32}
use Rattle.std.proofs.lemmas.Int.{to_z_pos}
use Rattle.text.specs.Text.{line_text}
use Rattle.text.specs.Keys.{type_key}
use Rattle.sheet.specs.Facts.{most}
use Rattle.writer.proofs.type_line.Goals as goal

pub returns : goal.returns
returns c =
    let t = c.args.t in
    let a = to_z_pos w32 t.instances (omega (arith, most c.requires.instances)) in
    let d = to_z_pos w32 t.latency (omega (arith, most c.requires.latency)) in
    let k = to_z_pos w32 t.busy (omega (arith, most c.requires.busy)) in
    c.line_of.ensures.result_value ∙ (λ i. line_text type_key (a i ∷ d i ∷ k i ∷ []))
