-- `text_line::put_value` meets its contract.
-- From the law of one text after another.
use Prim.Native.Nat.{ℕ}
use mathlib.Core.Path.{ap, ◌∙◌}
use mathlib.Core.List.{[], ◌∷◌, ◌++◌}
use native.Mathlib.Omega.{arith}
use mir.Facts.{to_z-of_z}
use Rattle.text.specs.Text.{signed_text}
use Rattle.text.specs.Joined.{value_text, value_length}
use Rattle.text.specs.Writing.{pasted, paste_more}
use borrow.Author.Rules.{rules}
use Rattle.text_line.proofs.put_value.Statement.{statement}
use Rattle.text_line.proofs.put_value.Tie as tie

put_signed_at_requires : tie.Need-put_signed_at-end-requires
put_signed_at_requires c κs = rw (to_z-of_z c.ranges.value) (omega arith)

end_byte_requires : tie.Need-end_byte-requires
end_byte_requires c κs = search rules

put_byte_at_requires : tie.Need-put_byte_at-requires
put_byte_at_requires c κs = let p = c.put_signed_at-end in
    let q = rw (to_z-of_z c.ranges.value) at p.ensures.0 in
    let k = p.auto.out in
    omega arith

same_length : tie.Need-shape_of-out
same_length c = search rules

returns : tie.Need-returns
unfolding value_text
returns c = let s = c in
    let v = s.args.value in
    let old = s.args.out.now in
    let p = c.put_signed_at-end in
    let q = rw (to_z-of_z s.ranges.value) at p.ensures in
    let e = c.end_byte in
    let b = c.put_byte_at.ensures in
    let l = value_length v s.args.more in
    let r = q.0 in
    let t = b.0 in (
      omega arith,
      b.1 ∙ ap (pasted p.result (e.result ∷ [])) q.1 ∙ paste_more (signed_text v) (e.result ∷ []) old s.args.at p.result (omega arith) q.0
          ∙ ap (λ (x : ℕ). pasted s.args.at (signed_text v ++ (x ∷ [])) old) e.ensures,
    )

pub put_value_spec : {M : Type 1} → statement M
put_value_spec =
    tie.close
    (tie.spec put_signed_at_requires end_byte_requires put_byte_at_requires same_length returns)
