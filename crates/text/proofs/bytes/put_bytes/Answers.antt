-- From the laws of text that fits a buffer and of text that does not.
use Rattle.std.proofs.Common.{ℕ, List, ◌++◌, sym, ap, ◌∙◌, length, drop}
use Rattle.text.specs.Text.{over}
use Rattle.text.specs.Writing.{fitting, too_long}
use Rattle.text.proofs.bytes.put_bytes.Goals as goal

pub returns-then-out-bytes : goal.returns-then-out-bytes
returns-then-out-bytes c =
    let g = too_long c.args.bytes.now c.args.out.now c.if-out-bytes.true in
    record { value = sym g.0; out_after = sym g.1 }

pub returns : goal.returns
unfolding over
returns c =
    let a = c.args in
    let g = fitting a.bytes.now a.out.now c.if-out-bytes.false in
    record {
      value = sym g.0;
      out_after = ap (λ (x : List ℕ). x ++ drop (length a.bytes.now) a.out.now) c.copy_from_slice.ensures.after ∙ sym g.1;
    }
