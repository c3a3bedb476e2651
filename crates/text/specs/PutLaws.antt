-- Laws of a text that is told by a rule, in a lent buffer.
-- Assumes nothing.
use Rattle.std.specs.Prelude.{ℕ, ◌≤◌, ◌≡◌, List, length}
use Rattle.std.proofs.Common.{sym, ap, subst, ◌∙◌}
use Rattle.text.specs.declared.Written.{Written}
use Rattle.text.specs.Text.{buffer_of}
use Rattle.text.specs.Line.{written_of}
use Rattle.text.specs.Writing.{written_within}
use Rattle.text.specs.Put.{Put}

-- a text that was written, under another name, is put
pub put_as : {room : ℕ} {P : List ℕ → Type 0} {old new : List ℕ} {r : Written} {written text : List ℕ} → written ≡ text → P text → length text ≤ room
    → r ≡ written_of written old → new ≡ buffer_of written old → Put room P old r new
put_as {old = old} {text = text} e p h a b = record {
  text = text;
  holds = p;
  enough = h;
  answer = a ∙ ap (λ (t : List ℕ). written_of t old) e;
  buffer = b ∙ ap (λ (t : List ℕ). buffer_of t old) e;
}

module _ {room : ℕ} {P : List ℕ → Type 0} {old : List ℕ} where
  pub weaken : {Q : List ℕ → Type 0} {r : Written} {new : List ℕ} → ((t : List ℕ) → P t → Q t) → Put room P old r new → Put room Q old r new
  weaken f p = record { text = p.text; holds = f p.text p.holds; enough = p.enough; answer = p.answer; buffer = p.buffer }

  -- the bytes counted are bytes of the lent buffer
  pub put_within : {r : Written} {new : List ℕ} → Put room P old r new → r.count ≤ length old
  put_within p = subst (λ (w : Written). w.count ≤ length old) (sym p.answer) (written_within p.text old)

  -- where P holds of one text at the most, one answer and one buffer fit
  pub put_one : {r r' : Written} {new new' : List ℕ} → ((t u : List ℕ) → P t → P u → t ≡ u) → Put room P old r new → Put room P old r' new' → (r ≡ r') × (new ≡ new')
  put_one one p q =
      let e = one p.text q.text p.holds q.holds in (
        p.answer ∙ ap (λ (t : List ℕ). written_of t old) e ∙ sym q.answer,
        p.buffer ∙ ap (λ (t : List ℕ). buffer_of t old) e ∙ sym q.buffer,
      )
