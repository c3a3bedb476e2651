-- What writing a sheet answers, and what it leaves in the lent buffer old.
use Rattle.std.specs.Prelude.{ℕ, ◌≡◌, refl, List}
use Rattle.text.specs.declared.Written.{Written}
use Rattle.text.specs.Text.{buffer_of}
use Rattle.text.specs.Line.{refused, written_of}
use Rattle.sheet.specs.declared.Sheet.{Sheet}
use Rattle.sheet.specs.Sheet.{InRange}
use Rattle.sheet.specs.Answer.{sheet_answer}
use Rattle.sheet.specs.Text.{sheet_text}

-- what the sheet answers, and the buffer as it was; else the sheet's text where the whole of it fits, or 9
pub data Wrote (s : Sheet) (old : List ℕ) : Written → List ℕ → Type 0 where
  out_of_range : (InRange s → ⊥) → Wrote s old (refused (sheet_answer s)) old
  in_range_lem : InRange s → Wrote s old (written_of (sheet_text s) old) (buffer_of (sheet_text s) old)

-- of a sheet that refuses, by its answer
pub stopped : {s : Sheet} {old : List ℕ} {n : ℕ} → n ≡ sheet_answer s → (InRange s → ⊥) → Wrote s old (refused n) old
stopped e n = rw e (out_of_range n)

-- of a sheet in range, by the answer and the buffer
pub made : {s : Sheet} {old new : List ℕ} {r : Written} → InRange s → r ≡ written_of (sheet_text s) old → new ≡ buffer_of (sheet_text s) old → Wrote s old r new
made y e f = rw (e, f) (in_range_lem y)

-- at most one answer and one buffer fit
pub once : {s : Sheet} {old : List ℕ} {r r' : Written} {new new' : List ℕ} → Wrote s old r new → Wrote s old r' new' → (r ≡ r') × (new ≡ new')
once (out_of_range n) (out_of_range m) = (refl, refl)
once (out_of_range n) (in_range_lem y) = absurd (n y)
once (in_range_lem y) (out_of_range n) = absurd (n y)
once (in_range_lem y) (in_range_lem z) = (refl, refl)
