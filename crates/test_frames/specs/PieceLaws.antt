-- From the line that was read to the piece. Assumes nothing.
use Rattle.std.specs.Prelude.{◌≡◌, refl, true, false, List, [], ◌∷◌, ℕ, zero, suc, ◌+◌, ◌≤◌, ◌<◌, ◌-◌, ℤ, pos, negsuc, nat_abs, length, take, drop, get_or}
use Rattle.std.proofs.Common.{sym, ap₂, ◌∙◌, zero-add, suc-add, arith, length-drop, drop-drop, le-leb, ltb-true}
use Rattle.std.proofs.Math.Path.{ap}
use Rattle.std.proofs.Math.Seq.{slice, take-nil}
use Rattle.std.proofs.lemmas.Bool.{lt-leb}
use Rattle.std.specs.Int.Signed.{lt_z}
use Rattle.laws.specs.Z.{true_false}
use Rattle.scan.specs.Line.{no_minus, Fields, fields, bad, line_of, on_fields, LineFits}
use Rattle.scan.specs.Values.{bits, bits_at}
use Rattle.scan.specs.declared.Line.{Line}
use Rattle.test_frames.specs.Piece.{piece, none, key, sized, piece_of, FrameFits}

-- no piece
pub nowhere : (s : List ℕ) → FrameFits s (record { ok = false; start = 0; end = 0 })
nowhere s = record { start = omega arith; end = omega arith; refused = λ _. (refl, refl) }

-- there is no such line
pub no_line : (bs : List ℕ) → bad ≡ line_of key 1 no_minus bs → none ≡ piece_of bs
unfolding piece_of
no_line bs e = ap (λ (x : Fields). on_fields x (λ vs rest. sized (get_or vs 0 (pos 0)) rest) none) e

-- the line is there
pub line_read : (s bs : List ℕ) (l : Line) → fields (take 1 l.values) (drop l.next s) ≡ line_of key 1 no_minus bs → LineFits s 1 l → sized (bits l 0) (drop l.next s) ≡ piece_of bs
unfolding piece_of
line_read s bs l e fits =
    ap (λ (z : ℤ). sized z (drop l.next s)) (bits_at fits 0 (omega arith))
    ∙ ap (λ (x : Fields). on_fields x (λ vs rest. sized (get_or vs 0 (pos 0)) rest) none) e

pub negative : (z : ℤ) (bs : List ℕ) → lt_z z (pos 0) ≡ true → none ≡ sized z bs
unfolding sized
negative (pos n) bs h = let q : n < 0 = ltb-true n 0 h in absurd (omega arith)
negative (negsuc n) bs h = refl

pub too_few : (z : ℤ) (s : List ℕ) (p : ℕ) → lt_z z (pos 0) ≡ false → length s - p < nat_abs z → none ≡ sized z (drop p s)
unfolding sized
too_few (pos n) s p e h = rw (lt-leb n (length (drop p s)) (omega (arith, length-drop p s)))
too_few (negsuc n) s p e h = true_false e

-- n bytes after the first m
middle : (m n : ℕ) (s : List ℕ) → slice m (m + n) s ≡ take n (drop m s)
middle zero n s = ap (λ (k : ℕ). take k s) (zero-add n)
middle (suc m) n [] = ap (drop (suc m)) (take-nil (suc m + n)) ∙ sym (take-nil n)
middle (suc m) n (x ∷ s) = ap (λ (k : ℕ). drop (suc m) (take k (x ∷ s))) (suc-add m n) ∙ middle m n s

pub enough : (m n : ℕ) (s : List ℕ) → m + n ≤ length s → piece (slice m (m + n) s) (drop (m + n) s) ≡ sized (pos n) (drop m s)
unfolding sized
enough m n s h =
    ap₂ piece (middle m n s) (sym (drop-drop n m s))
    ∙ (rw (le-leb n (length (drop m s)) (omega (arith, length-drop m s))))
