-- A piece of an input: a line `bytes=N`, and the N bytes after it.
use Rattle.std.specs.Prelude.{◌≡◌, false, cond, List, [], ◌∷◌, ℕ, ◌≤◌, leb, ℤ, pos, negsuc, length, take, drop, get_or}
use Rattle.std.proofs.Math.Seq.{slice}
use Rattle.scan.specs.Line.{no_minus, due_line, on_fields}
use Rattle.test_frames.specs.declared.Frame.{Frame}

-- a piece and what follows it, or no piece
pub data Piece : Type 0 where
  piece : List ℕ → List ℕ → Piece
  none : Piece

-- the bytes of `bytes=`
abbrev pub key : List ℕ
key = 98 ∷ 121 ∷ 116 ∷ 101 ∷ 115 ∷ 61 ∷ []

-- so many bytes, and what follows them
unfoldable pub sized : ℤ → List ℕ → Piece
sized (pos n) bs = cond (leb n (length bs)) (piece (take n bs) (drop n bs)) none
sized (negsuc n) bs = none

-- the piece at the front of the bytes; the number of its line carries no minus
unfoldable pub piece_of : List ℕ → Piece
piece_of bs = on_fields (due_line key 1 no_minus bs) (λ vs rest. sized (get_or vs 0 (pos 0)) rest) none

-- what a frame shows of the bytes s
unfoldable pub seen_piece : List ℕ → Frame → Piece
seen_piece s r = cond r.ok (piece (slice r.start r.end s) (drop r.end s)) none

-- the places lie within s, and are 0 where there is no piece
pub record FrameFits (s : List ℕ) (r : Frame) : Type 0 where
  pub start : r.start ≤ r.end
  pub end : r.end ≤ length s
  pub refused : r.ok ≡ false → (r.start ≡ 0) × (r.end ≡ 0)
