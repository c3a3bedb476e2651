-- The numbers of a line that was read, as a caller's code takes them: each is read back from its bits, and one that is
-- not at the place of the minus can be cast to an unsigned number. Assumes nothing.
use Rattle.std.specs.Prelude.{◌≡◌, refl, Bool, true, false, List, [], ◌∷◌, ℕ, zero, suc, ◌+◌, ◌≤◌, ◌<◌, T, ℤ, pos, negsuc, nat_abs, drop, take, get_or}
use Rattle.std.proofs.Common.{sym, ap, subst, ◌∙◌, arith, get_or-take, Fits, to_z, of_z, ne_eqb}
use Rattle.std.proofs.Math.Decide.{dec_lt}
use Rattle.std.specs.Int.Signed.{non_neg}
use Rattle.std.specs.Int.{w32, w64}
use Rattle.text.specs.Sizes.{four_digits}
use Rattle.laws.specs.Z.{kept, true_false, four_digits_lem}
use Rattle.scan.specs.declared.Line.{Line}
use Rattle.scan.specs.Line.{fields, line_of, value_at, LineFits}
use Rattle.scan.specs.RoundTrip.{is_negative, MayStand, Writable, line_text_lem}

-- ---- what the code has of a line

-- a number as the code reads it back from its bits
abbrev pub bits : Line → ℕ → ℤ
bits l i = to_z w32 (of_z w32 (value_at l i))

module _ {s : List ℕ} {k : ℕ} {l : Line} (fits : LineFits s k l) (i : ℕ) where
  pub bits_back : bits l i ≡ value_at l i
  bits_back = kept (four_digits_lem (value_at l i) (fits.small i))

  -- it is the line's number
  pub bits_at : i < k → bits l i ≡ get_or (take k l.values) i (pos 0)
  bits_at h = bits_back ∙ sym (get_or-take k l.values i (pos 0) h)

-- ---- a number that carries no minus

-- it is a natural number
pub plain_nat : (v : ℤ) → is_negative v ≡ false → v ≡ pos (nat_abs v)
plain_nat (pos n) e = refl
plain_nat (negsuc n) e = true_false e

plain_fits : (v : ℤ) → nat_abs v ≤ four_digits → is_negative v ≡ false → T (non_neg v) × Fits w64 (nat_abs v)
plain_fits (pos n) h e = (tt, record { fits = omega arith })
plain_fits (negsuc n) h e = true_false e

-- one that is not at the place of the minus
writable_plain : (minus i j : ℕ) (vs : List ℤ) → Writable minus i vs → (i + j ≡ minus → ⊥) → is_negative (get_or vs j (pos 0)) ≡ false
writable_plain minus i j [] w n = refl
writable_plain minus i zero (v ∷ vs) w n = subst (λ (b : Bool). MayStand b v) (ne_eqb i minus (λ e. n (omega arith))) w.1
writable_plain minus i (suc j) (v ∷ vs) w n = writable_plain minus (suc i) j vs w.2 (λ e. n (omega arith))

-- of a line with this key and k numbers
module _ (key : List ℕ) (k minus : ℕ) (bs s : List ℕ) (l : Line) (got : fields (take k l.values) (drop l.next s) ≡ line_of key k minus bs) (fits : LineFits s k l) where
  pub plain_at : (i : ℕ) → (i ≡ minus → ⊥) → is_negative (value_at l i) ≡ false
  plain_at i n = at (dec_lt i k)
    where
      at : Dec (i < k) → is_negative (value_at l i) ≡ false
      at (yes h) =
          ap is_negative (sym (get_or-take k l.values i (pos 0) h))
          ∙ writable_plain minus 0 i (take k l.values) (line_text_lem key k minus bs _ _ (sym got)).good (λ z. n (omega arith))
      at (no h) = ap is_negative (fits.past i (omega arith))

  -- its cast to an unsigned number
  pub cast_at : (i : ℕ) → (i ≡ minus → ⊥) → T (non_neg (bits l i)) × Fits w64 (nat_abs (bits l i))
  cast_at i n = rw (bits_back fits i) (plain_fits (value_at l i) (fits.small i) (plain_at i n))
