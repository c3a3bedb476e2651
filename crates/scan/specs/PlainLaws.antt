-- A line of at most three numbers without a minus: as `read_plain` makes it of a line that was read, as a caller takes
-- it, and that at most one result fits. Assumes nothing.
use Rattle.std.specs.Prelude.{◌≡◌, refl, Bool, true, false, cond, Option, Some, None, IfSome, ℕ, zero, suc, ◌≤◌, ◌<◌, T, ℤ, negsuc, nat_abs, length, drop, get_or}
use Rattle.std.proofs.Math.Path.{sym, ap}
use Rattle.std.proofs.Common.{◌∙◌, arith, take-take, Fits, le-leb}
use mathlib.Core.List.{List, [], ◌∷◌, map}
use Rattle.std.proofs.Math.IntN.{pos}
use Rattle.std.proofs.Math.ListN.{take}
use Rattle.std.specs.Int.Signed.{non_neg}
use Rattle.std.specs.Int.{w64}
use Rattle.std.proofs.lemmas.Bool.{lt-leb}
use Rattle.laws.specs.Z.{true_false}
use Rattle.text.specs.Sizes.{four_digits}
use Rattle.scan.specs.declared.Line.{Line}
use Rattle.scan.specs.declared.PlainLine.{PlainLine}
use Rattle.scan.specs.Line.{Fields, fields, bad, most_numbers, no_minus, line_of, line_count, due_line, value_at, LineFits}
use Rattle.scan.specs.Plain.{most_plain, plain_line, plain_numbers, held_plain, seen_plain, PlainFits}
use Rattle.scan.specs.RoundTrip.{Writable}
use Rattle.scan.specs.OneLine.{same_place, no_line}
use Rattle.scan.specs.Values.{bits, bits_back, plain_nat, plain_at, cast_at}

-- ---- a line that was read

-- three numbers that are 0 from the place k on
zero_from : {k a b c : ℕ} → (k ≤ 0 → a ≡ 0) → (k ≤ 1 → b ≡ 0) → (k ≤ 2 → c ≡ 0) → (i : ℕ) → k ≤ i
    → get_or (a ∷ b ∷ c ∷ []) i 0 ≡ 0
zero_from x y z zero h = x h
zero_from x y z (suc zero) h = y h
zero_from x y z (suc (suc zero)) h = z h
zero_from x y z (suc (suc (suc i))) h = refl

-- a count past the most
pub plain_over : (key : List ℕ) (k : ℕ) (bs : List ℕ) → most_plain < k → bad ≡ plain_line key k bs
plain_over key k bs h = rw (lt-leb k most_plain h)

pub plain_none : (key : List ℕ) (k : ℕ) (bs : List ℕ) → k ≤ most_plain → bad ≡ due_line key k no_minus bs → bad ≡ plain_line key k bs
plain_none key k bs h e = rw (le-leb k most_plain h) e

-- a line that was read has a count that a line may have
of_due : (b : Bool) (n : Fields) (vs : List ℤ) (rest : List ℕ) → cond b n bad ≡ fields vs rest → n ≡ fields vs rest
of_due true n vs rest e = e
of_due false n vs rest e = let z : ◌≡◌ {A = ℕ} 0 1 = cc in absurd (omega arith)

-- the first three of its numbers
three_of : (vs : List ℤ) → length vs ≡ most_numbers
    → take 3 vs ≡ get_or vs 0 (pos 0) ∷ get_or vs 1 (pos 0) ∷ get_or vs 2 (pos 0) ∷ []
three_of [] e = absurd (omega arith)
three_of (v ∷ []) e = absurd (omega arith)
three_of (v ∷ w ∷ []) e = absurd (omega arith)
three_of (v ∷ w ∷ x ∷ vs) e = refl

-- what the code makes of a line that was read
abbrev pub plain_of : Line → PlainLine
plain_of l = record {
  first = nat_abs (bits l 0);
  second = nat_abs (bits l 1);
  third = nat_abs (bits l 2);
  next = l.next;
}

module _ (s : List ℕ) (at : ℕ) (key : List ℕ) (k : ℕ) (l : Line) (e : fields (take k l.values) (drop l.next s) ≡ due_line key k no_minus (drop at s)) (fits : LineFits s k l) where
  got : fields (take k l.values) (drop l.next s) ≡ line_of key k no_minus (drop at s)
  got = sym (of_due (line_count k) _ _ _ (sym e))

  -- its cast to an unsigned number
  pub plain_cast : (i : ℕ) → i < most_numbers → T (non_neg (bits l i)) × Fits w64 (nat_abs (bits l i))
  plain_cast i h = cast_at key k no_minus (drop at s) s l got fits i (λ z. absurd (omega arith))

  number : (i : ℕ) → i < most_numbers → value_at l i ≡ pos (nat_abs (bits l i))
  number i h =
      plain_nat (value_at l i) (plain_at key k no_minus (drop at s) s l got fits i (λ z. absurd (omega arith)))
      ∙ ap (λ (v : ℤ). pos (nat_abs v)) (sym (bits_back fits i))

  -- 0 past its numbers
  zero_at : (i : ℕ) → k ≤ i → nat_abs (bits l i) ≡ 0
  zero_at i m = ap nat_abs (bits_back fits i ∙ fits.past i m)

  pub plain_some : k ≤ most_plain → held_plain s k (plain_of l) ≡ plain_line key k (drop at s)
  plain_some h =
      let three : take 3 l.values ≡ map pos (plain_numbers (plain_of l)) =
      three_of l.values fits.whole
      ∙ (λ i. number 0 (omega arith) i ∷ number 1 (omega arith) i ∷ number 2 (omega arith) i ∷ []) in
      let q : take k l.values ≡ take k (map pos (plain_numbers (plain_of l))) =
      sym (take-take k 3 l.values h) ∙ ap (take k) three in
      rw (le-leb k most_plain h) (sym (sym e ∙ ap (λ (vs : List ℤ). fields vs (drop l.next s)) q))

  pub plain_fits : PlainFits s k (plain_of l)
  plain_fits = record { next = fits.next; past = zero_from (zero_at 0) (zero_at 1) (zero_at 2) }

-- ---- what a caller has

-- the numbers of a line of one, two or three
pub one_plain : (vs : List ℤ) → length vs ≡ 1 → Writable no_minus 0 vs → (n : ℕ) × (vs ≡ pos n ∷ []) × (n ≤ four_digits)
one_plain [] e w = absurd (omega arith)
one_plain (pos n ∷ []) e w = (n, refl, w.0)
one_plain (negsuc n ∷ []) e w = true_false w.1
one_plain (u ∷ v ∷ vs) e w = absurd (omega arith)

pub two_plain : (vs : List ℤ) → length vs ≡ 2 → Writable no_minus 0 vs
    → (t : ℕ) × (u : ℕ) × (vs ≡ pos t ∷ pos u ∷ []) × (t ≤ four_digits) × (u ≤ four_digits)
two_plain [] e w = absurd (omega arith)
two_plain (v ∷ []) e w = absurd (omega arith)
two_plain (pos t ∷ pos u ∷ []) e w = (t, u, refl, w.0, w.2.0)
two_plain (pos t ∷ negsuc u ∷ []) e w = true_false w.2.1
two_plain (negsuc t ∷ v ∷ []) e w = true_false w.1
two_plain (t ∷ u ∷ v ∷ vs) e w = absurd (omega arith)

pub three_plain : (vs : List ℤ) → length vs ≡ 3 → Writable no_minus 0 vs
    → (t : ℕ) × (u : ℕ) × (v : ℕ) × (vs ≡ pos t ∷ pos u ∷ pos v ∷ []) × (t ≤ four_digits) × (u ≤ four_digits) × (v ≤ four_digits)
three_plain [] e w = absurd (omega arith)
three_plain (t ∷ []) e w = absurd (omega arith)
three_plain (t ∷ u ∷ []) e w = absurd (omega arith)
three_plain (pos t ∷ pos u ∷ pos v ∷ []) e w = (t, u, v, refl, w.0, w.2.0, w.2.2.0)
three_plain (pos t ∷ pos u ∷ negsuc v ∷ []) e w = true_false w.2.2.1
three_plain (pos t ∷ negsuc u ∷ v ∷ []) e w = true_false w.2.1
three_plain (negsuc t ∷ u ∷ v ∷ []) e w = true_false w.1
three_plain (t ∷ u ∷ v ∷ w' ∷ vs) e w = absurd (omega arith)

-- ---- at most one result

module _ (s : List ℕ) (r q : PlainLine) where
  zero_both : {k : ℕ} → PlainFits s k r → PlainFits s k q → (i : ℕ) → k ≤ i
      → get_or (plain_numbers r) i 0 ≡ get_or (plain_numbers q) i 0
  zero_both f g i h = f.past i h ∙ sym (g.past i h)

  same_numbers : (k : ℕ) → PlainFits s k r → PlainFits s k q
      → take k (map pos (plain_numbers r)) ≡ take k (map pos (plain_numbers q))
      → (r.first ≡ q.first) × (r.second ≡ q.second) × (r.third ≡ q.third)
  same_numbers zero f g e = (zero_both f g 0 (omega arith), zero_both f g 1 (omega arith), zero_both f g 2 (omega arith))
  same_numbers (suc zero) f g e = (cc, zero_both f g 1 (omega arith), zero_both f g 2 (omega arith))
  same_numbers (suc (suc zero)) f g e = (cc, cc, zero_both f g 2 (omega arith))
  same_numbers (suc (suc (suc k))) f g e = (cc, cc, cc)

  same_held : (k : ℕ) → PlainFits s k r → PlainFits s k q → held_plain s k r ≡ held_plain s k q → r ≡ q
  same_held k f g e =
      let v = same_numbers k f g (cc) in
      let n = same_place s f.next g.next (cc) in
      λ i. record { first = v.0 i; second = v.1 i; third = v.2 i; next = n i }

pub one_plain_line : (s : List ℕ) (k : ℕ) (a b : Option PlainLine) → IfSome a (PlainFits s k) → IfSome b (PlainFits s k) → seen_plain s k a ≡ seen_plain s k b → a ≡ b
one_plain_line s k None None f g e = refl
one_plain_line s k None (Some q) f g e = absurd (no_line (sym e))
one_plain_line s k (Some r) None f g e = absurd (no_line e)
one_plain_line s k (Some r) (Some q) f g e = ap Some (same_held s r q k f g e)
