-- Which byte is a minus, a digit, a comma or a line feed, both ways round.
-- Assumes nothing.
use Rattle.std.specs.Prelude.{◌≡◌, ℕ, ◌+◌, ◌-◌, ◌≤◌, ◌<◌, eqb, leb}
use Rattle.std.proofs.Common.{ap, subst, ◌∙◌, arith, ne_eqb, le-leb, eqb-true, leb-true}
use Rattle.std.proofs.lemmas.Bool.{lt-leb}
use Rattle.laws.specs.Tests.{by_test}
use Rattle.scan_number.specs.Number.{class_of}
use Rattle.scan_number.specs.declared.Class.{Class}
use Rattle.scan_number.specs.declared.Class.TheVariants.{Minus, Digit, Comma, LineFeed, Other}

pub digit_class : (b : ℕ) → 48 ≤ b → b ≤ 57 → class_of b ≡ Digit (b - 48)
unfolding class_of
digit_class b lo hi = simp (le-leb 48 b lo, le-leb b 57 hi)

pub low_class : (b : ℕ) → (b ≡ 45 → ⊥) → (b ≡ 44 → ⊥) → (b ≡ 10 → ⊥) → b < 48 → class_of b ≡ Other
unfolding class_of
low_class b m k f lo = simp (lt-leb 48 b lo, ne_eqb b 45 m, ne_eqb b 44 k, ne_eqb b 10 f)

pub high_class : (b : ℕ) → 57 < b → class_of b ≡ Other
unfolding class_of
high_class b hi = simp (le-leb 48 b (omega arith), lt-leb b 57 hi)

-- the byte of a digit
pub class_digit : (d : ℕ) → d < 10 → class_of (48 + d) ≡ Digit d
class_digit d h = digit_class (48 + d) (omega arith) (omega arith) ∙ ap Digit (omega arith)

-- the bytes of a class
abbrev pub OfClass : Class → ℕ → Type 0
OfClass Minus b = b ≡ 45
OfClass (Digit d) b = (b ≡ 48 + d) × (d < 10)
OfClass Comma b = b ≡ 44
OfClass LineFeed b = b ≡ 10
OfClass Other b = Unit {0}

pub class_byte : (b : ℕ) → OfClass (class_of b) b
unfolding class_of
class_byte b =
    by_test (leb 48 b)
    (λ lo. by_test (leb b 57)
    (λ hi. let l : 48 ≤ b = leb-true 48 b lo in let h : b ≤ 57 = leb-true b 57 hi in rw (lo, hi) (omega arith, omega arith))
    (λ hi. rw (lo, hi) tt))
    (λ lo. by_test (eqb b 45)
    (λ m. rw (lo, m) (eqb-true b 45 m))
    (λ m. by_test (eqb b 44)
    (λ k. rw (lo, m, k) (eqb-true b 44 k))
    (λ k. by_test (eqb b 10) (λ f. rw (lo, m, k, f) (eqb-true b 10 f)) (λ f. rw (lo, m, k, f) tt))))

-- the byte of a class that is known; so only a digit's byte is a digit
pub byte_of : (b : ℕ) {k : Class} → class_of b ≡ k → OfClass k b
byte_of b e = subst (λ k. OfClass k b) e (class_byte b)
