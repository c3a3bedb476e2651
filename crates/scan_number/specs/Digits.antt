-- Reading a number undoes writing it, and what reads as a number is that number's one text.
-- Assumes nothing.
use Rattle.std.specs.Prelude.{◌≡◌, refl, List, [], ◌∷◌, ◌++◌, ℕ, zero, suc, ◌+◌, ◌*◌, ◌/◌, ◌%◌, ◌≤◌, ◌<◌, eqb, ltb}
use Rattle.std.proofs.Common.{sym, ap, ◌∙◌, subst, append_assoc, arith, ne_eqb, lt-ltb, le-ltb, ltb-true, ltb-false}
use Rattle.std.proofs.lemmas.Bool.{eqb-false}
use Rattle.text.specs.Sizes.{three_digits, four_digits}
use Rattle.text.specs.Text.{tens, digits}
use Rattle.laws.specs.Tests.{by_test}
use Rattle.text.specs.Decimal.{limit, tens_room}
use Rattle.scan_number.specs.Number.{Num, value, malformed, class_of, digit_or, more_digits, number}
use Rattle.scan_number.specs.Bytes.{class_digit, byte_of}
use Rattle.scan_number.specs.declared.Class.{Class}
use Rattle.scan_number.specs.declared.Class.TheVariants.{Minus, Digit, Comma, LineFeed, Other}

-- ---- reading undoes writing

-- one more digit is read
read_digit : (v d : ℕ) (bs : List ℕ) → 0 < v → v ≤ three_digits → d < 10 → more_digits v ((48 + d) ∷ bs) ≡ more_digits (v * 10 + d) bs
unfolding more_digits
read_digit v d bs lo hi h = rw (class_digit d h, ne_eqb v 0 (λ e. omega arith), le-ltb three_digits v hi)

first_digit : (n : ℕ) (rest : List ℕ) → n < 10 → number ((48 + n) ∷ rest) ≡ more_digits n rest
unfolding number
first_digit n rest h = rw (class_digit n h)

-- reading the digits of n leaves the value n, and goes on
read_tens : (k n : ℕ) (rest : List ℕ) → n < limit k → n ≤ four_digits → number (tens k n ++ rest) ≡ more_digits n rest
unfolding tens
read_tens zero n rest h b = first_digit n rest h
read_tens (suc k) n rest h b =
    by_test (ltb n 10)
    (λ t. rw t (first_digit n rest (ltb-true n 10 t)))
    (λ t.
    let big : 10 ≤ n = ltb-false n 10 t in
    rw (t, append_assoc)
    (read_tens k (n / 10) ((48 + n % 10) ∷ rest) (omega arith) (omega arith)
    ∙ read_digit (n / 10) (n % 10) rest (omega arith) (omega arith) (omega arith)
    ∙ ap (λ (m : ℕ). more_digits m rest) (omega arith)))

-- the bytes do not go on with a digit
abbrev pub Ends : List ℕ → Type 0
Ends [] = Unit {0}
Ends (b ∷ bs) = (d : ℕ) → class_of b ≡ Digit d → ⊥

pub value_or : (k : Class) (f : ℕ → Num) (o : Num) → ((d : ℕ) → k ≡ Digit d → ⊥) → digit_or k f o ≡ o
value_or Minus f o n = refl
value_or (Digit d) f o n = absurd (n d refl)
value_or Comma f o n = refl
value_or LineFeed f o n = refl
value_or Other f o n = refl

stops : (n : ℕ) (rest : List ℕ) → Ends rest → more_digits n rest ≡ value n rest
unfolding more_digits
stops n [] h = refl
stops n (b ∷ bs) h = value_or (class_of b) _ _ h

pub reads_digits : (n : ℕ) (rest : List ℕ) → n ≤ four_digits → Ends rest → number (digits n ++ rest) ≡ value n rest
reads_digits n rest b h = read_tens 9 n rest (omega arith) b ∙ stops n rest h

-- ---- what reads as a number is its text

-- one digit more at the end
snoc_tens : (k v d : ℕ) → 0 < v → d < 10 → tens (suc k) (v * 10 + d) ≡ tens k v ++ ((48 + d) ∷ [])
unfolding tens
snoc_tens k v d lo h = rw (le-ltb (v * 10 + d) 10 (omega arith), q, r)
  where
    q : (v * 10 + d) / 10 ≡ v
    q = omega arith

    r : (v * 10 + d) % 10 ≡ d
    r = omega arith

digits_snoc : (v d : ℕ) → 0 < v → v ≤ three_digits → d < 10 → digits (v * 10 + d) ≡ digits v ++ ((48 + d) ∷ [])
digits_snoc v d lo hi h =
    snoc_tens 8 v d lo h ∙ ap (λ (l : List ℕ). l ++ ((48 + d) ∷ [])) (sym (tens_room 1 8 v (omega arith)))

one_digit : (k d : ℕ) → d < 10 → tens (suc k) d ≡ (48 + d) ∷ []
unfolding tens
one_digit k d h = rw (lt-ltb d 10 h)

-- what a value read says of the bytes that it was read from
pub record Canonical (bs : List ℕ) (n : ℕ) (rest : List ℕ) : Type 0 where
  pub text : bs ≡ digits n ++ rest
  pub small : n ≤ four_digits
  pub ends : Ends rest

pub no_value : {n : ℕ} {rest : List ℕ} → malformed ≡ value n rest → ⊥
no_value e = let z : ◌≡◌ {A = ℕ} 0 1 = cc in omega arith

-- the number ends before the bytes rest
ended : (v : ℕ) (bs : List ℕ) (n : ℕ) (rest : List ℕ) → v ≤ four_digits → Ends bs → value v bs ≡ value n rest → Canonical (digits v ++ bs) n rest
ended v bs n rest h e q =
    let a : v ≡ n = cc in
    let b : bs ≡ rest = cc in
    record { text = cc; small = omega arith; ends = subst Ends b e }

-- one byte of reading on, by the byte's class; ih is the claim for what follows the byte
at_byte : (k : Class) (v b : ℕ) (bs : List ℕ) (n : ℕ) (rest : List ℕ) → class_of b ≡ k → v ≤ four_digits
    → ((w : ℕ) → w ≤ four_digits → more_digits w bs ≡ value n rest → Canonical (digits w ++ bs) n rest)
    → more_digits v (b ∷ bs) ≡ value n rest → Canonical (digits v ++ (b ∷ bs)) n rest
unfolding more_digits
at_byte (Digit d) v b bs n rest k hv ih e =
    let db = byte_of b k in
    by_test (eqb v 0)
    (λ t. let z : ◌≡◌ {A = Num} malformed (value n rest) = simp (k, t) at e in absurd (no_value z))
    (λ t. by_test (ltb three_digits v)
    (λ u. let z : ◌≡◌ {A = Num} malformed (value n rest) = simp (k, t, u) at e in absurd (no_value z))
    (λ u.
    let lo : (v ≡ 0 → ⊥) = eqb-false v 0 t in
    let hi : v ≤ three_digits = ltb-false three_digits v u in
    let r : Canonical (digits (v * 10 + d) ++ bs) n rest = ih (v * 10 + d) (omega arith) (simp (k, t, u) at e) in
    record {
      text = ap (λ (x : ℕ). digits v ++ (x ∷ bs)) db.0 ∙ sym (append_assoc (digits v) ((48 + d) ∷ []) bs)
          ∙ ap (λ (l : List ℕ). l ++ bs) (sym (digits_snoc v d (omega arith) hi db.1)) ∙ r.text;
      small = r.small;
      ends = r.ends;
    }))
at_byte Minus v b bs n rest k hv ih e = ended v (b ∷ bs) n rest hv (λ d q. let z : ◌≡◌ {A = ℕ} 0 1 = cc in omega arith) (simp k at e)
at_byte Comma v b bs n rest k hv ih e = ended v (b ∷ bs) n rest hv (λ d q. let z : ◌≡◌ {A = ℕ} 0 1 = cc in omega arith) (simp k at e)
at_byte LineFeed v b bs n rest k hv ih e = ended v (b ∷ bs) n rest hv (λ d q. let z : ◌≡◌ {A = ℕ} 0 1 = cc in omega arith) (simp k at e)
at_byte Other v b bs n rest k hv ih e = ended v (b ∷ bs) n rest hv (λ d q. let z : ◌≡◌ {A = ℕ} 0 1 = cc in omega arith) (simp k at e)

canonical_more : (v : ℕ) (bs : List ℕ) (n : ℕ) (rest : List ℕ) → v ≤ four_digits → more_digits v bs ≡ value n rest → Canonical (digits v ++ bs) n rest
canonical_more v [] n rest h e = ended v [] n rest h tt (unfold more_digits in e)
canonical_more v (b ∷ bs) n rest h e = at_byte (class_of b) v b bs n rest refl h (λ w hw q. canonical_more w bs n rest hw q) e

first_byte : (k : Class) (b : ℕ) (bs : List ℕ) (n : ℕ) (rest : List ℕ) → class_of b ≡ k → number (b ∷ bs) ≡ value n rest → Canonical (b ∷ bs) n rest
unfolding number
first_byte (Digit d) b bs n rest k e =
    let db = byte_of b k in
    let r : Canonical (digits d ++ bs) n rest = canonical_more d bs n rest (omega arith) (simp k at e) in
    record { text = ap (λ (x : ℕ). x ∷ bs) db.0 ∙ ap (λ (l : List ℕ). l ++ bs) (sym (one_digit 8 d db.1)) ∙ r.text; small = r.small; ends = r.ends }
first_byte Minus b bs n rest k e = absurd (no_value (simp k at e))
first_byte Comma b bs n rest k e = absurd (no_value (simp k at e))
first_byte LineFeed b bs n rest k e = absurd (no_value (simp k at e))
first_byte Other b bs n rest k e = absurd (no_value (simp k at e))

pub canonical : (bs : List ℕ) (n : ℕ) (rest : List ℕ) → number bs ≡ value n rest → Canonical bs n rest
canonical [] n rest e = let z : malformed ≡ value n rest = (unfold number in e) in absurd (no_value z)
canonical (b ∷ bs) n rest e = first_byte (class_of b) b bs n rest refl e
