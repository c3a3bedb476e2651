-- Reading a line undoes writing it, and what reads as a line is that line's one text: number by number, then whole.
-- Assumes nothing.
use Rattle.std.specs.Prelude.{◌≡◌, refl, Bool, true, false, List, [], ◌∷◌, ◌++◌, ℕ, zero, suc, ◌≤◌, eqb, ℤ, pos, negsuc, neg_ℤ, nat_abs, length}
use Rattle.std.proofs.Common.{sym, ap, subst, ◌∙◌, append_assoc, append-nil, arith, length-append, eq-eqb, ne_eqb, eqb-true}
use Rattle.std.proofs.lemmas.Bool.{eqb-false}
use Rattle.text.specs.Sizes.{four_digits}
use Rattle.laws.specs.Z.{true_false}
use Rattle.text.specs.Text.{digits, signed_text, end_of, joined, line_text}
use Rattle.scan_number.specs.Number.{Num, value, malformed, class_of, number, Signed, int, none, signed_number, whole_of}
use Rattle.scan.specs.Line.{Rest, after, missing, stripped, field_of, fields, bad, fields_from, line_of}
use Rattle.laws.specs.Tests.{by_test}
use Rattle.text.specs.Signed.{minus_text}
use Rattle.scan_number.specs.Digits.{Ends, no_value, reads_digits, canonical}
use Rattle.scan_number.specs.declared.Class.TheVariants.{Digit}

-- ---- the numbers that a line can have

-- the number is below 0
abbrev pub is_negative : ℤ → Bool
is_negative (pos n) = false
is_negative (negsuc n) = true

-- negative only where a minus may stand
abbrev pub MayStand : Bool → ℤ → Type 0
MayStand true v = Unit {0}
MayStand false v = is_negative v ≡ false

-- the numbers from the place i on: four digits at most, and negative only at the place minus
abbrev pub Writable : ℕ → ℕ → List ℤ → Type 0
Writable minus i [] = Unit {0}
Writable minus i (v ∷ vs) = (nat_abs v ≤ four_digits) × MayStand (eqb i minus) v × Writable minus (suc i) vs

-- ---- a key

pub strips : (key rest : List ℕ) → stripped key (key ++ rest) ≡ after rest
unfolding stripped
strips [] rest = refl
strips (c ∷ cs) rest = rw (eq-eqb c c refl) (strips cs rest)

pub strip_text : (key bs rest : List ℕ) → stripped key bs ≡ after rest → bs ≡ key ++ rest
unfolding stripped
strip_text [] bs rest e = cc
strip_text (c ∷ cs) [] rest e = let z : ◌≡◌ {A = ℕ} 0 1 = cc in absurd (omega arith)
strip_text (c ∷ cs) (b ∷ bs) rest e =
    by_test (eqb b c)
    (λ t. let q : b ≡ c = eqb-true b c t in let r : bs ≡ cs ++ rest = strip_text cs bs rest (simp t at e) in cc)
    (λ t. let z : missing ≡ after rest = simp t at e in let o : ◌≡◌ {A = ℕ} 0 1 = cc in absurd (omega arith))

-- ---- a number with its sign

no_int : {v : ℤ} {rest : List ℕ} → none ≡ int v rest → ⊥
no_int e = let z : ◌≡◌ {A = ℕ} 0 1 = cc in omega arith

-- a number without a sign does not begin with a minus
no_minus : (bs : List ℕ) (n : ℕ) (rest : List ℕ) → number (45 ∷ bs) ≡ value n rest → ⊥
unfolding number class_of
no_minus bs n rest e = no_value e

plain_whole : (bs : List ℕ) (n : ℕ) (rest : List ℕ) → number bs ≡ value n rest → whole_of true bs ≡ signed_number false bs
unfolding whole_of
plain_whole [] n rest e = refl
plain_whole (b ∷ bs) n rest e =
    by_test (eqb b 45)
    (λ t. absurd (no_minus bs n rest (subst (λ (x : ℕ). number (x ∷ bs) ≡ value n rest) (eqb-true b 45 t) e)))
    (λ t. rw t)

plain_int : (n : ℕ) (bs rest : List ℕ) → number bs ≡ value n rest → signed_number false bs ≡ int (pos n) rest
unfolding signed_number
plain_int n bs rest e = rw e

minus_int : (n : ℕ) (bs rest : List ℕ) → number bs ≡ value (suc n) rest → whole_of true (45 ∷ bs) ≡ int (negsuc n) rest
unfolding whole_of signed_number
minus_int n bs rest e = rw (e, ne_eqb (suc n) 0 (λ z. omega arith))

reads_whole : (m : Bool) (v : ℤ) (rest : List ℕ) → nat_abs v ≤ four_digits → MayStand m v → Ends rest → whole_of m (signed_text v ++ rest) ≡ int v rest
unfolding whole_of signed_text
reads_whole false (pos n) rest h s e = plain_int n (digits n ++ rest) rest (reads_digits n rest h e)
reads_whole false (negsuc n) rest h s e = true_false s
reads_whole true (pos n) rest h s e =
    let r = reads_digits n rest h e in
    plain_whole (digits n ++ rest) n rest r ∙ plain_int n (digits n ++ rest) rest r
reads_whole true (negsuc n) rest h s e =
    ap (λ (x : List ℕ). whole_of true (x ++ rest)) (minus_text n (λ z. omega arith)) ∙ minus_int n (digits (suc n) ++ rest) rest (reads_digits (suc n) rest h e)

-- what a number read says of the bytes that it was read from
record Spelled (m : Bool) (bs : List ℕ) (v : ℤ) (rest : List ℕ) : Type 0 where
  text : bs ≡ signed_text v ++ rest
  small : nat_abs v ≤ four_digits
  sign : MayStand m v

plain_at : (bs : List ℕ) (n : Num) (v : ℤ) (rest : List ℕ) → number bs ≡ n → signed_number false bs ≡ int v rest → Spelled false bs v rest
unfolding signed_number signed_text
plain_at bs malformed v rest e f = absurd (no_int (simp e at f))
plain_at bs (value n left) v rest e f =
    let g : int (pos n) left ≡ int v rest = simp e at f in
    let c = canonical bs n left e in
    let a : pos n ≡ v = cc in
    let l : left ≡ rest = cc in
    record {
      text = c.text ∙ ap (λ (r : List ℕ). digits n ++ r) l ∙ ap (λ (z : ℤ). signed_text z ++ rest) a;
      small = subst (λ (z : ℤ). nat_abs z ≤ four_digits) a c.small;
      sign = subst (λ (z : ℤ). is_negative z ≡ false) a refl;
    }

negated_text : (n : ℕ) → n ≤ four_digits → (n ≡ 0 → ⊥) → signed_text (neg_ℤ (pos n)) ≡ 45 ∷ digits n
negated_text zero s h = absurd (h refl)
negated_text (suc n) s h = minus_text n (λ z. omega arith)

minus_small : (n : ℕ) → nat_abs (neg_ℤ (pos n)) ≡ n
minus_small zero = refl
minus_small (suc n) = refl

minus_at : (bs : List ℕ) (n : Num) (v : ℤ) (rest : List ℕ) → number bs ≡ n → signed_number true bs ≡ int v rest → Spelled true (45 ∷ bs) v rest
unfolding signed_number
minus_at bs malformed v rest e f = absurd (no_int (simp e at f))
minus_at bs (value n left) v rest e f =
    by_test (eqb n 0)
    (λ t. let z : none ≡ int v rest = simp (e, t) at f in absurd (no_int z))
    (λ t.
    let g : int (neg_ℤ (pos n)) left ≡ int v rest = simp (e, t) at f in
    let c = canonical bs n left e in
    let a : neg_ℤ (pos n) ≡ v = cc in
    let l : left ≡ rest = cc in
    record {
      text = ap (λ (r : List ℕ). 45 ∷ r) (c.text ∙ ap (λ (r : List ℕ). digits n ++ r) l)
          ∙ ap (λ (r : List ℕ). r ++ rest) (sym (negated_text n c.small (eqb-false n 0 t))) ∙ ap (λ (z : ℤ). signed_text z ++ rest) a;
      small = subst (λ (z : ℤ). nat_abs z ≤ four_digits) a (rw (minus_small n) c.small);
      sign = tt;
    })

-- a minus that may stand and does not
lenient : {bs : List ℕ} {v : ℤ} {rest : List ℕ} → Spelled false bs v rest → Spelled true bs v rest
lenient w = record { text = w.text; small = w.small; sign = tt }

whole_text : (m : Bool) (bs : List ℕ) (v : ℤ) (rest : List ℕ) → whole_of m bs ≡ int v rest → Spelled m bs v rest
unfolding whole_of
whole_text false bs v rest e = plain_at bs (number bs) v rest refl e
whole_text true [] v rest e = lenient (plain_at [] (number []) v rest refl e)
whole_text true (b ∷ bs) v rest e =
    by_test (eqb b 45)
    (λ t.
    let w = minus_at bs (number bs) v rest refl (simp t at e) in
    record { text = ap (λ (x : ℕ). x ∷ bs) (eqb-true b 45 t) ∙ w.text; small = w.small; sign = tt })
    (λ t. lenient (plain_at (b ∷ bs) (number (b ∷ bs)) v rest refl (simp t at e)))

-- ---- a number and the byte that ends it

pub end_no_digit : (k : ℕ) (d : ℕ) → class_of (end_of k) ≡ Digit d → ⊥
unfolding class_of
end_no_digit zero d e = let z : ◌≡◌ {A = ℕ} 0 1 = cc in omega arith
end_no_digit (suc k) d e = let z : ◌≡◌ {A = ℕ} 0 1 = cc in omega arith

reads_field : (k : ℕ) (m : Bool) (v : ℤ) (rest : List ℕ) → nat_abs v ≤ four_digits → MayStand m v → field_of (end_of k) m (signed_text v ++ (end_of k ∷ rest)) ≡ int v rest
unfolding field_of
reads_field k m v rest h s = rw (reads_whole m v (end_of k ∷ rest) h s (end_no_digit k), eq-eqb (end_of k) (end_of k) refl)

field_at : (end : ℕ) (m : Bool) (bs : List ℕ) (n : Signed) (v : ℤ) (rest : List ℕ) → whole_of m bs ≡ n → field_of end m bs ≡ int v rest → Spelled m bs v (end ∷ rest)
unfolding field_of
field_at end m bs none v rest e f = absurd (no_int (simp e at f))
field_at end m bs (int w []) v rest e f = absurd (no_int (simp e at f))
field_at end m bs (int w (b ∷ left)) v rest e f =
    by_test (eqb b end)
    (λ t.
    let q : b ≡ end = eqb-true b end t in
    let g : int w left ≡ int v rest = simp (e, t) at f in
    let a : w ≡ v = cc in
    let l : left ≡ rest = cc in
    subst (λ (z : ℤ). Spelled m bs z (end ∷ rest)) a
    (subst (λ (x : ℕ). Spelled m bs w (x ∷ rest)) q (subst (λ (r : List ℕ). Spelled m bs w (b ∷ r)) l (whole_text m bs w (b ∷ left) e))))
    (λ t. let g : none ≡ int v rest = simp (e, t) at f in absurd (no_int g))

-- ---- a line's numbers

snoc : (acc : List ℤ) (v : ℤ) (vs : List ℤ) → (acc ++ (v ∷ [])) ++ vs ≡ acc ++ (v ∷ vs)
snoc acc v vs = append_assoc acc (v ∷ []) vs

snoc_length : (acc : List ℤ) (v : ℤ) → length (acc ++ (v ∷ [])) ≡ suc (length acc)
snoc_length acc v = let a = length-append acc (v ∷ []) in omega arith

reads_numbers : (minus : ℕ) (vs acc : List ℤ) (rest : List ℕ) → Writable minus (length acc) vs → fields_from (length vs) minus acc (joined vs ++ rest) ≡ fields (acc ++ vs) rest
unfolding fields_from joined
reads_numbers minus [] acc rest s = ap (λ (l : List ℤ). fields l rest) (sym (append-nil acc))
reads_numbers minus (v ∷ vs) acc rest s =
    rw (append_assoc (signed_text v) (end_of (length vs) ∷ joined vs) rest, reads_field (length vs) (eqb (length acc) minus) v (joined vs ++ rest) s.0 s.1)
    (reads_numbers minus vs (acc ++ (v ∷ [])) rest (subst (λ (n : ℕ). Writable minus n vs) (sym (snoc_length acc v)) s.2) ∙ ap (λ (l : List ℤ). fields l rest) (snoc acc v vs))

record Numbers (k minus : ℕ) (acc : List ℤ) (bs : List ℕ) (ws : List ℤ) (rest : List ℕ) : Type 0 where
  vs : List ℤ
  all : ws ≡ acc ++ vs
  text : bs ≡ joined vs ++ rest
  count : length vs ≡ k
  good : Writable minus (length acc) vs

-- the first number, at its case
numbers_at : (k minus : ℕ) (acc : List ℤ) (bs : List ℕ) (n : Signed) (ws : List ℤ) (rest : List ℕ) → field_of (end_of k) (eqb (length acc) minus) bs ≡ n
    → ((v : ℤ) (left : List ℕ) → fields_from k minus (acc ++ (v ∷ [])) left ≡ fields ws rest → Numbers k minus (acc ++ (v ∷ [])) left ws rest)
    → fields_from (suc k) minus acc bs ≡ fields ws rest → Numbers (suc k) minus acc bs ws rest
unfolding fields_from joined
numbers_at k minus acc bs none ws rest e ih f =
    let z : bad ≡ fields ws rest = simp e at f in let o : ◌≡◌ {A = ℕ} 0 1 = cc in absurd (omega arith)
numbers_at k minus acc bs (int v left) ws rest e ih f =
    let r = ih v left (simp e at f) in
    let t = field_at (end_of k) (eqb (length acc) minus) bs (whole_of (eqb (length acc) minus) bs) v left refl e in
    record {
      vs = v ∷ r.vs;
      all = r.all ∙ snoc acc v r.vs;
      text = t.text ∙ ap (λ (l : List ℕ). signed_text v ++ (end_of k ∷ l)) r.text ∙ ap (λ (m : ℕ). signed_text v ++ (end_of m ∷ (joined r.vs ++ rest))) (sym r.count)
          ∙ sym (append_assoc (signed_text v) (end_of (length r.vs) ∷ joined r.vs) rest);
      count = ap suc r.count;
      good = (t.small, t.sign, subst (λ (n : ℕ). Writable minus n r.vs) (snoc_length acc v) r.good);
    }

numbers_none : (minus : ℕ) (acc : List ℤ) (bs : List ℕ) (ws : List ℤ) (rest : List ℕ) → fields_from zero minus acc bs ≡ fields ws rest → Numbers zero minus acc bs ws rest
unfolding fields_from joined
numbers_none minus acc bs ws rest e =
    let q : bs ≡ rest = cc in
    record { vs = []; all = cc (append-nil acc); text = q; count = refl; good = tt }

numbers_text : (k minus : ℕ) (acc : List ℤ) (bs : List ℕ) (ws : List ℤ) (rest : List ℕ) → fields_from k minus acc bs ≡ fields ws rest → Numbers k minus acc bs ws rest
numbers_text zero minus acc bs ws rest e = numbers_none minus acc bs ws rest e
numbers_text (suc k) minus acc bs ws rest e =
    numbers_at k minus acc bs (field_of (end_of k) (eqb (length acc) minus) bs) ws rest refl (λ v left f. numbers_text k minus (acc ++ (v ∷ [])) left ws rest f) e

-- ---- a line

-- the text of a line, whatever follows it, reads as its numbers
pub reads_line : (key : List ℕ) (minus : ℕ) (vs : List ℤ) (rest : List ℕ) → Writable minus 0 vs → line_of key (length vs) minus (line_text key vs ++ rest) ≡ fields vs rest
unfolding line_of line_text
reads_line key minus vs rest s = rw (append_assoc key (joined vs) rest, strips key (joined vs ++ rest)) (reads_numbers minus vs [] rest s)

-- what numbers read say of the bytes that they were read from
pub record LineRead (key : List ℕ) (k minus : ℕ) (bs : List ℕ) (vs : List ℤ) (rest : List ℕ) : Type 0 where
  pub text : bs ≡ line_text key vs ++ rest
  pub count : length vs ≡ k
  pub good : Writable minus 0 vs

line_at : (key : List ℕ) (k minus : ℕ) (bs : List ℕ) (n : Rest) (ws : List ℤ) (rest : List ℕ) → stripped key bs ≡ n → line_of key k minus bs ≡ fields ws rest → LineRead key k minus bs ws rest
unfolding line_of line_text
line_at key k minus bs missing ws rest e f = let z : bad ≡ fields ws rest = simp e at f in let o : ◌≡◌ {A = ℕ} 0 1 = cc in absurd (omega arith)
line_at key k minus bs (after left) ws rest e f =
    let r = numbers_text k minus [] left ws rest (simp e at f) in
    let w : ws ≡ r.vs = r.all in
    record {
      text = strip_text key bs left e ∙ ap (λ (l : List ℕ). key ++ l) r.text ∙ sym (append_assoc key (joined r.vs) rest) ∙ ap (λ (l : List ℤ). (key ++ joined l) ++ rest) (sym w);
      count = ap length w ∙ r.count;
      good = subst (Writable minus 0) (sym w) r.good;
    }

-- what reads as a line is its text
pub line_text_lem : (key : List ℕ) (k minus : ℕ) (bs : List ℕ) (vs : List ℤ) (rest : List ℕ) → line_of key k minus bs ≡ fields vs rest → LineRead key k minus bs vs rest
line_text_lem key k minus bs vs rest e = line_at key k minus bs (stripped key bs) vs rest refl e
