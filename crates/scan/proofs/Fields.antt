-- The parts of a line, as the code meets them at places of the bytes s: a key, a number and the byte that ends it,
-- numbers in an array.
-- Assumes nothing.
use Rattle.std.specs.Prelude.{◌≡◌, ℕ, zero, suc, ◌+◌, ◌-◌, ◌≤◌, ◌<◌, Bool, true, false, List, [], ◌∷◌, ◌++◌, ℤ, pos, nat_abs, eqb, ltb, length, drop, take, get_or, set, replicate}
use Rattle.std.proofs.Common.{refl, sym, ap, ◌∙◌, add-one, arith, drop_of_length-le, drop-drop, length-drop, take_all, length-set, take-suc-set, length-take-le, eq-eqb, ne_eqb, eqb-true, le-leb, lt-ltb, to_z, of_z}
use Rattle.std.proofs.lemmas.Bool.{lt-leb, eqb-false}
use Rattle.std.specs.Cmp.Lexicographic.{pointwise}
use Rattle.std.specs.List.{starts_with}
use Rattle.text.specs.Sizes.{four_digits}
use Rattle.std.specs.Int.{w32}
use Rattle.laws.specs.Store.{store}
use Rattle.laws.specs.Tests.{by_test}
use Rattle.laws.specs.Z.{kept, true_false, four_digits_lem}
use Rattle.text.specs.Text.{end_of}
use Rattle.scan_number.specs.Number.{int, none, class_of, number, signed_number, whole_of}
use Rattle.scan_number.specs.Bytes.{byte_of}
use Rattle.scan_number.specs.declared.Class.{Class}
use Rattle.scan_number.specs.declared.Class.TheVariants.{Comma, LineFeed}
use Rattle.scan_number.proofs.Digits.{front}
use Rattle.scan.specs.declared.Line.{Line}
use Rattle.scan.specs.Line.{most_numbers, Rest, after, missing, stripped, field_of, fields, bad, fields_from, line_of, due_line, zeros, LineFits}

-- ---- a number and the byte that ends it

pub field_none : (bs : List ℕ) (end : ℕ) (m : Bool) → none ≡ whole_of m bs → none ≡ field_of end m bs
unfolding field_of
field_none bs end m e = rw (← e)

module _ (s bs : List ℕ) (v : ℤ) (p : ℕ) (m : Bool) (e : int v (drop p s) ≡ whole_of m bs) (end : ℕ) where
  pub field_got : p < length s → true ≡ eqb (get_or s p 0) end → int v (drop (p + 1) s) ≡ field_of end m bs
  unfolding field_of
  field_got h g = rw (← e, front s p h, ← g)

  pub field_other : p < length s → false ≡ eqb (get_or s p 0) end → none ≡ field_of end m bs
  unfolding field_of
  field_other h g = rw (← e, front s p h, ← g)

  pub field_short : length s ≤ p → none ≡ field_of end m bs
  unfolding field_of
  field_short h = rw (← e, drop_of_length-le s h)

-- ---- the byte that ends a number which m others follow

-- a comma ends it where m is not 0
pub comma_ends : (b m : ℕ) → Comma ≡ class_of b → ltb 0 m ≡ eqb b (end_of m)
comma_ends b zero e = let q : b ≡ 44 = byte_of b (sym e) in sym (ne_eqb b 10 (λ n. omega arith))
comma_ends b (suc m) e = lt-ltb 0 (suc m) (omega arith) ∙ sym (eq-eqb b 44 (byte_of b (sym e)))

-- a line feed ends it where m is 0
pub feed_ends : (b m : ℕ) → LineFeed ≡ class_of b → eqb m 0 ≡ eqb b (end_of m)
feed_ends b zero e = sym (eq-eqb b 10 (byte_of b (sym e)))
feed_ends b (suc m) e =
    let q : b ≡ 10 = byte_of b (sym e) in
    ne_eqb (suc m) 0 (λ n. omega arith) ∙ sym (ne_eqb b 44 (λ n. omega arith))

-- no byte of another class does
due_class : (m : ℕ) → (class_of (end_of m) ≡ Comma → ⊥) → (class_of (end_of m) ≡ LineFeed → ⊥) → ⊥
unfolding class_of
due_class zero k f = f refl
due_class (suc m) k f = k refl

pub other_ends : (b m : ℕ) → (class_of b ≡ Comma → ⊥) → (class_of b ≡ LineFeed → ⊥) → false ≡ eqb b (end_of m)
other_ends b m k f = sym (ne_eqb b (end_of m) (λ q. due_class m (rw q at k) (rw q at f)))

-- ---- a key

key_true : (key s : List ℕ) → pointwise eqb key (take (length key) s) ≡ true → after (drop (length key) s) ≡ stripped key s
unfolding stripped
key_true [] s e = refl
key_true (c ∷ key) [] e = cc
key_true (c ∷ key) (b ∷ s) e =
    by_test (eqb c b)
    (λ t. let q : b ≡ c = sym (eqb-true c b t) in rw (eq-eqb b c q) (key_true key s (simp t at e)))
    (λ t. true_false (sym (simp t at e)))

key_false : (key s : List ℕ) → pointwise eqb key (take (length key) s) ≡ false → missing ≡ stripped key s
unfolding stripped
key_false [] s e = cc
key_false (c ∷ key) [] e = refl
key_false (c ∷ key) (b ∷ s) e =
    by_test (eqb c b)
    (λ t. let q : b ≡ c = sym (eqb-true c b t) in rw (eq-eqb b c q) (key_false key s (simp t at e)))
    (λ t. let q : (b ≡ c → ⊥) = λ z. eqb-false c b t (sym z) in rw (ne_eqb b c q))

module _ (s key : List ℕ) (at : ℕ) where
  rest : take (length s - at) (drop at s) ≡ drop at s
  rest = take_all (length s - at) (drop at s) (omega (arith, length-drop at s))

  pub key_here : true ≡ starts_with eqb (take (length s - at) (drop at s)) key → after (drop (at + length key) s) ≡ stripped key (drop at s)
  key_here e = ap after (sym (drop-drop (length key) at s)) ∙ key_true key (drop at s) (sym (rw rest at e))

  pub key_missing : false ≡ starts_with eqb (take (length s - at) (drop at s)) key → missing ≡ stripped key (drop at s)
  key_missing e = key_false key (drop at s) (sym (rw rest at e))

-- ---- a number of at most four digits is an i32

pub small_bits : (z : ℤ) → nat_abs z ≤ four_digits → to_z w32 (of_z w32 z) ≡ z
small_bits z h = kept (four_digits_lem z h)

-- ---- one number of a line, with the numbers before it at the front of an array

module _ (count minus i : ℕ) (vs : List ℤ) (bs : List ℕ) (h : i < count) (l : i < length vs) where
  turn : count - i ≡ suc (count - (i + 1))
  turn = omega arith

  before : length (take i vs) ≡ i
  before = length-take-le i vs (omega arith)

  pub numbers_stop : none ≡ field_of (end_of (count - (i + 1))) (eqb i minus) bs → bad ≡ fields_from (count - i) minus (take i vs) bs
  unfolding fields_from
  numbers_stop e = rw (turn, before, ← e)

  pub numbers_more : (v : ℤ) (rest : List ℕ) → int v rest ≡ field_of (end_of (count - (i + 1))) (eqb i minus) bs
      → fields_from (count - (i + 1)) minus (take (i + 1) (set vs i v)) rest ≡ fields_from (count - i) minus (take i vs) bs
  unfolding fields_from
  numbers_more v rest e =
      let t : take (i + 1) (set vs i v) ≡ take i vs ++ (v ∷ []) = rw add-one (take-suc-set vs i v l) in
      rw (turn, before, ← e, t)

pub numbers_end : (count minus i : ℕ) (vs : List ℤ) (bs : List ℕ) → count ≤ i → fields (take i vs) bs ≡ fields_from (count - i) minus (take i vs) bs
unfolding fields_from
numbers_end count minus i vs bs h =
    let q : count - i ≡ 0 = omega arith in
    rw q

-- ---- the array: values of at most four digits, and 0 from the place i on

pub record Filled (i : ℕ) (vs : List ℤ) : Type 0 where
  pub whole : length vs ≡ most_numbers
  pub small : (k : ℕ) → nat_abs (get_or vs k (pos 0)) ≤ four_digits
  pub past : (k : ℕ) → i ≤ k → get_or vs k (pos 0) ≡ pos 0

all_zero : (n k : ℕ) → get_or (replicate n (pos 0)) k (pos 0) ≡ pos 0
all_zero zero k = refl
all_zero (suc n) zero = refl
all_zero (suc n) (suc k) = all_zero n k

pub filled_none : Filled 0 zeros
filled_none = record { whole = refl; small = λ k. rw (all_zero most_numbers k) (omega arith); past = λ k h. all_zero most_numbers k }

pub filled_more : (i : ℕ) (vs : List ℤ) (v : ℤ) → i < most_numbers → Filled i vs → nat_abs v ≤ four_digits → Filled (i + 1) (set vs i v)
filled_more i vs v h f m =
    let l = f.whole in
    record {
      whole = length-set vs i v ∙ l;
      small = λ k. store (λ j x. nat_abs x ≤ four_digits) vs i v (pos 0) (omega arith) m k (λ n. f.small k);
      past = λ k q. store (λ j x. i + 1 ≤ j → x ≡ pos 0) vs i v (pos 0) (omega arith) (λ n. absurd (omega arith)) k (λ n r. f.past k (omega arith)) q;
    }

pub fits_line : (s : List ℕ) (k p : ℕ) (vs : List ℤ) → p ≤ length s → Filled k vs → LineFits s k (record { values = vs; next = p })
fits_line s k p vs h f = record { whole = f.whole; next = h; small = f.small; past = f.past }

-- ---- a line

module _ (k : List ℕ) (count minus : ℕ) (bs : List ℕ) where
  pub line_none : count < 1 → bad ≡ due_line k count minus bs
  line_none lo = rw (lt-leb 1 count lo)

  pub line_long : most_numbers < count → bad ≡ due_line k count minus bs
  line_long hi = rw (le-leb 1 count (omega arith), lt-leb count most_numbers hi)

  module _ (lo : 1 ≤ count) (hi : count ≤ most_numbers) where
    pub line_after : (rest : List ℕ) → after rest ≡ stripped k bs → fields_from count minus [] rest ≡ due_line k count minus bs
    unfolding line_of
    line_after rest e = rw (le-leb 1 count lo, le-leb count most_numbers hi, ← e)

    pub line_missing : missing ≡ stripped k bs → bad ≡ due_line k count minus bs
    unfolding line_of
    line_missing e = rw (le-leb 1 count lo, le-leb count most_numbers hi, ← e)

-- no bytes are no line
field_empty : (end : ℕ) (m : Bool) → field_of end m [] ≡ none
unfolding field_of whole_of signed_number number
field_empty end true = refl
field_empty end false = refl

line_empty : (key : List ℕ) (count minus : ℕ) → 1 ≤ count → line_of key count minus [] ≡ bad
unfolding line_of stripped fields_from
line_empty key zero minus h = absurd (omega arith)
line_empty [] (suc k) minus h = rw (field_empty (end_of k) (eqb 0 minus))
line_empty (c ∷ cs) (suc k) minus h = refl

pub line_past : (s k : List ℕ) (at count minus : ℕ) → length s ≤ at → 1 ≤ count → count ≤ most_numbers → bad ≡ due_line k count minus (drop at s)
line_past s k at count minus h lo hi = rw (drop_of_length-le s h, le-leb 1 count lo, le-leb count most_numbers hi) (sym (line_empty k count minus lo))
