-- Laws of the words, as the code meets them: a line that `scan` has read, and the rows of the table.
-- Assumes nothing.
use Rattle.std.specs.Prelude.{◌≡◌, refl, Bool, ℕ, ◌≤◌, ◌<◌, T, eqb, nat_abs, length, take, drop, Some, None}
use Rattle.std.proofs.Common.{sym, ◌∙◌, arith, Fits, eq-eqb, eqb-true}
use Rattle.std.proofs.Math.Path.{subst}
use Rattle.std.proofs.Math.Bool.{true, false}
use mathlib.Core.List.{List, [], ◌∷◌}
use Rattle.std.proofs.Math.ListN.{drop_of_length-le}
use Rattle.std.proofs.Math.Seq.{drop-cons}
use Rattle.std.specs.Int.Signed.{non_neg}
use Rattle.std.specs.Int.{w64}
use Rattle.laws.specs.Tests.{by_test}
use Rattle.laws.specs.Z.{true_false}
use Rattle.text.specs.Keys.{interval_key}
use Rattle.scan.specs.declared.Line.{Line}
use Rattle.scan.specs.Line.{fields, bad, no_minus, line_of, LineFits}
use Rattle.scan.specs.Values.{bits, bits_at, cast_at}
use Rattle.words.specs.declared.Given.{Given}
use Rattle.words.specs.declared.Asked.TheVariants.{Unknown}
use Rattle.words.specs.Arguments.{pair_key, number_after, with_interval, with_pair, with_other, with_word}
use Rattle.words.specs.Requests.{Row, taking, same, request_in}

-- ---- a line that was read

pub no_line : (key line : List ℕ) → bad ≡ line_of key 1 no_minus line → None ≡ number_after key line
unfolding number_after
no_line key line e = rw (← e)

module _ (key line : List ℕ) (l : Line) (e : fields (take 1 l.values) (drop l.next line) ≡ line_of key 1 no_minus line) (fits : LineFits line 1 l) where
  pub more_after : l.next < length line → None ≡ number_after key line
  unfolding number_after
  more_after h = rw (← e, drop-cons line l.next 0 h)

  pub number : length line ≤ l.next → Some (nat_abs (bits l 0)) ≡ number_after key line
  unfolding number_after
  number h = rw (← e, drop_of_length-le line h, bits_at fits 0 (omega arith))

  -- its cast to an unsigned number
  pub whole : T (non_neg (bits l 0)) × Fits w64 (nat_abs (bits l 0))
  whole = cast_at key 1 no_minus line line l e fits 0 (λ z. absurd (omega arith))

-- ---- one word more

module _ (g : Given) (line : List ℕ) where
  pub interval_word : (n : ℕ) → number_after interval_key line ≡ Some n → with_word g line ≡ with_interval g n
  unfolding with_word
  interval_word n e = rw e

  module _ (o : number_after interval_key line ≡ None) where
    pub pair_word : (n : ℕ) → number_after pair_key line ≡ Some n → with_word g line ≡ with_pair g n
    unfolding with_word
    pair_word n e = rw (o, e)

    pub other_word : number_after pair_key line ≡ None → with_word g line ≡ with_other g
    unfolding with_word
    other_word e = rw (o, e)

-- ---- the rows

same_refl : (xs : List ℕ) → same xs xs ≡ true
unfolding same
same_refl [] = refl
same_refl (x ∷ xs) = rw (eq-eqb x x refl) (same_refl xs)

same_true : (xs ys : List ℕ) → same xs ys ≡ true → xs ≡ ys
unfolding same
same_true [] [] e = refl
same_true [] (y ∷ ys) e = true_false (sym e)
same_true (x ∷ xs) [] e = true_false (sym e)
same_true (x ∷ xs) (y ∷ ys) e =
    by_test (eqb x y)
    (λ t. let q : x ≡ y = eqb-true x y t in let r : xs ≡ ys = same_true xs ys (simp t at e) in cc)
    (λ t. true_false (sym (simp t at e)))

pub no_row : (name : List ℕ) (g : Given) → request_in [] name g ≡ Unknown
unfolding request_in
no_row name g = refl

module _ (r : Row) (rs : List Row) (name : List ℕ) (g : Given) {b : Bool} (tells : (b ≡ true → name ≡ r.name) × (name ≡ r.name → b ≡ true)) where
  -- the row of another name is passed over
  pub passed : b ≡ false → request_in (r ∷ rs) name g ≡ request_in rs name g
  unfolding request_in
  passed f =
      let q : same name r.name ≡ false = by_test (same name r.name) (λ t. true_false (sym (tells.1 (same_true name r.name t)) ∙ f)) (λ t. t) in
      rw q

  -- the row of that name
  pub found : b ≡ true → request_in (r ∷ rs) name g ≡ taking g r.interval r.pair (r.asks g.interval g.pair)
  unfolding request_in
  found f =
      let q : same name r.name ≡ true = subst (λ (x : List ℕ). same name x ≡ true) (tells.0 f) (same_refl name) in
      rw q
