-- What `read_line` promises of its result fixes the whole of it: two lines that fit and are seen alike are one.
-- Assumes nothing.
use Rattle.std.specs.Prelude.{◌≡◌, refl, List, ℕ, ◌≤◌, ◌<◌, ℤ, pos, length, drop, take, get_or, Option, Some, None, IfSome}
use Rattle.std.proofs.Common.{sym, ap, ◌∙◌, arith, length-drop, get_or-take, ext_get_or}
use Rattle.std.proofs.Math.Decide.{dec_lt}
use Rattle.scan.specs.Line.{fields, bad, seen_line, LineFits, value_at}
use Rattle.scan.specs.declared.Line.{Line}

-- a place within the bytes is fixed by the bytes from there on
pub same_place : (s : List ℕ) {p q : ℕ} → p ≤ length s → q ≤ length s → drop p s ≡ drop q s → p ≡ q
same_place s {p} {q} h m e = omega (arith, length-drop p s, length-drop q s, ap length e)

module _ (s : List ℕ) (k : ℕ) (l m : Line) (f : LineFits s k l) (g : LineFits s k m) where
  same_values : take k l.values ≡ take k m.values → l.values ≡ m.values
  same_values e = ext_get_or (pos 0) l.values m.values (f.whole ∙ sym g.whole) (λ i h. at i (dec_lt i k))
    where
      at : (i : ℕ) → Dec (i < k) → value_at l i ≡ value_at m i
      at i (yes h) = sym (get_or-take k l.values i (pos 0) h) ∙ ap (λ (x : List ℤ). get_or x i (pos 0)) e ∙ get_or-take k m.values i (pos 0) h
      at i (no h) = f.past i (omega arith) ∙ sym (g.past i (omega arith))

pub no_line : {vs : List ℤ} {rest : List ℕ} → fields vs rest ≡ bad → ⊥
no_line e = let z : ◌≡◌ {A = ℕ} 0 1 = cc in omega arith

pub one_line : (s : List ℕ) (k : ℕ) (a b : Option Line) → IfSome a (LineFits s k) → IfSome b (LineFits s k) → seen_line s k a ≡ seen_line s k b → a ≡ b
one_line s k None None f g e = refl
one_line s k None (Some m) f g e = absurd (no_line (sym e))
one_line s k (Some l) None f g e = absurd (no_line e)
one_line s k (Some l) (Some m) f g e =
    let v = same_values s k l m f g (cc) in
    let n = same_place s f.next g.next (cc) in
    λ i. Some (record { values = v i; next = n i })
