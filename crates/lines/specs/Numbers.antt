-- Laws of a line of naturals.
-- Assumes nothing.
use Rattle.std.specs.Prelude.{◌≡◌, refl, List, [], ◌∷◌, map, ℕ, zero, suc, ◌≤◌, ◌<◌, ℤ, pos, length, get_or, take}
use Rattle.std.proofs.Common.{sym, ap, ap₂, ◌∙◌, arith, ext_get_or}
use Rattle.std.proofs.Math.Nat.{min-eq_left}
use Rattle.std.proofs.lemmas.List.{length-map}
use Rattle.std.proofs.Math.ListN.{get_or-map}
use Rattle.sizes.specs.Sizes.{most_operations}
use Rattle.text.specs.declared.Key.{Key}
use Rattle.text.specs.Sizes.{most_values, greatest_number}
use Rattle.text.specs.Text.{line_text}
use Rattle.text.specs.Line.{key_of, text_of}
use Rattle.text.specs.Joined.{line_text_lem}
use Rattle.lines.specs.Lines.{capped}

-- numbers one by one, and the first of them
numbers_are : (ns : List ℕ) (vs : List ℤ) → length ns ≡ most_operations → length vs ≡ most_values → ((k : ℕ) → k < most_values → get_or vs k (pos 0) ≡ capped (get_or ns k 0)) → vs ≡ map capped ns
numbers_are ns vs l m e =
    ext_get_or (pos 0) vs (map capped ns) (m ∙ sym l ∙ sym (length-map ns capped)) (λ k h. e k (omega arith) ∙ sym (get_or-map capped ns k 0))

take_map : (n : ℕ) (ns : List ℕ) → take n (map capped ns) ≡ map capped (take n ns)
take_map zero ns = refl
take_map (suc n) [] = refl
take_map (suc n) (k ∷ ns) = ap (λ (l : List ℤ). capped k ∷ l) (take_map n ns)

-- the text of their line
pub numbers_text : (key : Key) (n : ℕ) (ns : List ℕ) (vs : List ℤ) → length ns ≡ most_operations → length vs ≡ most_values → ((k : ℕ) → k < most_values → get_or vs k (pos 0) ≡ capped (get_or ns k 0))
    → text_of (record { key = key; count = n; values = vs }) ≡ line_text (key_of key) (map capped (take n ns))
numbers_text key n ns vs l m e = line_text_lem key n vs (map capped (take n ns)) (ap (take n) (numbers_are ns vs l m e) ∙ take_map n ns)

-- each number as it is, where none is past the greatest
pub as_they_are : (n : ℕ) (ns : List ℕ) → ((k : ℕ) → get_or ns k 0 ≤ greatest_number) → map capped (take n ns) ≡ map pos (take n ns)
as_they_are zero ns h = refl
as_they_are (suc n) [] h = refl
as_they_are (suc n) (k ∷ ns) h = ap₂ (λ (m : ℕ) (l : List ℤ). pos m ∷ l) (min-eq_left (h 0)) (as_they_are n ns (λ i. h (suc i)))
