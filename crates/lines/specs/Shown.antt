-- Laws of a list of lines by value: which line stands where in its text, one line more, and how long the text is.
-- Assumes nothing.
use Rattle.std.specs.Prelude.{◌≡◌, refl, ℕ, zero, suc, ◌+◌, ◌*◌, ◌≤◌, ◌<◌, pos, length, get_or, take, set}
use Rattle.std.proofs.Common.{sym, ◌∙◌, arith, add-one, length-append, length-take, length-set, take-suc-set, get_or-take, lt-ltb, le-ltb}
use Rattle.std.proofs.Math.Path.{ap}
use mathlib.Core.List.{List, [], ◌∷◌, ◌++◌, map, flat_map, append_assoc, append-nil}
use Rattle.std.proofs.Math.Decide.{dec_lt}
use Rattle.std.proofs.lemmas.List.{length-map, length-replicate, get_or-replicate}
use Rattle.laws.specs.Store.{store}
use Rattle.text.specs.declared.Line.{Line}
use Rattle.text.specs.Line.{key_of, text_of}
use Rattle.text.specs.Lines as bytes
use Rattle.text.specs.Sizes.{most_values, longest_line}
use Rattle.text.specs.Bounds.{text_most}
use Rattle.lines.specs.declared.Lines.{Lines}
use Rattle.lines.specs.Lines.{most_lines, shown, blank, no_lines, with_line}

-- ---- the lines by their bytes

-- a line by its bytes
abbrev pub bytes_of : Line → bytes.Line
bytes_of l = record { key = key_of l.key; values = take l.count l.values }

-- the lines that are shown
abbrev pub shown_lines : Lines → List bytes.Line
shown_lines ls = map bytes_of (take ls.count ls.lines)

texts : (ls : List Line) → flat_map text_of ls ≡ bytes.lines_text (map bytes_of ls)
unfolding flat_map bytes.lines_text text_of
texts [] = refl
texts (l ∷ ls) = ap (λ (x : List ℕ). text_of l ++ x) (texts ls)

pub shown_text : (ls : Lines) → shown ls ≡ bytes.lines_text (shown_lines ls)
unfolding shown
shown_text ls = texts (take ls.count ls.lines)

-- the line at the place i
text_at : (ls : List Line) (n i : ℕ) (d : Line) → i < length (take n ls) → text_of (get_or ls i d) ≡ bytes.line_text_of (get_or (map bytes_of (take n ls)) i bytes.no_line)
unfolding text_of
text_at ls zero i d h = absurd (omega arith)
text_at [] (suc n) i d h = absurd (omega arith)
text_at (l ∷ ls) (suc n) zero d h = refl
text_at (l ∷ ls) (suc n) (suc i) d h = text_at ls n i d (omega arith)

pub line_at : (ls : Lines) (i : ℕ) (d : Line) → i < length (shown_lines ls) → text_of (get_or ls.lines i d) ≡ bytes.line_text_of (get_or (shown_lines ls) i bytes.no_line)
line_at ls i d h = text_at ls.lines ls.count i d (omega (arith, length-map (take ls.count ls.lines) bytes_of))

-- ---- no line

pub none_shown : shown no_lines ≡ []
unfolding shown no_lines flat_map
none_shown = refl

pub none_count : no_lines.count ≡ 0
unfolding no_lines
none_count = refl

-- ---- one line more

texts_append : (xs ys : List Line) → flat_map text_of (xs ++ ys) ≡ flat_map text_of xs ++ flat_map text_of ys
unfolding flat_map
texts_append [] ys = refl
texts_append (x ∷ xs) ys = ap (λ (l : List ℕ). text_of x ++ l) (texts_append xs ys) ∙ sym (append_assoc (text_of x) (flat_map text_of xs) (flat_map text_of ys))

text_alone : (l : Line) → flat_map text_of (l ∷ []) ≡ text_of l
unfolding flat_map
text_alone l = append-nil (text_of l)

module _ (ls : Lines) (l : Line) where
  pub with_room : ls.count < most_lines → with_line ls l ≡ record { count = ls.count + 1; lines = set ls.lines ls.count l }
  unfolding with_line
  with_room h = rw (lt-ltb ls.count most_lines h)

  pub with_full : most_lines ≤ ls.count → with_line ls l ≡ ls
  unfolding with_line
  with_full h = rw (le-ltb ls.count most_lines h)

  pub with_count : ls.count < most_lines → (with_line ls l).count ≡ ls.count + 1
  with_count h = ap (λ (x : Lines). x.count) (with_room h)

  -- the array has its length, with room and without
  pub with_length : length (with_line ls l).lines ≡ length ls.lines
  with_length = at (dec_lt ls.count most_lines)
    where
      at : Dec (ls.count < most_lines) → length (with_line ls l).lines ≡ length ls.lines
      at (yes h) = ap (λ (x : Lines). length x.lines) (with_room h) ∙ length-set ls.lines ls.count l
      at (no h) = ap (λ (x : Lines). length x.lines) (with_full (omega arith))

  pub with_shown : ls.count < most_lines → length ls.lines ≡ most_lines → shown (with_line ls l) ≡ shown ls ++ text_of l
  unfolding shown
  with_shown h e =
      ap (λ (x : Lines). flat_map text_of (take x.count x.lines)) (with_room h)
      ∙ ap (λ (n : ℕ). flat_map text_of (take n (set ls.lines ls.count l))) (add-one ls.count)
      ∙ ap (flat_map text_of) (take-suc-set ls.lines ls.count l (omega arith))
      ∙ texts_append (take ls.count ls.lines) (l ∷ [])
      ∙ ap (λ (x : List ℕ). flat_map text_of (take ls.count ls.lines) ++ x) (text_alone l)

-- ---- how long the text is at most

-- each array is whole, as those of src/ are
pub record Whole (ls : Lines) : Type 0 where
  pub lines : length ls.lines ≡ most_lines
  pub values : (i : ℕ) → i < most_lines → length (get_or ls.lines i blank).values ≡ most_values

pub none_whole : Whole no_lines
unfolding no_lines
none_whole = record {
  lines = length-replicate most_lines blank;
  values = λ i h. ap (λ (l : Line). length l.values) (get_or-replicate most_lines i blank blank h) ∙ length-replicate most_values (pos 0);
}

pub with_whole : {ls : Lines} → Whole ls → (l : Line) → length l.values ≡ most_values → Whole (with_line ls l)
with_whole {ls} w l e = at (dec_lt ls.count most_lines)
  where
    at : Dec (ls.count < most_lines) → Whole (with_line ls l)
    at (yes h) =
        let n = w.lines in
        rw (with_room ls l h) (record {
          lines = length-set ls.lines ls.count l ∙ w.lines;
          values = λ i k. store (λ j x. length x.values ≡ most_values) ls.lines ls.count l blank (omega arith) e i (λ o. w.values i k);
        })
    at (no h) = rw (with_full ls l (omega arith)) w

texts_most : (xs : List Line) → ((i : ℕ) → i < length xs → length (get_or xs i blank).values ≡ most_values) → length (flat_map text_of xs) ≤ longest_line * length xs
unfolding flat_map
texts_most [] w = omega arith
texts_most (x ∷ xs) w =
    let v = w 0 (omega arith) in
    let a = text_most x (omega arith) in
    let b = texts_most xs (λ i h. w (suc i) (omega arith)) in
    let c = length-append (text_of x) (flat_map text_of xs) in
    omega arith

pub shown_most : {ls : Lines} → Whole ls → length (shown ls) ≤ most_lines * longest_line
unfolding shown
shown_most {ls} w =
    let n = length-take ls.count ls.lines in
    let e = w.lines in
    let m = texts_most (take ls.count ls.lines) (λ i h.
    ap (λ (l : Line). length l.values) (get_or-take ls.count ls.lines i blank (omega arith)) ∙ w.values i (omega arith)) in
    omega arith
