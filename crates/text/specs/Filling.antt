-- Laws of lines that go one after the other into a lent buffer, and of the count of their bytes: one set for the lines
-- of a sheet and those of a plan.
-- Assumes nothing.
use Rattle.std.specs.Prelude.{◌≡◌, refl, List, [], ◌∷◌, ◌++◌, ℕ, ◌+◌, ◌*◌, ◌-◌, ◌≤◌, ◌<◌, length, drop, take, get_or}
use Rattle.std.proofs.Common.{sym, ap, ◌∙◌, append_assoc, append-nil, arith, add-one, length-append, drop_of_length-le}
use Rattle.std.proofs.Math.Seq.{drop-cons}
use Rattle.text.specs.Text.{over, buffer_of}
use Rattle.text.specs.declared.Line as made
use Rattle.text.specs.Line.{text_of, count_of}
use Rattle.text.specs.Lines.{Line, line_text_of, lines_text, no_line}
use Rattle.text.specs.Sizes.{longest_line}
use Rattle.text.specs.Progress.{Progress, begin, to, room, next_part, same_size, finish}

pub lines_append : (xs ys : List Line) → lines_text (xs ++ ys) ≡ lines_text xs ++ lines_text ys
unfolding lines_text
lines_append [] ys = refl
lines_append (x ∷ xs) ys = ap (λ (l : List ℕ). line_text_of x ++ l) (lines_append xs ys) ∙ sym (append_assoc (line_text_of x) (lines_text xs) (lines_text ys))

pub one_line : (l : Line) → lines_text (l ∷ []) ≡ line_text_of l
unfolding lines_text
one_line l = append-nil (line_text_of l)

module _ (ls : List Line) (i : ℕ) where
  -- the lines from the place i on
  front : i < length ls → lines_text (drop i ls) ≡ line_text_of (get_or ls i no_line) ++ lines_text (drop (i + 1) ls)
  unfolding lines_text
  front h = rw (add-one, drop-cons ls i no_line h)

  past : length ls ≤ i → lines_text (drop i ls) ≡ []
  unfolding lines_text
  past h = rw (drop_of_length-le ls h)

-- calls that give the lines, each by its place
pub record Gives (post : ℕ → made.Line → Type 0) (n : ℕ) (ls : List Line) : Type 0 where
  pub count : n ≡ length ls
  pub each : (i : ℕ) → i < n → (l : made.Line) → post i l → text_of l ≡ line_text_of (get_or ls i no_line)

-- ---- into a buffer

-- the buffer old takes all the lines; with those before the place i it is out, filled up to the place at
pub record Filled (ls : List Line) (old out : List ℕ) (i at : ℕ) : Type 0 where
  pub progress : Progress (lines_text ls) old out (lines_text (drop i ls)) at

pub filled_none : (ls : List Line) (old : List ℕ) → length (lines_text ls) ≤ length old → Filled ls old old 0 0
filled_none ls old h = record { progress = begin (lines_text ls) old h }

module _ {ls : List Line} {old out : List ℕ} {i at : ℕ} (p : Filled ls old out i at) where
  pub filled_within : at ≤ length out
  filled_within = let r = room [] (lines_text (drop i ls)) p.progress in omega arith

  pub filled_size : length out ≡ length old
  filled_size = same_size p.progress

  -- one line more, written into the part of the buffer from the place at on, which was lent and came back
  pub filled_more : {piece : List ℕ} {r : ℕ} {last : List ℕ} → i < length ls → piece ≡ line_text_of (get_or ls i no_line)
      → r ≡ count_of piece (take (length out - at) (drop at out)) → last ≡ buffer_of piece (take (length out - at) (drop at out))
      → Filled ls old (take at out ++ (last ++ drop (length out - at) (drop at out))) (i + 1) (at + r)
  filled_more {piece} h e c b =
      let rest = lines_text (drop (i + 1) ls) in
      record { progress = next_part piece rest (to (front ls i h ∙ ap (λ (x : List ℕ). x ++ rest) (sym e)) p.progress) c b }

  pub filled_all : length ls ≤ i → (at ≡ length (lines_text ls)) × (out ≡ over (lines_text ls) old)
  filled_all h = finish (to (past ls i h) p.progress)

-- ---- counted

-- the lines before the place i have total bytes
pub record Counted (ls : List Line) (i total : ℕ) : Type 0 where
  pub most : total ≤ longest_line * i
  pub rest : total + length (lines_text (drop i ls)) ≡ length (lines_text ls)

pub counted_none : (ls : List Line) → Counted ls 0 0
counted_none ls = record { most = omega arith; rest = omega arith }

module _ {ls : List Line} {i total : ℕ} (p : Counted ls i total) where
  pub counted_more : {piece : List ℕ} {n : ℕ} → i < length ls → piece ≡ line_text_of (get_or ls i no_line) → n ≡ length piece → n ≤ longest_line
      → Counted ls (i + 1) (total + n)
  counted_more {piece} h e q m =
      let f = ap length (front ls i h) ∙ length-append (line_text_of (get_or ls i no_line)) (lines_text (drop (i + 1) ls)) in
      let w = ap length e in
      let b = p.most in
      let r = p.rest in
      record { most = omega arith; rest = omega arith }

  pub counted_all : length ls ≤ i → total ≡ length (lines_text ls)
  counted_all h = let z = ap length (past ls i h) in let r = p.rest in omega arith
