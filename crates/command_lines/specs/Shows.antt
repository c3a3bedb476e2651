-- Laws of a list of lines that is made line by line: which lines its text is that of.
-- Assumes nothing.
use Rattle.std.specs.Prelude.{◌≡◌, refl, List, [], ◌∷◌, ◌++◌, ℕ, ◌+◌, ◌≤◌, ◌<◌, min, pos, length}
use Rattle.std.proofs.Common.{sym, ap, subst, ◌∙◌, arith, length-append}
use Rattle.sizes.specs.Sizes.{most_operations}
use Rattle.laws.specs.Entry.{vec}
use Rattle.laws.specs.Each.{each, each_length, each_more}
use Rattle.text.specs.Sizes.{most_values, greatest_number}
use Rattle.text.specs.Text.{line_text}
use Rattle.text.specs.declared.Key.{Key}
use Rattle.text.specs.declared.Line as made
use Rattle.text.specs.Line.{key_of, text_of}
use Rattle.text.specs.Lines.{Line, line_text_of, lines_text, count_line}
use Rattle.text.specs.Joined.{one_number}
use Rattle.text.specs.Filling.{lines_append, one_line}
use Rattle.lines.specs.declared.Lines.{Lines}
use Rattle.lines.specs.Lines.{most_lines, shown, no_lines, with_line}
use Rattle.lines.specs.Shown.{Whole, none_shown, none_whole, with_count, with_shown, with_whole}

-- the list shows these lines
pub record Shows (ls : Lines) (want : List Line) : Type 0 where
  pub text : shown ls ≡ lines_text want
  pub count : ls.count ≡ length want
  pub whole : Whole ls

-- the list's text is one of which P holds
pub record Lists (P : List ℕ → Type 0) (ls : Lines) : Type 0 where
  pub holds : P (shown ls)
  pub whole : Whole ls

-- each number of an array is one that a line can have
abbrev pub Printable : List ℕ → Type 0
Printable xs = (i : ℕ) → vec xs i ≤ greatest_number

-- the numbers of an answer at an interval, as far as they are printed, are such numbers
pub record Sized (n L : ℕ) (es : List ℕ) : Type 0 where
  pub few : n ≤ greatest_number
  pub interval : n ≡ 5 → L ≤ greatest_number
  pub edges : n ≡ 5 → Printable es

-- ---- lists of lines

pub lists : {P : List ℕ → Type 0} {ls : Lines} {want : List Line} → Shows ls want → P (lines_text want) → Lists P ls
lists {P} s p = record { holds = subst P (sym s.text) p; whole = s.whole }

pub nothing : Shows no_lines []
unfolding no_lines lines_text
nothing = record { text = none_shown; count = refl; whole = none_whole }

-- one line more
pub more : {ls : Lines} {want : List Line} → Shows ls want → length want < most_lines → (l : made.Line) (x : Line) → length l.values ≡ most_values → text_of l ≡ line_text_of x
    → Shows (with_line ls l) (want ++ (x ∷ []))
more {ls} {want} s h l x w e =
    let c = s.count in
    let n = length-append want (x ∷ []) in
    let q = with_count ls l (omega arith) in
    record {
      text = with_shown ls l (omega arith) s.whole.lines ∙ ap (λ (t : List ℕ). t ++ text_of l) s.text
          ∙ ap (λ (t : List ℕ). lines_text want ++ t) (e ∙ sym (one_line x)) ∙ sym (lines_append want (x ∷ []));
      count = omega arith;
      whole = with_whole s.whole l w;
    }

-- the same of a list that is made so
pub added : {ls r : Lines} {want : List Line} → Shows ls want → length want < most_lines → (l : made.Line) (x : Line) → length l.values ≡ most_values → text_of l ≡ line_text_of x
    → r ≡ with_line ls l → Shows r (want ++ (x ∷ []))
added {want = want} s h l x w e q = subst (λ (y : Lines). Shows y (want ++ (x ∷ []))) (sym q) (more s h l x w e)

-- a line with one number that a line can have
pub one : (key : Key) (n : ℕ) (l : made.Line) → n ≤ greatest_number → text_of l ≡ line_text (key_of key) (pos (min n greatest_number) ∷ []) → text_of l ≡ line_text_of (count_line (key_of key) n)
one key n l h e = one_number (key_of key) n h e

-- ---- one line for each operation

-- one more of them, after two lines
pub each_added : {a b : Line} (f : ℕ → Line) {ls r : Lines} {i : ℕ} → Shows ls (a ∷ b ∷ each i f) → i < most_operations → (l : made.Line) → length l.values ≡ most_values
    → text_of l ≡ line_text_of (f i) → r ≡ with_line ls l → Shows r (a ∷ b ∷ each (i + 1) f)
each_added {a} {b} f {r = r} {i} s h l w e q =
    let n = each_length i f in
    subst (λ (x : List Line). Shows r (a ∷ b ∷ x)) (sym (each_more i f)) (added s (omega arith) l (f i) w e q)
