-- A text that is told by a rule, in a lent buffer: question 9.
use Rattle.std.specs.Prelude.{ℕ, ◌≤◌, ◌≡◌, List, length}
use Rattle.text.specs.declared.Written.{Written}
use Rattle.text.specs.Text.{buffer_of}
use Rattle.text.specs.Line.{written_of}

-- a text of which P holds, at the front of the buffer old where the whole of it fits, else 9; room bytes are enough
pub record Put (room : ℕ) (P : List ℕ → Type 0) (old : List ℕ) (r : Written) (new : List ℕ) : Type 0 where
  pub text : List ℕ
  pub holds : P text
  pub enough : length text ≤ room
  pub answer : r ≡ written_of text old
  pub buffer : new ≡ buffer_of text old
