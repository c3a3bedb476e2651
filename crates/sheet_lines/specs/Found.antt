-- Reading lines from the front of the bytes: what is found and what follows it, or the number of a refusal and where
-- it is.
use Rattle.std.specs.Prelude.{ℕ, zero, suc, ◌-◌, List, [], ◌∷◌, ◌++◌, ℤ, length, replicate}
use Rattle.scan.specs.Line.{on_fields, line_of}

-- what is found and the bytes after it, or the number of a refusal and the bytes from what is refused on
pub data Found (A : Type 0) : Type 0 where
  found : A → List ℕ → Found A
  refused : ℕ → List ℕ → Found A

-- go on with what was found; a refusal stays
abbrev pub and_then : {A B : Type 0} → Found A → (A → List ℕ → Found B) → Found B
and_then (found a rest) f = f a rest
and_then (refused n bs) f = refused n bs

-- A kind of line: its key, how many numbers it has, the place of the one that may carry a minus, the entry that the
-- numbers stand for, the numbers of an entry, and what an entry answers: 0, or the number of a refusal.
pub record Kind (A : Type 0) : Type 0 where
  pub key : List ℕ
  pub count : ℕ
  pub minus : ℕ
  pub make : List ℤ → A
  pub values : A → List ℤ
  pub answer : A → ℕ

-- what is found where the answer is 0, with rest after it; else the answer is the refusal of what bs begins with
abbrev pub judged : {A : Type 0} → ℕ → A → List ℕ → List ℕ → Found A
judged zero a bs rest = found a rest
judged (suc n) a bs rest = refused (suc n) bs

-- one line: well formed and under the due key, else 2; then what its entry answers
unfoldable pub line_from : {A : Type 0} → Kind A → List ℕ → Found A
line_from k bs =
    on_fields (line_of k.key k.count k.minus bs)
    (λ vs rest. judged (k.answer (k.make vs)) (k.make vs) bs rest)
    (refused 2 bs)

-- n lines more, after the entries es
unfoldable pub lines_from : {A : Type 0} → Kind A → ℕ → List A → List ℕ → Found (List A)
lines_from k zero es bs = found es bs
lines_from k (suc n) es bs = and_then (line_from k bs) (λ a rest. lines_from k n (es ++ (a ∷ [])) rest)

-- a line with a count, and that many lines
unfoldable pub section_from : {A : Type 0} → Kind ℕ → Kind A → List ℕ → Found (List A)
section_from counts k bs = and_then (line_from counts bs) (λ n rest. lines_from k n [] rest)

-- the entries with d past them, up to the size of the array
abbrev pub padded : {A : Type 0} → ℕ → A → List A → List A
padded size d es = es ++ replicate (size - length es) d
