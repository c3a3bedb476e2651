-- The lines that answers are made of, and the text of a refusal.
use Rattle.std.specs.Prelude.{ℕ, List, [], ◌∷◌, map, pos}
use Rattle.text.specs.Keys as key
use Rattle.text.specs.Lines.{Line, count_line, lines_text}

-- `answer=` with 0 or the refusal
abbrev pub answer_line : ℕ → Line
answer_line n = count_line key.answer_key n

-- the number of a refusal alone
abbrev pub refusal_text : ℕ → List ℕ
refusal_text n = lines_text (answer_line n ∷ [])

-- `interval=`
abbrev pub interval_line : ℕ → Line
interval_line L = count_line key.interval_key L

-- `loop=` with edge numbers
abbrev pub loop_line : List ℕ → Line
loop_line ks = record { key = key.loop_key; values = map pos ks }

-- `at=t,u`, an operation's start and instance
abbrev pub at_line : ℕ → ℕ → Line
at_line t u = record { key = key.at_key; values = pos t ∷ pos u ∷ [] }

-- `instance=`
abbrev pub instance_line : ℕ → Line
instance_line u = count_line key.instance_key u

-- `entry=p,t,u`, an operation's entry of the placing table: p is 1 where it is placed, else 0; its start and instance
abbrev pub entry_line : ℕ → ℕ → ℕ → Line
entry_line p t u = record { key = key.entry_key; values = pos p ∷ pos t ∷ pos u ∷ [] }
