-- The sizes of a loop sheet's parts, as in src/lib.rt.
use Rattle.std.specs.Prelude.{ℕ}

-- the greatest N
abbrev pub most_operations : ℕ
most_operations = 24

-- the greatest E
abbrev pub most_edges : ℕ
most_edges = 96

-- the greatest R
abbrev pub most_types : ℕ
most_types = 8

-- the greatest A
abbrev pub most_instances : ℕ
most_instances = 8

-- the greatest K, for contracts alone
abbrev pub most_busy : ℕ
most_busy = 32

-- the greatest H
abbrev pub most_starts : ℕ
most_starts = 128

-- the greatest M
abbrev pub most_intervals : ℕ
most_intervals = 64
