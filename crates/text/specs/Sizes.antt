-- The sizes of a line, as in src/.
use Rattle.std.specs.Prelude.{ℕ, ◌+◌, ◌*◌}
use Rattle.sizes.specs.Sizes.{most_operations}

-- numbers in a line: those of a loop, which has at most an edge for each operation
abbrev pub most_values : ℕ
most_values = most_operations

-- the greatest number that a line can have, an i32
abbrev pub greatest_number : ℕ
greatest_number = 2147483647

-- the greatest numbers of three and of four digits
abbrev pub three_digits : ℕ
three_digits = 999

abbrev pub four_digits : ℕ
four_digits = 9999

-- bytes of a key, with its equals sign
abbrev pub longest_key : ℕ
longest_key = 11

-- digits of a number below 2 to the power 32
abbrev pub most_digits : ℕ
most_digits = 10

-- bytes of a number: its digits and a minus
abbrev pub longest_number : ℕ
longest_number = most_digits + 1

-- bytes of a line: its key, and its numbers with a byte after each
abbrev pub longest_line : ℕ
longest_line = longest_key + (longest_number + 1) * most_values
