-- What is asked for by a command's name and its arguments: the table of commands, and what is wrong where they do not
-- fit it.
use Rattle.std.specs.Prelude.{ℕ, Bool, true, false, cond, List, [], ◌∷◌, eqb}
use Rattle.words.specs.declared.Given.{Given}
use Rattle.words.specs.declared.Argument.{Argument}
use Rattle.words.specs.declared.Argument.TheVariants.{Interval, Pair}
use Rattle.words.specs.declared.Times.{Times}
use Rattle.words.specs.declared.Times.TheVariants.{Never, Once, Again}
use Rattle.words.specs.declared.Command.TheVariants.{Bounds, Starts, Separations, Plan, Page, Order, Check, Write}
use Rattle.words.specs.declared.Asked.{Asked}
use Rattle.words.specs.declared.Asked.TheVariants.{Do, PageOfPlan, Table, Judge, Unknown, Strange, Missing, Twice, Foreign}

-- ---- the table

-- a command: its name, whether it takes an interval and a pair, and what is asked for with those
pub record Row : Type 0 where
  pub name : List ℕ
  pub interval : Bool
  pub pair : Bool
  pub asks : ℕ → ℕ → Asked

-- `bounds`
abbrev pub bounds_row : Row
bounds_row = record {
  name = 98 ∷ 111 ∷ 117 ∷ 110 ∷ 100 ∷ 115 ∷ [];
  interval = false;
  pair = false;
  asks = λ L P. Do Bounds;
}

-- `check`
abbrev pub check_row : Row
check_row = record {
  name = 99 ∷ 104 ∷ 101 ∷ 99 ∷ 107 ∷ [];
  interval = false;
  pair = false;
  asks = λ L P. Do Check;
}

-- `write`
abbrev pub write_row : Row
write_row = record {
  name = 119 ∷ 114 ∷ 105 ∷ 116 ∷ 101 ∷ [];
  interval = false;
  pair = false;
  asks = λ L P. Do Write;
}

-- `judge`
abbrev pub judge_row : Row
judge_row = record {
  name = 106 ∷ 117 ∷ 100 ∷ 103 ∷ 101 ∷ [];
  interval = false;
  pair = false;
  asks = λ L P. Judge;
}

-- `starts interval=L`
abbrev pub starts_row : Row
starts_row = record {
  name = 115 ∷ 116 ∷ 97 ∷ 114 ∷ 116 ∷ 115 ∷ [];
  interval = true;
  pair = false;
  asks = λ L P. Do (Starts L);
}

-- `separations interval=L`
abbrev pub separations_row : Row
separations_row = record {
  name = 115 ∷ 101 ∷ 112 ∷ 97 ∷ 114 ∷ 97 ∷ 116 ∷ 105 ∷ 111 ∷ 110 ∷ 115 ∷ [];
  interval = true;
  pair = false;
  asks = λ L P. Do (Separations L);
}

-- `plan interval=L`
abbrev pub plan_row : Row
plan_row = record {
  name = 112 ∷ 108 ∷ 97 ∷ 110 ∷ [];
  interval = true;
  pair = false;
  asks = λ L P. Do (Plan L);
}

-- `page interval=L`
abbrev pub page_row : Row
page_row = record {
  name = 112 ∷ 97 ∷ 103 ∷ 101 ∷ [];
  interval = true;
  pair = false;
  asks = λ L P. Do (Page L);
}

-- `page_of_plan interval=L`
abbrev pub page_of_plan_row : Row
page_of_plan_row = record {
  name = 112 ∷ 97 ∷ 103 ∷ 101 ∷ 95 ∷ 111 ∷ 102 ∷ 95 ∷ 112 ∷ 108 ∷ 97 ∷ 110 ∷ [];
  interval = true;
  pair = false;
  asks = λ L P. PageOfPlan L;
}

-- `table interval=L`
abbrev pub table_row : Row
table_row = record {
  name = 116 ∷ 97 ∷ 98 ∷ 108 ∷ 101 ∷ [];
  interval = true;
  pair = false;
  asks = λ L P. Table L;
}

-- `order interval=L pair=P`
abbrev pub order_row : Row
order_row = record {
  name = 111 ∷ 114 ∷ 100 ∷ 101 ∷ 114 ∷ [];
  interval = true;
  pair = true;
  asks = λ L P. Do (Order L P);
}

-- the commands at an interval
abbrev pub interval_rows : List Row
interval_rows = starts_row ∷ separations_row ∷ plan_row ∷ page_row ∷ page_of_plan_row ∷ table_row ∷ order_row ∷ []

-- the commands
abbrev pub rows : List Row
rows = bounds_row ∷ check_row ∷ write_row ∷ judge_row ∷ interval_rows

-- ---- the arguments

-- what is then asked for, where an argument is given once if it is taken, and else not at all
unfoldable pub counted : Argument → Times → Bool → Asked → Asked
counted argument Never true then = Missing argument
counted argument Once true then = then
counted argument Again true then = Twice argument
counted argument Never false then = then
counted argument Once false then = Foreign argument
counted argument Again false then = Foreign argument

-- what is then asked for, where the arguments are those that the command takes: a word that is no argument is told
-- first, then what is wrong with the interval, then with the pair
unfoldable pub taking : Given → Bool → Bool → Asked → Asked
taking g takesInterval takesPair then =
    cond g.strange Strange (counted Interval g.intervals takesInterval (counted Pair g.pairs takesPair then))

-- ---- the whole

-- whether two words have the same bytes
unfoldable pub same : List ℕ → List ℕ → Bool
same [] [] = true
same [] (y ∷ ys) = false
same (x ∷ xs) [] = false
same (x ∷ xs) (y ∷ ys) = cond (eqb x y) (same xs ys) false

-- what is asked for by the row of that name
unfoldable pub request_in : List Row → List ℕ → Given → Asked
request_in [] name g = Unknown
request_in (r ∷ rs) name g = cond (same name r.name) (taking g r.interval r.pair (r.asks g.interval g.pair)) (request_in rs name g)

-- what is asked for by the name of a command and its arguments
abbrev pub request_of : List ℕ → Given → Asked
request_of = request_in rows
