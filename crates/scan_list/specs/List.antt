-- A line of any count of numbers: its key, one or more numbers split by single commas, none with a sign, and a line
-- feed.
use Rattle.std.specs.Prelude.{ℕ, zero, suc, ◌≤◌, ◌<◌, ◌≡◌, List, [], ◌∷◌, ◌++◌, cond, leb, length, drop, take, get_or, replicate, Option, Some, None}
use Rattle.text.specs.Sizes.{four_digits}
use Rattle.scan_number.specs.Number.{on_number, number, class_of}
use Rattle.scan.specs.Line.{on_rest, stripped}
use Rattle.scan_number.specs.declared.Class.{Class}
use Rattle.scan_number.specs.declared.Class.TheVariants.{Minus, Digit, Comma, LineFeed, Other}
use Rattle.scan_list.specs.declared.Item.{Item}
use Rattle.scan_list.specs.declared.Item.TheVariants.{More, Last}
use Rattle.scan_list.specs.declared.Items.{Items}

-- the most numbers of such a line: an operation and the 24 edges of a chain
abbrev pub most_items : ℕ
most_items = 25

-- a number, whether another is due, and what follows the byte that ends it
pub data Ended : Type 0 where
  more : ℕ → List ℕ → Ended
  last : ℕ → List ℕ → Ended
  neither : Ended

abbrev pub on_ended : {A : Type 0} → Ended → (ℕ → List ℕ → A) → (ℕ → List ℕ → A) → A → A
on_ended (more n bs) f g o = f n bs
on_ended (last n bs) f g o = g n bs
on_ended neither f g o = o

-- by the class of the byte
abbrev pub ended_by : Class → ℕ → List ℕ → Ended
ended_by Minus n bs = neither
ended_by (Digit d) n bs = neither
ended_by Comma n bs = more n bs
ended_by LineFeed n bs = last n bs
ended_by Other n bs = neither

abbrev pub ended : ℕ → List ℕ → Ended
ended n [] = neither
ended n (b ∷ bs) = ended_by (class_of b) n bs

-- the number at the front of the bytes, and the byte that ends it
unfoldable pub item_of : List ℕ → Ended
item_of bs = on_number (number bs) (λ n rest. ended n rest) neither

-- a line's numbers and what follows its line feed, or no such line
pub data Listed : Type 0 where
  listed : List ℕ → List ℕ → Listed
  unlisted : Listed

abbrev pub on_listed : {A : Type 0} → Listed → (List ℕ → List ℕ → A) → A → A
on_listed (listed vs rest) f o = f vs rest
on_listed unlisted f o = o

-- up to k numbers more, after the numbers vs
unfoldable pub items_from : ℕ → List ℕ → List ℕ → Listed
items_from zero vs bs = unlisted
items_from (suc k) vs bs =
    on_ended (item_of bs) (λ n rest. items_from k (vs ++ (n ∷ [])) rest) (λ n rest. listed (vs ++ (n ∷ [])) rest) unlisted

-- the line with this key and one to k numbers, at the front of the bytes
unfoldable pub list_of : List ℕ → ℕ → List ℕ → Listed
list_of key k bs = on_rest (stripped key bs) (λ rest. items_from k [] rest) unlisted

-- the same, where k is at most the most; at a numeral up to that this is list_of
abbrev pub due_list : List ℕ → ℕ → List ℕ → Listed
due_list key k bs = cond (leb k most_items) (list_of key k bs) unlisted

-- ---- what is found at a place of the bytes s

abbrev pub seen_item : List ℕ → Option Item → Ended
seen_item s (Some (More n p)) = more n (drop p s)
seen_item s (Some (Last n p)) = last n (drop p s)
seen_item s None = neither

abbrev pub WithinItem : List ℕ → Item → Type 0
WithinItem s (More n p) = (p ≤ length s) × (n ≤ four_digits)
WithinItem s (Last n p) = (p ≤ length s) × (n ≤ four_digits)

abbrev pub seen_items : List ℕ → Option Items → Listed
seen_items s (Some r) = listed (take r.count r.values) (drop r.next s)
seen_items s None = unlisted

-- the place after the line lies within s, each value has at most four digits, and what is no part of the line is 0
pub record ItemsFit (s : List ℕ) (r : Items) : Type 0 where
  pub whole : length r.values ≡ most_items
  pub count : r.count ≤ most_items
  pub some : 0 < r.count
  pub next : r.next ≤ length s
  pub small : (i : ℕ) → get_or r.values i 0 ≤ four_digits
  pub past : (i : ℕ) → r.count ≤ i → get_or r.values i 0 ≡ 0
