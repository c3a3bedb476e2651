-- The numbers of a list, as the code meets them at places of the bytes s. Assumes nothing.
use Rattle.std.specs.Prelude.{◌≡◌, ℕ, zero, suc, ◌+◌, ◌-◌, ◌≤◌, ◌<◌, List, [], ◌∷◌, ◌++◌, length, drop, take, get_or, set, replicate}
use Rattle.std.proofs.Common.{refl, sym, ◌∙◌, add-one, arith, drop_of_length-le, length-set, take-suc-set, le-leb}
use Rattle.std.proofs.lemmas.Bool.{lt-leb}
use Rattle.text.specs.Sizes.{four_digits}
use Rattle.laws.specs.Store.{store, all_zero}
use Rattle.scan_number.specs.Number.{value, malformed, class_of, number}
use Rattle.scan_number.specs.declared.Class.{Class}
use Rattle.scan_number.specs.declared.Class.TheVariants.{Minus, Digit, Comma, LineFeed, Other}
use Rattle.scan_number.proofs.Digits.{front}
use Rattle.scan.specs.Line.{after, missing, stripped}
use Rattle.scan_list.specs.declared.Items.{Items}
use Rattle.scan_list.specs.List.{most_items, more, last, neither, ended_by, item_of, listed, unlisted}
use Rattle.scan_list.specs.List.{items_from, list_of, due_list, ItemsFit}

-- ---- a number and the byte that ends it

pub item_none : (bs : List ℕ) → malformed ≡ number bs → neither ≡ item_of bs
unfolding item_of
item_none bs e = rw (← e)

-- no byte of another class ends it
other_class : (k : Class) (n : ℕ) (rest : List ℕ) → (k ≡ Comma → ⊥) → (k ≡ LineFeed → ⊥) → ended_by k n rest ≡ neither
other_class Minus n rest a b = refl
other_class (Digit d) n rest a b = refl
other_class Comma n rest a b = absurd (a refl)
other_class LineFeed n rest a b = absurd (b refl)
other_class Other n rest a b = refl

module _ (s bs : List ℕ) (n p : ℕ) (e : value n (drop p s) ≡ number bs) where
  pub item_short : length s ≤ p → neither ≡ item_of bs
  unfolding item_of
  item_short h = rw (← e, drop_of_length-le s h)

  module _ (h : p < length s) where
    pub item_comma : Comma ≡ class_of (get_or s p 0) → more n (drop (p + 1) s) ≡ item_of bs
    unfolding item_of
    item_comma c = rw (← e, front s p h, ← c)

    pub item_feed : LineFeed ≡ class_of (get_or s p 0) → last n (drop (p + 1) s) ≡ item_of bs
    unfolding item_of
    item_feed c = rw (← e, front s p h, ← c)

    pub item_other : (class_of (get_or s p 0) ≡ Comma → ⊥) → (class_of (get_or s p 0) ≡ LineFeed → ⊥) → neither ≡ item_of bs
    unfolding item_of
    item_other a b = rw (← e, front s p h, other_class _ n _ a b)

-- ---- one number of a list, with the numbers before it at the front of an array

module _ (most i : ℕ) (vs : List ℕ) (bs : List ℕ) (h : i < most) (l : i < length vs) where
  turn : most - i ≡ suc (most - (i + 1))
  turn = omega arith

  grown : (n : ℕ) → take (i + 1) (set vs i n) ≡ take i vs ++ (n ∷ [])
  grown n = rw add-one (take-suc-set vs i n l)

  pub items_stop : neither ≡ item_of bs → unlisted ≡ items_from (most - i) (take i vs) bs
  unfolding items_from
  items_stop e = rw (turn, ← e)

  pub items_last : (n : ℕ) (rest : List ℕ) → last n rest ≡ item_of bs
      → listed (take (i + 1) (set vs i n)) rest ≡ items_from (most - i) (take i vs) bs
  unfolding items_from
  items_last n rest e = rw (turn, ← e, grown n)

  pub items_more : (n : ℕ) (rest : List ℕ) → more n rest ≡ item_of bs
      → items_from (most - (i + 1)) (take (i + 1) (set vs i n)) rest ≡ items_from (most - i) (take i vs) bs
  unfolding items_from
  items_more n rest e = rw (turn, ← e, grown n)

pub items_full : (most i : ℕ) (vs bs : List ℕ) → most ≤ i → unlisted ≡ items_from (most - i) (take i vs) bs
unfolding items_from
items_full most i vs bs h =
    let q : most - i ≡ 0 = omega arith in
    rw q

-- ---- the array: values of at most four digits, and 0 from the place i on

pub record Held (i : ℕ) (vs : List ℕ) : Type 0 where
  pub whole : length vs ≡ most_items
  pub small : (k : ℕ) → get_or vs k 0 ≤ four_digits
  pub past : (k : ℕ) → i ≤ k → get_or vs k 0 ≡ 0

pub held_none : Held 0 (replicate most_items 0)
held_none = record {
  whole = refl;
  small = λ k. rw (all_zero most_items k) (omega arith);
  past = λ k h. all_zero most_items k;
}

pub held_more : (i : ℕ) (vs : List ℕ) (v : ℕ) → i < most_items → Held i vs → v ≤ four_digits → Held (i + 1) (set vs i v)
held_more i vs v h f m =
    let l = f.whole in
    record {
      whole = length-set vs i v ∙ l;
      small = λ k. store (λ j x. x ≤ four_digits) vs i v 0 (omega arith) m k (λ n. f.small k);
      past = λ k q. store (λ j x. i + 1 ≤ j → x ≡ 0) vs i v 0 (omega arith) (λ n. absurd (omega arith)) k
          (λ n r. f.past k (omega arith)) q;
    }

pub fits_items : (s : List ℕ) (k p : ℕ) (vs : List ℕ) → 0 < k → k ≤ most_items → p ≤ length s → Held k vs
    → ItemsFit s (record { count = k; values = vs; next = p })
fits_items s k p vs z m h f = record {
  whole = f.whole;
  count = m;
  some = z;
  next = h;
  small = f.small;
  past = f.past;
}

-- ---- a line

module _ (key : List ℕ) (most : ℕ) (bs : List ℕ) where
  pub list_after : (rest : List ℕ) → most ≤ most_items → after rest ≡ stripped key bs → items_from most [] rest ≡ due_list key most bs
  unfolding list_of
  list_after rest h e = rw (le-leb most most_items h, ← e)

  pub list_missing : most ≤ most_items → missing ≡ stripped key bs → unlisted ≡ due_list key most bs
  unfolding list_of
  list_missing h e = rw (le-leb most most_items h, ← e)

  pub list_long : most_items < most → unlisted ≡ due_list key most bs
  list_long h = rw (lt-leb most most_items h)

list_empty : (key : List ℕ) (most : ℕ) → list_of key most [] ≡ unlisted
unfolding list_of stripped items_from item_of number
list_empty [] zero = refl
list_empty [] (suc k) = refl
list_empty (c ∷ cs) most = refl

pub list_past : (s key : List ℕ) (at most : ℕ) → length s ≤ at → most ≤ most_items
    → unlisted ≡ due_list key most (drop at s)
list_past s key at most h m = rw (drop_of_length-le s h, le-leb most most_items m) (sym (list_empty key most))
