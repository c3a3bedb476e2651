-- A line with any count of numbers: as a caller of `read_list` has it, that at most one result fits, that reading it
-- undoes writing it, and that what reads as such a line is its one text. Assumes nothing.
use Rattle.std.specs.Prelude.{◌≡◌, refl, Option, Some, None, IfSome, List, [], ◌∷◌, ◌++◌, map, ℕ, zero, suc, ◌≤◌, ◌<◌, pos, length, drop, take, get_or}
use Rattle.std.proofs.Common.{sym, ap, subst, ◌∙◌, append_assoc, arith, get_or-take, length-take-le, ext_get_or}
use Rattle.std.proofs.Math.Decide.{dec_lt}
use Rattle.std.proofs.lemmas.List.{length-map}
use Rattle.text.specs.Sizes.{four_digits}
use Rattle.text.specs.Text.{digits, signed_text, end_of, joined, line_text}
use Rattle.text.specs.Joined.{comma}
use Rattle.scan_number.specs.Number.{Num, value, malformed, on_number, class_of, number}
use Rattle.scan.specs.Line.{Rest, after, missing, stripped}
use Rattle.scan_list.specs.List.{most_items, Ended, more, last, neither, ended_by, ended, item_of}
use Rattle.scan_list.specs.List.{listed, unlisted, items_from, list_of, seen_items, ItemsFit}
use Rattle.scan_number.specs.Bytes.{byte_of}
use Rattle.scan_number.specs.Digits.{reads_digits, canonical}
use Rattle.scan.specs.RoundTrip.{strips, strip_text, end_no_digit}
use Rattle.scan.specs.OneLine.{same_place}
use Rattle.scan_number.specs.declared.Class.{Class}
use Rattle.scan_number.specs.declared.Class.TheVariants.{Minus, Digit, Comma, LineFeed, Other}
use Rattle.scan_list.specs.declared.Items.{Items}

-- ---- at most one result

-- the first numbers of an array that is 0 past them
pub record Front (count : ℕ) (values : List ℕ) : Type 0 where
  pub whole : length values ≡ most_items
  pub few : count ≤ most_items
  pub past : (i : ℕ) → count ≤ i → get_or values i 0 ≡ 0

-- they fix their count and the array
pub same_front : {j k : ℕ} {xs ys : List ℕ} → Front j xs → Front k ys → take j xs ≡ take k ys → (j ≡ k) × (xs ≡ ys)
same_front {j} {k} {xs} {ys} f g e = (count, ext_get_or 0 xs ys (f.whole ∙ sym g.whole) (λ i h. at i (dec_lt i j)))
  where
    count : j ≡ k
    count =
        let x = length-take-le j xs (omega (arith, f.whole, f.few)) in
        let y = length-take-le k ys (omega (arith, g.whole, g.few)) in
        omega (arith, ap length e)

    at : (i : ℕ) → Dec (i < j) → get_or xs i 0 ≡ get_or ys i 0
    at i (yes h) =
        sym (get_or-take j xs i 0 h) ∙ ap (λ (x : List ℕ). get_or x i 0) e ∙ get_or-take k ys i 0 (omega (arith, count))
    at i (no h) = f.past i (omega arith) ∙ sym (g.past i (omega (arith, count)))

pub no_list : {vs rest : List ℕ} → listed vs rest ≡ unlisted → ⊥
no_list e = let z : ◌≡◌ {A = ℕ} 0 1 = cc in omega arith

front_of : {s : List ℕ} {r : Items} → ItemsFit s r → Front r.count r.values
front_of f = record { whole = f.whole; few = f.count; past = f.past }

same_items : (s : List ℕ) (r q : Items) → ItemsFit s r → ItemsFit s q → listed (take r.count r.values) (drop r.next s) ≡ listed (take q.count q.values) (drop q.next s) → r ≡ q
same_items s r q f g e =
    let v = same_front (front_of f) (front_of g) (cc) in
    let n = same_place s f.next g.next (cc) in
    λ i. record { count = v.0 i; values = v.1 i; next = n i }

pub one_list : (s : List ℕ) (a b : Option Items) → IfSome a (ItemsFit s) → IfSome b (ItemsFit s) → seen_items s a ≡ seen_items s b → a ≡ b
one_list s None None f g e = refl
one_list s None (Some q) f g e = absurd (no_list (sym e))
one_list s (Some r) None f g e = absurd (no_list e)
one_list s (Some r) (Some q) f g e = ap Some (same_items s r q f g e)

-- ---- the text of numbers, each with the byte that ends it

-- each of one number more has at most four digits
pub small_more : {n : ℕ} (vs : List ℕ) → n ≤ four_digits → ((i : ℕ) → get_or vs i 0 ≤ four_digits) → (i : ℕ)
    → get_or (n ∷ vs) i 0 ≤ four_digits
small_more vs h s zero = h
small_more vs h s (suc i) = s i

module _ (n : ℕ) (rest : List ℕ) (h : n ≤ four_digits) where
  reads_more : item_of (digits n ++ (44 ∷ rest)) ≡ more n rest
  unfolding item_of class_of
  reads_more = rw (reads_digits n (44 ∷ rest) h (end_no_digit 1))

  reads_last : item_of (digits n ++ (10 ∷ rest)) ≡ last n rest
  unfolding item_of class_of
  reads_last = rw (reads_digits n (10 ∷ rest) h (end_no_digit 0))

reads_items : (k : ℕ) (vs acc rest : List ℕ) → 0 < length vs → length vs ≤ k → ((i : ℕ) → get_or vs i 0 ≤ four_digits)
    → items_from k acc (joined (map pos vs) ++ rest) ≡ listed (acc ++ vs) rest
unfolding items_from joined signed_text
reads_items k [] acc rest p q s = absurd (omega arith)
reads_items zero (v ∷ vs) acc rest p q s = absurd (omega arith)
reads_items (suc k) (v ∷ []) acc rest p q s = rw (append_assoc (digits v) (10 ∷ []) rest, reads_last v rest (s 0))
reads_items (suc k) (v ∷ w ∷ vs) acc rest p q s =
    let m = joined (map pos (w ∷ vs)) in
    rw (append_assoc (digits v) (44 ∷ m) rest, reads_more v (m ++ rest) (s 0))
    (reads_items k (w ∷ vs) (acc ++ (v ∷ [])) rest (omega arith) (omega arith) (λ i. s (suc i))
    ∙ ap (λ (x : List ℕ). listed x rest) (append_assoc acc (v ∷ []) (w ∷ vs)))

-- the text of a line, whatever follows it, reads as its numbers
pub reads_list : (key : List ℕ) (k : ℕ) (vs rest : List ℕ) → 0 < length vs → length vs ≤ k
    → ((i : ℕ) → get_or vs i 0 ≤ four_digits) → list_of key k (line_text key (map pos vs) ++ rest) ≡ listed vs rest
unfolding list_of line_text
reads_list key k vs rest p q s =
    rw (append_assoc key (joined (map pos vs)) rest, strips key (joined (map pos vs) ++ rest))
    (reads_items k vs [] rest p q s)

-- ---- what reads as numbers is their text

-- a number and the byte that ends it
abbrev ItemText : List ℕ → Ended → Type 0
ItemText bs (more n rest) = (bs ≡ digits n ++ (44 ∷ rest)) × (n ≤ four_digits)
ItemText bs (last n rest) = (bs ≡ digits n ++ (10 ∷ rest)) × (n ≤ four_digits)
ItemText bs neither = Unit {0}

ended_text : (bs : List ℕ) (n b : ℕ) (rest : List ℕ) (k : Class) → class_of b ≡ k → number bs ≡ value n (b ∷ rest)
    → ItemText bs (ended_by k n rest)
ended_text bs n b rest Comma c e =
    let t = canonical bs n (b ∷ rest) e in
    (t.text ∙ ap (λ (x : ℕ). digits n ++ (x ∷ rest)) (byte_of b c), t.small)
ended_text bs n b rest LineFeed c e =
    let t = canonical bs n (b ∷ rest) e in
    (t.text ∙ ap (λ (x : ℕ). digits n ++ (x ∷ rest)) (byte_of b c), t.small)
ended_text bs n b rest Minus c e = tt
ended_text bs n b rest (Digit d) c e = tt
ended_text bs n b rest Other c e = tt

item_text : (bs : List ℕ) → ItemText bs (item_of bs)
unfolding item_of
item_text bs = at (number bs) refl
  where
    at : (x : Num) → number bs ≡ x → ItemText bs (on_number x (λ n rest. ended n rest) neither)
    at malformed e = tt
    at (value n []) e = tt
    at (value n (b ∷ rest)) e = ended_text bs n b rest (class_of b) refl e

record ItemsRead (k : ℕ) (acc bs ws rest : List ℕ) : Type 0 where
  vs : List ℕ
  all : ws ≡ acc ++ vs
  text : bs ≡ joined (map pos vs) ++ rest
  some : 0 < length vs
  few : length vs ≤ k
  small : (i : ℕ) → get_or vs i 0 ≤ four_digits

-- the first number, at its case
items_at : (k : ℕ) (acc bs : List ℕ) (x : Ended) (ws rest : List ℕ) → item_of bs ≡ x
    → ((n : ℕ) (left : List ℕ) → items_from k (acc ++ (n ∷ [])) left ≡ listed ws rest
    → ItemsRead k (acc ++ (n ∷ [])) left ws rest)
    → items_from (suc k) acc bs ≡ listed ws rest → ItemsRead (suc k) acc bs ws rest
unfolding items_from joined signed_text
items_at k acc bs neither ws rest e ih f = absurd (no_list (sym (rw e at f)))
items_at k acc bs (last n left) ws rest e ih f =
    let g : listed (acc ++ (n ∷ [])) left ≡ listed ws rest = rw e at f in
    let t : ItemText bs (last n left) = subst (ItemText bs) e (item_text bs) in
    let q : left ≡ rest = cc in
    record {
      vs = n ∷ [];
      all = cc;
      text = t.0 ∙ ap (λ (x : List ℕ). digits n ++ (10 ∷ x)) q ∙ sym (append_assoc (digits n) (10 ∷ []) rest);
      some = omega arith;
      few = omega arith;
      small = small_more [] t.1 (λ i. omega arith);
    }
items_at k acc bs (more n left) ws rest e ih f =
    let r = ih n left (rw e at f) in
    let t : ItemText bs (more n left) = subst (ItemText bs) e (item_text bs) in
    let m = map pos r.vs in
    let q = comma (length m) (λ z. omega (arith, length-map r.vs pos, r.some)) in
    record {
      vs = n ∷ r.vs;
      all = r.all ∙ append_assoc acc (n ∷ []) r.vs;
      text = t.0 ∙ (λ i. digits n ++ (q i ∷ r.text i))
          ∙ sym (append_assoc (digits n) (end_of (length m) ∷ joined m) rest);
      some = omega arith;
      few = omega (arith, r.few);
      small = small_more r.vs t.1 r.small;
    }

items_text : (k : ℕ) (acc bs ws rest : List ℕ) → items_from k acc bs ≡ listed ws rest → ItemsRead k acc bs ws rest
items_text zero acc bs ws rest e =
    let z : unlisted ≡ listed ws rest = (unfold items_from in e) in
    absurd (no_list (sym z))
items_text (suc k) acc bs ws rest e =
    items_at k acc bs (item_of bs) ws rest refl (λ n left f. items_text k (acc ++ (n ∷ [])) left ws rest f) e

-- what numbers read say of the bytes that they were read from
pub record ListRead (key : List ℕ) (k : ℕ) (bs vs rest : List ℕ) : Type 0 where
  pub text : bs ≡ line_text key (map pos vs) ++ rest
  pub some : 0 < length vs
  pub few : length vs ≤ k
  pub small : (i : ℕ) → get_or vs i 0 ≤ four_digits

-- what reads as a line is its text
pub list_text : (key : List ℕ) (k : ℕ) (bs vs rest : List ℕ) → list_of key k bs ≡ listed vs rest
    → ListRead key k bs vs rest
unfolding list_of line_text
list_text key k bs ws rest f = at (stripped key bs) refl
  where
    at : (x : Rest) → stripped key bs ≡ x → ListRead key k bs ws rest
    at missing e = absurd (no_list (sym (rw e at f)))
    at (after left) e =
        let r = items_text k [] left ws rest (rw e at f) in
        let v = r.all in
        let m = map pos r.vs in
        record {
          text = strip_text key bs left e ∙ ap (λ (x : List ℕ). key ++ x) r.text
              ∙ sym (append_assoc key (joined m) rest)
              ∙ ap (λ (x : List ℕ). (key ++ joined (map pos x)) ++ rest) (sym v);
          some = omega (arith, r.some, ap length v);
          few = omega (arith, r.few, ap length v);
          small = subst (λ (x : List ℕ). (i : ℕ) → get_or x i 0 ≤ four_digits) (sym v) r.small;
        }
