-- From the lines that `read_list` finds to the node that `read_node` gives, and what is known of a node that was read.
-- Assumes nothing.
use Rattle.std.specs.Prelude.{◌≡◌, refl, Bool, true, false, cond, List, [], ◌∷◌, ℕ, zero, suc, ◌-◌, ◌<◌, ◌↔◌, eqb, ltb, length, drop, take, get_or, EachIndex, IsTrue, Option, None, Some, IfSome}
use Rattle.std.proofs.Common.{sym, ap, ◌∙◌, arith, length-take-le}
use borrow.Author.Tests.{lt-ltb, ltb-true, eqb-true, eq-eqb}
use Rattle.laws.specs.Z.{true_false}
use Rattle.laws.specs.Tests.{by_test}
use Rattle.text.specs.Keys.{loop_key}
use Rattle.scan_list.specs.List.{most_items, Listed, listed, unlisted, on_listed, list_of, ItemsFit}
use Rattle.scan_list.specs.declared.Items.{Items}
use Rattle.denial.specs.Tree.{Cut, split, seat, loop, late, clash, Below, none, more, CutKnown, LeafKnown}
use Rattle.tree_lines.specs.declared.Cut.TheVariants.{Split, Seat}
use Rattle.tree_lines.specs.declared.Leaf.TheVariants.{Loop, Late, Clash}
use Rattle.tree_lines.specs.declared.Node.{Node}
use Rattle.tree_lines.specs.declared.Node.TheVariants.{Cutting, Closing}
use Rattle.tree_lines.specs.declared.NodeLine.{NodeLine}
use Rattle.tree_lines.specs.declared.Numbers.{Numbers}
use Rattle.tree_lines.specs.Node.{split_key, seat_key, late_key, clash_key, most_chained}
use Rattle.tree_lines.specs.Node.{NodeRead, cutting, closing, malformed, both, all_below}
use Rattle.tree_lines.specs.Node.{cut_of, loop_of, late_of, clash_of, node_of}
use Rattle.tree_lines.specs.Node.{node_seen, seen_node, NodeFits}

-- ---- numbers below a limit

-- the test says of each number that it is below
below_each : (limit : ℕ) (vs : List ℕ) → ((k : ℕ) → k < length vs → get_or vs k 0 < limit) → all_below limit vs ≡ true
unfolding all_below
below_each limit [] h = refl
below_each limit (v ∷ vs) h =
    rw (lt-ltb v limit (h 0 (omega arith))) (below_each limit vs (λ k q. h (suc k) (omega arith)))

each_below : (limit : ℕ) (vs : List ℕ) → all_below limit vs ≡ true → (k : ℕ) → k < length vs → get_or vs k 0 < limit
unfolding all_below
each_below limit [] e k h = absurd (omega arith)
each_below limit (v ∷ vs) e zero h = by_test (ltb v limit) (λ t. ltb-true v limit t) (λ t. true_false (sym (rw t at e)))
each_below limit (v ∷ vs) e (suc k) h =
    by_test (ltb v limit) (λ t. each_below limit vs (rw t at e) k (omega arith)) (λ t. true_false (sym (rw t at e)))

pub below_test : (limit : ℕ) (vs : List ℕ) (r : Bool) → (IsTrue r ↔ EachIndex vs (λ k. get_or vs k 0 < limit))
    → r ≡ all_below limit vs
below_test limit vs r e = same (all_below limit vs) refl r refl
  where
    same : (a : Bool) → all_below limit vs ≡ a → (b : Bool) → r ≡ b → r ≡ all_below limit vs
    same true p b q = e.1 (each_below limit vs p) ∙ sym p
    same false p true q = true_false (sym (below_each limit vs (e.0 q)) ∙ p)
    same false p false q = q ∙ sym p

-- ---- the numbers of a line

pub two_numbers : (count : ℕ) (vs : List ℕ) → length vs ≡ most_items → count ≡ 2
    → take count vs ≡ get_or vs 0 0 ∷ get_or vs 1 0 ∷ []
two_numbers count (a ∷ b ∷ vs) l e = rw e
two_numbers count (a ∷ []) l e = absurd (omega arith)
two_numbers count [] l e = absurd (omega arith)

pub some_numbers : (count : ℕ) (vs : List ℕ) → length vs ≡ most_items → 0 < count
    → take count vs ≡ get_or vs 0 0 ∷ drop 1 (take count vs)
some_numbers (suc k) (a ∷ vs) l h = refl
some_numbers zero vs l h = absurd (omega arith)
some_numbers (suc k) [] l h = absurd (omega arith)

-- the numbers after the first
pub tail_of : (count : ℕ) (vs : List ℕ) → length vs ≡ most_items → 0 < count
    → take (count - 1) (drop 1 vs) ≡ drop 1 (take count vs)
tail_of (suc k) (a ∷ vs) l h = let e : suc k - 1 ≡ k = omega arith in ap (λ (n : ℕ). take n vs) e
tail_of zero vs l h = absurd (omega arith)
tail_of (suc k) [] l h = absurd (omega arith)

cut_other : (f : ℕ → ℕ → Cut) (n : ℕ) (vs rest : List ℕ) → (length vs ≡ 2 → ⊥) → cut_of f n vs rest ≡ malformed
unfolding cut_of
cut_other f n [] rest h = refl
cut_other f n (i ∷ []) rest h = refl
cut_other f n (i ∷ v ∷ []) rest h = absurd (h refl)
cut_other f n (i ∷ v ∷ w ∷ vs) rest h = refl

clash_other : (n : ℕ) (vs rest : List ℕ) → (length vs ≡ 2 → ⊥) → clash_of n vs rest ≡ malformed
unfolding clash_of
clash_other n [] rest h = refl
clash_other n (i ∷ []) rest h = refl
clash_other n (i ∷ v ∷ []) rest h = absurd (h refl)
clash_other n (i ∷ v ∷ w ∷ vs) rest h = refl

late_cons : (n m i : ℕ) (ks vs rest : List ℕ) → vs ≡ i ∷ ks
    → cond (both (ltb i n) (all_below m ks)) (closing (late i ks) rest) malformed ≡ late_of n m vs rest
unfolding late_of
late_cons n m i ks vs rest e = rw e

-- ---- the node of a line

-- a node where it is known
abbrev pub node_if : Bool → Node → ℕ → Option NodeLine
node_if known x next = cond known (Some (record { node = x; next = next })) None

-- the flags that the code has of a line
abbrev first : Items → ℕ
first l = get_or l.values 0 0

abbrev second : Items → ℕ
second l = get_or l.values 1 0

abbrev numbers : Items → List ℕ
numbers l = take l.count l.values

abbrev cut_known : ℕ → Items → Bool
cut_known n l = both (eqb l.count 2) (ltb (first l) n)

abbrev late_known : ℕ → ℕ → Items → Bool
late_known n m l = both (ltb (first l) n) (all_below m (drop 1 (numbers l)))

abbrev clash_known : ℕ → Items → Bool
clash_known n l = both (eqb l.count 2) (both (ltb (first l) n) (ltb (second l) n))

module _ {s : List ℕ} {l : Items} (fit : ItemsFit s l) where
  pair : l.count ≡ 2 → numbers l ≡ first l ∷ second l ∷ []
  pair e = two_numbers l.count l.values fit.whole e

  no_pair : eqb l.count 2 ≡ false → length (numbers l) ≡ 2 → ⊥
  no_pair e q =
      let z = length-take-le l.count l.values (omega (arith, fit.count, fit.whole)) in
      true_false (sym (eq-eqb l.count 2 (sym z ∙ q)) ∙ e)

  module _ (n : ℕ) (rest : List ℕ) where
    cut_is : (f : ℕ → ℕ → Cut) → cond (cut_known n l) (cutting (f (first l) (second l)) rest) malformed ≡ cut_of f n (numbers l) rest
    unfolding cut_of
    cut_is f =
        by_test (eqb l.count 2)
        (λ t. rw (t, pair (eqb-true l.count 2 t)))
        (λ t. rw t (sym (cut_other f n (numbers l) rest (no_pair t))))

    clash_is : cond (clash_known n l) (closing (clash (first l) (second l)) rest) malformed ≡ clash_of n (numbers l) rest
    unfolding clash_of
    clash_is =
        by_test (eqb l.count 2)
        (λ t. rw (t, pair (eqb-true l.count 2 t)))
        (λ t. rw t (sym (clash_other n (numbers l) rest (no_pair t))))

    late_is : (m : ℕ) → 0 < l.count
        → cond (late_known n m l) (closing (late (first l) (drop 1 (numbers l))) rest) malformed ≡ late_of n m (numbers l) rest
    late_is m h =
        late_cons n m (first l) (drop 1 (numbers l)) (numbers l) rest (some_numbers l.count l.values fit.whole h)

-- ---- the node of the bytes

module _ (n m : ℕ) (bs : List ℕ) where
  pub node_split : {vs rest : List ℕ} → list_of split_key 2 bs ≡ listed vs rest → node_of n m bs ≡ cut_of split n vs rest
  unfolding node_of
  node_split a = rw a

  module _ (a : list_of split_key 2 bs ≡ unlisted) where
    pub node_seat : {vs rest : List ℕ} → list_of seat_key 2 bs ≡ listed vs rest → node_of n m bs ≡ cut_of seat n vs rest
    unfolding node_of
    node_seat b = rw (a, b)

    module _ (b : list_of seat_key 2 bs ≡ unlisted) where
      pub node_loop : {vs rest : List ℕ} → list_of loop_key most_chained bs ≡ listed vs rest
          → node_of n m bs ≡ loop_of m vs rest
      unfolding node_of
      node_loop c = rw (a, b, c)

      module _ (c : list_of loop_key most_chained bs ≡ unlisted) where
        pub node_late : {vs rest : List ℕ} → list_of late_key most_items bs ≡ listed vs rest
            → node_of n m bs ≡ late_of n m vs rest
        unfolding node_of
        node_late d = rw (a, b, c, d)

        module _ (d : list_of late_key most_items bs ≡ unlisted) where
          pub node_clash : {vs rest : List ℕ} → list_of clash_key 2 bs ≡ listed vs rest
              → node_of n m bs ≡ clash_of n vs rest
          unfolding node_of
          node_clash f = rw (a, b, c, d, f)

          pub node_none : list_of clash_key 2 bs ≡ unlisted → node_of n m bs ≡ malformed
          unfolding node_of
          node_none f = rw (a, b, c, d, f)

-- ---- what `read_node` gives

-- what its contract says of a result at a place of the bytes s, of a sheet with n operations and m edges
abbrev pub NodeAt : List ℕ → ℕ → ℕ → ℕ → Option NodeLine → Type 0
NodeAt s at n m r = (seen_node s r ≡ node_of n m (drop at s)) × IfSome r (NodeFits s)

loop_is : (n m : ℕ) (vs rest : List ℕ) → cond (all_below m vs) (closing (loop vs) rest) malformed ≡ loop_of m vs rest
unfolding loop_of
loop_is n m vs rest = refl

-- a node where it is known, as it is seen
seen_if : (s : List ℕ) (known : Bool) (x : Node) (next : ℕ)
    → seen_node s (node_if known x next) ≡ cond known (node_seen x (drop next s)) malformed
seen_if s true x next = refl
seen_if s false x next = refl

module _ (s : List ℕ) (at n m : ℕ) where
  -- a line that is found, and the node that it is where it is known
  given : {known want : Bool} {r : Option NodeLine} (x : Node) (next : ℕ)
      → cond want (node_seen x (drop next s)) malformed ≡ node_of n m (drop at s) → known ≡ want → r ≡ node_if known x next
      → seen_node s r ≡ node_of n m (drop at s)
  given {known} {want} x next e k q = rw (q, k) (seen_if s want x next ∙ e)

  -- a line with these numbers, or none
  abbrev pub Line : List ℕ → ℕ → Items → Type 0
  Line key most l = listed (numbers l) (drop l.next s) ≡ list_of key most (drop at s)

  abbrev pub NoLine : List ℕ → ℕ → Type 0
  NoLine key most = unlisted ≡ list_of key most (drop at s)

  -- what is found is the node of the bytes
  abbrev Is : Option NodeLine → Type 0
  Is r = seen_node s r ≡ node_of n m (drop at s)

  module _ {l : Items} (fit : ItemsFit s l) where
    pub gives_split : {known : Bool} {r : Option NodeLine} → Line split_key 2 l → known ≡ cut_known n l
        → r ≡ node_if known (Cutting (Split (first l) (second l))) l.next → Is r
    gives_split e = given _ _ (cut_is fit n (drop l.next s) split ∙ sym (node_split n m (drop at s) (sym e)))

    module _ (a : NoLine split_key 2) where
      pub gives_seat : {known : Bool} {r : Option NodeLine} → Line seat_key 2 l → known ≡ cut_known n l
          → r ≡ node_if known (Cutting (Seat (first l) (second l))) l.next → Is r
      gives_seat e = given _ _ (cut_is fit n (drop l.next s) seat ∙ sym (node_seat n m (drop at s) (sym a) (sym e)))

      module _ (b : NoLine seat_key 2) where
        pub gives_loop : {known : Bool} {r : Option NodeLine} {v : Numbers} → Line loop_key most_chained l → (v.count ≡ l.count) × (v.values ≡ l.values)
            → known ≡ all_below m (numbers l)
            → r ≡ node_if known (Closing (Loop v)) l.next → Is r
        gives_loop e q =
            given _ _ (rw (q.0, q.1) (loop_is n m (numbers l) (drop l.next s)) ∙ sym (node_loop n m (drop at s) (sym a) (sym b) (sym e)))

        module _ (c : NoLine loop_key most_chained) where
          pub gives_late : {known : Bool} {r : Option NodeLine} {v : Numbers} → Line late_key most_items l → (v.count ≡ l.count) × (v.values ≡ l.values)
              → 0 < l.count → known ≡ late_known n m l
              → r ≡ node_if known (Closing (Late v)) l.next → Is r
          gives_late e q h =
              given _ _
              (rw (q.0, q.1) (late_is fit n (drop l.next s) m h)
              ∙ sym (node_late n m (drop at s) (sym a) (sym b) (sym c) (sym e)))

          module _ (d : NoLine late_key most_items) where
            pub gives_clash : {known : Bool} {r : Option NodeLine} → Line clash_key 2 l → known ≡ clash_known n l
                → r ≡ node_if known (Closing (Clash (first l) (second l))) l.next → Is r
            gives_clash e =
                given _ _
                (clash_is fit n (drop l.next s)
                ∙ sym (node_clash n m (drop at s) (sym a) (sym b) (sym c) (sym d) (sym e)))

  pub gives_none : NoLine split_key 2 → NoLine seat_key 2 → NoLine loop_key most_chained → NoLine late_key most_items
      → NoLine clash_key 2 → Is None
  gives_none a b c d e = sym (node_none n m (drop at s) (sym a) (sym b) (sym c) (sym d) (sym e))

-- ---- what was read is the sheet's

below_of : (m : ℕ) (ks : List ℕ) → all_below m ks ≡ true → Below m ks
unfolding all_below
below_of m [] e = none
below_of m (k ∷ ks) e =
    by_test (ltb k m)
    (λ t. more (ltb-true k m t) (below_of m ks (rw t at e)))
    (λ t. true_false (sym (rw t at e)))

-- its operations and edges
abbrev pub NodeKnown : ℕ → ℕ → NodeRead → Type 0
NodeKnown n m (cutting c rest) = CutKnown n c
NodeKnown n m (closing x rest) = LeafKnown n m x
NodeKnown n m malformed = Unit {0}

known_cut : (f : ℕ → ℕ → Cut) (n m : ℕ) → ((i v : ℕ) → i < n → CutKnown n (f i v))
    → (vs rest : List ℕ) → NodeKnown n m (cut_of f n vs rest)
unfolding cut_of
known_cut f n m k [] rest = tt
known_cut f n m k (i ∷ []) rest = tt
known_cut f n m k (i ∷ v ∷ []) rest = by_test (ltb i n) (λ e. rw e (k i v (ltb-true i n e))) (λ e. rw e tt)
known_cut f n m k (i ∷ v ∷ w ∷ vs) rest = tt

known_loop : (n m : ℕ) (vs rest : List ℕ) → NodeKnown n m (loop_of m vs rest)
unfolding loop_of LeafKnown
known_loop n m vs rest = by_test (all_below m vs) (λ e. rw e (below_of m vs e)) (λ e. rw e tt)

known_late : (n m : ℕ) (vs rest : List ℕ) → NodeKnown n m (late_of n m vs rest)
unfolding late_of LeafKnown
known_late n m [] rest = tt
known_late n m (i ∷ ks) rest =
    by_test (ltb i n)
    (λ e. by_test (all_below m ks) (λ f. rw (e, f) (ltb-true i n e, below_of m ks f)) (λ f. rw (e, f) tt))
    (λ e. rw e tt)

known_clash : (n m : ℕ) (vs rest : List ℕ) → NodeKnown n m (clash_of n vs rest)
unfolding clash_of LeafKnown
known_clash n m [] rest = tt
known_clash n m (i ∷ []) rest = tt
known_clash n m (i ∷ j ∷ []) rest =
    by_test (ltb i n)
    (λ e. by_test (ltb j n) (λ f. rw (e, f) (ltb-true i n e, ltb-true j n f)) (λ f. rw (e, f) tt))
    (λ e. rw e tt)
known_clash n m (i ∷ j ∷ w ∷ vs) rest = tt

known_by : (n m : ℕ) (x : Listed) (f : List ℕ → List ℕ → NodeRead) (o : NodeRead)
    → ((vs rest : List ℕ) → NodeKnown n m (f vs rest)) → NodeKnown n m o → NodeKnown n m (on_listed x f o)
known_by n m (listed vs rest) f o g h = g vs rest
known_by n m unlisted f o g h = h

pub node_known : (n m : ℕ) (bs : List ℕ) → NodeKnown n m (node_of n m bs)
unfolding node_of CutKnown
node_known n m bs =
    known_by n m (list_of split_key 2 bs) (cut_of split n) _ (known_cut split n m (λ i v h. h))
    (known_by n m (list_of seat_key 2 bs) (cut_of seat n) _ (known_cut seat n m (λ i v h. h))
    (known_by n m (list_of loop_key most_chained bs) (loop_of m) _ (known_loop n m)
    (known_by n m (list_of late_key most_items bs) (late_of n m) _ (known_late n m)
    (known_by n m (list_of clash_key 2 bs) (clash_of n) malformed (known_clash n m) tt))))
