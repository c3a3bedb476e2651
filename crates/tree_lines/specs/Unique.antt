-- What `read_node` promises of its result fixes it: two that meet its contract at one place of the bytes are equal.
-- Assumes nothing.
use Rattle.std.specs.Prelude.{◌≡◌, refl, List, ◌∷◌, ℕ, drop, get_or, Option, None, Some, IfSome}
use Rattle.std.proofs.Common.{sym, ap, ◌∙◌}
use Rattle.scan.specs.OneLine.{same_place}
use Rattle.scan_list.specs.ListLaws.{Front, same_front}
use Rattle.tree_lines.specs.declared.Cut.TheVariants.{Split, Seat}
use Rattle.tree_lines.specs.declared.Leaf.TheVariants.{Loop, Late, Clash}
use Rattle.tree_lines.specs.declared.Node.{Node}
use Rattle.tree_lines.specs.declared.Node.TheVariants.{Cutting, Closing}
use Rattle.tree_lines.specs.declared.NodeLine.{NodeLine}
use Rattle.tree_lines.specs.declared.Numbers.{Numbers}
use Rattle.tree_lines.specs.Node.{malformed}
use Rattle.tree_lines.specs.Node.{numbers_of, node_seen, seen_node, NumbersFit, NodeSmall, NodeFits}
use Rattle.tree_lines.specs.NodeLaws.{NodeAt, some_numbers}

-- ---- numbers are fixed by what is seen of them

front_of : {l : Numbers} → NumbersFit l → Front l.count l.values
front_of f = record { whole = f.whole; few = f.count; past = f.past }

one_numbers : {l k : Numbers} → NumbersFit l → NumbersFit k → numbers_of l ≡ numbers_of k → l ≡ k
one_numbers f g e =
    let v = same_front (front_of f) (front_of g) e in
    λ i. record { count = v.0 i; values = v.1 i }

late_numbers : {l k : Numbers} → NumbersFit l → NumbersFit k → get_or l.values 0 0 ≡ get_or k.values 0 0
    → drop 1 (numbers_of l) ≡ drop 1 (numbers_of k) → numbers_of l ≡ numbers_of k
late_numbers {l} {k} f g e h =
    some_numbers l.count l.values f.whole f.some ∙ (λ i. e i ∷ h i) ∙ sym (some_numbers k.count k.values g.whole g.some)

-- ---- the node, by its cases

abbrev Same : Node → List ℕ → Node → List ℕ → Type 0
Same x a y b = (x ≡ y) × (a ≡ b)

one_node : (x y : Node) (a b : List ℕ) → NodeSmall x → NodeSmall y → node_seen x a ≡ node_seen y b → Same x a y b
one_node (Cutting (Split i v)) (Cutting (Split j w)) a b f g e = (cc, cc)
one_node (Cutting (Seat i v)) (Cutting (Seat j w)) a b f g e = (cc, cc)
one_node (Closing (Loop l)) (Closing (Loop k)) a b f g e =
    let v : numbers_of l ≡ numbers_of k = cc in
    (ap (λ (z : Numbers). Closing (Loop z)) (one_numbers f g v), cc)
one_node (Closing (Late l)) (Closing (Late k)) a b f g e =
    let u : get_or l.values 0 0 ≡ get_or k.values 0 0 = cc in
    let v : drop 1 (numbers_of l) ≡ drop 1 (numbers_of k) = cc in
    (ap (λ (z : Numbers). Closing (Late z)) (one_numbers f g (late_numbers f g u v)), cc)
one_node (Closing (Clash i j)) (Closing (Clash k l)) a b f g e = (cc, cc)
one_node (Cutting (Split i v)) (Cutting (Seat j w)) a b f g e = cc
one_node (Cutting (Seat i v)) (Cutting (Split j w)) a b f g e = cc
one_node (Cutting c) (Closing x) a b f g e = cc
one_node (Closing x) (Cutting c) a b f g e = cc
one_node (Closing (Loop l)) (Closing (Late k)) a b f g e = cc
one_node (Closing (Loop l)) (Closing (Clash i j)) a b f g e = cc
one_node (Closing (Late l)) (Closing (Loop k)) a b f g e = cc
one_node (Closing (Late l)) (Closing (Clash i j)) a b f g e = cc
one_node (Closing (Clash i j)) (Closing (Loop k)) a b f g e = cc
one_node (Closing (Clash i j)) (Closing (Late k)) a b f g e = cc

-- a node that was read is not malformed
some_node : (x : Node) (a : List ℕ) → node_seen x a ≡ malformed → ⊥
some_node (Cutting c) a e = cc
some_node (Closing x) a e = cc

-- ---- at most one result

one : (s : List ℕ) (r q : Option NodeLine) → IfSome r (NodeFits s) → IfSome q (NodeFits s) → seen_node s r ≡ seen_node s q
    → r ≡ q
one s None None f g e = refl
one s None (Some q) f g e = absurd (some_node q.node (drop q.next s) (sym e))
one s (Some r) None f g e = absurd (some_node r.node (drop r.next s) e)
one s (Some r) (Some q) f g e =
    let p = one_node r.node q.node (drop r.next s) (drop q.next s) f.node g.node e in
    let n = same_place s f.next g.next p.1 in
    λ i. Some (record { node = p.0 i; next = n i })

pub read_node_unique : (s : List ℕ) (at n m : ℕ) (r q : Option NodeLine) → NodeAt s at n m r → NodeAt s at n m q → r ≡ q
read_node_unique s at n m r q a b = one s r q a.1 b.1 (a.0 ∙ sym b.0)
