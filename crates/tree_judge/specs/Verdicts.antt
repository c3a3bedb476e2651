-- What is said of a tree: whether the bytes hold one, and the first line that is not so. One law for each way that the
-- reading of a node can go. Assumes nothing.
use Rattle.std.specs.Prelude.{ℕ, suc, ◌+◌, ◌-◌, ◌≤◌, ◌<◌, ◌≡◌, refl, Bool, true, false, cond, List, length, drop, Option, None, Some, Result, Ok, Err}
use Rattle.std.specs.Option.{option_or}
use Rattle.std.proofs.Common.{arith, add-one, sym, ap, subst, ◌∙◌}
use Rattle.laws.specs.Says.{Says}
use Rattle.sizes.specs.Sizes.{most_operations}
use Rattle.sheet.specs.declared.Sheet.{Sheet}
use Rattle.sheet.specs.Sheet.{InRange}
use Rattle.sheet.specs.Facts.{to_below}
use Rattle.denial.specs.Box.{Box}
use Rattle.denial.specs.Tree.{Tree, leaf, cut, CutKnown, LeafKnown, Known, lines}
use Rattle.denial.specs.Tree as trees
use Rattle.denial.specs.Passes.{Rules, up_to, above, Allowed, So, Passes}
use Rattle.denial.specs.At.{rules_at, root_at}
use Rattle.denial.specs.Fault.{FirstFalse, at_leaf, at_cut, in_first, in_second, TreeFault, none, first}
use Rattle.denial.specs.Agree.{Agree, passes_agree, first_agree}
use Rattle.tree_lines.specs.declared.Cut.{Cut}
use Rattle.tree_lines.specs.declared.Cut.TheVariants.{Split, Seat}
use Rattle.tree_lines.specs.declared.Leaf.{Leaf}
use Rattle.tree_lines.specs.Node.{cutting, closing, malformed, node_of, cut_seen, leaf_seen, CutSmall}
use Rattle.tree_lines.specs.NodeLaws.{NodeKnown, node_known}
use Rattle.tree_boxes.specs.Bounds.{CutBelow}
use Rattle.tree_judge.specs.declared.Judged.{Judged}
use Rattle.tree_judge.specs.declared.Unread.{Unread}
use Rattle.tree_judge.specs.Reading.{most_lines, TreeRead, read, unread, on_tree, tree_from}
use Rattle.tree_judge.specs.ReadingLaws.{parts_from, too_many, no_node, one_leaf, too_deep, one_cut, read_sized}

-- ---- what is said

-- the line at fault of a leaf at line k
abbrev pub leaf_fault : Bool → ℕ → Option ℕ
leaf_fault so k = cond so None (Some k)

-- the first line at fault of a cut at line k, by those of its two parts
abbrev pub cut_fault : Bool → ℕ → Option ℕ → Option ℕ → Option ℕ
cut_fault allowed k f g = cond allowed (option_or f g) (Some k)

-- the tree, whose first line is k, passes, or this line is the first that is not so
pub data Fault (r : Rules) (b : Box) (t : Tree) (k : ℕ) : Option ℕ → Type 0 where
  passes : Passes r b t → Fault r b t k None
  false_at : {n : ℕ} → FirstFalse r b t k n → Fault r b t k (Some n)

-- as a line, 0 where there is none
abbrev pub fault_line : Option ℕ → ℕ
fault_line None = 0
fault_line (Some n) = n

-- what is said where there is none, and where there is one
pub fault_none : {r : Rules} {b : Box} {t : Tree} {k : ℕ} → Fault r b t k None → Passes r b t
fault_none (passes p) = p

pub fault_some : {r : Rules} {b : Box} {t : Tree} {k n : ℕ} → Fault r b t k (Some n) → FirstFalse r b t k n
fault_some (false_at f) = f

pub fault_is : {r : Rules} {b : Box} {t : Tree} {k : ℕ} {f : Option ℕ} → Fault r b t k f → TreeFault r b t k (fault_line f)
fault_is (passes p) = none p
fault_is (false_at p) = first p

-- what is said of what was read from line k on, at places of the bytes s
pub data Judges (r : Rules) (b : Box) (s : List ℕ) (k : ℕ) : TreeRead → Result Judged Unread → Type 0 where
  not_read : {l : ℕ} {u : Unread} → l ≡ u.line → Judges r b s k (unread l) (Err u)
  was_read : {t : Tree} {l : ℕ} {rest : List ℕ} {v : Judged} → rest ≡ drop v.next s → v.next ≤ length s → l ≡ v.line
      → Fault r b t k v.fault → Judges r b s k (read t l rest) (Ok v)

-- judged from the root's box of a sheet
abbrev pub RootJudged : Sheet → ℕ → List ℕ → ℕ → TreeRead → Result Judged Unread → Type 0
RootJudged sheet L s k = Judges (rules_at sheet L) (root_at sheet) s k

-- ---- lines at fault

module _ {r : Rules} {b : Box} where
  pub leaf_judged : {x : trees.Leaf} {k : ℕ} (so : Bool) → Says (So r b x) so → Fault r b (leaf x) k (leaf_fault so k)
  unfolding Passes
  leaf_judged true w = passes (w.yes refl)
  leaf_judged false w = false_at (at_leaf (w.no refl))

module _ {r : Rules} {b : Box} {c : trees.Cut} {x y : Tree} {k : ℕ} where
  both_judged : {f g : Option ℕ} → Allowed r c → Fault r (up_to b c) x (suc k) f
      → Fault r (above b c) y (suc k + lines x) g → Fault r b (cut c x y) k (option_or f g)
  unfolding Passes
  both_judged w (passes p) (passes q) = passes (w, (p, q))
  both_judged w (passes p) (false_at q) = false_at (in_second w p q)
  both_judged w (false_at p) q = false_at (in_first w p)

  pub cut_judged : (allowed : Bool) {f g : Option ℕ} → Says (Allowed r c) allowed → Fault r (up_to b c) x (suc k) f
      → Fault r (above b c) y (suc k + lines x) g → Fault r b (cut c x y) k (cut_fault allowed k f g)
  cut_judged true w p q = both_judged (w.yes refl) p q
  cut_judged false w p q = false_at (at_cut (w.no refl))

-- a cut that was read is of an operation in the bounds
pub cut_below : {n : ℕ} → n ≤ most_operations → (x : Cut) → CutKnown n (cut_seen x) → CutSmall x → CutBelow x
unfolding CutKnown
cut_below h (Split i v) k f = (omega (arith, k), f.1)
cut_below h (Seat i v) k f = (omega (arith, k), f.1)

-- ---- what was said

module _ {r : Rules} {b : Box} {s : List ℕ} {k : ℕ} where
  -- that there is none
  pub stopped : {y : TreeRead} {u : Unread} → Judges r b s k y (Err u) → y ≡ unread u.line
  stopped (not_read e) = ap unread e

-- that there is one
pub record Took (r : Rules) (b : Box) (s : List ℕ) (k : ℕ) (y : TreeRead) (v : Judged) : Type 0 where
  pub tree : Tree
  pub is : y ≡ read tree v.line (drop v.next s)
  pub within : v.next ≤ length s
  pub fault : Fault r b tree k v.fault

pub took : {r : Rules} {b : Box} {s : List ℕ} {k : ℕ} {y : TreeRead} {v : Judged} → Judges r b s k y (Ok v)
    → Took r b s k y v
took (was_read {t} e h q j) = record { tree = t; is = (λ i. read t (q i) (e i)); within = h; fault = j }

-- ---- one law for each way that `judge_tree` returns

module _ (r : Rules) (b : Box) (s : List ℕ) (n m d k : ℕ) (bs : List ℕ) where
  -- what its contract says of a result
  abbrev Says_of : Result Judged Unread → Type 0
  Says_of v = Judges r b s k (tree_from n m d k bs) v

  judges_stopped : {u : Unread} → tree_from n m d k bs ≡ unread u.line → Says_of (Err u)
  judges_stopped e = rw e (not_read refl)

  pub judges_too_many : most_lines < k → Says_of (Err (record { line = k }))
  judges_too_many h = judges_stopped (too_many n m d k bs h)

  module _ (h : k ≤ most_lines) where
    pub judges_malformed : malformed ≡ node_of n m bs → Says_of (Err (record { line = k }))
    judges_malformed e = judges_stopped (no_node n m d k bs h (sym e))

    module _ (x : Leaf) (next : ℕ) (e : closing (leaf_seen x) (drop next s) ≡ node_of n m bs) where
      pub leaf_known : LeafKnown n m (leaf_seen x)
      leaf_known = subst (NodeKnown n m) (sym e) (node_known n m bs)

      pub judges_leaf : {so : Bool} → next ≤ length s → Says (So r b (leaf_seen x)) so → {f : Option ℕ}
          → f ≡ leaf_fault so k → Says_of (Ok (record { next = next; line = k + 1; fault = f }))
      judges_leaf {so} t w q =
          rw (one_leaf n m d k bs h (leaf_seen x) (drop next s) (sym e))
          (was_read refl t (sym (add-one k)) (subst (Fault r b (leaf (leaf_seen x)) k) (sym q) (leaf_judged so w)))

    module _ (x : Cut) (next : ℕ) (e : cutting (cut_seen x) (drop next s) ≡ node_of n m bs) where
      pub cut_known_lem : CutKnown n (cut_seen x)
      cut_known_lem = subst (NodeKnown n m) (sym e) (node_known n m bs)

      pub judges_deep : d ≡ 0 → Says_of (Err (record { line = k }))
      judges_deep z = judges_stopped (too_deep n m d k bs h (cut_seen x) (drop next s) z (sym e))

      module _ (p : 0 < d) (b₁ : Box) where
        -- what is said of the first part
        abbrev First : Result Judged Unread → Type 0
        First v = Judges r b₁ s (k + 1) (tree_from n m (d - 1) (k + 1) (drop next s)) v

        parts : tree_from n m d k bs ≡ parts_from (tree_from n m (d - 1)) (cut_seen x) (suc k) (drop next s)
        parts = one_cut n m d k bs h (cut_seen x) (drop next s) p (sym e)

        after_first : {y : TreeRead} → tree_from n m (d - 1) (k + 1) (drop next s) ≡ y
            → tree_from n m d k bs
            ≡ on_tree y (λ t l rest.
            on_tree (tree_from n m (d - 1) l rest) (λ u l' rest'. read (cut (cut_seen x) t u) l' rest'))
        after_first {y} q =
            parts
            ∙ ap (λ (z : TreeRead).
            on_tree z (λ t l rest.
            on_tree (tree_from n m (d - 1) l rest) (λ u l' rest'. read (cut (cut_seen x) t u) l' rest')))
            (rw add-one at q)

        -- the first part is none
        pub judges_first : {u : Unread} → First (Err u) → Says_of (Err u)
        judges_first j = judges_stopped (after_first (stopped j))

        module _ {v : Judged} (j : First (Ok v)) where
          one : Took r b₁ s (k + 1) (tree_from n m (d - 1) (k + 1) (drop next s)) v
          one = took j

          -- the second part may be asked for
          pub first_line : (0 < v.line) × (v.line ≤ most_lines + 1)
          first_line =
              let q = read_sized n m (d - 1) (k + 1) (drop next s) one.is in
              (omega (arith, q.1.0), q.1.1)

          module _ (b₂ : Box) where
            -- what is said of the second part
            abbrev Second : Result Judged Unread → Type 0
            Second v' = Judges r b₂ s v.line (tree_from n m (d - 1) v.line (drop v.next s)) v'

            after_second : {y : TreeRead} → tree_from n m (d - 1) v.line (drop v.next s) ≡ y
                → tree_from n m d k bs ≡ on_tree y (λ u l' rest'. read (cut (cut_seen x) one.tree u) l' rest')
            after_second q =
                after_first one.is
                ∙ ap (λ (z : TreeRead). on_tree z (λ u l' rest'. read (cut (cut_seen x) one.tree u) l' rest')) q

            -- the second part is none
            pub judges_second : {u : Unread} → Second (Err u) → Says_of (Err u)
            judges_second j' = judges_stopped (after_second (stopped j'))

            -- both were read
            pub judges_both : {v' : Judged} → Second (Ok v') → b₁ ≡ up_to b (cut_seen x) → b₂ ≡ above b (cut_seen x)
                → {allowed : Bool} → Says (Allowed r (cut_seen x)) allowed → {fault : Option ℕ}
                → fault ≡ cut_fault allowed k v.fault v'.fault
                → Says_of (Ok (record { next = v'.next; line = v'.line; fault = fault }))
            judges_both {v'} j' p₁ p₂ {allowed} w q =
                let second = took j' in
                let size = (read_sized n m (d - 1) (k + 1) (drop next s) one.is).1.0 in
                let left : Fault r (up_to b (cut_seen x)) one.tree (suc k) v.fault =
                subst (λ (y : Box). Fault r y one.tree (suc k) v.fault) p₁ (rw add-one at one.fault) in
                let right : Fault r (above b (cut_seen x)) second.tree (suc k + lines one.tree) v'.fault =
                subst (λ (y : Box). Fault r y second.tree (suc k + lines one.tree) v'.fault) p₂
                (subst (λ (l : ℕ). Fault r b₂ second.tree l v'.fault) (size ∙ omega arith) second.fault) in
                rw (after_second second.is)
                (was_read refl second.within refl
                (subst (Fault r b (cut (cut_seen x) one.tree second.tree) k) (sym q) (cut_judged allowed w left right)))

-- ---- from the root

judged_agree : (sheet : Sheet) (L : ℕ) {b c : Box} {t : Tree} {k : ℕ} {f : Option ℕ} → InRange sheet
    → Agree sheet.op_count b c → Known sheet.op_count sheet.edge_count t
    → Fault (rules_at sheet L) b t k f → Fault (rules_at sheet L) c t k f
unfolding rules_at
judged_agree sheet L {t = t} ok a h (passes p) =
    passes (passes_agree (rules_at sheet L) (λ e q. to_below ok e q) a t h p)
judged_agree sheet L ok a h (false_at f) = false_at (first_agree (rules_at sheet L) (λ e q. to_below ok e q) a h f)

pub root_judged : (sheet : Sheet) (L : ℕ) (s : List ℕ) (d k : ℕ) (bs : List ℕ) {b : Box} {v : Result Judged Unread}
    → InRange sheet → Agree sheet.op_count b (root_at sheet)
    → Judges (rules_at sheet L) b s k (tree_from sheet.op_count sheet.edge_count d k bs) v
    → RootJudged sheet L s k (tree_from sheet.op_count sheet.edge_count d k bs) v
root_judged sheet L s d k bs {b} {v} ok a j = at (tree_from n m d k bs) refl v j
  where
    n : ℕ
    n = sheet.op_count

    m : ℕ
    m = sheet.edge_count

    at : (y : TreeRead) → tree_from n m d k bs ≡ y → (v : Result Judged Unread) → Judges (rules_at sheet L) b s k y v
        → RootJudged sheet L s k y v
    at (unread l) e (Err u) (not_read q) = not_read q
    at (read t l rest) e (Ok v) (was_read x h q w) =
        was_read x h q (judged_agree sheet L ok a (read_sized n m d k bs e).0 w)
    at (read t l rest) e (Err u) q = elim q [ ]
    at (unread l) e (Ok v) q = elim q [ ]
