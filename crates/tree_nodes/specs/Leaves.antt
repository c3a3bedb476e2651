-- From the tests to the leaves. Assumes nothing.
use Rattle.std.specs.Prelude.{◌≡◌, refl, Bool, not, List, ◌∷◌, ℕ, ◌<◌, length, ℤ, pos, ◌+ℤ◌, ◌<ℤ◌}
use Rattle.std.proofs.Common.{sym, arith}
use Rattle.std.proofs.Math.Path.{subst}
use Rattle.std.proofs.Math.Decide.{dec_lt}
use Rattle.std.specs.Int.Signed.{lt_z}
use Rattle.std.proofs.lemmas.Bool.{not-true, not-false}
use Rattle.laws.specs.Z.{zed, lt_z_true, lt_z_false}
use Rattle.laws.specs.Says.{Says}
use Rattle.laws.specs.Tests.{last}
use Rattle.dependence.specs.declared.Graph.{Graph}
use Rattle.dependence.specs.Graph.{edge_at}
use Rattle.dependence.specs.Rules.{Chain, step, BadWalk}
use Rattle.sheet.specs.declared.Sheet.{Sheet}
use Rattle.sheet.specs.Sheet.{type_of, graph_of}
use Rattle.plan.specs.Rules as plan
use Rattle.denial.specs.Box.{Box}
use Rattle.denial.specs.BoxLaws.{which}
use Rattle.denial.specs.Passes.{Pinned, Late, Clash, two, never, barred}
use Rattle.denial.specs.At.{Never, rules_at}
use Rattle.tree_nodes.specs.declared.chain.Walked.{Walked}
use Rattle.tree_nodes.specs.Chain.{NoChain, Followed}

-- a signed test
pub less_says : (a b : ℤ) → Says (a <ℤ b) (lt_z a b)
less_says a b = record { yes = lt_z_true a b; no = λ e h. omega (arith, zed, h, lt_z_false a b e) }

-- ---- `loop=`

chain_head : {g : Graph} {i j k : ℕ} {ks : List ℕ} → Chain g i (k ∷ ks) j → i ≡ (edge_at g k).from
chain_head (step l c) = refl

-- edges that begin with the first one
module _ {g : Graph} {L k : ℕ} {ks vs : List ℕ} (v : vs ≡ k ∷ ks) where
  closed : BadWalk g L vs → Chain g (edge_at g k).from vs (edge_at g k).from
  closed b =
      let c = subst (λ (x : List ℕ). Chain g b.at x b.at) v b.chain in
      subst (λ (x : ℕ). Chain g x vs x) (chain_head c) b.chain

  pub loop_not : NoChain g (edge_at g k).from vs → BadWalk g L vs → ⊥
  loop_not n b = n _ (closed b)

  module _ {w : Walked} (f : Followed g L (edge_at g k).from vs w) where
    pub loop_open : (w.end ≡ (edge_at g k).from → ⊥) → BadWalk g L vs → ⊥
    loop_open n b = n (f.only _ (closed b))

    pub loop_says : {r : Bool} → w.end ≡ (edge_at g k).from → Says (pos 0 <ℤ w.sum) r → Says (BadWalk g L vs) r
    loop_says q s = last s
        (λ h. record {
          at = (edge_at g k).from;
          chain = subst (Chain g (edge_at g k).from vs) q f.chain;
          non_empty = subst (λ (x : List ℕ). 0 < length x) (sym v) (omega arith);
          positive = subst (λ (z : ℤ). pos 0 <ℤ z) f.sum h;
        })
        (λ b. subst (λ (z : ℤ). pos 0 <ℤ z) (sym f.sum) b.positive)

-- ---- `late=`

module _ (s : Sheet) (L : ℕ) {i : ℕ} (b : Box) {ks : List ℕ} where
  pub late_not : NoChain (graph_of s) i ks → Late (rules_at s L) b i ks → ⊥
  unfolding rules_at
  late_not n l = n l.end l.chain

  pub late_says : {w : Walked} → Followed (graph_of s) L i ks w → {r : Bool}
      → Says (b.highest w.end <ℤ (pos (b.lowest i) +ℤ w.sum)) r → Says (Late (rules_at s L) b i ks) r
  unfolding rules_at
  late_says {w} f says = last says
      (λ h. record {
        end = w.end;
        chain = f.chain;
        exceeds = subst (λ (z : ℤ). b.highest w.end <ℤ (pos (b.lowest i) +ℤ z)) f.sum h;
      })
      (λ l. subst (λ (x : ℕ). b.highest x <ℤ (pos (b.lowest i) +ℤ w.sum)) (sym (f.only l.end l.chain))
      (subst (λ (z : ℤ). b.highest l.end <ℤ (pos (b.lowest i) +ℤ z)) (sym f.sum) l.exceeds))

-- ---- `clash=`

-- what a clash of two operations is
pub record Both (s : Sheet) (L : ℕ) (b : Box) (i j : ℕ) : Type 0 where
  pub rivals : plan.Rivals s i j
  pub one : Pinned b i
  pub other : Pinned b j
  pub same : b.first i ≡ b.first j
  pub overlap : plan.Overlap s L i (b.lowest i) j (b.lowest j)

module _ (s : Sheet) (L : ℕ) (b : Box) where
  pub clash_both : {i j : ℕ} → (i ≡ j → ⊥) → Clash (rules_at s L) b i j → Both s L b i j
  unfolding rules_at
  clash_both n (two v p q e o) = record {
    rivals = record { different = v.different; one_type = v.one_kind; limited = v.limited };
    one = p;
    other = q;
    same = e;
    overlap = o;
  }
  clash_both n (never v) = absurd (n refl)
  clash_both n (barred e v) = absurd v

  pub both_clash : {i j : ℕ} → Both s L b i j → Clash (rules_at s L) b i j
  unfolding rules_at
  both_clash x =
      two (record { different = x.rivals.different; one_kind = x.rivals.one_type; limited = x.rivals.limited })
      x.one x.other x.same x.overlap

  clash_never : {i j : ℕ} → i ≡ j → Clash (rules_at s L) b i j → Never s L i
  unfolding rules_at
  clash_never e (two v p q f o) = absurd (v.different e)
  clash_never e (never v) = v
  clash_never e (barred f v) = absurd v

  never_clash : {i j : ℕ} → i ≡ j → Never s L i → Clash (rules_at s L) b i j
  unfolding rules_at
  never_clash {i} e v = subst (Clash (rules_at s L) b i) e (never v)

-- an operation that may not hold its instance is limited, with K above L
never_of : (s : Sheet) (L i t : ℕ) → (plan.HoldsAllowed s L i t → ⊥) → Never s L i
never_of s L i t n = which (dec_lt 0 (type_of s i).instances)
    (λ l. which (dec_lt L (type_of s i).busy)
    (λ a. record { limited = l; above = a })
    (λ a. absurd (n (record { fits = λ _. omega arith }))))
    (λ l. absurd (n (record { fits = λ h. absurd (l h) })))

-- the test of one operation, denied
pub own_says : (s : Sheet) (L : ℕ) (b : Box) {i j : ℕ} (t : ℕ) (r : Bool) → i ≡ j → Says (plan.HoldsAllowed s L i t) r
    → Says (Clash (rules_at s L) b i j) (not r)
own_says s L b {i} t r e h = record {
  yes = λ y. never_clash s L b e (never_of s L i t (h.no (not-true r y)));
  no = λ n c. let v = clash_never s L b e c in omega (arith, v.above, (h.yes (not-false r n)).fits v.limited);
}
