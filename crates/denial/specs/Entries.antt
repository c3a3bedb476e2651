-- Entries past R, N or E are no part of a sheet: a tree passes for both of two sheets that differ only there, or for
-- neither. Assumes nothing.
use Rattle.std.specs.Prelude.{refl, ◌+ℤ◌, ◌-ℤ◌, ◌<ℤ◌}
use Rattle.std.proofs.Math.Path.{ap, ap₂, subst}
use Rattle.std.proofs.Common.{◌∙◌, arith}
use Prim.Native.Nat.{ℕ, ◌-◌, ◌<◌}
use Rattle.std.proofs.Math.IntN.{ℤ, pos}
use Rattle.sheet.specs.declared.Sheet.{Sheet}
use Rattle.sheet.specs.declared.Operation.{Operation}
use Rattle.sheet.specs.declared.ResourceType.{ResourceType}
use Rattle.sheet.specs.Sheet.{InRange, type_of, op_at}
use Rattle.sheet.specs.Facts.{to_below}
use Rattle.sheet.specs.Entries.{SameSheet, type_same, chain_same, sum_same, bad_same}
use Rattle.plan.specs.Rules as plan
use Rattle.plan.specs.Entries.{rivals_same, overlap_same}
use Rattle.denial.specs.Box.{Box, lesser}
use Rattle.denial.specs.Tree.{Cut, split, seat, Leaf, loop, late, clash, Tree, leaf, cut}
use Rattle.denial.specs.Tree.{CutKnown, LeafKnown, Known}
use Rattle.denial.specs.Passes.{up_to, above, Allowed, Clash, two, never, barred, So, Passes}
use Rattle.denial.specs.At.{Never, rules_at, highest_at, root_at}
use Rattle.denial.specs.Agree.{Agree, passes_agree}

module _ {s s' : Sheet} (e : SameSheet s s') (ok : InRange s) (L : ℕ) where
  never_same : {i : ℕ} → i < s.op_count → Never s L i → Never s' L i
  never_same {i} h v =
      let q = type_same e ok i h in
      record {
        limited = omega (arith, ap (λ (t : ResourceType). t.instances) q, v.limited);
        above = omega (arith, ap (λ (t : ResourceType). t.busy) q, v.above);
      }

  clash_same : {b : Box} {i j : ℕ} → i < s.op_count → j < s.op_count → Clash (rules_at s L) b i j
      → Clash (rules_at s' L) b i j
  unfolding rules_at
  clash_same {b} {i} {j} h k (two v p q f o) =
      let w : plan.Rivals s i j = record { different = v.different; one_type = v.one_kind; limited = v.limited } in
      let r = rivals_same e ok h k w in
      two (record { different = r.different; one_kind = r.one_type; limited = r.limited }) p q f
      (overlap_same e ok L i (b.lowest i) j (b.lowest j) h k o)
  clash_same h k (never v) = never (never_same h v)
  clash_same h k (barred f v) = absurd v

  leaf_same : (b : Box) (x : Leaf) → LeafKnown s.op_count s.edge_count x → So (rules_at s L) b x
      → So (rules_at s' L) b x
  unfolding So LeafKnown rules_at
  leaf_same b (loop ks) k p = bad_same e ok p
  leaf_same b (late i ks) k p = record {
    end = p.end;
    chain = chain_same e ok p.chain;
    exceeds =
        subst (λ (z : ℤ). b.highest p.end <ℤ (pos (b.lowest i) +ℤ z)) (sum_same e ok L p.chain) p.exceeds;
  }
  leaf_same b (clash i j) k p = clash_same k.0 k.1 p

  allowed_same : (c : Cut) → CutKnown s.op_count c → Allowed (rules_at s L) c → Allowed (rules_at s' L) c
  unfolding Allowed CutKnown rules_at
  allowed_same (split i v) k p = tt
  allowed_same (seat i v) k p = omega (arith, ap (λ (t : ResourceType). t.instances) (type_same e ok i k), p)

  rules_same : (b : Box) (x : Tree) → Known s.op_count s.edge_count x → Passes (rules_at s L) b x
      → Passes (rules_at s' L) b x
  unfolding Passes Known
  rules_same b (leaf x) k p = leaf_same b x k p
  rules_same b (cut c x y) k p =
      (allowed_same c k.0 p.0, (rules_same (up_to b c) x k.1.0 p.1.0, rules_same (above b c) y k.1.1 p.1.1))

  root_same : Agree s.op_count (root_at s) (root_at s')
  unfolding root_at highest_at
  root_same = record {
    lowest = λ i h. ap (λ (o : Operation). o.lo) (e.each_op i h);
    highest = λ i h.
        ap (λ (H : ℕ). highest_of H (type_of s i) (op_at s i)) e.horizon
        ∙ ap₂ (highest_of s'.horizon) (type_same e ok i h) (e.each_op i h);
    first = λ i h. refl;
    last = λ i h. ap (λ (t : ResourceType). t.instances - 1) (type_same e ok i h);
  }
    where
      highest_of : ℕ → ResourceType → Operation → ℤ
      highest_of H t o = lesser (lesser (pos H -ℤ pos t.latency) (H - 1)) o.hi

  pub passes_same : (x : Tree) → Known s.op_count s.edge_count x → Passes (rules_at s L) (root_at s) x
      → Passes (rules_at s' L) (root_at s') x
  unfolding rules_at
  passes_same x k p =
      rules_same _ x k (passes_agree (rules_at s L) (λ j h. to_below ok j h) root_same x k p)
