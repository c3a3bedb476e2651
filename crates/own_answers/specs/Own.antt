-- What leastplan prints for an interval, judged as another supplier's answer: its plan and its loop are passed; its 6,
-- which shows no tree, is no answer that can be judged, and gets 18. Assumes nothing.
use Rattle.std.specs.Prelude.{ℕ, ◌≤◌, ◌<◌, ◌≡◌, pos, length}
use native.Mathlib.Omega.{arith}
use Rattle.std.proofs.Math.Decide.{dec_lt}
use Rattle.std.proofs.Math.Path.{refl, ap}
use Rattle.std.proofs.Common.{sym, subst, ◌∙◌, get_or-take, ext_get_or}
use mathlib.Core.List.{List, [], ◌∷◌}
use Rattle.std.proofs.Math.ListN.{take, get_or-eq_default}
use Rattle.std.proofs.Math.Seq.{length-take-le}
use borrow.Author.Tests.{eq-eqb}
use Rattle.laws.specs.Entry.{vec, Padded, ZeroFrom}
use Rattle.text.specs.Keys.{answer_key, interval_key}
use Rattle.text.specs.Sizes.{four_digits}
use Rattle.text.specs.Lines.{Line, lines_text}
use Rattle.text.specs.Answers.{answer_line, interval_line}
use Rattle.scan.specs.Line.{fields, no_minus, line_of, stripped}
use Rattle.scan_list.specs.List.{list_of}
use Rattle.scan.specs.RoundTrip.{reads_line}
use Rattle.plan_lines.specs.Lines.{first_at}
use Rattle.plan_lines.specs.Steps as plans
use Rattle.dependence.specs.declared.Graph.{Graph}
use Rattle.dependence.specs.Rules.{Chain, here, step}
use Rattle.sheet.specs.declared.Sheet.{Sheet}
use Rattle.sheet.specs.Loop.{Loop}
use Rattle.sheet.specs.Questions.{at_yes, Accepted}
use Rattle.plan.specs.declared.PlanAnswer.{PlanAnswer}
use Rattle.plan.specs.Rules.{Plan}
use Rattle.plan.specs.Answers.{looped, PlanAt}
use Rattle.plan.specs.Exactly.{given_first, accepted_given}
use Rattle.denial.specs.Tree.{loop, Tree, leaf, Below, none, more, LeafKnown, Known, lines, depth}
use Rattle.denial.specs.Passes.{So, Passes}
use Rattle.denial.specs.At.{rules_at, root_at}
use Rattle.tree_lines.specs.Node.{malformed, node_of}
use Rattle.tree_judge.specs.Reading.{most_cuts}
use Rattle.tree_judge.specs.ReadingLaws.{no_node}
use Rattle.tree_judge.specs.Text.{tree_lines, TreeFits}
use Rattle.judge.specs.Text.{AnswerRead, plan, unreadable, whole_tree, answer_read, answer_of}
use Rattle.judge.specs.Answers.{Judged, JudgedAt}
use Rattle.judge.specs.Lines.{denial_lines}
use Rattle.judge.specs.Steps.{has_tree}
use Rattle.judge.specs.Theorems.{plan_passes}
use Rattle.judge.specs.RoundTrip.{Shown, tree_passed}
use Rattle.interval_lines.specs.IntervalLines.{interval_lines, plan_text}
use Rattle.interval_lines.specs.Places.{detail_5, detail_else}
use Rattle.interval_lines.specs.Small.{interval_small, loop_edges_small}
use Rattle.own_answers.specs.OwnPlan.{long, own_plan}
use Rattle.own_answers.specs.Refusals.{five_loop, six_accepted}

-- ---- 0: the plan

-- 0 past the operations is what stands past the end
uncut : {n : ℕ} {xs : List ℕ} → n ≤ length xs → ZeroFrom n xs → vec xs ≡ vec (take n xs)
uncut {n} {xs} l z = λ i j. at j (dec_lt j n) i
  where
    at : (j : ℕ) → Dec (j < n) → vec xs j ≡ vec (take n xs) j
    at j (yes h) = sym (get_or-take n xs j 0 h)
    at j (no h) =
        let q = length-take-le n xs l in
        z.rest j (omega arith) ∙ sym (get_or-eq_default (take n xs) 0 (omega arith))

module _ {s : Sheet} {L : ℕ} {a : PlanAnswer} (p : PlanAt s L a) (z : a.answer ≡ 0) where
  zeroed : ZeroFrom s.op_count a.starts × ZeroFrom s.op_count a.instances
  zeroed =
      let g = (accepted_given p z).1 in (
        subst (λ (x : PlanAnswer). ZeroFrom s.op_count x.starts) (sym g.pinned) g.starts_rest,
        subst (λ (x : PlanAnswer). ZeroFrom s.op_count x.instances) (sym g.pinned) g.instances_rest,
      )

  read_plan : answer_of s.op_count s.edge_count (plan_text s L a)
      ≡ plan L (take s.op_count a.starts) (take s.op_count a.instances)
  unfolding answer_of
  read_plan =
      ap (answer_read s.op_count s.edge_count (plan_text s L a)) (own_plan p z)
      ∙ rw (
        length-take-le s.op_count a.starts (long p z).0,
        eq-eqb s.op_count s.op_count refl,
      )

  kept : Plan s L (vec (take s.op_count a.starts)) (vec (take s.op_count a.instances))
  kept =
      let k = (given_first (accepted_given p z).1).plan in
      let t = uncut (long p z).0 zeroed.0 in
      let u = uncut (long p z).1 zeroed.1 in
      subst (λ (x : ℕ → ℕ). Plan s L x (vec (take s.op_count a.instances))) t
      (subst (Plan s L (vec a.starts)) u k)

  -- the lines of leastplan's plan are passed
  pub own_plan_passes : JudgedAt s (plan_text s L a) 0
  own_plan_passes =
      let y = (accepted_given p z).0 in plan_passes s (plan_text s L a) y.sheet read_plan y.interval kept

-- ---- 5: the loop

-- the edges of a chain are edges of the graph
chain_below : {g : Graph} {i j : ℕ} {ks : List ℕ} → Chain g i ks j → Below g.edge_count ks
chain_below here = none
chain_below (step h c) = more h (chain_below c)

-- what an array holds, without the 0 past it
front : {xs ys : List ℕ} → Padded xs ys → take (length xs) ys ≡ xs
front {xs} {ys} p =
    let q = length-take-le (length xs) ys (omega (arith, p.whole, p.fits)) in
    ext_get_or 0 (take (length xs) ys) xs q (λ i h. get_or-take (length xs) ys i 0 (omega arith) ∙ p.front i)

module _ {s : Sheet} {L : ℕ} {a : PlanAnswer} (y : Accepted s L) (l : Loop s L looped a) where
  abbrev tree : Tree
  tree = leaf (loop l.walk)

  loop_lines : interval_lines s L a ≡ denial_lines 5 L tree
  unfolding interval_lines tree_lines
  loop_lines =
      let five : a.answer ≡ 5 = ap (λ (x : PlanAnswer). x.answer) l.pinned in
      let edges : take a.loop_length a.loop_edges ≡ l.walk =
      ap (λ (x : PlanAnswer). take x.loop_length x.loop_edges) l.pinned ∙ front l.padded in
      rw (detail_5 s L a five, five, edges)

  shown : Shown s.op_count s.edge_count L tree
  unfolding Known LeafKnown TreeFits lines depth
  shown =
      let small = loop_edges_small y.sheet l in
      record {
        interval = omega (arith, interval_small y.sheet y.interval);
        known = chain_below l.first.bad.chain;
        fits = (λ i. omega (arith, small i, l.padded.front i), l.first.bad.non_empty, l.padded.fits);
        deep = omega arith;
        long = omega arith;
      }

  -- its leaf is so
  so : Passes (rules_at s L) (root_at s) tree
  unfolding Passes So rules_at
  so = l.first.bad

  loop_passes : JudgedAt s (plan_text s L a) 0
  loop_passes =
      subst (λ (ls : List Line). JudgedAt s (lines_text ls) 0) (sym loop_lines)
      (tree_passed 5 y.sheet y.interval refl shown so)

-- the lines of leastplan's loop are passed: they are those of a denial, its tree one leaf
pub own_loop_passes : {s : Sheet} {L : ℕ} {a : PlanAnswer} → PlanAt s L a → a.answer ≡ 5
    → JudgedAt s (plan_text s L a) 0
own_loop_passes p z = let x = five_loop p z in loop_passes x.0 x.1

-- ---- 6: no tree

-- no node begins where nothing is left
nothing : (n m : ℕ) → node_of n m [] ≡ malformed
unfolding node_of list_of stripped
nothing n m = refl

module _ (n m L : ℕ) (small : L ≤ four_digits) where
  abbrev six : List ℕ
  six = lines_text (answer_line 6 ∷ interval_line L ∷ [])

  abbrev after : List ℕ
  after = lines_text (interval_line L ∷ [])

  answer_line_lem : line_of answer_key 1 no_minus six ≡ fields (pos 6 ∷ []) after
  unfolding lines_text
  answer_line_lem = reads_line answer_key no_minus (pos 6 ∷ []) after (omega arith, refl, tt)

  interval_line_lem : line_of interval_key 1 no_minus after ≡ fields (pos L ∷ []) []
  unfolding lines_text
  interval_line_lem = reads_line interval_key no_minus (pos L ∷ []) [] (small, refl, tt)

  six_unread : answer_of n m six ≡ unreadable 3
  unfolding answer_of
  six_unread =
      ap (answer_read n m six) (plans.another_answer six 6 after answer_line_lem (λ z. omega arith))
      ∙ has_tree n m _ six 6 after answer_line_lem refl L [] interval_line_lem
      ∙ ap (whole_tree L) (no_node n m most_cuts first_at [] (omega arith) (nothing n m))

-- the lines of leastplan's 6 are no answer that can be judged: they end where a tree is due
pub own_six_unread : {s : Sheet} {L : ℕ} {a : PlanAnswer} → PlanAt s L a → a.answer ≡ 6
    → JudgedAt s (plan_text s L a) 18
unfolding interval_lines
own_six_unread {s} {L} {a} p z =
    let y = six_accepted p z in
    let e : interval_lines s L a ≡ answer_line 6 ∷ interval_line L ∷ [] =
    rw (detail_else s L a (λ q. omega arith) (λ q. omega arith), z) in
    let r = six_unread s.op_count s.edge_count L (omega (arith, interval_small y.sheet y.interval)) in
    let q : answer_of s.op_count s.edge_count (plan_text s L a) ≡ unreadable 3 =
    ap (λ (ls : List Line). answer_of s.op_count s.edge_count (lines_text ls)) e ∙ r in
    at_yes y.sheet (subst (λ (x : AnswerRead). Judged s x 18) (sym q) refl)
