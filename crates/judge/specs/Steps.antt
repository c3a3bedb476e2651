-- An answer as the code meets it: one law for each way that its reading and its judgement can go. Assumes nothing.
use Rattle.std.specs.Prelude.{ℕ, ◌+◌, ◌≤◌, ◌<◌, min, ◌≡◌, refl, true, false, pos, List, [], ◌∷◌, length, drop, take, Ok, Err, None, Some}
use Rattle.std.proofs.Common.{arith, sym, subst, ◌∙◌, length-drop, drop_of_length-le, length-take-le, get_or-take, eq-eqb, ne_eqb}
use Rattle.std.proofs.Math.Decide.{dec_lt}
use Rattle.std.proofs.Math.Path.{ap}
use Rattle.std.proofs.Math.ListN.{get_or-eq_default}
use Rattle.laws.specs.Entry.{vec, ZeroFrom}
use Rattle.text.specs.Keys.{answer_key, interval_key}
use Rattle.scan.specs.Line.{fields, bad, no_minus, line_of}
use Rattle.plan_lines.specs.declared.PlanLines.{PlanLines}
use Rattle.plan_lines.specs.Lines.{malformed, first_at, plan_of, held, LinesFit}
use Rattle.sheet.specs.declared.Sheet.{Sheet}
use Rattle.sheet.specs.Sheet.{InRange, Interval}
use Rattle.sheet.specs.Facts.{cap_least}
use Rattle.sheet.specs.Questions.{at_no, at_yes, AskedAt, accepted}
use Rattle.plan.specs.Rules.{Plan}
use Rattle.verify.specs.Broken.{FirstBroken, Breaks}
use Rattle.verify.specs.Broken as checked
use Rattle.verify.specs.BrokenLaws.{plan_unbroken}
use Rattle.denial.specs.Tree.{Tree}
use Rattle.denial.specs.At.{rules_at, root_at}
use Rattle.denial.specs.FaultLaws.{false_fails}
use Rattle.tree_judge.specs.declared.Judged as tree
use Rattle.tree_judge.specs.declared.Unread.{Unread}
use Rattle.tree_judge.specs.Reading.{most_cuts, TreeRead, read, tree_from}
use Rattle.tree_judge.specs.Verdicts.{Fault, fault_none, fault_some, fault_is, RootJudged, Took, stopped, took}
use Rattle.judge.specs.declared.Examined.{Examined}
use Rattle.judge.specs.Text.{AnswerRead, plan, denial, unreadable, denies, whole_tree}
use Rattle.judge.specs.Text.{denial_of, plan_for, answer_read, answer_of}
use Rattle.judge.specs.Answers.{Judged}
use Rattle.judge.specs.Fault.{none, broken, FaultIn}

-- what is found of an answer that was read: what it is judged, and the line at fault
pub record Examines (s : Sheet) (x : AnswerRead) (r : Examined) : Type 0 where
  pub judged : Judged s x r.answer
  pub fault : FaultIn s x r.line

-- an interval of the sheet: the one that is named, where it is one
pub record SomeInterval (s : Sheet) (L r : ℕ) : Type 0 where
  pub is : Interval s r
  pub same : Interval s L → r ≡ L

-- ---- question 4, of a sheet that is accepted

module _ {s : Sheet} {L n : ℕ} (ok : InRange s) (a : AskedAt s L n) where
  pub is_interval : n ≡ 0 → Interval s L
  is_interval z = (accepted a z).interval

  pub no_interval : (n ≡ 0 → ⊥) → Interval s L → ⊥
  no_interval z i = refused a
    where
      refused : AskedAt s L n → ⊥
      refused (at_no x e) = x ok
      refused (at_yes _ (at_no x e)) = x i
      refused (at_yes _ (at_yes _ e)) = z e

  pub another_used : (n ≡ 0 → ⊥) → SomeInterval s L 1
  another_used z = record {
    is = record { low = omega arith; high = cap_least ok };
    same = λ i. absurd (no_interval z i);
  }

  pub itself_used : n ≡ 0 → SomeInterval s L L
  itself_used z = record { is = is_interval z; same = λ i. refl }

-- ---- a text that is no answer

-- 18, with the line at which reading stopped
abbrev pub unreadable_at : ℕ → Examined
unreadable_at l = record { answer = 18; line = l }

pub stops : {s : Sheet} {x : AnswerRead} {l : ℕ} {r : Examined} → x ≡ unreadable l → r ≡ unreadable_at l → Examines s x r
stops e q = rw (e, q) (record { judged = refl; fault = refl })

-- ---- a plan

module _ (s : Sheet) (p : PlanLines) (fit : LinesFit p) where
  abbrev plan_read : AnswerRead
  plan_read = plan_for s.op_count p.interval (take p.count p.starts) (take p.count p.instances)

  counted : length (take p.count p.starts) ≡ p.count
  counted = length-take-le p.count p.starts (omega (arith, fit.few, fit.starts.whole))

  pub another_count : {r : Examined} → (p.count ≡ s.op_count → ⊥)
      → r ≡ unreadable_at (first_at + min p.count s.op_count) → Examines s plan_read r
  another_count n e = stops (rw (counted, ne_eqb p.count s.op_count n)) e

  module _ (c : p.count ≡ s.op_count) where
    is_plan : plan_read ≡ plan p.interval (take p.count p.starts) (take p.count p.instances)
    is_plan = rw (counted, eq-eqb p.count s.op_count c)

    -- 0 past the lines
    padded : (xs : List ℕ) → ZeroFrom p.count xs → vec xs ≡ vec (take p.count xs)
    padded xs z = λ i j. at j (dec_lt j p.count) i
      where
        at : (j : ℕ) → Dec (j < p.count) → vec xs j ≡ vec (take p.count xs) j
        at j (yes h) = sym (get_or-take p.count xs j 0 h)
        at j (no h) = z.rest j (omega arith) ∙ sym (get_or-eq_default (take p.count xs) 0 (short (omega arith)))
          where
            short : p.count ≤ j → length (take p.count xs) ≤ j
            short g = let q = length-take-le p.count xs (omega (arith, fit.few, z.whole)) in omega arith

    pub plan_interval : (Interval s p.interval → ⊥) → Examines s plan_read (record { answer = 4; line = 2 })
    plan_interval n = rw is_plan (record { judged = at_no n refl; fault = at_no n refl })

    -- the same of the numbers that were read
    moved : (P : (ℕ → ℕ) → (ℕ → ℕ) → Type 0) → P (vec p.starts) (vec p.instances)
        → P (vec (take p.count p.starts)) (vec (take p.count p.instances))
    moved P k =
        subst (λ (t : ℕ → ℕ). P t (vec (take p.count p.instances))) (padded p.starts fit.starts)
        (subst (λ (u : ℕ → ℕ). P (vec p.starts) u) (padded p.instances fit.instances) k)

    module _ (i : Interval s p.interval) where
      pub plan_kept : Plan s p.interval (vec p.starts) (vec p.instances)
          → Examines s plan_read (record { answer = 0; line = 0 })
      plan_kept k =
          let q = moved (Plan s p.interval) k in
          rw is_plan (record { judged = at_yes i (at_yes q refl); fault = at_yes i (none q) })

      pub plan_broken : (o : ℕ) → FirstBroken s p.interval (vec p.starts) (vec p.instances) o
          → Examines s plan_read (record { answer = 19; line = first_at + o })
      plan_broken o k =
          let q = moved (λ t u. FirstBroken s p.interval t u o) k in
          rw is_plan (record { judged = at_yes i (at_no (λ x. plan_unbroken x q) refl); fault = at_yes i (broken q) })

-- what the first that breaks a rule says
pub unbroken : {s : Sheet} {L : ℕ} {t u : ℕ → ℕ} {r : ℕ} → Breaks s L t u r → r ≡ s.op_count → Plan s L t u
unbroken (checked.none e p) z = p
unbroken (checked.first b) z = absurd (omega (arith, b.operation, z))

pub first_one : {s : Sheet} {L : ℕ} {t u : ℕ → ℕ} {r : ℕ} → Breaks s L t u r → (r ≡ s.op_count → ⊥)
    → FirstBroken s L t u r
first_one (checked.none e p) n = absurd (n e)
first_one (checked.first b) n = b

-- ---- a tree

module _ {s : Sheet} {L used : ℕ} {bs : List ℕ} (some : SomeInterval s L used) where
  -- no tree
  pub no_tree : {y : TreeRead} {u : Unread} {r : Examined} → RootJudged s used bs first_at y (Err u)
      → r ≡ unreadable_at u.line → Examines s (whole_tree L y) r
  no_tree j = stops (ap (whole_tree L) (stopped j))

  module _ {y : TreeRead} {v : tree.Judged} (j : RootJudged s used bs first_at y (Ok v)) where
    tree_of : Took (rules_at s used) (root_at s) bs first_at y v
    tree_of = took j

    -- something after it
    pub more_after : v.next < length bs → {r : Examined} → r ≡ unreadable_at v.line → Examines s (whole_tree L y) r
    more_after h = stops (ap (whole_tree L) tree_of.is ∙ followed tree_of.tree (drop v.next bs) refl)
      where
        followed : (t : Tree) (rest : List ℕ) → drop v.next bs ≡ rest
            → whole_tree L (read t v.line rest) ≡ unreadable v.line
        followed t [] e = absurd (omega (arith, ap length e, length-drop v.next bs))
        followed t (b ∷ rest) e = refl

    module _ (h : length bs ≤ v.next) where
      is_denial : whole_tree L y ≡ denial L tree_of.tree
      is_denial = ap (whole_tree L) tree_of.is ∙ ended (drop v.next bs) (drop_of_length-le bs h)
        where
          ended : (rest : List ℕ) → rest ≡ []
              → whole_tree L (read tree_of.tree v.line rest) ≡ denial L tree_of.tree
          ended rest e = rw e

      pub tree_interval : (Interval s L → ⊥) → Examines s (whole_tree L y) (record { answer = 4; line = 2 })
      tree_interval n = rw is_denial (record { judged = at_no n refl; fault = at_no n refl })

      module _ (i : Interval s L) where
        fault_here : Fault (rules_at s L) (root_at s) tree_of.tree first_at v.fault
        fault_here =
            subst (λ (l : ℕ). Fault (rules_at s l) (root_at s) tree_of.tree first_at v.fault) (some.same i)
            tree_of.fault

        pub tree_passes : v.fault ≡ None → Examines s (whole_tree L y) (record { answer = 0; line = 0 })
        tree_passes z =
            let q = subst (Fault (rules_at s L) (root_at s) tree_of.tree first_at) z fault_here in
            rw is_denial (record { judged = at_yes i (at_yes (fault_none q) refl); fault = at_yes i (fault_is q) })

        pub tree_fails : {n : ℕ} → v.fault ≡ Some n → Examines s (whole_tree L y) (record { answer = 19; line = n })
        tree_fails z =
            let q = subst (Fault (rules_at s L) (root_at s) tree_of.tree first_at) z fault_here in
            rw is_denial (record {
              judged = at_yes i (at_no (false_fails (fault_some q)) refl);
              fault = at_yes i (fault_is q);
            })

-- ---- a denial

module _ (n m o : ℕ) (bs : List ℕ) where
  pub no_answer : line_of answer_key 1 no_minus bs ≡ bad → denial_of n m o bs ≡ unreadable o
  unfolding denial_of
  no_answer e = rw e

  module _ (a : ℕ) (b₁ : List ℕ) (e₁ : line_of answer_key 1 no_minus bs ≡ fields (pos a ∷ []) b₁) where
    pub another_answer : denies a ≡ false → denial_of n m o bs ≡ unreadable o
    unfolding denial_of
    another_answer d = rw (e₁, d)

    module _ (d : denies a ≡ true) where
      pub no_interval_line : line_of interval_key 1 no_minus b₁ ≡ bad → denial_of n m o bs ≡ unreadable 2
      unfolding denial_of
      no_interval_line e = rw (e₁, d, e)

      pub has_tree : (L : ℕ) (b₂ : List ℕ) → line_of interval_key 1 no_minus b₁ ≡ fields (pos L ∷ []) b₂
          → denial_of n m o bs ≡ whole_tree L (tree_from n m most_cuts first_at b₂)
      unfolding denial_of
      has_tree L b₂ e = rw (e₁, d, e)

-- ---- the whole

module _ (n m : ℕ) (bs : List ℕ) where
  pub reads_plan : (p : PlanLines) → held p ≡ plan_of bs
      → answer_of n m bs ≡ plan_for n p.interval (take p.count p.starts) (take p.count p.instances)
  unfolding answer_of
  reads_plan p e = ap (answer_read n m bs) (sym e)

  pub reads_other : (fault : ℕ) → malformed fault ≡ plan_of bs → answer_of n m bs ≡ denial_of n m (min fault (first_at + n)) bs
  unfolding answer_of
  reads_other fault e = ap (answer_read n m bs) (sym e)
