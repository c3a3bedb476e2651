-- What a passed answer means: a plan that is passed keeps every rule, and one that keeps them is passed; where a denial
-- is passed no plan exists. Assumes nothing.
use Prim.Native.Nat.{ℕ, ◌+◌, min}
use Rattle.std.proofs.Common.{arith, sym, ◌∙◌}
use Rattle.std.specs.Prelude.{◌≡◌, refl, Bool, true, false, eqb, length}
use Rattle.std.proofs.Math.Path.{subst}
use Rattle.std.proofs.Math.Bool.{cond}
use mathlib.Core.List.{List, [], ◌∷◌}
use Rattle.laws.specs.Entry.{vec}
use Rattle.text.specs.Keys.{answer_key, interval_key}
use Rattle.scan.specs.Line.{Fields, fields, bad, no_minus, line_of, on_fields}
use Rattle.scan.specs.Plain.{number_at}
use Rattle.plan_lines.specs.Lines.{PlanRead, given, malformed, on_one, first_at, plan_of}
use Rattle.sheet.specs.declared.Sheet.{Sheet}
use Rattle.sheet.specs.Sheet.{InRange, Interval}
use Rattle.sheet.specs.AnswerLaws.{sheet_out}
use Rattle.sheet.specs.Questions.{at_no, at_yes}
use Rattle.plan.specs.Rules.{Plan}
use Rattle.denial.specs.Tree.{Tree, Known}
use Rattle.denial.specs.Passes.{Passes}
use Rattle.denial.specs.At.{rules_at, root_at}
use Rattle.denial.specs.Theorems.{sound}
use Rattle.tree_judge.specs.Reading.{most_cuts, TreeRead, read, unread, tree_from}
use Rattle.tree_judge.specs.ReadingLaws.{Sized, tree_sized}
use Rattle.judge.specs.Text.{AnswerRead, plan, denial, unreadable, denies, whole_tree}
use Rattle.judge.specs.Text.{denial_of, answer_read, answer_of}
use Rattle.judge.specs.Answers.{Claimed, Judged, JudgedAt}

-- ---- a denial that was read has the sheet's operations and edges

abbrev Sheets : ℕ → ℕ → AnswerRead → Type 0
Sheets n m (plan L ts us) = Unit {0}
Sheets n m (denial L t) = Known n m t
Sheets n m (unreadable l) = Unit {0}

module _ (n m : ℕ) where
  whole_known : (L k : ℕ) (y : TreeRead) → Sized n m k y → Sheets n m (whole_tree L y)
  whole_known L k (read t l []) h = h.0
  whole_known L k (read t l (b ∷ bs)) h = tt
  whole_known L k (unread l) h = tt

  one_known : (key bs : List ℕ) (f : ℕ → List ℕ → AnswerRead) (o : AnswerRead)
      → ((a : ℕ) (rest : List ℕ) → Sheets n m (f a rest)) → Sheets n m o → Sheets n m (on_one key bs f o)
  one_known key bs f o h p = at (line_of key 1 no_minus bs)
    where
      at : (x : Fields) → Sheets n m (on_fields x (λ vs rest. f (number_at vs 0) rest) o)
      at (fields vs rest) = h _ rest
      at bad = p

  flag_known : (c : Bool) (x y : AnswerRead) → Sheets n m x → Sheets n m y → Sheets n m (cond c x y)
  flag_known true x y p q = p
  flag_known false x y p q = q

  denial_of_known : (o : ℕ) (bs : List ℕ) → Sheets n m (denial_of n m o bs)
  unfolding denial_of
  denial_of_known o bs =
      one_known answer_key bs
      (λ a rest.
      cond (denies a) (on_one interval_key rest (λ L rest'. whole_tree L (tree rest')) (unreadable 2)) (unreadable o))
      (unreadable o)
      (λ a rest.
      flag_known (denies a) (on_one interval_key rest (λ L rest'. whole_tree L (tree rest')) (unreadable 2)) (unreadable o)
      (one_known interval_key rest (λ L rest'. whole_tree L (tree rest')) (unreadable 2)
      (λ L rest'. whole_known L first_at (tree rest') (tree_sized n m most_cuts first_at rest')) tt)
      tt)
      tt
    where
      tree : List ℕ → TreeRead
      tree rest = tree_from n m most_cuts first_at rest

  read_known : (bs : List ℕ) (x : PlanRead) → Sheets n m (answer_read n m bs x)
  read_known bs (given L ts us) =
      flag_known (eqb (length ts) n) (plan L ts us) (unreadable (first_at + min (length ts) n)) tt tt
  read_known bs (malformed l) = denial_of_known (min l (first_at + n)) bs

  pub denial_known : (bs : List ℕ) {L : ℕ} {t : Tree} → answer_of n m bs ≡ denial L t → Known n m t
  unfolding answer_of
  denial_known bs e = subst (Sheets n m) e (read_known bs (plan_of bs))

-- ---- what 0 says

claimed_so : {s : Sheet} {L : ℕ} {P : Type 0} → Claimed s L P 0 → Interval s L × P
claimed_so (at_no n e) = absurd (omega arith)
claimed_so (at_yes i (at_no n e)) = absurd (omega arith)
claimed_so (at_yes i (at_yes p e)) = (i, p)

module _ (s : Sheet) (bs : List ℕ) where
  module _ (z : JudgedAt s bs 0) where
    -- the sheet is accepted
    pub passed_sheet : InRange s
    passed_sheet = at z refl
      where
        at : {n : ℕ} → JudgedAt s bs n → n ≡ 0 → InRange s
        at (at_no x e) q = absurd (sheet_out s x (sym e ∙ q))
        at (at_yes ok p) q = ok

    passed_judged : {x : AnswerRead} → answer_of s.op_count s.edge_count bs ≡ x → Judged s x 0
    passed_judged e = subst (λ (x : AnswerRead). Judged s x 0) e (at z refl)
      where
        at : {n : ℕ} → JudgedAt s bs n → n ≡ 0 → Judged s (answer_of s.op_count s.edge_count bs) n
        at (at_no x e) q = absurd (sheet_out s x (sym e ∙ q))
        at (at_yes ok p) q = p

    -- a passed plan keeps every rule, at an interval of the sheet; it needn't be the first
    pub passed_plan : {L : ℕ} {ts us : List ℕ} → answer_of s.op_count s.edge_count bs ≡ plan L ts us
        → Interval s L × Plan s L (vec ts) (vec us)
    passed_plan e = claimed_so (passed_judged e)

    -- a passed denial means that no plan exists
    pub passed_denial : {L : ℕ} {x : Tree} → answer_of s.op_count s.edge_count bs ≡ denial L x
        → Interval s L × ((t u : ℕ → ℕ) → Plan s L t u → ⊥)
    passed_denial {x = x} e =
        let q = claimed_so (passed_judged e) in
        (q.0, sound x passed_sheet (denial_known s.op_count s.edge_count bs e) q.1)

  -- ---- and what is passed

  module _ (ok : InRange s) where
    passes : {x : AnswerRead} → answer_of s.op_count s.edge_count bs ≡ x → Judged s x 0 → JudgedAt s bs 0
    passes e j = at_yes ok (subst (λ (x : AnswerRead). Judged s x 0) (sym e) j)

    pub plan_passes : {L : ℕ} {ts us : List ℕ} → answer_of s.op_count s.edge_count bs ≡ plan L ts us
        → Interval s L → Plan s L (vec ts) (vec us) → JudgedAt s bs 0
    plan_passes e i p = passes e (at_yes i (at_yes p refl))

    pub denial_passes : {L : ℕ} {x : Tree} → answer_of s.op_count s.edge_count bs ≡ denial L x
        → Interval s L → Passes (rules_at s L) (root_at s) x → JudgedAt s bs 0
    denial_passes e i p = passes e (at_yes i (at_yes p refl))
