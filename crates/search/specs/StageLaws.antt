-- What one search tells about another: the search of a class about that of the domain, and that a question which asks
-- less, where it has no plan, tells that there is none.
use Rattle.std.specs.Prelude.{◌≡◌, Bool, true, false, List, ℕ, ◌≤◌, ◌<◌, set, length, Option, None, Some, Result, Ok, Err}
use Rattle.std.proofs.Common.{sym, subst, refl, ◌∙◌}
use Rattle.sizes.specs.Sizes.{most_operations}
use Rattle.laws.specs.Entry.{zeros}
use Rattle.laws.specs.Z.{true_false}
use Rattle.domain.specs.Domain.{In, Keeps, Solved, OnlyClass}
use Rattle.domain.specs.Split.{Splits, Left, solved_wider, child_found}
use Rattle.task.specs.declared.Task.{Task}
use Rattle.task.specs.Plan.{TaskOk, PlanOf}
use Rattle.relax.specs.Relax.{Relaxed, Cluster, Anchored, AnchorRows, moved}
use Rattle.relax.proofs.Anchor.{moved_inside}
use Rattle.search_steps.specs.declared.Over.{Over}
use Rattle.search_steps.specs.Steps.{Budgeted, denied_by, Denied, Emptied}

module _ (Plan : (ℕ → ℕ) → Type 0) (n : ℕ) where
  -- the search came to its end and found none
  pub found_none : {d : List (List Bool)} (bounded : Bool) (answer : Result (Option (List ℕ)) Over) → Budgeted Plan n d bounded answer → denied_by answer ≡ true → Solved Plan n d false zeros
  found_none bounded (Ok None) b e = b
  found_none bounded (Ok (Some x)) b e = true_false (sym e)
  found_none bounded (Err over) b e = true_false (sym e)

  module _ {ok d : List (List Bool)} (k : Keeps Plan n ok d) {i m : ℕ} (len : length d ≡ most_operations) (small : n ≤ most_operations) (sp : Splits n d i m) {row q : List Bool} {s : ℕ} (l : Left Plan n d i row) (o : OnlyClass row s m q) where
    -- a plan of one class is one of the domain, and where the search of a class is over, so is that of the domain
    pub child_answer : (b c : Bool) (answer : Result (Option (List ℕ)) Over) → Budgeted Plan n (set d i q) b answer → b ≡ c → denied_by answer ≡ false → Budgeted Plan n ok c answer
    child_answer b c (Ok None) h z e = true_false e
    child_answer b c (Ok (Some x)) h z e = solved_wider Plan n k (child_found Plan n len small sp l o h refl)
    child_answer b c (Err over) h z e = sym z ∙ h

module _ {q : Task} {d : List (List Bool)} (bounded : Bool) {r : Bool} (answer : Result (Option (List ℕ)) Over) (b : Budgeted (PlanOf q) q.ops d bounded answer) (n : r ≡ denied_by answer) where
  -- the search for a plan of q came to its end and found none
  searched : r ≡ true → (t : ℕ → ℕ) → PlanOf q t → In q.ops d t → ⊥
  searched e = (found_none (PlanOf q) q.ops bounded answer b (sym n ∙ e)).none refl

  module _ {p : Task} where
    -- none at the coarser interval
    pub coarse_none : Relaxed p q → Emptied p d r
    coarse_none w = record { none = λ e t h i. searched e t (w.kept t h) (subst (λ (k : ℕ). In k d t) (sym w.ops_same) i) }

    -- none of a cluster alone
    pub anchor_none : (i : ℕ) (c : List Bool) → TaskOk p → i < p.ops → Cluster p i c → Anchored p i c q → AnchorRows i c d → Denied p r
    anchor_none i c ok hi near w rows = record { denied = λ e t h. searched e (moved c i t) (w.kept t h) (subst (λ (k : ℕ). In k d (moved c i t)) (sym w.ops_same) (moved_inside p ok i hi c near t h rows)) }

-- where nothing was denied, nothing is said of plans
pub not_denied : {p : Task} → Denied p false
not_denied = record { denied = λ e. true_false (sym e) }

pub not_emptied : {p : Task} {d : List (List Bool)} → Emptied p d false
not_emptied = record { none = λ e. true_false (sym e) }
