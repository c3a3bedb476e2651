-- From the search's task to the plan of the papers: instances type by type from those of a plan and back, and the first
-- plan from the first starts. Assumes nothing.
use Rattle.std.specs.Prelude.{◌≡◌, refl, Bool, true, false, ◌⊎◌, List, ℕ, ◌<◌, ℤ}
use Rattle.std.proofs.Common.{sym, ap, subst, ◌∙◌, inl, inr, ⊎_elim, arith}
use Rattle.std.proofs.Math.Decide.{dec_lt}
use Rattle.sizes.specs.Sizes.{most_types, most_starts}
use Rattle.laws.specs.Entry.{vec}
use Rattle.laws.specs.Says.{says_true}
use Rattle.held_slots.specs.Seated.{SeatedIn}
use Rattle.dependence.specs.Answer.{Lags}
use Rattle.sheet.specs.declared.Sheet.{Sheet}
use Rattle.sheet.specs.Sheet.{InRange, Interval, Limited, type_at, type_of, op_at, graph_of}
use Rattle.sheet.specs.Facts.{horizon_most, ops_most, types_most, resource_below}
use Rattle.plan.specs.Rules.{Plan, StartAllowed}
use Rattle.plan.specs.Seated.{resource_of, SeatedAt, plan_seated, seated_below, seated_apart}
use Rattle.plan.specs.Order.{Less, Same}
use Rattle.plan.specs.Answers.{First}
use Rattle.plan.specs.Total.{same_sym, same_trans}
use Rattle.plan.specs.Local.{plan_local}
use Rattle.domain.specs.Domain.{In, Before, FirstIn}
use Rattle.task.specs.declared.Task.{Task}
use Rattle.task.specs.Plan as task
use Rattle.task.specs.PlanLaws as laws
use Rattle.instances.specs.Seats.{Seats}
use Rattle.instances.specs.SeatOrder.{seats_before}
use Rattle.arrays.specs.Cut.{Cut}
use Rattle.model.specs.Domain.{DomainFor}
use Rattle.model.specs.Task.{TaskFor}
use Rattle.model.specs.TaskLaws.{op_in, type_in, task_ok, lags_kept, lags_enough}

-- the first instances for the starts x of a task, if they have any
abbrev pub SeatsFor : Task → List ℕ → List ℕ → Type 0
SeatsFor p x u = Seats p.ops (task.type_of p) (task.instances_of p) (task.busy_of p) p.interval (vec x) (vec u)

-- instances of fewer operations, with the same types
seated_part : (n m : ℕ) (ty ty' : ℕ → ℕ) (l a k r : ℕ) (t u : ℕ → ℕ) → ((i : ℕ) → i < m → i < n) → ((i : ℕ) → i < m → ty i ≡ ty' i)
    → SeatedIn n ty l a k r t u → SeatedIn m ty' l a k r t u
seated_part n m ty ty' l a k r t u within same p = record {
  below = λ i h e. p.below i (within i h) (same i h ∙ e);
  apart = λ i j h b c. p.apart i j (within i h) (within j b)
      (record { different = c.different; first = same i h ∙ c.first; second = same j b ∙ c.second; share = c.share });
}

module _ (s : Sheet) (L : ℕ) (table : List (List ℤ)) (p : Task) (ok : InRange s) (iv : Interval s L) (f : TaskFor s L table p)
    (lags : Lags (graph_of s) L table) where
  op_of : {i : ℕ} → i < s.op_count → i < p.ops
  op_of h = omega (arith, f.ops_are)

  -- starts inside the horizon are in the first table
  start_small : (t : ℕ → ℕ) → ((i : ℕ) → i < s.op_count → StartAllowed s L i (t i)) → (i : ℕ) → i < p.ops → t i < most_starts
  start_small t a i h = omega (arith, (a i (op_in f h)).in_horizon.starts, horizon_most ok)

  -- the limit of a type, and of an operation's
  limit_at : (r : ℕ) → r < s.type_count → task.instances_of p r ≡ (type_at s r).instances
  limit_at r h = f.limits_for.limit r h

  limit_of : (i : ℕ) → i < s.op_count → task.instances_of p (task.type_of p i) ≡ (type_of s i).instances
  limit_of i h = ap (task.instances_of p) (f.types_for.type i h) ∙ limit_at (op_at s i).resource (resource_below ok i h)

  -- ---- the rules of one type, in the task and in the sheet

  module _ (r : ℕ) (h : r < s.type_count) (t u : ℕ → ℕ) where
    -- the numbers of the type
    numbers : {n : ℕ} {ty : ℕ → ℕ} → SeatedIn n ty p.interval (task.instances_of p r) (task.busy_of p r) r t u → SeatedIn n ty L (type_at s r).instances (type_at s r).busy r t u
    numbers {n} {ty} q =
        subst (λ (l : ℕ). SeatedIn n ty l (type_at s r).instances (type_at s r).busy r t u) f.interval_is
        (subst (λ (a : ℕ). SeatedIn n ty p.interval a (type_at s r).busy r t u) (limit_at r h)
        (subst (λ (k : ℕ). SeatedIn n ty p.interval (task.instances_of p r) k r t u) (f.busy_for.each r h) q))

    numbers_back : {n : ℕ} {ty : ℕ → ℕ} → SeatedIn n ty L (type_at s r).instances (type_at s r).busy r t u → SeatedIn n ty p.interval (task.instances_of p r) (task.busy_of p r) r t u
    numbers_back {n} {ty} q =
        subst (λ (k : ℕ). SeatedIn n ty p.interval (task.instances_of p r) k r t u) (sym (f.busy_for.each r h))
        (subst (λ (a : ℕ). SeatedIn n ty p.interval a (type_at s r).busy r t u) (sym (limit_at r h))
        (subst (λ (l : ℕ). SeatedIn n ty l (type_at s r).instances (type_at s r).busy r t u) (sym f.interval_is) q))

    of_task : task.SeatedFor p r t u → SeatedAt s L t u r
    of_task q = seated_part p.ops s.op_count (task.type_of p) (resource_of s) L (type_at s r).instances (type_at s r).busy r t u (λ i l. op_of l) (λ i l. f.types_for.type i l) (numbers q)

    to_task : SeatedAt s L t u r → task.SeatedFor p r t u
    to_task q =
        seated_part s.op_count p.ops (resource_of s) (task.type_of p) p.interval (task.instances_of p r) (task.busy_of p r) r t u (λ i l. op_in f l) (λ i l. sym (f.types_for.type i (op_in f l)))
        (numbers_back q)

  -- ---- a plan's own instances

  module _ (t u : ℕ → ℕ) (q : Plan s L t u) where
    seated_of : (r : ℕ) → 0 < task.instances_of p r → task.SeatedFor p r t u
    seated_of r a = at (dec_lt r s.type_count)
      where
        at : Dec (r < s.type_count) → task.SeatedFor p r t u
        at (yes h) = to_task r h t u (plan_seated s L t u q r (subst (λ (x : ℕ). 0 < x) (limit_at r h) a))
        at (no h) = absurd (omega (arith, a, f.limits_for.rest r (omega arith)))

    pub plan_of_lem : task.PlanOf p t
    plan_of_lem = record { lags = lags_kept s L table p ok iv f lags t (start_small t q.start) q.dependence; seated = λ r h a. (u, seated_of r a) }

  -- ---- instances for starts that have some

  module _ (x u : List ℕ) (seats : SeatsFor p x u) (q : task.PlanOf p (vec x))
      (allowed : (i : ℕ) → i < s.op_count → StartAllowed s L i (vec x i)) where
    -- the first instances keep the rules of each limited type
    seated_at : (i : ℕ) → i < s.op_count → Limited s i → SeatedAt s L (vec x) (vec u) (resource_of s i)
    seated_at i h l =
        let r = resource_of s i in
        let b = resource_below ok i h in
        let m : r < most_types = omega (arith, b, types_most ok) in
        let a = subst (λ (y : ℕ). 0 < y) (sym (limit_at r b)) l in
        let w = q.seated r m a in
        of_task r b (vec x) (vec u) ((seats.limited r m a).seated w.0 w.1)

    pub plan_from : Plan s L (vec x) (vec u)
    plan_from = record {
      start = allowed;
      dependence = lags_enough s L table p ok iv f lags (vec x) (start_small (vec x) allowed) q.lags;
      instance = λ i h. record {
        limited = λ l. seated_below s L (vec x) (vec u) i h (seated_at i h l);
        unlimited = λ e. seats.unlimited i (op_of h) (limit_of i h ∙ e);
      };
      apart = λ i j h k r e o. seated_apart s L (vec x) (vec u) i h (seated_at i h r.limited) j k r e o;
    }

    -- of all instances for these starts they come first
    pub instances_first : (t' u' : ℕ → ℕ) → Plan s L t' u' → Same s.op_count (vec x) t' → Before p.ops (vec u) u'
    instances_first t' u' o e =
        let own = plan_local s L ok t' u' (vec x) u' (same_sym e) (λ i h. refl) o in
        seats_before p.ops (task.type_of p) (task.instances_of p) (task.busy_of p) p.interval (vec x) (vec u) (type_in s L table p ok iv f) seats u'
        (λ r h a. seated_of (vec x) u' own r a) (λ i h z. (own.instance i (op_in f h)).unlimited (sym (limit_of i (op_in f h)) ∙ z))

  -- ---- the domain

  module _ (dom : List (List Bool)) (d : DomainFor s L dom) where
    pub in_domain : (t : ℕ → ℕ) → ((i : ℕ) → i < s.op_count → StartAllowed s L i (t i)) → In p.ops dom t
    in_domain t a = record {
      small = start_small t a;
      allowed = λ i h. says_true _ ((d.row i (omega (arith, op_in f h, ops_most ok))).start (t i) (start_small t a i h)) (a i (op_in f h));
    }

    pub of_domain : (t : ℕ → ℕ) → In p.ops dom t → (i : ℕ) → i < s.op_count → StartAllowed s L i (t i)
    of_domain t n i h = ((d.row i (omega (arith, ops_most ok))).start (t i) (n.small i (op_of h))).yes (n.allowed i (op_of h))

    -- ---- the answers of the search

    module _ {found : Bool} {x : List ℕ} (r : FirstIn (task.PlanOf p) p.ops dom found x) where
      pub none_found : found ≡ false → (t u : ℕ → ℕ) → Plan s L t u → ⊥
      none_found e t u q = r.none e t (plan_of_lem t u q) (in_domain t q.start)

      module _ (e : found ≡ true) (y u w : List ℕ) (cy : Cut s.op_count x y) (seats : SeatsFor p y u) (cw : Cut s.op_count u w) where
        plan_y : task.PlanOf p (vec y)
        plan_y = laws.plan_local p (task_ok s L table p ok iv f) (vec x) (vec y) (λ i h. cy.front i (op_in f h)) (r.plan e)

        allowed_y : (i : ℕ) → i < s.op_count → StartAllowed s L i (vec y i)
        allowed_y i h = subst (StartAllowed s L i) (cy.front i h) (of_domain (vec x) (r.inside e) i h)

        before_less : {a b : ℕ → ℕ} → Before p.ops a b → Same s.op_count a b ⊎ Less s.op_count a b
        before_less o = ⊎_elim (λ z. inl (λ i h. z i (op_of h))) (λ z. inr (record { at = z.0; within = op_in f z.1; equal = z.3; less = z.2 })) o.case

        less_left : {a b c : ℕ → ℕ} → Same s.op_count a b → Less s.op_count a c → Less s.op_count b c
        less_left z l = record { at = l.at; within = l.within; equal = λ i h. sym (z i (omega (arith, l.within))) ∙ l.equal i h; less = omega (arith, z l.at l.within, l.less) }

        pub first_found : First s L (vec y) (vec w)
        first_found = record {
          plan = plan_local s L ok (vec y) (vec u) (vec y) (vec w) (λ i h. refl) cw.front (plan_from y u seats plan_y allowed_y);
          first = λ t' u' q. ⊎_elim
              (λ z. let same = same_trans (same_sym cy.front) z in
              ⊎_elim (λ v. inl (same, same_trans (same_sym cw.front) v)) (λ v. inr (inr (same, less_left cw.front v)))
              (before_less (instances_first y u seats plan_y allowed_y t' u' q same)))
              (λ z. inr (inl (less_left cy.front z)))
              (before_less (r.first e t' (plan_of_lem t' u' q) (in_domain t' q.start)));
        }
