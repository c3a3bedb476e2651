-- The lowest free instance: the instances that an operation may have are below a number, and at most one of them is the
-- lowest free one. Assumes nothing.
use Rattle.std.specs.Prelude.{ℕ, ◌<◌, ◌≡◌, refl, max, Option, Some, None, MatchOption}
use Rattle.std.proofs.Common.{arith, sym, ap, ◌∙◌}
use Rattle.std.proofs.Math.Decide.{ℕ_discrete}
use Rattle.sheet.specs.declared.Sheet.{Sheet}
use Rattle.sheet.specs.Sheet.{type_of}
use Rattle.plan.specs.Rules.{InstanceAllowed}
use Rattle.placing_table.specs.declared.Table.{Table}
use Rattle.placing_table.specs.Table.{Free, SomeFree, LowestFree, VacancyAt}

-- the instances that the rules allow to operation op are below r
abbrev pub InRoom : Sheet → ℕ → ℕ → Type 0
InRoom s op r = (u : ℕ) → InstanceAllowed s op u → u < r

-- of a limited type as many as it has, of an unlimited one 1
pub room_most : {s : Sheet} {op n r : ℕ} → n ≡ (type_of s op).instances → r ≡ max n 1 → InRoom s op r
room_most {s} {op} {n} {r} e q u a = at (ℕ_discrete n 0)
  where
    at : Dec (n ≡ 0) → u < r
    at (yes z) = omega (arith, a.unlimited (sym e ∙ z))
    at (no z) = let l : 0 < (type_of s op).instances = omega arith in omega (arith, a.limited l)

-- no instance below u is free
abbrev pub Passed : Sheet → ℕ → Table → ℕ → ℕ → ℕ → Type 0
Passed s L table op start u = (v : ℕ) → v < u → Free s L table op start v → ⊥

module _ {s : Sheet} {L : ℕ} {table : Table} {op start : ℕ} where
  pub first_free : {u : ℕ} → Passed s L table op start u → Free s L table op start u → LowestFree s L table op start u
  first_free {u} p f = record { free = f; lowest = λ v g. let n : v < u → ⊥ = λ q. p v q g in omega arith }

  pub none_free : {r : ℕ} → InRoom s op r → Passed s L table op start r → SomeFree s L table op start → ⊥
  none_free room p w = p w.instance (room w.instance w.free.allowed) w.free

  pub lowest_one : {u v : ℕ} → LowestFree s L table op start u → LowestFree s L table op start v → u ≡ v
  lowest_one {u} {v} p q =
      let x = p.lowest v q.free in
      let y = q.lowest u p.free in
      omega arith

module _ (s : Sheet) (L : ℕ) (table : Table) (op start : ℕ) where
  -- at most one answer fits
  pub vacancy_one : (v w : Option ℕ) → VacancyAt s L table op start v → VacancyAt s L table op start w → v ≡ w
  vacancy_one (Some u) (Some v) p q = ap Some (lowest_one p q)
  vacancy_one (Some u) None p n = absurd (n (record { instance = _; free = p.free }))
  vacancy_one None (Some v) n q = absurd (n (record { instance = _; free = q.free }))
  vacancy_one None None n m = refl
