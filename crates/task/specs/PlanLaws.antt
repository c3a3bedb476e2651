-- Laws of a plan's starts: only those of the operations matter, and a stretch of as many slots as a type stays busy has
-- no more starts of it than the type has instances; with one slot that is all that is asked of the type.
use Rattle.std.specs.Prelude.{◌≡◌, refl, Bool, true, false, List, ℕ, ◌+◌, ◌%◌, ◌≤◌, ◌<◌, pos, ◌+ℤ◌, ◌≤ℤ◌}
use Rattle.std.proofs.Common.{sym, ap, ◌∙◌, subst, arith, mod-lt}
use Rattle.std.proofs.Math.Decide.{dec_lt}
use Rattle.std.specs.Int.{from_bool}
use Rattle.sizes.specs.Sizes.{most_types}
use Rattle.laws.specs.Entry.{vec}
use Rattle.laws.specs.Says.{Says}
use Rattle.laws.specs.Count.{bit, tally, tally_none, tally_more}
use Rattle.held_slots.specs.Seated.{SeatedIn, near_w}
use Rattle.instances.specs.Seats.{Seatable}
use Rattle.instances.specs.SeatLaws.{seated_room, seated_local, room_seated}
use Rattle.task.specs.declared.Task.{Task}
use Rattle.task.specs.Plan.{PlanOf, TaskOk, type_of, instances_of, busy_of, lag_of, in_stretch, Overfull, Roomy, TypeSeated}

module _ (p : Task) (ok : TaskOk p) where
  pub plan_local : (s t : ℕ → ℕ) → ((i : ℕ) → i < p.ops → s i ≡ t i) → PlanOf p s → PlanOf p t
  plan_local s t same h = record {
    lags = λ i l j m. subst (λ (x : ℕ). (pos (t i) +ℤ lag_of p i j) ≤ℤ pos x) (same j m) (subst (λ (x : ℕ). (pos x +ℤ lag_of p i j) ≤ℤ pos (s j)) (same i l) (h.lags i l j m));
    seated = λ r l a. let q = h.seated r l a in (q.0, seated_local p.ops (type_of p) p.interval (instances_of p r) (busy_of p r) r s t q.0 same q.1);
  }

  -- the starts of a limited type in a stretch from slot s on
  pub plan_room : (t : ℕ → ℕ) → PlanOf p t → (r : ℕ) → r < most_types → 0 < instances_of p r → (s : ℕ) → s < p.interval → tally p.ops (near_w (type_of p) t p.interval r s (busy_of p r)) ≤ instances_of p r
  plan_room t h r l a s hs = let q = h.seated r l a in seated_room p.ops (type_of p) p.interval (instances_of p r) (busy_of p r) r t q.0 ok.interval_ok q.1 s hs

  -- a stretch that has too many
  pub room_over : (t : ℕ → ℕ) (i : ℕ) → Overfull p.ops (type_of p) (instances_of p) (busy_of p) p.interval t i → PlanOf p t → ⊥
  room_over t i o h = let m = plan_room t h (type_of p i) o.type_in o.limited (t i % p.interval) (mod-lt (t i) ok.interval_ok) in omega (arith, o.over)

  -- none has too many, and the type stays busy for one slot
  pub one_seated : (t : ℕ → ℕ) (r : ℕ) → Roomy p t → r < most_types → busy_of p r ≡ 1 → TypeSeated p r t
  one_seated t r m l e a = subst (λ (k : ℕ). (u : ℕ → ℕ) × SeatedIn p.ops (type_of p) p.interval (instances_of p r) k r t u) (sym e) (room_seated p.ops (type_of p) p.interval (instances_of p r) r t ok.interval_ok room)
    where
      room : (i : ℕ) → i < p.ops → type_of p i ≡ r → in_stretch p.ops (type_of p) p.interval t i r 1 ≤ instances_of p r
      room i h q = pick (dec_lt (instances_of p r) (in_stretch p.ops (type_of p) p.interval t i r 1))
        where
          pick : Dec (instances_of p r < in_stretch p.ops (type_of p) p.interval t i r 1) → in_stretch p.ops (type_of p) p.interval t i r 1 ≤ instances_of p r
          pick (no n) = omega arith
          pick (yes n) = absurd (m.none i h (record {
            type_in = subst (λ (x : ℕ). x < most_types) (sym q) l;
            limited = subst (λ (x : ℕ). 0 < instances_of p x) (sym q) a;
            over = subst (λ (x : ℕ). instances_of p x < in_stretch p.ops (type_of p) p.interval t i x (busy_of p x)) (sym q) (subst (λ (k : ℕ). instances_of p r < in_stretch p.ops (type_of p) p.interval t i r k) (sym e) n);
          }))

pub over_says : (n : ℕ) (ty limit busy : ℕ → ℕ) (l : ℕ) (t : ℕ → ℕ) (i : ℕ) {c : ℕ} {b : Bool} → ty i < most_types → c ≡ in_stretch n ty l t i (ty i) (busy (ty i)) → Says ((0 < limit (ty i)) × (limit (ty i) < c)) b → Says (Overfull n ty limit busy l t i) b
over_says n ty limit busy l t i h e o = record {
  yes = λ y. let q = o.yes y in record { type_in = h; limited = q.0; over = omega (arith, q.1, e) };
  no = λ z f. o.no z (f.limited, omega (arith, f.over, e));
}

pub type_seated : (p : Task) (x : List ℕ) (r : ℕ) {b : Bool} → (instances_of p r ≡ 0 → ⊥) → Says (Seatable p.ops (type_of p) p.interval (instances_of p r) (busy_of p r) r (vec x)) b → Says (TypeSeated p r (vec x)) b
type_seated p x r n s = record { yes = λ e _. s.yes e; no = λ e h. s.no e (h (some (instances_of p r) n)) }
  where
    some : (a : ℕ) → (a ≡ 0 → ⊥) → 0 < a
    some a n = pick (dec_lt 0 a)
      where
        pick : Dec (0 < a) → 0 < a
        pick (yes h) = h
        pick (no h) = absurd (n (omega arith))

-- a count of flags, one index after the other
pub tally_start : (f : ℕ → Bool) → tally 0 f ≡ 0
tally_start f = tally_none f

pub tally_next : (k : ℕ) (f : ℕ → Bool) → tally (k + 1) f ≡ tally k f + from_bool (f k)
tally_next k f = tally_more k f ∙ ap (λ (z : ℕ). tally k f + z) (same (f k))
  where
    same : (b : Bool) → bit b ≡ from_bool b
    same true = refl
    same false = refl
