-- Whether starts and instances keep the rules of a plan among the first operations is decided. Assumes nothing.
use Rattle.std.proofs.Math.Logic.Dec
use Rattle.std.specs.Prelude.{ℕ, zero, suc, ◌+◌, ◌<◌, ℤ, ◌≤ℤ◌}
use Rattle.std.proofs.Common.{arith, below_more}
use Rattle.std.proofs.Math.Decide.{map_dec, dec_le, dec_lt, ℕ_discrete}
use Rattle.std.specs.Int.Signed.{le_z}
use Rattle.laws.specs.Tests.{by_test}
use Rattle.sheet.specs.declared.ResourceType.{ResourceType}
use Rattle.sheet.specs.declared.Sheet.{Sheet}
use Rattle.sheet.specs.Sheet.{op_at, type_of}
use Rattle.plan.specs.Pairs.{overlap_decided}
use Rattle.plan.specs.Rules.{MayHold, InHorizon, InWindow, StartAllowed, InstanceAllowed, Rivals}
use Rattle.verify.specs.Parts.{Clash, le_says, up_to_apart, whole_up_to}
use Rattle.verify.specs.Broken.{PlanUpTo}

if_so : {P Q : Type 0} → Dec P → Dec Q → Dec (P → Q)
if_so p (yes q) = yes (λ _. q)
if_so (yes p) (no n) = no (λ f. n (f p))
if_so (no m) (no n) = yes (λ p. absurd (m p))

each_below : {P : ℕ → Type 0} (n : ℕ) → ((i : ℕ) → i < n → Dec (P i)) → Dec ((i : ℕ) → i < n → P i)
each_below zero d = yes (λ i h. absurd (omega arith))
each_below {P} (suc n) d =
    map_dec (λ w i h. below_more P n w.0 w.1 i (omega arith))
    (λ a. (λ i h. a i (omega arith), a n (omega arith)))
    (Dec.and (each_below n (λ i h. d i (omega arith))) (d n (omega arith)))

-- ---- the rules, one by one

horizon_decided : (H D t : ℕ) → Dec (InHorizon H D t)
horizon_decided H D t =
    map_dec (λ w. record { starts = w.0; finishes = w.1 }) (λ h. (h.starts, h.finishes))
    (Dec.and (dec_lt t H) (dec_le (t + D) H))

window_decided : (lo hi t : ℕ) → Dec (InWindow lo hi t)
window_decided lo hi t =
    map_dec (λ w. record { from = w.0; to = w.1 }) (λ h. (h.from, h.to)) (Dec.and (dec_le lo t) (dec_le t hi))

hold_decided : (kind : ResourceType) (L t : ℕ) → Dec (MayHold kind L t)
hold_decided kind L t =
    map_dec (λ f. record { fits = f }) (λ h. h.fits) (if_so (dec_lt 0 kind.instances) (dec_le kind.busy L))

start_decided : (s : Sheet) (L i t : ℕ) → Dec (StartAllowed s L i t)
start_decided s L i t =
    map_dec (λ w. record { in_horizon = w.0; in_window = w.1.0; holds = w.1.1 })
    (λ a. (a.in_horizon, (a.in_window, a.holds)))
    (Dec.and (horizon_decided s.horizon (type_of s i).latency t)
    (Dec.and (window_decided (op_at s i).lo (op_at s i).hi t) (hold_decided (type_of s i) L t)))

instance_decided : (s : Sheet) (i u : ℕ) → Dec (InstanceAllowed s i u)
instance_decided s i u =
    map_dec (λ w. record { limited = w.0; unlimited = w.1 }) (λ a. (a.limited, a.unlimited))
    (Dec.and (if_so (dec_lt 0 (type_of s i).instances) (dec_lt u (type_of s i).instances))
    (if_so (ℕ_discrete (type_of s i).instances 0) (ℕ_discrete u 0)))

le_decided : (a b : ℤ) → Dec (a ≤ℤ b)
le_decided a b = by_test (le_z a b) (λ e. yes ((le_says a b).yes e)) (λ e. no ((le_says a b).no e))

rivals_decided : (s : Sheet) (i j : ℕ) → Dec (Rivals s i j)
rivals_decided s i j =
    map_dec (λ w. record { different = w.0; one_type = w.1.0; limited = w.1.1 })
    (λ r. (r.different, (r.one_type, r.limited)))
    (Dec.and (Dec.not (ℕ_discrete i j))
    (Dec.and (ℕ_discrete (op_at s i).resource (op_at s j).resource) (dec_lt 0 (type_of s i).instances)))

-- ---- all of them

module _ {s : Sheet} {L : ℕ} {t u : ℕ → ℕ} where
  clash_decided : (i j : ℕ) → Dec (Clash s L t u i j)
  clash_decided i j =
      map_dec (λ w. record { rivals = w.0; same = w.1.0; overlap = w.1.1 })
      (λ c. (c.rivals, (c.same, c.overlap)))
      (Dec.and (rivals_decided s i j)
      (Dec.and (ℕ_discrete (u i) (u j)) (overlap_decided s L i (t i) j (t j))))

  pub up_to_decided : (n : ℕ) → Dec (PlanUpTo s L t u n)
  up_to_decided n =
      map_dec (λ w. whole_up_to w.0 w.1.0 w.1.1.0 w.1.1.1)
      (λ p. (p.start, (p.instance, (p.dependence, up_to_apart p))))
      (Dec.and (each_below n (λ i _. start_decided s L i (t i)))
      (Dec.and (each_below n (λ i _. instance_decided s i (u i)))
      (Dec.and (each_below s.edge_count (λ k _. if_so (dec_lt _ n) (if_so (dec_lt _ n) (le_decided _ _))))
      (each_below n (λ i l. each_below i (λ j m. Dec.not (clash_decided i j)))))))
