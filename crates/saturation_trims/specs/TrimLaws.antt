-- Laws of the rows that the bars cut: no plan is lost. Assumes nothing.
use Rattle.std.specs.Prelude.{◌≡◌, Bool, true, false, ◌≢◌, List, ℕ, ◌%◌, ◌≤◌, ◌<◌, eqb, set, length}
use Rattle.std.proofs.Common.{sym, ap, subst, ◌∙◌, arith, mod-lt}
use Rattle.std.proofs.Math.Decide.{dec_lt}
use Rattle.std.proofs.Math.Seq.{set_out}
use Rattle.sizes.specs.Sizes.{most_types, most_starts, most_intervals}
use Rattle.laws.specs.Entry.{vec}
use Rattle.laws.specs.Z.{true_false}
use Rattle.laws.specs.Store.{store}
use Rattle.domain.specs.Domain.{has, row_of, In, Keeps}
use Rattle.domain.specs.Split.{part_self, part_trans, within_self, within_trans, within_set, in_set}
use Rattle.task.specs.declared.Task.{Task}
use Rattle.task.specs.Plan.{PlanOf, TaskOk, type_of, instances_of, busy_of}
use Rattle.task.specs.PlanLaws.{plan_room}
use Rattle.laws.specs.Count.{tally}
use Rattle.held_slots.specs.Held.{off}
use Rattle.held_slots.specs.Circle.{type_room}
use Rattle.saturation_slots.specs.declared.Case.{Case}
use Rattle.saturation_slots.specs.Saturation.{slot_at, Crowded, Slotted, UsedBy, Reach, Fits, NoRoom, NoRoomIn, Bars, BarsIn, SlotCut, WithoutSlot, Trimmed, Drained}
use Rattle.saturation_slots.specs.SlotLaws.{off_at}

-- one start of the slot less; past the end nothing is stored, so that the row's length needs no word
pub gone_more : (b l t : ℕ) (row q : List Bool) → t % l ≡ b → WithoutSlot b l row q → WithoutSlot b l row (set q t false)
gone_more b l t row q e k = pick (dec_lt t (length q))
  where
    pick : Dec (t < length q) → WithoutSlot b l row (set q t false)
    pick (yes h) = record {
      was = record { part = λ j m y. store (λ j z. j < most_starts → z ≡ true → has row j ≡ true) q t false false h (λ _ y. true_false (sym y)) j (λ _ m y. k.was.part j m y) m y };
      stays = λ j m y f. store (λ j z. j < most_starts → has row j ≡ true → j % l ≢ b → z ≡ true) q t false false h (λ _ _ f. absurd (f e)) j (λ _. k.stays j) m y f;
    }
    pick (no h) = subst (WithoutSlot b l row) (sym (set_out q t false (omega arith))) k

pub trimmed_self : {bar s l : ℕ} (row : List Bool) → Trimmed bar s l row row
trimmed_self row = record { was = part_self row; stays = λ t h y f. y }

-- one slot less, that is less than bar after s
pub trimmed_next : (bar s l w : ℕ) {b : ℕ} {row q r : List Bool} → s < l → w < l → w < bar → b ≡ slot_at l s w → Trimmed bar s l row q → WithoutSlot b l q r → Trimmed bar s l row r
trimmed_next bar s l w {b} hs hw hb e k u = record {
  was = part_trans u.was k.was;
  stays = λ t h y f. u.stays t h (k.stays t h y f) (λ x. absurd (omega (arith, f, hb, ap (λ (c : ℕ). off l s c) (x ∙ e), off_at l s w hs hw)));
}

pub drained_self : {n r s l : ℕ} (ty : ℕ → ℕ) {bar : List ℕ} (d : List (List Bool)) → Drained n ty r s l bar d d
drained_self ty d = record { within = within_self d; stays = λ t a b. a }

-- one row trimmed
pub drained_next : {n r s l : ℕ} (ty : ℕ → ℕ) {bar : List ℕ} {d e : List (List Bool)} (i : ℕ) {row : List Bool} → i < n → ty i ≡ r → Drained n ty r s l bar d e → Trimmed (vec bar i) s l (row_of e i) row → Drained n ty r s l bar d (set e i row)
drained_next {n} {r} {s} {l} ty {bar} {d} {e} i {row} h y k z = pick (dec_lt i (length e))
  where
    pick : Dec (i < length e) → Drained n ty r s l bar d (set e i row)
    pick (yes m) = record {
      within = within_trans (within_set m z.was) k.within;
      stays = λ t a b. let q = k.stays t a b in in_set row m q (z.stays (t i) (a.small i h) (q.allowed i h) (b i h y));
    }
    pick (no m) = subst (Drained n ty r s l bar d) (sym (set_out e i row (omega arith))) k

pub slot_fail : {c : Case} {ty : ℕ → ℕ} {s : ℕ} {used : List Bool} {reach : List ℕ} {d out : List (List Bool)} → NoRoomIn c ty s used reach → SlotCut c ty s used reach d out true
slot_fail k = record { fails = λ _. k; cuts = λ x. true_false x }

pub slot_cut : {c : Case} {ty : ℕ → ℕ} {s : ℕ} {used : List Bool} {reach bar : List ℕ} {d out : List (List Bool)} → BarsIn c ty s used reach bar → Drained c.ops ty c.kind s c.interval bar d out → SlotCut c ty s used reach d out false
slot_cut {bar = bar} k z = record { fails = λ x. true_false (sym x); cuts = λ _. (bar, k, z) }

pub fits_all : {n l r s : ℕ} (ty : ℕ → ℕ) {ok z : List (List Bool)} {used : List Bool} {reach : List ℕ} {t : ℕ → ℕ} → 0 < l → l ≤ most_intervals → Slotted n l ty r ok z → UsedBy n ty r z used → Reach n l s z reach → In n ok t → Fits n ty l r s used reach t
fits_all {n} {l} {r} {s} ty {ok} {z} {used} {reach} {t} p m a b c h = record {
  uses = λ i q e. b.all i q e (t i % l) (omega (arith, mod-lt (t i) p)) ((a.each i q e).slot (t i) (h.small i q) (h.allowed i q));
  reaches = λ i q e. c.each i q (t i % l) (mod-lt (t i) p) ((a.each i q e).slot (t i) (h.small i q) (h.allowed i q));
}

module _ (p : Task) (good : TaskOk p) (r s : ℕ) (small : r < most_types) (limited : 0 < instances_of p r) {ok z : List (List Bool)} {used : List Bool} {reach : List ℕ} (a : Slotted p.ops p.interval (type_of p) r ok z) (b : UsedBy p.ops (type_of p) r z used) (c : Reach p.ops p.interval s z reach) where
  fit : (t : ℕ → ℕ) → In p.ops ok t → Fits p.ops (type_of p) p.interval r s used reach t
  fit t h = fits_all (type_of p) good.interval_ok good.interval_max a b c h

  pub bars_none : NoRoom p.ops (type_of p) p.interval (instances_of p r) (busy_of p r) r s used reach → (t : ℕ → ℕ) → PlanOf p t → In p.ops ok t → ⊥
  bars_none k t pl h = k.none t (record { room = plan_room p good t pl r small limited }) (fit t h)

  pub bars_keep : {bar : List ℕ} {d out : List (List Bool)} → Bars p.ops (type_of p) p.interval (instances_of p r) (busy_of p r) r s used reach bar → Keeps (PlanOf p) p.ops ok d → Drained p.ops (type_of p) r s p.interval bar d out → Keeps (PlanOf p) p.ops ok out
  bars_keep k q u = record { within = within_trans u.within q.within; kept = λ t pl h. u.stays t (q.kept t pl h) (k.safe t (record { room = plan_room p good t pl r small limited }) (fit t h)) }

pub crowded_none : (p : Task) (r : ℕ) {most : ℕ} {b : Bool} → TaskOk p → r < most_types → 0 < instances_of p r → most ≡ tally p.ops (λ i. eqb (type_of p i) r) → Crowded most p.interval (instances_of p r) (busy_of p r) b → b ≡ true → (t : ℕ → ℕ) → PlanOf p t → ⊥
crowded_none p r good h limited m c e t q =
    let z = q.seated r h limited in
    let x = c.yes e in
    omega (arith, m, x.1, type_room p.ops (type_of p) p.interval (instances_of p r) (busy_of p r) r t z.0 good.interval_ok (good.busy_some r h) x.0 z.1)
