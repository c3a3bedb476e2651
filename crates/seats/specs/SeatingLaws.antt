-- Laws of rule 3, all instances: how many operations they take; no choice of instances is left out; a domain without
-- one has no plan. Assumes nothing.
use Rattle.std.specs.Prelude.{IfSome, Option, None, Some, is_some, ◌≡◌, Bool, true, false, cond, ◌⊎◌, ◌≢◌, List, ℕ, ◌+◌, ◌-◌, ◌/◌, ◌≤◌, ◌<◌, ltb, set, length, replicate}
use Rattle.std.proofs.Common.{sym, subst, inl, inr, arith, div-le_self, get_or-set_same, get_or-set_other}
use Rattle.std.proofs.Math.Logic.{⊎_elim}
use Rattle.std.proofs.Math.Decide.{ℕ_discrete, dec_lt}
use Rattle.std.proofs.Math.Dec.{eqb}
use borrow.Author.Tests.{eqb-true, eq-eqb, ltb-true, lt-ltb, le-ltb}
use Rattle.sizes.specs.Sizes.{most_types, most_instances}
use Rattle.laws.specs.Entry.{vec}
use Rattle.laws.specs.Z.{true_false}
use Rattle.laws.specs.Store.{all_zero}
use Rattle.laws.specs.Swap.{swap, swap_below, swap_same, swap_keep, swap_kept, swap_here}
use Rattle.laws.specs.Count.{tally, tally_some, tally_le, tally_cover, both_true, both_show}
use Rattle.held_slots.specs.Circle.{instance_room}
use Rattle.task.specs.declared.Task.{Task}
use Rattle.task.specs.Plan.{type_of, instances_of, busy_of}
use Rattle.seats.specs.declared.Case.{Case}
use Rattle.seats.specs.declared.Seats.{Seats}
use Rattle.seats.specs.Seating.{CaseOk, SeatsOk, key_of, NextPin, with_pin, with_instance, Filling, on, slot, between, Holds, Kept, OneRoom, Roomy, Unseated, Left, Pins, Hopeless}
use Rattle.seats.specs.HoldLaws.{between_show, between_yes, hold_later, hold_new, hold_room, hold_more, hold_clash}

-- ---- an entry of a list that is written

-- what holds of the new entry, and of the others as they were
written : (P : ℕ → ℕ → Type 0) (a : List ℕ) (v x : ℕ) → v < length a → P v x → (w : ℕ) → (w ≢ v → P w (vec a w)) → P w (vec (set a v x) w)
written P a v x l p w q = pick (ℕ_discrete w v)
  where
    pick : Dec (w ≡ v) → P w (vec (set a v x) w)
    pick (yes e) = subst (λ (j : ℕ). P j (vec (set a v x) j)) (sym e) (rw (get_or-set_same a v x 0 l) p)
    pick (no e) = rw (get_or-set_other a v w x 0 e) (q e)

-- ---- numbers within their arrays

module _ (c : Case) (s : Seats) (ok : SeatsOk c s) (b : ℕ) (hb : b ≤ c.interval) where
  pub seats_pin : (v k : ℕ) → v < most_instances → v < length s.last → v < length s.taken → vec s.last v ≤ b → SeatsOk c (with_pin s k v b)
  seats_pin v k h ll lt q = record {
    used_ok = ok.used_ok;
    first_ok = ok.first_ok;
    last_ok = λ w m. written (λ _ x. x ≤ c.interval) s.last v b ll hb w (λ _. ok.last_ok w m);
    taken_ok = λ w m. pick w m (ℕ_discrete w v);
  }
    where
      pick : (w : ℕ) → w < most_instances → Dec (w ≡ v) → vec (set s.taken v (vec s.taken v + (b - vec s.last v) / k)) w ≤ vec (set s.last v b) w
      pick w m (yes e) = subst (λ (j : ℕ). vec (set s.taken v (vec s.taken v + (b - vec s.last v) / k)) j ≤ vec (set s.last v b) j) (sym e)
          (rw (get_or-set_same s.last v b 0 ll, get_or-set_same s.taken v (vec s.taken v + (b - vec s.last v) / k) 0 lt) (omega (arith, ok.taken_ok v h, div-le_self (b - vec s.last v) k)))
      pick w m (no e) = rw (get_or-set_other s.last v w b 0 e, get_or-set_other s.taken v w (vec s.taken v + (b - vec s.last v) / k) 0 e) (ok.taken_ok w m)

  pub seats_instance : s.used < c.instances → s.used < length s.first → s.used < length s.last → s.used < length s.taken → SeatsOk c (with_instance s b)
  seats_instance h lf ll lt = record {
    used_ok = omega arith;
    first_ok = λ w m. written (λ _ x. x ≤ c.interval) s.first s.used b lf hb w (λ _. ok.first_ok w m);
    last_ok = λ w m. written (λ _ x. x ≤ c.interval) s.last s.used b ll hb w (λ _. ok.last_ok w m);
    taken_ok = λ w m. pick w m (ℕ_discrete w s.used);
  }
    where
      pick : (w : ℕ) → w < most_instances → Dec (w ≡ s.used) → vec (set s.taken s.used 0) w ≤ vec (set s.last s.used b) w
      pick w m (yes e) = subst (λ (j : ℕ). vec (set s.taken s.used 0) j ≤ vec (set s.last s.used b) j) (sym e)
          (rw (get_or-set_same s.last s.used b 0 ll, get_or-set_same s.taken s.used 0 0 lt) (omega arith))
      pick w m (no e) = rw (get_or-set_other s.last s.used w b 0 e, get_or-set_other s.taken s.used w 0 0 e) (ok.taken_ok w m)

-- ---- room

-- those of the type with an instance below m
pub under : (c : Case) → Filling c → ℕ → ℕ → Bool
under c f m i = cond (eqb (f.ty i) f.r) (ltb (f.u i) m) false

-- no filling with such instances has more than k operations of the type on instances below v
pub record RoomyTo (c : Case) (s : Seats) (v k : ℕ) : Type 0 where
  pub most : (f : Filling c) (from : ℕ) → Kept c f from s → tally c.ops (under c f v) ≤ k

module _ (c : Case) (s : Seats) where
  pub roomy_none : RoomyTo c s 0 0
  unfolding under
  roomy_none = record { most = λ f from q. ⊎_elim (λ w. absurd (let z = both_true (eqb (f.ty w.0) f.r) (ltb (f.u w.0) 0) w.2 in let y : f.u w.0 < 0 = ltb-true (f.u w.0) 0 z.1 in omega arith)) (λ e. omega (arith, e)) (tally_some c.ops (under c f 0)) }

  pub roomy_more : {v k x : ℕ} → CaseOk c → OneRoom (ltb v s.used) c.interval c.busy (vec s.first v) (vec s.last v) (vec s.taken v) x → RoomyTo c s v k → RoomyTo c s (v + 1) (k + x)
  unfolding under
  roomy_more {v} {k} {x} ok o z = record { most = λ f from q. omega (arith, z.most f from q, here f from q (dec_lt v s.used), cover f) }
    where
      here : (f : Filling c) (from : ℕ) → Kept c f from s → Dec (v < s.used) → tally c.ops (on c f v) ≤ x
      here f from q (yes h) = omega (arith, o.yes (lt-ltb v s.used h), hold_room c ok f v from (vec s.first v) (vec s.last v) (vec s.taken v) (q.each v h))
      here f from q (no h) = omega (arith, o.no (le-ltb v s.used (omega arith)), instance_room c.ops f.ty c.interval c.instances c.busy f.r f.t f.u ok.interval_ok ok.busy_some ok.fits f.seated v)

      cover : (f : Filling c) → tally c.ops (under c f (v + 1)) ≤ tally c.ops (under c f v) + tally c.ops (on c f v)
      cover f = tally_cover c.ops (under c f (v + 1)) (under c f v) (on c f v) (λ i h e. let q = both_true (eqb (f.ty i) f.r) (ltb (f.u i) (v + 1)) e in side i q.0 (ltb-true (f.u i) (v + 1) q.1) (ℕ_discrete (f.u i) v))
        where
          side : (i : ℕ) → eqb (f.ty i) f.r ≡ true → f.u i < v + 1 → Dec (f.u i ≡ v) → (under c f v i ≡ true) ⊎ (on c f v i ≡ true)
          side i e h (yes y) = inr (both_show _ _ e (eq-eqb _ _ y))
          side i e h (no y) = inl (both_show _ _ e (lt-ltb (f.u i) v (omega arith)))

  pub roomy_all : {v k : ℕ} → c.instances ≤ v → RoomyTo c s v k → Roomy c s k
  unfolding under
  roomy_all {v} {k} h z = record { most = λ f from q. omega (arith, z.most f from q, tally_le c.ops (λ i. eqb (f.ty i) f.r) (under c f v) (λ i m e. both_show _ _ e (lt-ltb (f.u i) v (omega (arith, f.seated.below i m (eqb-true (f.ty i) f.r e)))))) }

-- ---- two instances exchanged

module _ (c : Case) (f : Filling c) (z w : ℕ) (hz : z < c.instances) (hw : w < c.instances) where
  -- the filling with the instances z and w exchanged
  pub turned : Filling c
  turned = record {
    ty = f.ty;
    r = f.r;
    t = f.t;
    u = λ i. swap z w (f.u i);
    seated = record {
      below = λ i q e. swap_below z w (f.u i) c.instances hz hw (f.seated.below i q e);
      apart = λ i j q m d e. f.seated.apart i j q m d (swap_same z w (f.u i) (f.u j) e);
    };
    pinned = f.pinned;
    many = f.many;
  }

  on_turned : (v i : ℕ) → v ≢ z → v ≢ w → on c f v i ≡ true → on c turned v i ≡ true
  unfolding turned
  on_turned v i a b e = let q = both_true (eqb (f.ty i) f.r) (eqb (f.u i) v) e in both_show _ _ q.0 (eq-eqb _ _ (swap_keep z w (f.u i) v a b (eqb-true (f.u i) v q.1)))

  turned_on : (v i : ℕ) → v ≢ z → v ≢ w → on c turned v i ≡ true → on c f v i ≡ true
  unfolding turned
  turned_on v i a b e = let q = both_true (eqb (f.ty i) f.r) (eqb (swap z w (f.u i)) v) e in both_show _ _ q.0 (eq-eqb _ _ (swap_kept z w (f.u i) v a b (eqb-true (swap z w (f.u i)) v q.1)))

  pub hold_turned : {v from a b k : ℕ} → v ≢ z → v ≢ w → Holds c f v from a b k → Holds c turned v from a b k
  unfolding turned
  hold_turned {v} {from} {a} {b} {k} m n q = record {
    one = q.one;
    other = q.other;
    sits = record { here = q.sits.here; there = on_turned v _ m n q.sits.there; at = q.sits.at; key = q.sits.key };
    sits' = record { here = q.sits'.here; there = on_turned v _ m n q.sits'.there; at = q.sits'.at; key = q.sits'.key };
    order = q.order;
    few = omega (arith, q.few, tally_le c.ops (between c turned v a b) (between c f v a b) (λ i h e. let y = between_yes c turned v a b i e in between_show c f v a b i (turned_on v i m n y.0) y.1 y.2));
  }

-- ---- the instances for one operation

module _ (c : Case) (from : ℕ) (s : Seats) where
  pub seating_room : {k : ℕ} → Roomy c s k → k < c.total → Unseated c from s
  seating_room z h = record { no = λ f q. absurd (omega (arith, f.many, z.most f from q)) }

  pub left_none : (x : ℕ) → Left c from s x 0
  left_none x = record { left = λ f q. omega arith }

  left_step : {x v : ℕ} → Left c from s x v → ((f : Filling c) → Kept c f from s → f.u x ≡ v → ⊥) → Left c from s x (v + 1)
  left_step {x} {v} l never = record { left = λ f q. pick f q (ℕ_discrete (f.u x) v) }
    where
      pick : (f : Filling c) → Kept c f from s → Dec (f.u x ≡ v) → v + 1 ≤ f.u x
      pick f q (yes e) = absurd (never f q e)
      pick f q (no e) = omega (arith, l.left f q)

  pub seating_full : {x : ℕ} → x < c.ops → NextPin c from x → c.instances ≤ s.used → Left c from s x s.used → Unseated c from s
  seating_full {x} hx z h l = record { no = λ f q. absurd (omega (arith, l.left f q, f.seated.below x hx (f.pinned x hx z.pinned).0)) }

  module _ (ok : CaseOk c) (x : ℕ) (hx : x < c.ops) (z : NextPin c from x) where
    at : (f : Filling c) → slot c f x ≡ vec c.pin x
    at f = (f.pinned x hx z.pinned).1

    there : (f : Filling c) (v : ℕ) → f.u x ≡ v → on c f v x ≡ true
    there f v e = both_show _ _ (eq-eqb _ _ (f.pinned x hx z.pinned).0) (eq-eqb _ _ e)

    -- an instance that is not free there
    pub left_clash : {v : ℕ} → v < s.used → (vec c.pin x < vec s.last v + c.busy) ⊎ (vec s.first v + c.interval < vec c.pin x + c.busy) → Left c from s x v → Left c from s x (v + 1)
    left_clash {v} h q l = left_step l (λ f k e. hold_clash c ok f v from (vec s.first v) (vec s.last v) (vec s.taken v) (k.each v h) x (vec c.pin x) hx (there f v e) (at f) z.key q)

    -- one that was tried
    pub left_tried : {v : ℕ} → v < s.used → v < length s.last → v < length s.taken → Unseated c (key_of c x + 1) (with_pin s c.busy v (vec c.pin x)) → Left c from s x v → Left c from s x (v + 1)
    left_tried {v} h ll lt y l = left_step l (λ f k e. y.no f (record { each = λ w m. pick f k e w m (ℕ_discrete w v) }))
      where
        pick : (f : Filling c) → Kept c f from s → f.u x ≡ v → (w : ℕ) → w < s.used → Dec (w ≡ v) → Holds c f w (key_of c x + 1) (vec s.first w) (vec (set s.last v (vec c.pin x)) w) (vec (set s.taken v (vec s.taken v + (vec c.pin x - vec s.last v) / c.busy)) w)
        pick f k e w m (yes q) = subst (λ (j : ℕ). Holds c f j (key_of c x + 1) (vec s.first j) (vec (set s.last v (vec c.pin x)) j) (vec (set s.taken v (vec s.taken v + (vec c.pin x - vec s.last v) / c.busy)) j)) (sym q)
            (rw (get_or-set_same s.last v (vec c.pin x) 0 ll, get_or-set_same s.taken v (vec s.taken v + (vec c.pin x - vec s.last v) / c.busy) 0 lt) (hold_more c ok f v from (vec s.first v) (vec s.last v) (vec s.taken v) (k.each v h) x (vec c.pin x) hx (there f v e) (at f) z.key))
        pick f k e w m (no q) = rw (get_or-set_other s.last v w (vec c.pin x) 0 q, get_or-set_other s.taken v w (vec s.taken v + (vec c.pin x - vec s.last v) / c.busy) 0 q) (hold_later c f (let y = z.key in omega arith) (k.each w m))

    -- a new instance: any other is as good
    pub seating_new : s.used < c.instances → s.used < length s.first → s.used < length s.last → s.used < length s.taken → Unseated c (key_of c x + 1) (with_instance s (vec c.pin x)) → Left c from s x s.used → Unseated c from s
    unfolding turned
    seating_new h lf ll lt y l = record { no = λ f k. y.no (turned c f s.used (f.u x) h (own f)) (record { each = λ w m. pick f k w m (ℕ_discrete w s.used) }) }
      where
        own : (f : Filling c) → f.u x < c.instances
        own f = f.seated.below x hx (f.pinned x hx z.pinned).0

        pick : (f : Filling c) → Kept c f from s → (w : ℕ) → w < s.used + 1 → Dec (w ≡ s.used) → Holds c (turned c f s.used (f.u x) h (own f)) w (key_of c x + 1) (vec (set s.first s.used (vec c.pin x)) w) (vec (set s.last s.used (vec c.pin x)) w) (vec (set s.taken s.used 0) w)
        pick f k w m (yes q) = subst (λ (j : ℕ). Holds c (turned c f s.used (f.u x) h (own f)) j (key_of c x + 1) (vec (set s.first s.used (vec c.pin x)) j) (vec (set s.last s.used (vec c.pin x)) j) (vec (set s.taken s.used 0) j)) (sym q)
            (rw (get_or-set_same s.first s.used (vec c.pin x) 0 lf, get_or-set_same s.last s.used (vec c.pin x) 0 ll, get_or-set_same s.taken s.used 0 0 lt) (hold_new c (turned c f s.used (f.u x) h (own f)) {v = s.used} {from = key_of c x + 1} {s = vec c.pin x} {x = x} (record { here = hx; there = there (turned c f s.used (f.u x) h (own f)) s.used (swap_here s.used (f.u x)); at = at f; key = omega arith })))
        pick f k w m (no q) = rw (get_or-set_other s.first s.used w (vec c.pin x) 0 q, get_or-set_other s.last s.used w (vec c.pin x) 0 q, get_or-set_other s.taken s.used w 0 0 q) (hold_later c (turned c f s.used (f.u x) h (own f)) (let y = z.key in omega arith) (hold_turned c f s.used (f.u x) h (own f) q (λ e. absurd (let y = l.left f k in omega arith)) (k.each w (omega arith))))

-- ---- the domain

-- no instance has a pin
abbrev pub no_seats : Seats
no_seats = record { used = 0; first = replicate most_instances 0; last = replicate most_instances 0; taken = replicate most_instances 0 }

pub seats_none : (c : Case) → SeatsOk c no_seats
seats_none c = record {
  used_ok = omega arith;
  first_ok = λ v h. rw (all_zero most_instances v) (omega arith);
  last_ok = λ v h. rw (all_zero most_instances v) (omega arith);
  taken_ok = λ v h. rw (all_zero most_instances v) (omega arith);
}

-- the case of type r
abbrev pub case_of : Task → ℕ → ℕ → List ℕ → Case
case_of p r total pin = record { ops = p.ops; interval = p.interval; instances = instances_of p r; busy = busy_of p r; total = total; pin = pin }

pub hopeless_show : (p : Task) (r : ℕ) {d : List (List Bool)} {pin : List ℕ} {total : ℕ} → r < most_types → 0 < instances_of p r → Pins p.ops p.interval (type_of p) r d pin → total ≡ tally p.ops (λ i. eqb (type_of p i) r) → Unseated (case_of p r total pin) 0 no_seats → Hopeless p d true
hopeless_show p r {d} {pin} h a z e s = record {
  yes = λ _ t pl q. let w = pl.seated r h a in s.no
      (record {
        ty = type_of p;
        r = r;
        t = t;
        u = w.0;
        seated = w.1;
        pinned = λ i m y. (eqb-true (type_of p i) r ((z.each i m).type y), (z.each i m).only y (t i) (q.small i m) (q.allowed i m));
        many = omega (arith, e);
      })
      (record { each = λ v m. absurd (omega arith) });
}

pub hopeless_some : (p : Task) {d : List (List Bool)} (o : Option ℕ) → IfSome o (λ _. Hopeless p d true) → Hopeless p d (is_some o)
hopeless_some p None h = record { yes = λ e. true_false (sym e) }
hopeless_some p (Some x) h = h
