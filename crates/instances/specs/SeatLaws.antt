-- Laws of instances: they are the colours of the graph of those that clash; and a stretch of k slots has no more starts
-- of a type than instances.
use Rattle.std.specs.Prelude.{◌≡◌, refl, Bool, true, ◌⊎◌, ◌≢◌, List, ℕ, ◌+◌, ◌%◌, ◌≤◌, ◌<◌, eqb, ltb, Option, Some, None, is_some, unwrap_or}
use Rattle.std.proofs.Common.{sym, ◌∙◌, inl, inr, ⊎_elim, arith, mod-lt, eqb-true, eq-eqb, ltb-true, lt-ltb}
use Rattle.std.proofs.Math.Path.{ap, subst}
use Rattle.std.proofs.Math.Bool.{cond}
use Rattle.std.proofs.Math.Decide.{ℕ_discrete, dec_lt}
use Rattle.sizes.specs.Sizes.{most_types}
use Rattle.laws.specs.Tests.{by_test}
use Rattle.laws.specs.Entry.{vec}
use Rattle.laws.specs.Says.{Says}
use Rattle.laws.specs.Z.{true_false}
use Rattle.laws.specs.Count.{tally, tally_before, tally_same, both_true, both_show}
use Rattle.laws.specs.Places.{tally_places}
use Rattle.colouring.specs.Graph.{joins, Graph, Coloured, SomeColouring, FirstColouring}
use Rattle.held_slots.specs.Held.{Share, off}
use Rattle.held_slots.specs.HeldLaws.{meet_back, meet_one, off_same, stretch_share}
use Rattle.held_slots.specs.Seated.{SeatedIn, near_w}
use Rattle.instances.specs.Seats.{ClashTable, Seatable, FirstFor, FirstSeats, Merge, WithType, Seats, SeatsTo}

module _ (n : ℕ) (ty : ℕ → ℕ) (l a k r : ℕ) (ha : 0 < a) (t : ℕ → ℕ) (c : List (List Bool)) (z : ClashTable n ty t l k r c) where
  pub clash_graph : Graph n c
  clash_graph = record {
    both = λ i j h m e. let q = ((z.row i h).each j m).yes e in
        by_test (joins c j i) (λ s. s) (λ s. absurd (((z.row j m).each i h).no s (record { different = λ x. q.different (sym x); first = q.second; second = q.first; share = meet_back q.share })));
    simple = λ i h e. (((z.row i h).each i h).yes e).different refl;
  }

  -- instances in type r, and 0 elsewhere
  only : (ℕ → ℕ) → ℕ → ℕ
  only u i = cond (eqb (ty i) r) (u i) 0

  only_in : (u : ℕ → ℕ) (i : ℕ) → ty i ≡ r → only u i ≡ u i
  unfolding only
  only_in u i e = ap (λ (b : Bool). cond b (u i) 0) (eq-eqb (ty i) r e)

  only_out : (u : ℕ → ℕ) (i : ℕ) → ty i ≢ r → only u i ≡ 0
  unfolding only
  only_out u i ne = by_test (eqb (ty i) r) (λ e. absurd (ne (eqb-true (ty i) r e))) (λ e. ap (λ (b : Bool). cond b (u i) 0) e)

  seats_coloured : (u : ℕ → ℕ) → SeatedIn n ty l a k r t u → Coloured n c a (only u)
  seats_coloured u s = record {
    below = λ i h. pick i h (ℕ_discrete (ty i) r);
    apart = λ i j h m e q. let w = ((z.row i h).each j m).yes e in s.apart i j h m w (sym (only_in u i w.first) ∙ q ∙ only_in u j w.second);
  }
    where
      pick : (i : ℕ) → i < n → Dec (ty i ≡ r) → only u i < a
      pick i h (yes e) = omega (arith, only_in u i e, s.below i h e)
      pick i h (no e) = omega (arith, only_out u i e)

  coloured_seats : (w : ℕ → ℕ) → Coloured n c a w → SeatedIn n ty l a k r t w
  coloured_seats w o = record {
    below = λ i h e. o.below i h;
    apart = λ i j h m q e. by_test (joins c i j) (λ s. o.apart i j h m s e) (λ s. ((z.row i h).each j m).no s q);
  }

  pub seatable_from : (o : Option (List ℕ)) → SomeColouring n c a o → Says (Seatable n ty l a k r t) (is_some o)
  seatable_from None s = record { yes = λ e. true_false (sym e); no = λ _ q. s (only q.0) (seats_coloured q.0 q.1) }
  seatable_from (Some w) s = record { yes = λ _. (vec w, coloured_seats (vec w) s); no = λ e. true_false e }

  order : (w u : ℕ → ℕ) → ((v : ℕ) → v < n → w v ≡ only u v) ⊎ ((m : ℕ) × (m < n) × (w m < only u m) × ((v : ℕ) → v < m → w v ≡ only u v)) → FirstFor n ty r w u
  order w u (inl e) = record { case = inl (λ i h q. e i h ∙ only_in u i q) }
  order w u (inr x) = at (ℕ_discrete (ty x.0) r)
    where
      at : Dec (ty x.0 ≡ r) → FirstFor n ty r w u
      at (yes q) = record { case = inr (x.0, x.1, q, omega (arith, x.2, only_in u x.0 q), λ i h p. x.3 i h ∙ only_in u i p) }
      at (no q) = absurd (omega (arith, x.2, only_out u x.0 q))

  pub seats_from : (o : Option (List ℕ)) (d : List ℕ) → FirstColouring n c a o → FirstSeats n ty l a k r t (vec (unwrap_or o d))
  seats_from None d f = record { seated = λ u s. absurd (f (only u) (seats_coloured u s)); first = λ u s. absurd (f (only u) (seats_coloured u s)) }
  seats_from (Some w) d f = record { seated = λ u s. coloured_seats (vec w) f.coloured; first = λ u s. order (vec w) u (f.first (only u) (seats_coloured u s)).case }

-- ---- types together

-- only the instances in type r matter
first_local : (n : ℕ) (ty : ℕ → ℕ) (l a k r : ℕ) (t w w' : ℕ → ℕ) → ((i : ℕ) → i < n → ty i ≡ r → w' i ≡ w i) → FirstSeats n ty l a k r t w → FirstSeats n ty l a k r t w'
first_local n ty l a k r t w w' e f = record {
  seated = λ u s. let q = f.seated u s in record { below = λ i h m. subst (λ (x : ℕ). x < a) (sym (e i h m)) (q.below i h m); apart = λ i j h m x y. q.apart i j h m x (sym (e i h x.first) ∙ y ∙ e j m x.second) };
  first = λ u s. record { case = ⊎_elim (λ x. inl (λ i h m. e i h m ∙ x i h m)) (λ x. inr (x.0, x.1, x.2, subst (λ (y : ℕ). y < u x.0) (sym (e x.0 x.1 x.2)) x.3, λ i h m. e i (omega (arith, x.1)) m ∙ x.4 i h m)) (f.first u s).case };
}

pub with_merge : {n : ℕ} {ty : ℕ → ℕ} {l a k r : ℕ} {t : ℕ → ℕ} (u w out : ℕ → ℕ) → (a ≡ 0 → ⊥) → FirstSeats n ty l a k r t w → Merge n ty r u w out → WithType n ty l a k r t u out
with_merge {n} {ty} {l} {a} {k} {r} {t} u w out na f m = record { limited = λ _. first_local n ty l a k r t w out m.inside f; outside = m.outside; unlimited = λ e. absurd (na e) }

pub with_none : {n : ℕ} {ty : ℕ → ℕ} {l a k r : ℕ} {t : ℕ → ℕ} (u : ℕ → ℕ) → a ≡ 0 → WithType n ty l a k r t u u
with_none u e = record { limited = λ h. absurd (omega arith); outside = λ i h m. refl; unlimited = λ _ i h. refl }

pub seats_start : (n : ℕ) (ty limit busy : ℕ → ℕ) (l : ℕ) (t : ℕ → ℕ) (u : List ℕ) → ((i : ℕ) → vec u i ≡ 0) → SeatsTo n ty limit busy l t (vec u) 0
seats_start n ty limit busy l t u z = record { limited = λ r h. absurd (omega arith); unlimited = λ i h e. z i }

pub seats_next : {n : ℕ} {ty limit busy : ℕ → ℕ} {l m : ℕ} {t u out : ℕ → ℕ} → SeatsTo n ty limit busy l t u m → WithType n ty l (limit m) (busy m) m t u out → SeatsTo n ty limit busy l t out (m + 1)
seats_next {n} {ty} {limit} {busy} {l} {m} {t} {u} {out} s w = record { limited = λ r h. at r h (ℕ_discrete r m); unlimited = λ i h e. zero_at i h e (ℕ_discrete (ty i) m) }
  where
    at : (r : ℕ) → r < m + 1 → Dec (r ≡ m) → 0 < limit r → FirstSeats n ty l (limit r) (busy r) r t out
    at r h (yes e) = subst (λ (x : ℕ). 0 < limit x → FirstSeats n ty l (limit x) (busy x) x t out) (sym e) w.limited
    at r h (no e) = λ b. first_local n ty l (limit r) (busy r) r t u out (λ i q y. w.outside i q (λ x. e (sym y ∙ x))) (s.limited r (omega arith) b)

    zero_at : (i : ℕ) → i < n → limit (ty i) ≡ 0 → Dec (ty i ≡ m) → out i ≡ 0
    zero_at i h e (yes q) = w.unlimited (sym (ap limit q) ∙ e) i h ∙ s.unlimited i h e
    zero_at i h e (no q) = w.outside i h q ∙ s.unlimited i h e

pub seats_done : {n : ℕ} {ty limit busy : ℕ → ℕ} {l m : ℕ} {t u : ℕ → ℕ} → SeatsTo n ty limit busy l t u m → most_types ≤ m → Seats n ty limit busy l t u
seats_done s h = record { limited = λ r l. s.limited r (omega arith); unlimited = s.unlimited }

-- ---- counts

-- a stretch of k slots has no more starts of the type than the type has instances: any two of them hold a slot in
-- common
pub seated_room : (n : ℕ) (ty : ℕ → ℕ) (l a k r : ℕ) (t u : ℕ → ℕ) → 0 < l → SeatedIn n ty l a k r t u → (s : ℕ) → s < l → tally n (near_w ty t l r s k) ≤ a
seated_room n ty l a k r t u hl p s hs = tally_places a n (near_w ty t l r s k) u (λ i h e. p.below i h (near i e).0)
    (λ i j m h e d q. p.apart i j (omega arith) h (record { different = λ x. omega arith; first = (near i e).0; second = (near j d).0; share = stretch_share l k hl s (t i) (t j) hs (near i e).1 (near j d).1 }) q)
  where
    near : (i : ℕ) → near_w ty t l r s k i ≡ true → (ty i ≡ r) × (off l s (t i % l) < k)
    near i e = let q = both_true (eqb (ty i) r) (ltb (off l s (t i % l)) k) e in (eqb-true (ty i) r q.0, ltb-true (off l s (t i % l)) k q.1)

-- where an instance is busy for one slot, counts tell all: an operation takes the instance of its rank in its slot
module _ (n : ℕ) (ty : ℕ → ℕ) (l a r : ℕ) (t : ℕ → ℕ) (hl : 0 < l) where
  in_slot : ℕ → ℕ → Bool
  in_slot i = near_w ty t l r (t i % l) 1

  rank : ℕ → ℕ
  rank i = tally i (in_slot i)

  slot_own : (i j : ℕ) → ty j ≡ r → t i % l ≡ t j % l → in_slot i j ≡ true
  unfolding in_slot
  slot_own i j e q = both_show (eqb (ty j) r) (ltb (off l (t i % l) (t j % l)) 1) (eq-eqb (ty j) r e)
      (lt-ltb (off l (t i % l) (t j % l)) 1 (subst (λ (x : ℕ). off l (t i % l) x < 1) q (omega (arith, off_same l (t i % l) (mod-lt (t i) hl)))))

  -- of two in one slot the later one has the higher rank
  rank_later : (i j : ℕ) → i < j → ty i ≡ r → t i % l ≡ t j % l → rank i < rank j
  unfolding rank in_slot
  rank_later i j h e q = subst (λ (x : ℕ). tally i (in_slot i) < x) (tally_same j (in_slot i) (in_slot j) (λ v _. same v)) (tally_before j i (in_slot i) h (slot_own i i e refl))
    where
      same : (v : ℕ) → in_slot i v ≡ in_slot j v
      same v = ap (λ (s : ℕ). near_w ty t l r s 1 v) q

  pub room_seated : ((i : ℕ) → i < n → ty i ≡ r → tally n (near_w ty t l r (t i % l) 1) ≤ a) → (u : ℕ → ℕ) × SeatedIn n ty l a 1 r t u
  unfolding in_slot rank
  room_seated room = (
    rank,
    record {
      below = λ i h e. omega (arith, tally_before n i (in_slot i) h (slot_own i i e refl), room i h e);
      apart = λ i j h m c q. pick i j c.first c.second (meet_one l (t i) (t j) c.share) c.different q (dec_lt i j);
    },
  )
    where
      pick : (i j : ℕ) → ty i ≡ r → ty j ≡ r → t i % l ≡ t j % l → i ≢ j → rank i ≡ rank j → Dec (i < j) → ⊥
      pick i j e d s ne q (yes h) = omega (arith, rank_later i j h e s, q)
      pick i j e d s ne q (no h) = omega (arith, rank_later j i (omega arith) d (sym s), q)

-- only the starts of the operations matter
pub seated_local : (n : ℕ) (ty : ℕ → ℕ) (l a k r : ℕ) (s t u : ℕ → ℕ) → ((i : ℕ) → i < n → s i ≡ t i) → SeatedIn n ty l a k r s u → SeatedIn n ty l a k r t u
seated_local n ty l a k r s t u e p = record {
  below = p.below;
  apart = λ i j h m c. p.apart i j h m (record { different = c.different; first = c.first; second = c.second; share = subst (λ (x : ℕ). Share l k x (s j)) (sym (e i h)) (subst (λ (x : ℕ). Share l k (t i) x) (sym (e j m)) c.share) });
}
