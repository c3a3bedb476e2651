-- Laws of rule 1: shifted lags, next starts, one start, a row, a domain. Assumes nothing.
use Rattle.std.specs.Prelude.{◌≡◌, refl, Bool, true, false, List, ℕ, ◌+◌, ◌-◌, ◌^◌, ◌≤◌, ◌<◌, set, length, replicate, ℤ, pos, negsuc, ◌+ℤ◌, nat_abs, ◌≤ℤ◌, ◌<ℤ◌, T}
use Rattle.std.proofs.Common.{sym, ap, subst, ◌∙◌, arith, SFits}
use Rattle.std.proofs.Math.Decide.{ℕ_discrete, dec_lt}
use Rattle.std.proofs.Math.Seq.{set_out}
use Rattle.std.specs.Int.Signed.{non_neg}
use Rattle.std.specs.Int.{w32}
use Rattle.sizes.specs.Sizes.{most_starts}
use Rattle.laws.specs.Entry.{vec}
use Rattle.laws.specs.Store.{store, all_zero}
use Rattle.laws.specs.Z.{true_false, zed, sum, up, nonneg, fits_show}
use Rattle.domain.specs.Domain.{has, row_of, Keeps, Below, From, Least, End}
use Rattle.domain.specs.Split.{keeps_next}
use Rattle.task.specs.Plan.{lag_at, LagsKept}
use Rattle.support.specs.Support.{most_shift, Shifted, Earlier, Later, Filled, NextFrom, Known, SupportedBy, At}

-- ---- next starts

pub next_none : (q : List Bool) (next : List ℕ) → NextFrom q most_shift next
next_none q next = record { upto = λ k a x b c. absurd (omega arith) }

pub later_none : (q : List Bool) (v : ℕ) → Later q most_starts v
later_none q v = record { upto = λ x a b. absurd (omega arith) }

pub later_more : (q : List Bool) (a t v r : ℕ) → a ≡ t + 1 → Later q a v → Earlier (has q t) (t + most_starts) v r → Later q t r
later_more q a t v r e l h = record { upto = λ x b c y. at x b c y (has q t) refl }
  where
    at : (x : ℕ) → t ≤ x → x < most_starts → has q x ≡ true → (b : Bool) → has q t ≡ b → r ≤ x + most_starts
    at x b c y true w = omega (arith, h.yes w)
    at x b c y false w = pick (ℕ_discrete x t)
      where
        pick : Dec (x ≡ t) → r ≤ x + most_starts
        pick (yes z) = absurd (true_false (sym y ∙ ap (λ (j : ℕ). has q j) z ∙ w))
        pick (no z) = omega (arith, h.no w, l.upto x (omega arith) c y)

pub next_more : (q : List Bool) (next : List ℕ) (a t r : ℕ) → a ≡ t + 1 → t + most_starts < length next → NextFrom q (a + most_starts) next → Later q t r → NextFrom q (t + most_starts) (set next (t + most_starts) r)
next_more q next a t r e len n l = record {
  upto = λ k b x c d y. store (λ j z. j ≡ k → z ≤ x + most_starts) next (t + most_starts) r 0 len (λ w. l.upto x (omega arith) d y) k (λ ne w. n.upto k (omega arith) x c d y) refl;
}

pub next_fill : (q : List Bool) {next r : List ℕ} {v : ℕ} → NextFrom q most_starts next → Later q 0 v → Filled next v r → NextFrom q 0 r
next_fill q {next} {r} n l f = record { upto = λ k b x c d y. pick k x c d y (dec_lt k most_starts) }
  where
    pick : (k x : ℕ) → k ≤ x + most_starts → x < most_starts → has q x ≡ true → Dec (k < most_starts) → vec r k ≤ x + most_starts
    pick k x c d y (yes h) = omega (arith, f.low k h, l.upto x (omega arith) d y)
    pick k x c d y (no h) = omega (arith, f.high k (omega arith), n.upto k (omega arith) x c d y)

-- where no next start was looked for, none is too late
pub next_zero : (q : List Bool) → NextFrom q 0 (replicate (most_shift + most_starts) 0)
next_zero q = record { upto = λ k a x b c y. omega (arith, all_zero (most_shift + most_starts) k) }

-- ---- a row

-- by both lags
pub supported_all : {least end : ℕ} {next : List ℕ} {row r : List Bool} {there back : ℕ} → ((t : ℕ) → t < most_starts → At next (has row t) there back t (has r t)) → SupportedBy least end next row there back r
supported_all h = record { by = λ q n. record { was = record { part = λ t l y. (h t l).was y }; stays = λ x t hx ht hq hb a c. (h t ht).stays q n.next_from x hx hq hb a c } }

-- what is known of the ends is not needed then
pub by_next : {least end : ℕ} {next : List ℕ} {row r : List Bool} {there back : ℕ} → SupportedBy 0 most_starts next row there back r → SupportedBy least end next row there back r
by_next s = record { by = λ q n. s.by q (record { from = λ x h y. omega arith; upto = λ x h y. h; next_from = n.next_from }) }

-- by the lag there alone: the least start and the lag are the least that is supported
pub supported_from : {least end lo : ℕ} {next : List ℕ} {row r : List Bool} {there back : ℕ} → lo ≡ least + there - most_starts → From row lo r → SupportedBy least end next row there back r
supported_from e f = record { by = λ q n. record { was = f.was; stays = λ x t hx ht hq hb a c. f.high t ht (omega (arith, n.from x hx hq)) hb } }

-- by the lag back alone: the end less the lag is the end of what is supported
pub supported_below : {least end hi : ℕ} {next : List ℕ} {row r : List Bool} {there back : ℕ} → hi ≡ end + most_starts - back → Below row hi r → SupportedBy least end next row there back r
supported_below e f = record { by = λ q n. record { was = f.was; stays = λ x t hx ht hq hb a c. f.low t ht (omega (arith, n.upto x hx hq)) hb } }

-- what is known of a row by its ends and next starts
pub known : {q : List Bool} {least end : ℕ} {next : List ℕ} → Least q least → End q end → NextFrom q 0 next → Known q least end next
known {q} {least} {end} l e n = record { from = λ x h y. from x y (dec_lt x least); upto = λ x h y. upto x h y (dec_lt x end); next_from = n }
  where
    from : (x : ℕ) → has q x ≡ true → Dec (x < least) → least ≤ x
    from x y (yes m) = absurd (l.before x m y)
    from x y (no m) = omega arith

    upto : (x : ℕ) → x < most_starts → has q x ≡ true → Dec (x < end) → x < end
    upto x h y (yes m) = m
    upto x h y (no m) = absurd (e.after x h (omega arith) y)

-- ---- a domain

module _ (n : ℕ) (lag : List ℤ) (i j : ℕ) (hi : i < n) (hj : j < n) where
  -- a row that is not there is not stored, so that the domain's length needs no word
  pub spread_keeps : {ok d : List (List Bool)} {least end : ℕ} {next : List ℕ} {there back : ℕ} {r : List Bool} → Shifted (lag_at lag i j) there → Shifted (lag_at lag j i) back → Known (row_of ok i) least end next → SupportedBy least end next (row_of d j) there back r → Keeps (LagsKept n lag) n ok d → Keeps (LagsKept n lag) n ok (set d j r)
  spread_keeps {ok} {d} {r = r} f g w s k = pick (dec_lt j (length d))
    where
      pick : Dec (j < length d) → Keeps (LagsKept n lag) n ok (set d j r)
      pick (yes l) = let z = s.by (row_of ok i) w in
          keeps_next (LagsKept n lag) n l k z.was
          (λ t pl a b. let hx = a.small i hi in let ht = a.small j hj in z.stays (t i) (t j) hx ht (a.allowed i hi) (b.allowed j hj) (f.fits (t i) (t j) hx ht (pl i hi j hj)) (g.fits (t j) (t i) ht hx (pl j hj i hi)))
      pick (no m) = subst (Keeps (LagsKept n lag) n ok) (sym (set_out d j r (omega (arith, m)))) k

-- ---- signed numbers

-- a lag that every two starts keep
pub shift_none : (lag : ℤ) → Shifted lag 0
shift_none lag = record { within = omega arith; fits = λ x t a b h. omega arith }

-- a lag that no two starts keep
pub shift_most : {lag : ℤ} → pos most_starts ≤ℤ lag → Shifted lag most_shift
shift_most {lag} h = record { within = omega arith; fits = λ x t a b k. absurd (omega (arith, zed, sum (pos x) lag)) }

-- a lag that asks nothing is this or less
abbrev no_lag : ℤ
no_lag = negsuc (most_starts - 1)

abs_up : {z : ℤ} → pos 0 ≤ℤ z → nat_abs z ≡ up z
abs_up {z = pos n} h = refl
abs_up {z = negsuc n} h = absurd h.le

pub non_neg_lem : {z : ℤ} → pos 0 ≤ℤ z → T (non_neg z)
non_neg_lem {z = pos n} h = tt
non_neg_lem {z = negsuc n} h = absurd h.le

-- the other lags
module _ {lag : ℤ} (h : no_lag <ℤ lag) (k : lag <ℤ pos most_starts) where
  pub shift_fits : SFits w32 (lag +ℤ pos most_starts)
  shift_fits = fits_show (omega (arith, zed, sum lag (pos most_starts))) (omega (arith, zed, sum lag (pos most_starts)))

  pub shift_low : pos 0 ≤ℤ (lag +ℤ pos most_starts)
  shift_low = omega (arith, zed, sum lag (pos most_starts))

  pub shift_small : nat_abs (lag +ℤ pos most_starts) < 2 ^ 64
  shift_small = omega (arith, zed, abs_up shift_low, nonneg shift_low, sum lag (pos most_starts))

  pub shift_mid : Shifted lag (nat_abs (lag +ℤ pos most_starts))
  shift_mid = record {
    within = omega (arith, zed, abs_up shift_low, nonneg shift_low, sum lag (pos most_starts));
    fits = λ x t a b w. omega (arith, zed, abs_up shift_low, nonneg shift_low, sum lag (pos most_starts), sum (pos x) lag);
  }
