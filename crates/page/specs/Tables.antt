-- Laws of the full table of a plan: its entries, and that it is filled one by one.
-- Assumes nothing.
use Rattle.std.specs.Prelude.{ℕ, zero, suc, ◌+◌, ◌≤◌, ◌<◌, ◌≡◌, refl, List, length, get_or, set, replicate}
use Rattle.std.proofs.Common.{arith, add-one, ◌∙◌, length-set, get_or-set_same, get_or-set_other}
use Rattle.std.proofs.Math.Decide.{ℕ_discrete, dec_lt}
use Rattle.std.proofs.lemmas.List.{get_or-replicate}
use Rattle.std.proofs.Math.ListN.{get_or-eq_default}
use Rattle.sizes.specs.Sizes.{most_operations}
use Rattle.laws.specs.Entry.{vec}
use Rattle.placing_table.specs.Table.{nothing, placed_at, empty_table, placement_at, placing}
use Rattle.page.specs.Answers.{full_table}

pub full_none : (ts us : List ℕ) → empty_table ≡ full_table 0 ts us
unfolding full_table
full_none ts us = refl

pub full_more : (n : ℕ) (ts us : List ℕ) → placing (full_table n ts us) n (vec ts n) (vec us n) ≡ full_table (n + 1) ts us
unfolding full_table
full_more n ts us = rw add-one

full_size : (n : ℕ) (ts us : List ℕ) → length (full_table n ts us).entries ≡ most_operations
unfolding full_table
full_size zero ts us = refl
full_size (suc n) ts us = length-set (full_table n ts us).entries n (placed_at (vec ts n) (vec us n)) ∙ full_size n ts us

-- nothing is placed past the operations
pub full_rest : (n : ℕ) (ts us : List ℕ) (i : ℕ) → n ≤ i → placement_at (full_table n ts us) i ≡ nothing
unfolding full_table
full_rest zero ts us i h = at (dec_lt i most_operations)
  where
    at : Dec (i < most_operations) → get_or (replicate most_operations nothing) i nothing ≡ nothing
    at (yes l) = get_or-replicate most_operations i nothing nothing l
    at (no l) = let k : length (replicate most_operations nothing) ≤ i = omega arith in get_or-eq_default (replicate most_operations nothing) nothing k
full_rest (suc n) ts us i h =
    get_or-set_other (full_table n ts us).entries n i (placed_at (vec ts n) (vec us n)) nothing (λ e. omega arith) ∙ full_rest n ts us i (omega arith)

-- every operation is, at its start on its instance
pub full_at : (n : ℕ) (ts us : List ℕ) → n ≤ most_operations → (i : ℕ) → i < n → placement_at (full_table n ts us) i ≡ placed_at (vec ts i) (vec us i)
unfolding full_table
full_at zero ts us m i h = absurd (omega arith)
full_at (suc n) ts us m i h = at (ℕ_discrete i n) (λ l. full_at n ts us (omega arith) i l)
  where
    at : Dec (i ≡ n) → (i < n → placement_at (full_table n ts us) i ≡ placed_at (vec ts i) (vec us i)) → get_or (set (full_table n ts us).entries n (placed_at (vec ts n) (vec us n))) i nothing ≡ placed_at (vec ts i) (vec us i)
    at (yes e) ih = rw e (get_or-set_same (full_table n ts us).entries n (placed_at (vec ts n) (vec us n)) nothing (omega (arith, full_size n ts us)))
    at (no ne) ih = get_or-set_other (full_table n ts us).entries n i (placed_at (vec ts n) (vec us n)) nothing ne ∙ ih (omega arith)

-- only the entries of the operations play a part
pub full_same : (n : ℕ) (ts us ts' us' : List ℕ) → ((i : ℕ) → i < n → vec ts i ≡ vec ts' i) → ((i : ℕ) → i < n → vec us i ≡ vec us' i) → full_table n ts us ≡ full_table n ts' us'
unfolding full_table
full_same zero ts us ts' us' p q = refl
full_same (suc n) ts us ts' us' p q =
    let e = full_same n ts us ts' us' (λ i l. p i (omega arith)) (λ i l. q i (omega arith)) in
    rw (e, p n (omega arith), q n (omega arith))
