-- The bounds after a cut are the box after it, and stay near 0. Assumes nothing.
use Rattle.std.specs.Prelude.{◌≡◌, refl, true, false, ℕ, ◌+◌, ◌≤◌, ◌<◌, max, min, length, get_or, set, ℤ, pos}
use Rattle.std.proofs.Common.{sym, subst, ap, ◌∙◌, arith, get_or-set_same, get_or-set_other}
use Rattle.std.proofs.Math.Decide.{ℕ_discrete}
use Rattle.std.specs.Int.Signed.{le_z, lt_z}
use Rattle.std.specs.Int.{int_min}
use Rattle.sizes.specs.Sizes.{most_operations}
use Rattle.laws.specs.Z.{zed, le_z_true, le_z_false, lt_z_true, true_lt_z}
use Rattle.laws.specs.Store.{store}
use Rattle.laws.specs.Tests.{by_test}
use Rattle.text.specs.Sizes.{four_digits}
use Rattle.denial.specs.Box.{changed, lesser, starts_to, starts_above, instances_to, instances_above}
use Rattle.denial.specs.BoxLaws.{which, changed_here, changed_other}
use Rattle.denial.specs.Passes as passes
use Rattle.tree_lines.specs.Node.{cut_seen}
use Rattle.tree_lines.specs.declared.Cut.{Cut}
use Rattle.tree_lines.specs.declared.Cut.TheVariants.{Split, Seat}
use Rattle.tree_boxes.specs.declared.Left.{Left}
use Rattle.tree_boxes.specs.declared.Bounds.{Bounds}
use Rattle.tree_boxes.specs.Within.{Within, most_bound, within_lesser}
use Rattle.tree_boxes.specs.Bounds.{nothing, left_at, box_of, SmallLeft, Small}

-- the library's lesser of two starts
pub lesser_is : (z : ℤ) (v : ℕ) → int_min z (pos v) ≡ lesser z v
unfolding lesser
lesser_is z v =
    by_test (le_z z (pos v))
    (λ t. rw t (by_test (lt_z (pos v) z)
    (λ u. absurd (let a = le_z_true z (pos v) t in let b = lt_z_true (pos v) z u in omega (arith, zed, a, b)))
    (λ u. rw u)))
    (λ t. rw (t, true_lt_z (le_z_false z (pos v) t)))

-- ---- bounds with another entry for operation i

module _ (b : Bounds) (i : ℕ) (x : Left) (whole : length b.each ≡ most_operations) (known : i < most_operations) where
  abbrev pub put : Bounds
  put = record { each = set b.each i x }

  within : i < length b.each
  within = omega arith

  -- a part that is changed, and one that is kept
  changed_part : {A : Type 0} (f : Left → A) (y : A) → f x ≡ y → (j : ℕ)
      → f (left_at put j) ≡ changed i y (λ k. f (left_at b k)) j
  changed_part {A} f y e j =
      which (ℕ_discrete j i)
      (λ q. subst (λ (k : ℕ). f (left_at put k) ≡ changed i y g k) (sym q)
      (ap f (get_or-set_same b.each i x nothing within) ∙ e ∙ sym (changed_here i y g)))
      (λ n. ap f (get_or-set_other b.each i j x nothing n) ∙ sym (changed_other i y g j n))
    where
      g : ℕ → A
      g k = f (left_at b k)

  kept_part : {A : Type 0} (f : Left → A) → f x ≡ f (left_at b i) → (j : ℕ) → f (left_at put j) ≡ f (left_at b j)
  kept_part f e j =
      which (ℕ_discrete j i)
      (λ q. subst (λ (k : ℕ). f (left_at put k) ≡ f (left_at b k)) (sym q)
      (ap f (get_or-set_same b.each i x nothing within) ∙ e))
      (λ n. ap f (get_or-set_other b.each i j x nothing n))

  small_put : Small b → SmallLeft x → Small put
  small_put small here j q = store (λ _ y. SmallLeft y) b.each i x nothing within here j (λ _. small j q)

-- ---- each part of a cut is one store

module _ (b : Bounds) (i v : ℕ) (whole : length b.each ≡ most_operations) (known : i < most_operations)
    (few : v ≤ four_digits) (small : Small b) where
  abbrev old : Left
  old = left_at b i

  abbrev new : Left → Bounds
  new x = put b i x whole known

  -- what the contract of `up_to` says of the bounds after a cut, and that of `above`
  abbrev Below : Cut → Left → Type 0
  Below cut x = (box_of (new x) ≡ passes.up_to (box_of b) (cut_seen cut)) × Small (new x)

  abbrev Above : Cut → Left → Type 0
  Above cut x = (box_of (new x) ≡ passes.above (box_of b) (cut_seen cut)) × Small (new x)

  pub starts_to_is : (z : ℤ) → z ≡ lesser old.highest v
      → Below (Split i v) (record { lowest = old.lowest; highest = z; first = old.first; last = old.last })
  unfolding passes.up_to starts_to
  starts_to_is z e =
      let x : Left = record { lowest = old.lowest; highest = z; first = old.first; last = old.last } in (
        λ p. record {
          lowest = λ j. kept_part b i x whole known (λ y. y.lowest) refl j p;
          highest = λ j. changed_part b i x whole known (λ y. y.highest) _ e j p;
          first = λ j. kept_part b i x whole known (λ y. y.first) refl j p;
          last = λ j. kept_part b i x whole known (λ y. y.last) refl j p;
        },
        small_put b i x whole known small (record {
          lowest = (small i known).lowest;
          highest = subst (Within most_bound) (sym e) (within_lesser (small i known).highest (omega arith));
        }),
      )

  pub starts_above_is : (n : ℕ) → n ≡ max old.lowest (v + 1)
      → Above (Split i v) (record { lowest = n; highest = old.highest; first = old.first; last = old.last })
  unfolding passes.above starts_above
  starts_above_is n e =
      let x : Left = record { lowest = n; highest = old.highest; first = old.first; last = old.last } in (
        λ p. record {
          lowest = λ j. changed_part b i x whole known (λ y. y.lowest) _ e j p;
          highest = λ j. kept_part b i x whole known (λ y. y.highest) refl j p;
          first = λ j. kept_part b i x whole known (λ y. y.first) refl j p;
          last = λ j. kept_part b i x whole known (λ y. y.last) refl j p;
        },
        small_put b i x whole known small (record {
          lowest = omega (arith, (small i known).lowest);
          highest = (small i known).highest;
        }),
      )

  pub instances_to_is : (n : ℕ) → n ≡ min old.last v
      → Below (Seat i v) (record { lowest = old.lowest; highest = old.highest; first = old.first; last = n })
  unfolding passes.up_to instances_to
  instances_to_is n e =
      let x : Left = record { lowest = old.lowest; highest = old.highest; first = old.first; last = n } in (
        λ p. record {
          lowest = λ j. kept_part b i x whole known (λ y. y.lowest) refl j p;
          highest = λ j. kept_part b i x whole known (λ y. y.highest) refl j p;
          first = λ j. kept_part b i x whole known (λ y. y.first) refl j p;
          last = λ j. changed_part b i x whole known (λ y. y.last) _ e j p;
        },
        small_put b i x whole known small (record { lowest = (small i known).lowest; highest = (small i known).highest }),
      )

  pub instances_above_is : (n : ℕ) → n ≡ max old.first (v + 1)
      → Above (Seat i v) (record { lowest = old.lowest; highest = old.highest; first = n; last = old.last })
  unfolding passes.above instances_above
  instances_above_is n e =
      let x : Left = record { lowest = old.lowest; highest = old.highest; first = n; last = old.last } in (
        λ p. record {
          lowest = λ j. kept_part b i x whole known (λ y. y.lowest) refl j p;
          highest = λ j. kept_part b i x whole known (λ y. y.highest) refl j p;
          first = λ j. changed_part b i x whole known (λ y. y.first) _ e j p;
          last = λ j. kept_part b i x whole known (λ y. y.last) refl j p;
        },
        small_put b i x whole known small (record { lowest = (small i known).lowest; highest = (small i known).highest }),
      )
