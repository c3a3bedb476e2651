-- What keeps the rules of a plan is a consistent full table, so its page is never refused by 10.
-- Assumes nothing.
use Rattle.std.specs.Prelude.{ℕ, ◌≤◌, ◌<◌, ◌≡◌, refl, List, length, take}
use Rattle.std.proofs.Common.{arith, sym, ap, subst, ◌∙◌, length-take-le, get_or-take}
use Rattle.std.proofs.Math.Decide.{dec_lt}
use Rattle.laws.specs.Entry.{vec}
use Rattle.laws.specs.Z.{true_false}
use Rattle.sheet.specs.declared.Sheet.{Sheet}
use Rattle.sheet.specs.Sheet.{InRange}
use Rattle.sheet.specs.Facts.{ops_most}
use Rattle.plan.specs.Rules.{Plan, Overlap}
use Rattle.placing_table.specs.declared.Placement.{Placement}
use Rattle.placing_table.specs.Table.{placed_at, placement_at, Placed, EntryAllowed, Apart, Consistent}
use Rattle.page_text.specs.Page.{page_text}
use Rattle.page.specs.Answers.{full_table, plan_page, Tabled}
use Rattle.page.specs.Tables.{full_at, full_rest, full_same}

module _ {s : Sheet} (ok : InRange s) (ts us : List ℕ) where
  -- what is placed is an operation
  placed_below : (i : ℕ) → Placed (full_table s.op_count ts us) i → i < s.op_count
  placed_below i p = at (dec_lt i s.op_count)
    where
      at : Dec (i < s.op_count) → i < s.op_count
      at (yes h) = h
      at (no h) = true_false (sym p ∙ ap (λ (x : Placement). x.placed) (full_rest s.op_count ts us i (omega arith)))

  entry : (i : ℕ) → i < s.op_count → placement_at (full_table s.op_count ts us) i ≡ placed_at (vec ts i) (vec us i)
  entry i h = full_at s.op_count ts us (ops_most ok) i h

  module _ {L : ℕ} (p : Plan s L (vec ts) (vec us)) where
    entry_allowed : (i : ℕ) → EntryAllowed s L i (placement_at (full_table s.op_count ts us) i)
    entry_allowed i = at (dec_lt i s.op_count)
      where
        at : Dec (i < s.op_count) → EntryAllowed s L i (placement_at (full_table s.op_count ts us) i)
        at (yes h) = subst (EntryAllowed s L i) (sym (entry i h)) (record {
          within = λ _. h;
          start = λ _. (p.start i h).in_horizon.starts;
          holds = λ _. (p.start i h).holds;
          instance = λ _. p.instance i h;
          empty = λ e. true_false e;
        })
        at (no h) = subst (EntryAllowed s L i) (sym (full_rest s.op_count ts us i (omega arith))) (record {
          within = λ e. true_false (sym e);
          start = λ e. true_false (sym e);
          holds = λ e. true_false (sym e);
          instance = λ e. true_false (sym e);
          empty = λ _. (refl, refl);
        })

    untaken : (i : ℕ) → Apart s L (full_table s.op_count ts us) i
    untaken i q j w =
        let h = placed_below i q in
        let k = placed_below j w.placed in
        let a = entry i h in
        let b = entry j k in
        p.apart i j h k w.rivals
        (sym (sym (ap (λ (x : Placement). x.instance) b) ∙ w.instance ∙ ap (λ (x : Placement). x.instance) a))
        (subst (λ (x : Placement). Overlap s L i x.start j (vec ts j)) a
        (subst (λ (x : Placement). Overlap s L i (placement_at (full_table s.op_count ts us) i).start j x.start) b w.overlap))

    pub plan_consistent : Consistent s L (full_table s.op_count ts us)
    plan_consistent = record { entries = entry_allowed; apart = untaken }

-- ---- a plan in arrays, cut to its operations

cut : (n : ℕ) (xs : List ℕ) (i : ℕ) → i < n → vec xs i ≡ vec (take n xs) i
cut n xs i h = sym (get_or-take n xs i 0 h)

module _ (s : Sheet) (ts us : List ℕ) where
  abbrev N : ℕ
  N = s.op_count

  cut_table : full_table N ts us ≡ full_table N (take N ts) (take N us)
  cut_table = full_same N ts us (take N ts) (take N us) (cut N ts) (cut N us)

  pub cut_page : (L : ℕ) → plan_page s L ts us ≡ plan_page s L (take N ts) (take N us)
  cut_page L = ap (page_text s L) cut_table

  pub plan_full : {L : ℕ} → InRange s → N ≤ length ts → N ≤ length us → Plan s L (vec ts) (vec us) → Tabled s L (take N ts) (take N us)
  plan_full {L} ok a b p = record {
    starts = length-take-le N ts a;
    instances = length-take-le N us b;
    consistent = subst (Consistent s L) cut_table (plan_consistent ok ts us p);
  }
