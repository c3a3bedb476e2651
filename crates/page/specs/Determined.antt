-- The page shows no more than the held slots and the instances of the limited operations: plans that agree in these
-- print alike. Assumes nothing.
use Rattle.std.specs.Prelude.{ℕ, ◌<◌, ◌≡◌, Bool, false, cond, eqb, ltb}
use Rattle.std.proofs.Common.{sym, ap, ap₂, subst, ◌∙◌, eqb-true, ltb-true}
use mathlib.Core.List.{List, ◌++◌}
use Rattle.laws.specs.Entry.{vec}
use Rattle.laws.specs.Z.{true_false}
use Rattle.laws.specs.Tests.{by_test}
use Rattle.held_slots.specs.Held.{HeldAt, holds_slot}
use Rattle.held_slots.specs.HeldLaws.{slot_held, held_slot}
use Rattle.sheet.specs.declared.Sheet.{Sheet}
use Rattle.sheet.specs.Sheet.{Limited, op_at, type_at}
use Rattle.sheet.specs.Facts.{ops_most}
use Rattle.sheet.specs.Questions.{Accepted}
use Rattle.placing_table.specs.declared.Placement.{Placement}
use Rattle.placing_table.specs.Table.{placed_at, placement_at}
use Rattle.page_text.specs.Page.{heading_line, slot_line, type_lines, uses, user_of, type_text}
use Rattle.page_text.specs.Joining.{up_same}
use Rattle.page_text.specs.Users.{last_same}
use Rattle.page_text.specs.Widths.{slot_same, page_lines}
use Rattle.page.specs.Answers.{full_table, plan_page}
use Rattle.page.specs.Shows.{ShownAlike}
use Rattle.page.specs.Tables.{full_at}

-- two starts that agree in whether they hold the slot
held_same : (L K t t' slot' : ℕ) → (HeldAt L K t slot' → HeldAt L K t' slot') → (HeldAt L K t' slot' → HeldAt L K t slot') → holds_slot L K t slot' ≡ holds_slot L K t' slot'
held_same L K t t' slot' there back =
    by_test (holds_slot L K t slot')
    (λ e. e ∙ sym (held_slot L K t' slot' (there (slot_held L K t slot' e))))
    (λ e. by_test (holds_slot L K t' slot')
    (λ q. true_false (sym (held_slot L K t slot' (back (slot_held L K t' slot' q))) ∙ e))
    (λ q. e ∙ sym q))

-- two placements that agree in this and in the instance where the type is r
placed_same : (L K resource t u t' u' r slot' a : ℕ) → (resource ≡ r → (holds_slot L K t slot' ≡ holds_slot L K t' slot') × (u ≡ u'))
    → uses L K resource (placed_at t u) r slot' a ≡ uses L K resource (placed_at t' u') r slot' a
placed_same L K resource t u t' u' r slot' a same =
    by_test (eqb resource r)
    (λ e. let q = same (eqb-true resource r e) in
    rw e (ap₂ (λ (x : Bool) (y : ℕ). cond x (eqb y a) false) q.0 q.1))
    (λ e. rw e)

module _ {s : Sheet} {L : ℕ} (ok : Accepted s L) (ts us ts' us' : List ℕ)
    (same : (i : ℕ) → i < s.op_count → Limited s i → ShownAlike s L i (vec ts i) (vec us i) (vec ts' i) (vec us' i)) where
  agree : (r i slot' : ℕ) → 0 < (type_at s r).instances → i < s.op_count → (op_at s i).resource ≡ r
      → (holds_slot L (type_at s r).busy (vec ts i) slot' ≡ holds_slot L (type_at s r).busy (vec ts' i) slot') × (vec us i ≡ vec us' i)
  agree r i slot' l h e =
      let q = same i h (subst (λ (x : ℕ). 0 < (type_at s x).instances) (sym e) l) in (
        subst (λ (x : ℕ). holds_slot L (type_at s x).busy (vec ts i) slot' ≡ holds_slot L (type_at s x).busy (vec ts' i) slot') e
            (held_same L (type_at s (op_at s i).resource).busy (vec ts i) (vec ts' i) slot' (q.held slot') (q.back slot')),
        q.instance,
      )

  -- who uses an instance of a limited type
  user_same : (r : ℕ) → 0 < (type_at s r).instances → (slot' a : ℕ)
      → user_of s L (full_table s.op_count ts us) r slot' a ≡ user_of s L (full_table s.op_count ts' us') r slot' a
  user_same r l slot' a =
      last_same s.op_count
      (λ i. uses L (type_at s r).busy (op_at s i).resource (placement_at (full_table s.op_count ts us) i) r slot' a)
      (λ i. uses L (type_at s r).busy (op_at s i).resource (placement_at (full_table s.op_count ts' us') i) r slot' a)
      (λ i h. ap (λ (p : Placement). uses L (type_at s r).busy (op_at s i).resource p r slot' a) (full_at s.op_count ts us (ops_most ok.sheet) i h)
      ∙ placed_same L (type_at s r).busy (op_at s i).resource (vec ts i) (vec us i) (vec ts' i) (vec us' i) r slot' a
      (agree r i slot' l h)
      ∙ sym (ap (λ (p : Placement). uses L (type_at s r).busy (op_at s i).resource p r slot' a) (full_at s.op_count ts' us' (ops_most ok.sheet) i h)))

  type_same : (r : ℕ) → type_text s L (full_table s.op_count ts us) r ≡ type_text s L (full_table s.op_count ts' us') r
  unfolding type_lines
  type_same r =
      by_test (ltb 0 (type_at s r).instances)
      (λ t. rw t (ap (λ (x : List ℕ). heading_line r ++ x)
      (up_same L (λ q. slot_line (type_at s r).instances (user_of s L (full_table s.op_count ts us) r q) q) (λ q. slot_line (type_at s r).instances (user_of s L (full_table s.op_count ts' us') r q) q)
      (λ q _. slot_same (type_at s r).instances (user_of s L (full_table s.op_count ts us) r q) (user_of s L (full_table s.op_count ts' us') r q) q
      (λ a _. user_same r (ltb-true 0 (type_at s r).instances t) q a)))))
      (λ t. rw t)

  pub print_alike : plan_page s L ts us ≡ plan_page s L ts' us'
  print_alike =
      page_lines s L (full_table s.op_count ts us)
      ∙ up_same s.type_count (type_text s L (full_table s.op_count ts us)) (type_text s L (full_table s.op_count ts' us')) (λ r _. type_same r)
      ∙ sym (page_lines s L (full_table s.op_count ts' us'))
