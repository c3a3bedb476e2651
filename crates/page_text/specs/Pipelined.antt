-- Where every K is 1 (fully pipelined units) the page is that of before slip 6: an operation is shown in the slot of
-- its start alone. Definitions first, then the laws, which assume nothing.
use Rattle.std.specs.Prelude.{ℕ, ◌<◌, ◌≡◌, Bool, false, cond, eqb, ltb}
use Rattle.std.proofs.Common.{ap, ◌∙◌}
use mathlib.Core.List.{List, ◌++◌}
use Rattle.laws.specs.Tests.{by_test}
use Rattle.held_slots.specs.Held.{holds_slot}
use Rattle.held_slots.specs.HeldLaws.{holds_one}
use Rattle.sheet.specs.declared.Sheet.{Sheet}
use Rattle.sheet.specs.Sheet.{type_at, op_at}
use Rattle.plan.specs.Rules.{slot}
use Rattle.plan.specs.Pipelined.{Pipelined}
use Rattle.placing_table.specs.declared.Placement.{Placement}
use Rattle.placing_table.specs.declared.Table.{Table}
use Rattle.placing_table.specs.Table.{placement_at}
use Rattle.page_text.specs.Columns.{up_to}
use Rattle.page_text.specs.Page.{heading_line, slot_line, type_lines, uses, last_of, user_of, type_text, page_text}
use Rattle.page_text.specs.Joining.{up_same}
use Rattle.page_text.specs.Users.{last_same}
use Rattle.page_text.specs.Widths.{slot_same, page_lines}

-- ---- definitions

-- an operation of the type `resource`, placed as p, has an instance of type r in the slot: that of its start
abbrev pub slot_reserves : ℕ → ℕ → Placement → ℕ → ℕ → Bool
slot_reserves L resource p r slot' = cond p.placed (cond (eqb resource r) (eqb (slot L p.start) slot') false) false

-- and it is the instance a
abbrev pub slot_uses : ℕ → ℕ → Placement → ℕ → ℕ → ℕ → Bool
slot_uses L resource p r slot' a = cond (slot_reserves L resource p r slot') (eqb p.instance a) false

-- the operation that uses the instance a of type r in the slot, plus 1, and 0 where it is unused
abbrev pub slot_user_of : Sheet → ℕ → Table → ℕ → ℕ → ℕ → ℕ
slot_user_of s L table r slot' a = last_of s.op_count (λ i. slot_uses L (op_at s i).resource (placement_at table i) r slot' a)

-- the lines of type r
abbrev pub slot_type_text : Sheet → ℕ → Table → ℕ → List ℕ
slot_type_text s L table r = type_lines L (type_at s r).instances (slot_user_of s L table r) r

-- the lines of each type, by number
abbrev pub slot_page_text : Sheet → ℕ → Table → List ℕ
slot_page_text s L table = up_to s.type_count (slot_type_text s L table)

-- ---- laws

module _ {s : Sheet} (one : Pipelined s) (L : ℕ) (table : Table) where
  user_slots : (r : ℕ) → r < s.type_count → (slot' a : ℕ) → user_of s L table r slot' a ≡ slot_user_of s L table r slot' a
  user_slots r h slot' a =
      last_same s.op_count (λ i. uses L (type_at s r).busy (op_at s i).resource (placement_at table i) r slot' a) (λ i. slot_uses L (op_at s i).resource (placement_at table i) r slot' a)
      (λ i _. let p = placement_at table i in
      ap (λ (x : Bool). cond (cond p.placed (cond (eqb (op_at s i).resource r) x false) false) (eqb p.instance a) false)
      (ap (λ (k : ℕ). holds_slot L k p.start slot') (one.each r h) ∙ holds_one L p.start slot'))

  type_slots : (r : ℕ) → r < s.type_count → type_text s L table r ≡ slot_type_text s L table r
  unfolding type_lines
  type_slots r h =
      let A = (type_at s r).instances in
      by_test (ltb 0 A)
      (λ t. rw t (ap (λ (x : List ℕ). heading_line r ++ x)
      (up_same L (λ q. slot_line A (user_of s L table r q) q) (λ q. slot_line A (slot_user_of s L table r q) q)
      (λ q _. slot_same A (user_of s L table r q) (slot_user_of s L table r q) q (λ a _. user_slots r h q a)))))
      (λ t. rw t)

  pub page_slots : page_text s L table ≡ slot_page_text s L table
  page_slots = page_lines s L table ∙ up_same s.type_count (type_text s L table) (slot_type_text s L table) type_slots
