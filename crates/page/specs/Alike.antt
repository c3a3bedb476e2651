-- Two plans of one sheet and interval that differ in a limited operation's held slots or instance never print alike.
-- Assumes nothing.
use Rattle.std.specs.Prelude.{ℕ, zero, suc, ◌+◌, ◌%◌, ◌<◌, ◌≡◌, refl, List, ◌++◌, Bool, true, false, cond, eqb}
use Rattle.std.proofs.Common.{arith, sym, ap, subst, ◌∙◌, lt-ltb, eqb-true, eq-eqb}
use Rattle.std.proofs.Math.Decide.{ℕ_discrete}
use Rattle.sizes.specs.Sizes.{most_instances}
use Rattle.laws.specs.Entry.{vec}
use Rattle.laws.specs.Count.{both_true, both_show}
use Rattle.held_slots.specs.Held.{HeldAt, holds_slot}
use Rattle.held_slots.specs.HeldLaws.{held_below, slot_held, held_slot}
use Rattle.text.specs.Text.{digits}
use Rattle.sheet.specs.declared.Sheet.{Sheet}
use Rattle.sheet.specs.Sheet.{Limited, op_at, type_at, type_of}
use Rattle.sheet.specs.Facts.{ops_most, types_most, resource_below, op_instances_most, op_busy_some}
use Rattle.sheet.specs.Questions.{Accepted}
use Rattle.plan.specs.Rules.{InstanceAllowed, Holds}
use Rattle.placing_table.specs.declared.Placement.{Placement}
use Rattle.placing_table.specs.declared.Table.{Table}
use Rattle.placing_table.specs.Table.{placed_at, placement_at}
use Rattle.page_text.specs.Columns.{blanks, right, up_to, line_feed}
use Rattle.page_text.specs.Page.{column_width, slot_width, heading_line, user_text, column_text, slot_line, reserves, uses, user_of, type_text, page_text}
use Rattle.page_text.specs.Digits.{five_tell, no_dash}
use Rattle.page_text.specs.Joining.{split_equal, up_parts}
use Rattle.page_text.specs.Users.{last_true, last_only}
use Rattle.page_text.specs.Widths.{line_length, type_length, column_wide, columns_wide, slot_parts, slot_long, limited_lines, users_few, few_slots, type_of_long, page_lines}
use Rattle.page.specs.Answers.{full_table, plan_page, Tabled}
use Rattle.page.specs.Shows.{ShownAlike}
use Rattle.page.specs.Tables.{full_at}

-- ---- the text tells who uses each instance

user_tells : (x y : ℕ) → x < 100 → y < 100 → user_text x ≡ user_text y → x ≡ y
unfolding user_text
user_tells zero zero h k e = refl
user_tells zero (suc y) h k e = absurd (no_dash y (omega arith) e)
user_tells (suc x) zero h k e = absurd (no_dash x (omega arith) (sym e))
user_tells (suc x) (suc y) h k e = ap suc (five_tell x y (omega arith) (omega arith) e)

column_tells : (A a x y : ℕ) → a < A → x < 100 → y < 100 → column_text A a x ≡ column_text A a y → x ≡ y
unfolding column_text
column_tells A a x y l h k e =
    let t = lt-ltb a A l in
    user_tells x y h k (sym (ap (λ (b : Bool). cond b (user_text x) (blanks column_width)) t) ∙ e ∙ ap (λ (b : Bool). cond b (user_text y) (blanks column_width)) t)

module _ {s : Sheet} {L : ℕ} (ok : Accepted s L) (one two : Table) where
  module _ (r : ℕ) (r-below : r < s.type_count) where
    abbrev A : ℕ
    A = (type_at s r).instances

    abbrev line_in : Table → ℕ → List ℕ
    line_in table slot' = slot_line A (user_of s L table r slot') slot'

    type_same : page_text s L one ≡ page_text s L two → type_text s L one r ≡ type_text s L two r
    type_same e =
        let m = types_most ok.sheet in
        up_parts s.type_count (type_text s L one) (type_text s L two)
        (λ q. type_length L (type_at s q).instances)
        (λ q l. type_of_long ok one q (omega arith)) (λ q l. type_of_long ok two q (omega arith))
        (sym (page_lines s L one) ∙ e ∙ page_lines s L two) r r-below

    line_same : 0 < A → page_text s L one ≡ page_text s L two → (slot' : ℕ) → slot' < L → line_in one slot' ≡ line_in two slot'
    line_same h e slot' l =
        let w = sym (limited_lines L A (user_of s L one r) r h) ∙ type_same e ∙ limited_lines L A (user_of s L two r) r h in
        let v = split_equal (heading_line r) (up_to L (line_in one)) (heading_line r) (up_to L (line_in two)) refl w in
        let m = few_slots ok in
        up_parts L (line_in one) (line_in two) (λ _. line_length)
        (λ q k. slot_long A (user_of s L one r q) q (users_few ok one r q) (omega arith))
        (λ q k. slot_long A (user_of s L two r q) q (users_few ok two r q) (omega arith))
        v.1 slot' l

    users_same : page_text s L one ≡ page_text s L two → (slot' a : ℕ) → slot' < L → a < A → a < most_instances → user_of s L one r slot' a ≡ user_of s L two r slot' a
    users_same e slot' a l k m =
        let f : ℕ → ℕ = user_of s L one r slot' in
        let g : ℕ → ℕ = user_of s L two r slot' in
        let p = users_few ok one r slot' in
        let q = users_few ok two r slot' in
        let cf : ℕ → List ℕ = λ c. column_text A c (f c) in
        let cg : ℕ → List ℕ = λ c. column_text A c (g c) in
        let w = sym (slot_parts A f slot') ∙ line_same (omega arith) e slot' l ∙ slot_parts A g slot' in
        let v = split_equal (right slot_width (digits slot')) (up_to most_instances cf ++ line_feed) (right slot_width (digits slot')) (up_to most_instances cg ++ line_feed) refl w in
        let n = columns_wide A f p most_instances (omega arith) ∙ sym (columns_wide A g q most_instances (omega arith)) in
        let u = split_equal (up_to most_instances cf) line_feed (up_to most_instances cg) line_feed n v.1 in
        let x = p a m in
        let y = q a m in
        column_tells A a (f a) (g a) k (omega arith) (omega arith)
        (up_parts most_instances cf cg (λ _. column_width) (λ c h. column_wide A c (f c) (omega (arith, p c h))) (λ c h. column_wide A c (g c) (omega (arith, q c h))) u.0 a m)

-- ---- the page of a plan shows each limited operation

-- an operation of the type `resource`, placed as p, uses the instance a of type r in the slot
record Uses (L K resource : ℕ) (p : Placement) (r slot' a : ℕ) : Type 0 where
  placed : p.placed ≡ true
  one_type : resource ≡ r
  holds : HeldAt L K p.start slot'
  instance : p.instance ≡ a

uses_read : (L K resource : ℕ) (p : Placement) (r slot' a : ℕ) → uses L K resource p r slot' a ≡ true → Uses L K resource p r slot' a
uses_read L K resource p r slot' a e =
    let w = both_true (reserves L K resource p r slot') (eqb p.instance a) e in
    let v = both_true p.placed (cond (eqb resource r) (holds_slot L K p.start slot') false) w.0 in
    let u = both_true (eqb resource r) (holds_slot L K p.start slot') v.1 in
    record { placed = v.0; one_type = eqb-true resource r u.0; holds = slot_held L K p.start slot' u.1; instance = eqb-true p.instance a w.1 }

uses_show : (L K resource : ℕ) (p : Placement) (r slot' a : ℕ) → Uses L K resource p r slot' a → uses L K resource p r slot' a ≡ true
uses_show L K resource p r slot' a h =
    both_show (reserves L K resource p r slot') (eqb p.instance a)
    (both_show p.placed (cond (eqb resource r) (holds_slot L K p.start slot') false) h.placed
    (both_show (eqb resource r) (holds_slot L K p.start slot') (eq-eqb resource r h.one_type) (held_slot L K p.start slot' h.holds)))
    (eq-eqb p.instance a h.instance)

module _ {s : Sheet} {L : ℕ} (ok : Accepted s L) (ts us : List ℕ) (full : Tabled s L ts us) where
  abbrev table : Table
  table = full_table s.op_count ts us

  abbrev flag : ℕ → ℕ → ℕ → ℕ → Bool
  flag r slot' a j = uses L (type_at s r).busy (op_at s j).resource (placement_at table j) r slot' a

  entry : (i : ℕ) → i < s.op_count → placement_at table i ≡ placed_at (vec ts i) (vec us i)
  entry i h = full_at s.op_count ts us (ops_most ok.sheet) i h

  allowed : (i : ℕ) → i < s.op_count → InstanceAllowed s i (vec us i)
  allowed i h = let e = entry i h in
      subst (λ (p : Placement). InstanceAllowed s i p.instance) e ((full.consistent.entries i).instance (ap (λ (p : Placement). p.placed) e))

  -- in each slot that a limited operation holds its column shows it and no other
  pub shown : (i : ℕ) → i < s.op_count → Limited s i → (b : ℕ) → Holds s L i (vec ts i) b → user_of s L table (op_at s i).resource b (vec us i) ≡ suc i
  shown i h l b w =
      let e = entry i h in
      let r = (op_at s i).resource in
      let mine : Uses L (type_at s r).busy r (placement_at table i) r b (vec us i) = record {
        placed = ap (λ (p : Placement). p.placed) e;
        one_type = refl;
        holds = held;
        instance = ap (λ (p : Placement). p.instance) e;
      } in
      last_only s.op_count (flag r b (vec us i)) i h (uses_show L (type_at s r).busy r (placement_at table i) r b (vec us i) mine)
      (λ j k f. at j (ℕ_discrete j i) (uses_read L (type_at s r).busy (op_at s j).resource (placement_at table j) r b (vec us i) f))
    where
      held : Holds s L i (placement_at table i).start b
      held = subst (λ (p : Placement). Holds s L i p.start b) (sym (entry i h)) w

      at : (j : ℕ) → Dec (j ≡ i) → Uses L (type_of s i).busy (op_at s j).resource (placement_at table j) (op_at s i).resource b (vec us i) → j ≡ i
      at j (yes q) v = q
      at j (no n) v =
          let e = entry i h in
          absurd (full.consistent.apart i (ap (λ (p : Placement). p.placed) e) j (record {
            placed = v.placed;
            rivals = record { different = λ q. n (sym q); one_type = sym v.one_type; limited = l };
            instance = v.instance ∙ sym (ap (λ (p : Placement). p.instance) e);
            overlap = record {
              at = b;
              first = held;
              second = subst (λ (r : ℕ). HeldAt L (type_at s r).busy (placement_at table j).start b) (sym v.one_type) v.holds;
            };
          }))

  -- another page that reads alike shows it there, too
  seen : (ts' us' : List ℕ) → plan_page s L ts us ≡ plan_page s L ts' us' → (i : ℕ) → i < s.op_count → Limited s i
      → (b : ℕ) → Holds s L i (vec ts i) b → Holds s L i (vec ts' i) b × (vec us i ≡ vec us' i)
  seen ts' us' e i h l b held =
      let r = (op_at s i).resource in
      let other = full_table s.op_count ts' us' in
      let below = (allowed i h).limited l in
      let inside : b < L = held_below (omega (arith, ok.interval.low)) held in
      let same = users_same ok table other r (resource_below ok.sheet i h) e b (vec us i) inside below (omega (arith, below, op_instances_most ok.sheet i h)) in
      let w = uses_read L (type_at s r).busy r (placement_at other i) r b (vec us i)
      (last_true s.op_count (λ j. uses L (type_at s r).busy (op_at s j).resource (placement_at other j) r b (vec us i)) i (sym same ∙ shown i h l b held)) in
      let q = full_at s.op_count ts' us' (ops_most ok.sheet) i h in
      (subst (λ (p : Placement). Holds s L i p.start b) q w.holds, sym w.instance ∙ ap (λ (p : Placement). p.instance) q)

-- pages of plans that read alike have every limited operation in the same slots on the same instance
pub never_alike : {s : Sheet} {L : ℕ} → Accepted s L → (ts us ts' us' : List ℕ) → Tabled s L ts us → Tabled s L ts' us' → plan_page s L ts us ≡ plan_page s L ts' us'
    → (i : ℕ) → i < s.op_count → Limited s i → ShownAlike s L i (vec ts i) (vec us i) (vec ts' i) (vec us' i)
never_alike {s} {L} ok ts us ts' us' full full' e i h l = record {
  held = λ b w. (seen ok ts us full ts' us' e i h l b w).0;
  back = λ b w. (seen ok ts' us' full' ts us (sym e) i h l b w).0;
  instance = (seen ok ts us full ts' us' e i h l ((vec ts i + 0) % L) first).1;
}
  where
    first : Holds s L i (vec ts i) ((vec ts i + 0) % L)
    first = record { after = 0; within = op_busy_some ok.sheet i h; there = refl }
