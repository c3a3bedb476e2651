-- Each kind of line is lawful: an entry is made again from its numbers, and the numbers of a well-formed line from its
-- entry.
-- Assumes nothing.
use Rattle.std.specs.Prelude.{◌≡◌, refl, List, [], ◌∷◌, ℕ, ◌≤◌, ℤ, pos, negsuc, nat_abs, length}
use Rattle.std.proofs.Common.{sym, ap, arith}
use Rattle.text.specs.Sizes.{four_digits}
use Rattle.laws.specs.Z.{zed}
use Rattle.scan.specs.Line.{no_minus}
use Rattle.scan.specs.RoundTrip.{Writable}
use Rattle.scan.specs.Values.{plain_nat}
use Rattle.sheet.specs.Ranges as range
use Rattle.sheet.specs.Table.{range_short, inside_short}
use Rattle.sheet.specs.AnswerLaws.{number_judged, type_judged, op_judged, edge_judged}
use Rattle.sheet_lines.specs.Found.{Kind}
use Rattle.sheet_lines.specs.Kinds.{number_kind, type_kind, op_kind, edge_kind}

-- entry and numbers of a kind of line give each other back, and an entry that answers 0 has numbers that a line can
-- have
pub record Lawful {A : Type 0} (k : Kind A) : Type 0 where
  pub size : (a : A) → length (k.values a) ≡ k.count
  pub back : (a : A) → k.make (k.values a) ≡ a
  pub forth : (vs : List ℤ) → length vs ≡ k.count → Writable k.minus 0 vs → k.values (k.make vs) ≡ vs
  pub writable : (a : A) → k.answer a ≡ 0 → Writable k.minus 0 (k.values a)

-- a number in the range of a field has at most four digits
short : (field : ℕ) (z : ℤ) → range.Inside field z → nat_abs z ≤ four_digits
short field (pos n) i = inside_short i
short field (negsuc n) i = omega (arith, zed, i.low, (range_short field).low.low)

module _ (key : List ℕ) (field : ℕ) where
  number_forth : (vs : List ℤ) → length vs ≡ 1 → Writable no_minus 0 vs → (number_kind key field).values ((number_kind key field).make vs) ≡ vs
  number_forth [] e w = absurd (omega arith)
  number_forth (v ∷ []) e w = ap (λ (z : ℤ). z ∷ []) (sym (plain_nat v w.1))
  number_forth (v ∷ x ∷ vs) e w = absurd (omega arith)

  pub number_lawful : Lawful (number_kind key field)
  number_lawful = record {
    size = λ n. refl;
    back = λ n. refl;
    forth = number_forth;
    writable = λ n e. (inside_short ((number_judged field n).accepted e), refl, tt);
  }

type_forth : (vs : List ℤ) → length vs ≡ 3 → Writable no_minus 0 vs → type_kind.values (type_kind.make vs) ≡ vs
type_forth [] e w = absurd (omega arith)
type_forth (a ∷ []) e w = absurd (omega arith)
type_forth (a ∷ b ∷ []) e w = absurd (omega arith)
type_forth (a ∷ b ∷ c ∷ []) e w =
    λ i. sym (plain_nat a w.1) i ∷ sym (plain_nat b w.2.1) i ∷ sym (plain_nat c w.2.2.1) i ∷ []
type_forth (a ∷ b ∷ c ∷ x ∷ vs) e w = absurd (omega arith)

pub type_lawful : Lawful type_kind
type_lawful = record {
  size = λ t. refl;
  back = λ t. refl;
  forth = type_forth;
  writable = λ t e.
      let x = (type_judged t).accepted e in
      (inside_short x.instances, refl, (inside_short x.latency, refl, (inside_short x.busy, refl, tt)));
}

module _ (types horizon : ℕ) (few : types ≤ four_digits) (near : horizon ≤ four_digits) where
  op_forth : (vs : List ℤ) → length vs ≡ 3 → Writable no_minus 0 vs → (op_kind types horizon).values ((op_kind types horizon).make vs) ≡ vs
  op_forth [] e w = absurd (omega arith)
  op_forth (a ∷ []) e w = absurd (omega arith)
  op_forth (a ∷ b ∷ []) e w = absurd (omega arith)
  op_forth (a ∷ b ∷ c ∷ []) e w =
      λ i. sym (plain_nat a w.1) i ∷ sym (plain_nat b w.2.1) i ∷ sym (plain_nat c w.2.2.1) i ∷ []
  op_forth (a ∷ b ∷ c ∷ x ∷ vs) e w = absurd (omega arith)

  pub op_lawful : Lawful (op_kind types horizon)
  op_lawful = record {
    size = λ o. refl;
    back = λ o. refl;
    forth = op_forth;
    writable = λ o e.
        let x = ((op_judged types horizon o).accepted e).0 in
        let r = x.resource in
        let l = x.lo in
        let h = x.hi in
        (omega arith, refl, (omega arith, refl, (omega arith, refl, tt)));
  }

module _ (ops : ℕ) (few : ops ≤ four_digits) where
  edge_forth : (vs : List ℤ) → length vs ≡ 4 → Writable 2 0 vs → (edge_kind ops).values ((edge_kind ops).make vs) ≡ vs
  edge_forth [] e w = absurd (omega arith)
  edge_forth (a ∷ []) e w = absurd (omega arith)
  edge_forth (a ∷ b ∷ []) e w = absurd (omega arith)
  edge_forth (a ∷ b ∷ c ∷ []) e w = absurd (omega arith)
  edge_forth (a ∷ b ∷ c ∷ d ∷ []) e w =
      λ i. sym (plain_nat a w.1) i ∷ sym (plain_nat b w.2.1) i ∷ c ∷ sym (plain_nat d w.2.2.2.1) i ∷ []
  edge_forth (a ∷ b ∷ c ∷ d ∷ x ∷ vs) e w = absurd (omega arith)

  pub edge_lawful : Lawful (edge_kind ops)
  edge_lawful = record {
    size = λ e. refl;
    back = λ e. refl;
    forth = edge_forth;
    writable = λ e t.
        let x = (edge_judged ops e).accepted t in
        let f = x.from in
        let g = x.to in
        (omega arith, refl, (omega arith, refl, (short range.delay e.delay x.delay, tt, (inside_short x.distance, refl, tt))));
  }
