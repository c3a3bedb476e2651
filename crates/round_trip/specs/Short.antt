-- Laws: how many bytes the lines of entries have at most.
-- Assumes nothing.
use Rattle.std.specs.Prelude.{◌≡◌, List, [], ◌∷◌, map, ℕ, suc, ◌+◌, ◌*◌, ◌≤◌, ℤ, length}
use Rattle.std.proofs.Common.{mul-suc, arith}
use Rattle.text.specs.Bounds.{Within, signed_most, line_most, cons_length, nil_length}
use Rattle.scan.specs.RoundTrip.{Writable}
use Rattle.sheet_lines.specs.Found.{Kind}
use Rattle.round_trip.specs.Lawful.{Lawful}
use Rattle.round_trip.specs.Lines.{entry_line, entry_text, entries_text, AllInside}

-- four digits and a minus
within : (minus i : ℕ) (vs : List ℤ) → Writable minus i vs → Within 5 vs
within minus i [] w = tt
within minus i (v ∷ vs) w = let a = w.0 in (signed_most 3 v (omega arith), within minus (suc i) vs w.2)

module _ {A : Type 0} (k : Kind A) (law : Lawful k) where
  pub entry_length : (a : A) → k.answer a ≡ 0 → length (entry_text k a) ≤ length k.key + 6 * k.count
  entry_length a h =
      let b = line_most 5 k.key (k.values a) (within k.minus 0 (k.values a) (law.writable a h)) in
      let d = law.size a in
      omega arith

  pub entries_length : (es : List A) → AllInside k es → length (entries_text k es) ≤ (length k.key + 6 * k.count) * length es
  entries_length [] h = let z = nil_length in omega arith
  entries_length (a ∷ es) h =
      let b = entry_length a h.0 in
      let c = entries_length es h.1 in
      let d = cons_length (entry_line k a) (map (entry_line k) es) in
      rw (mul-suc (length k.key + 6 * k.count) (length es)) (omega arith)
