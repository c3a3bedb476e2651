-- Laws: a reading's refusal has at most three digits, and a sheet that was read is in range.
-- Assumes nothing.
use Rattle.std.specs.Prelude.{◌≡◌, List, ℕ, ◌≤◌}
use Rattle.std.proofs.Common.{sym, ap, subst, arith}
use Rattle.text.specs.Sizes.{three_digits}
use Rattle.sheet.specs.declared.Sheet.{Sheet}
use Rattle.sheet.specs.Sheet.{InRange}
use Rattle.sheet.specs.AnswerLaws.{number_judged, type_judged, op_judged, edge_judged}
use Rattle.reader.specs.declared.ReadAnswer.{ReadAnswer}
use Rattle.sheet_lines.specs.Found.{Found, found, refused}
use Rattle.reader.specs.Read.{whole_from, answered, read_of}
use Rattle.reader.specs.Refusals.{OnRefusal, Answers, refusal_holds}
use Rattle.round_trip.proofs.RoundTrip.{only_text}

few : Answers (λ n. n ≤ three_digits)
few = record {
  too_long = omega arith;
  malformed = omega arith;
  number = λ field n z. let h = (number_judged field n).few in omega arith;
  type_entry = λ t z. let h = (type_judged t).few in omega arith;
  op_entry = λ types horizon o z. let h = (op_judged types horizon o).few in omega arith;
  edge_entry = λ ops e z. let h = (edge_judged ops e).few in omega arith;
}

answered_small : (x : Found Sheet) → OnRefusal (λ n. n ≤ three_digits) x → (answered x).answer ≤ three_digits
answered_small (found s rest) h = omega arith
answered_small (refused n rest) h = h

pub read_small : (bs : List ℕ) → (read_of bs).answer ≤ three_digits
unfolding read_of
read_small bs = answered_small (whole_from bs) (refusal_holds few bs)

pub read_in_range : (bs : List ℕ) → (read_of bs).answer ≡ 0 → InRange (read_of bs).sheet
read_in_range bs z = let a = only_text bs z in subst InRange (sym (ap (λ (r : ReadAnswer). r.sheet) a.result)) a.in_range
