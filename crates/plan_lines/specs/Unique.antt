-- What `read` promises of its result fixes the whole of it: two that meet its contract for the same bytes are equal.
-- Assumes nothing.
use Rattle.std.specs.Prelude.{◌≡◌, List, ℕ, ◌≤◌, length, take, Result, Ok, Err, IfOk}
use Rattle.std.proofs.Math.Path.{sym}
use Rattle.std.proofs.Common.{ap, subst, ◌∙◌, arith, get_or-take, length-take-le}
use Rattle.sizes.specs.Sizes.{most_operations}
use Rattle.laws.specs.Entry.{vec, ZeroFrom, zero_one}
use Rattle.plan_lines.specs.declared.PlanLines.{PlanLines}
use Rattle.plan_lines.specs.Lines.{PlanRead, malformed, plan_of, held, seen, LinesFit}
use Rattle.plan_lines.specs.Steps.{no_plan}

-- ---- at most one result

entry_count : {n : ℕ} {xs : List ℕ} → n ≤ most_operations → ZeroFrom n xs → length (take n xs) ≡ n
entry_count {n} {xs} h z = length-take-le n xs (omega (arith, z.whole))

same_entries : {m n : ℕ} {xs ys : List ℕ} → m ≡ n → ZeroFrom m xs → ZeroFrom n ys → take m xs ≡ take n ys → xs ≡ ys
same_entries {m} {n} {xs} {ys} q y z e = zero_one (subst (λ (k : ℕ). ZeroFrom k xs) q y) z (λ i h.
    sym (get_or-take m xs i 0 (omega arith)) ∙ ap (λ (l : List ℕ). vec l i) e ∙ get_or-take n ys i 0 h)

same_held : (r q : PlanLines) → LinesFit r → LinesFit q → held r ≡ held q → r ≡ q
same_held r q f g e =
    let l : r.interval ≡ q.interval = cc in
    let t : take r.count r.starts ≡ take q.count q.starts = cc in
    let u : take r.count r.instances ≡ take q.count q.instances = cc in
    let a : length (take r.count r.starts) ≡ r.count = entry_count f.few f.starts in
    let b : length (take q.count q.starts) ≡ q.count = entry_count g.few g.starts in
    let n : r.count ≡ q.count = sym a ∙ ap length t ∙ b in
    let v = same_entries n f.starts g.starts t in
    let w = same_entries n f.instances g.instances u in
    λ i. record { interval = l i; count = n i; starts = v i; instances = w i }

same_line : {m n : ℕ} → malformed m ≡ malformed n → m ≡ n
same_line e = cc

one : (r q : Result PlanLines ℕ) → seen r ≡ seen q → IfOk r LinesFit → IfOk q LinesFit → r ≡ q
one (Ok r) (Ok q) e f g = ap Ok (same_held r q f g e)
one (Ok r) (Err n) e f g = absurd (no_plan e)
one (Err m) (Ok q) e f g = absurd (no_plan (sym e))
one (Err m) (Err n) e f g = ap Err (same_line e)

pub read_unique : (bytes : List ℕ) (r q : Result PlanLines ℕ) → (seen r ≡ plan_of bytes) × IfOk r LinesFit
    → (seen q ≡ plan_of bytes) × IfOk q LinesFit → r ≡ q
read_unique bytes r q a b = one r q (a.0 ∙ sym b.0) a.1 b.1
