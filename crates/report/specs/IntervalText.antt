-- What the lines of one interval answer as a text of their own, and what they leave in the lent buffer old.
use Rattle.std.specs.Prelude.{ℕ, ◌≡◌, refl, List}
use Rattle.std.proofs.Common.{ap}
use Rattle.text.specs.declared.Written.{Written}
use Rattle.text.specs.Text.{buffer_of}
use Rattle.text.specs.Line.{refused, written_of}
use Rattle.sheet.specs.declared.Sheet.{Sheet}
use Rattle.sheet.specs.Questions.{AskedAt, Accepted, is_one, at_interval_one, goes_on}
use Rattle.plan.specs.declared.PlanAnswer.{PlanAnswer}
use Rattle.plan.specs.Answers.{PlanAt}
use Rattle.plan.specs.Unique.{plan_at_unique}
use Rattle.interval_lines.specs.IntervalLines.{plan_text}

-- the sheet's refusal or 4, and the buffer as it was; else the lines that leastplan prints for that interval where the
-- whole of them fits, or 9
pub data IntervalText (s : Sheet) (L : ℕ) (old : List ℕ) : Written → List ℕ → Type 0 where
  refusal : {n : ℕ} → AskedAt s L n → (n ≡ 0 → ⊥) → IntervalText s L old (refused n) old
  lines : {a : PlanAnswer} → Accepted s L → PlanAt s L a → IntervalText s L old (written_of (plan_text s L a) old) (buffer_of (plan_text s L a) old)

-- by the answer and the buffer
pub made : {s : Sheet} {L : ℕ} {old new : List ℕ} {r : Written} {a : PlanAnswer} → Accepted s L → PlanAt s L a
    → r ≡ written_of (plan_text s L a) old → new ≡ buffer_of (plan_text s L a) old → IntervalText s L old r new
made y p e f = rw (e, f) (lines y p)

pub asked_unique : {s : Sheet} {L n m : ℕ} → AskedAt s L n → AskedAt s L m → n ≡ m
asked_unique {n = n} {m = m} p q = at_interval_one (λ (k : ℕ). k) (is_one 0) n m p q

-- at most one answer and one buffer fit
pub once : {s : Sheet} {L : ℕ} {old : List ℕ} {r r' : Written} {new new' : List ℕ} → IntervalText s L old r new → IntervalText s L old r' new' → (r ≡ r') × (new ≡ new')
once (refusal p n) (refusal q m) = (ap refused (asked_unique p q), refl)
once (refusal p n) (lines y q) = absurd (n (asked_unique p (goes_on (λ (k : ℕ). k) y refl)))
once (lines y q) (refusal p n) = absurd (n (asked_unique p (goes_on (λ (k : ℕ). k) y refl)))
once {s} {L} {old} (lines y p) (lines z q) = (
  ap (λ (a : PlanAnswer). written_of (plan_text s L a) old) (plan_at_unique _ _ p q),
  ap (λ (a : PlanAnswer). buffer_of (plan_text s L a) old) (plan_at_unique _ _ p q),
)
