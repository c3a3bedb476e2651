-- The line at fault: all lines before it are steps, and it is none, or as many stand before it as a script may have.
-- Assumes nothing.
use Rattle.std.specs.Prelude.{◌≡◌, refl, ◌⊎◌, List, [], ◌∷◌, ◌++◌, ℕ, zero, suc, ◌+◌, ◌<◌, length}
use Rattle.std.proofs.Common.{sym, ap, ◌∙◌, inl, inr, ⊎_elim, append_assoc, arith, length-append}
use Rattle.text.specs.Lines.{line_text_of, lines_text}
use Rattle.table_script.specs.declared.Step.{Step}
use Rattle.table_script.specs.Script.{StepRead, read, malformed, step_of, most_steps, fault, steps_from, script_of}
use Rattle.table_script.specs.Steps.{no_fault, steps_end, steps_over, steps_bad, steps_more}
use Rattle.table_script.specs.Text.{step_line, AllSmall, step_lines}
use Rattle.table_script.specs.RoundTrip.{step_text}

-- after some steps, of bytes that k lines more may follow: the steps before the line n, and the bytes from it on
pub record AtFault (k after : ℕ) (bs : List ℕ) (n : ℕ) : Type 0 where
  pub good : List Step
  pub rest : List ℕ
  pub small : AllSmall good
  pub text : bs ≡ lines_text (step_lines good) ++ rest
  pub some : 0 < length rest
  pub number : n ≡ suc (after + length good)
  pub why : (step_of rest ≡ malformed) ⊎ (length good ≡ k)

same_line : {m n : ℕ} → fault m ≡ fault n → n ≡ m
same_line e = cc

-- the first line, at its case
at_line_lem : (k : ℕ) (done : List Step) (bs : List ℕ) (n : ℕ) (r : StepRead) → 0 < length bs → step_of bs ≡ r
    → ((st : Step) (rest : List ℕ) → steps_from k (done ++ (st ∷ [])) rest ≡ fault n → AtFault k (length (done ++ (st ∷ []))) rest n)
    → steps_from (suc k) done bs ≡ fault n → AtFault (suc k) (length done) bs n
unfolding lines_text
at_line_lem k done bs n malformed h q ih e =
    let z = same_line (sym (steps_bad done (suc k) bs h q) ∙ e) in
    record { good = []; rest = bs; small = tt; text = refl; some = h; number = omega (arith, z); why = inl q }
at_line_lem k done bs n (read st rest) h q ih e =
    let r = ih st rest (sym (steps_more done k bs st rest h q) ∙ e) in
    let t = step_text bs st rest q in
    record {
      good = st ∷ r.good;
      rest = r.rest;
      small = (t.small, r.small);
      text = t.text ∙ ap (λ (x : List ℕ). line_text_of (step_line st) ++ x) r.text
          ∙ sym (append_assoc (line_text_of (step_line st)) (lines_text (step_lines r.good)) r.rest);
      some = r.some;
      number = omega (arith, r.number, length-append done (st ∷ []));
      why = ⊎_elim inl (λ m. inr (ap suc m)) r.why;
    }

fault_from : (k : ℕ) (done : List Step) (bs : List ℕ) (n : ℕ) → steps_from k done bs ≡ fault n → AtFault k (length done) bs n
unfolding lines_text
fault_from zero done [] n e = absurd (no_fault (sym (steps_end done 0) ∙ e))
fault_from zero done (b ∷ bs) n e =
    let z = same_line (sym (steps_over done (b ∷ bs) (omega arith)) ∙ e) in
    record { good = []; rest = b ∷ bs; small = tt; text = refl; some = omega arith; number = omega (arith, z); why = inr refl }
fault_from (suc k) done [] n e = absurd (no_fault (sym (steps_end done (suc k)) ∙ e))
fault_from (suc k) done (b ∷ bs) n e =
    at_line_lem k done (b ∷ bs) n (step_of (b ∷ bs)) (omega arith) refl (λ st rest f. fault_from k (done ++ (st ∷ [])) rest n f) e

pub fault_text : (bs : List ℕ) (n : ℕ) → script_of bs ≡ fault n → AtFault most_steps 0 bs n
fault_text bs n e = fault_from most_steps [] bs n e
