-- The line of a step reads as that step, and bytes that read as a step begin with its line. So the lines of steps read
-- as those steps, and bytes that read as steps are their lines.
-- Assumes nothing.
use Rattle.std.specs.Prelude.{◌≡◌, refl, ℕ, zero, suc, ◌≤◌, ◌<◌, ℤ, pos, length}
use Rattle.std.proofs.Math.Path.{sym, ap}
use Rattle.std.proofs.Common.{subst, ◌∙◌, arith, length-append}
use mathlib.Core.List.{List, [], ◌∷◌, ◌++◌, append_assoc, append-nil}
use Rattle.text.specs.Lines.{line_text_of, lines_text}
use Rattle.text.specs.Text.{line_text}
use Rattle.scan.specs.Line.{Fields, fields, bad, no_minus, line_of, stripped}
use Rattle.scan.specs.RoundTrip.{reads_line, line_text_lem}
use Rattle.scan.specs.PlainLaws.{two_plain, three_plain}
use Rattle.table_script.specs.declared.Step.{Step}
use Rattle.table_script.specs.declared.Step.TheVariants.{Offer, Book, Place}
use Rattle.table_script.specs.Script.{offer_key, book_key, place_key, StepRead, read, malformed, step_of}
use Rattle.table_script.specs.Script.{most_steps, steps, steps_from, script_of}
use Rattle.table_script.specs.Steps.{offer_step, book_step, place_step, no_step, no_read}
use Rattle.table_script.specs.Steps.{no_fault, steps_end, steps_over, steps_bad, steps_more}
use Rattle.table_script.specs.Text.{step_line, Small, AllSmall, step_lines}

-- ---- the line of a step reads as that step

-- a line with another key
book_no_offer : (vs : List ℤ) (rest : List ℕ) → line_of offer_key 2 no_minus (line_text book_key vs ++ rest) ≡ bad
unfolding line_of stripped line_text
book_no_offer vs rest = refl

place_no_offer : (vs : List ℤ) (rest : List ℕ) → line_of offer_key 2 no_minus (line_text place_key vs ++ rest) ≡ bad
unfolding line_of stripped line_text
place_no_offer vs rest = refl

place_no_book : (vs : List ℤ) (rest : List ℕ) → line_of book_key 3 no_minus (line_text place_key vs ++ rest) ≡ bad
unfolding line_of stripped line_text
place_no_book vs rest = refl

pub reads_step : (st : Step) (rest : List ℕ) → Small st → step_of (line_text_of (step_line st) ++ rest) ≡ read st rest
reads_step (Offer i t) rest s =
    offer_step _ i t rest (reads_line offer_key no_minus (pos i ∷ pos t ∷ []) rest (s.0, refl, (s.1, refl, tt)))
reads_step (Book i t u) rest s =
    let vs = pos i ∷ pos t ∷ pos u ∷ [] in
    book_step _ (book_no_offer vs rest) i t u rest
    (reads_line book_key no_minus vs rest (s.0, refl, (s.1, refl, (s.2, refl, tt))))
reads_step (Place i t) rest s =
    let vs = pos i ∷ pos t ∷ [] in
    place_step _ (place_no_offer vs rest) (place_no_book vs rest) i t rest
    (reads_line place_key no_minus vs rest (s.0, refl, (s.1, refl, tt)))

-- ---- bytes that read as a step begin with its line

-- what a step that was read says of the bytes that it was read from
pub record Spelled (bs : List ℕ) (st : Step) (rest : List ℕ) : Type 0 where
  pub text : bs ≡ line_text_of (step_line st) ++ rest
  pub small : Small st

same : {bs : List ℕ} {st su : Step} {rest left : List ℕ} → read su left ≡ read st rest → Spelled bs su left → Spelled bs st rest
same {bs} {st} {su} {rest} {left} e r =
    let x : su ≡ st = cc in
    let y : left ≡ rest = cc in
    record { text = r.text ∙ (λ i. line_text_of (step_line (x i)) ++ y i); small = subst Small x r.small }

module _ (bs : List ℕ) (st : Step) (rest : List ℕ) (e : step_of bs ≡ read st rest) where
  -- the line of each key, at its case
  place_at : (n : Fields) → line_of offer_key 2 no_minus bs ≡ bad → line_of book_key 3 no_minus bs ≡ bad
      → line_of place_key 2 no_minus bs ≡ n → Spelled bs st rest
  place_at bad o b q = absurd (no_read (sym e ∙ no_step bs o b q))
  place_at (fields vs left) o b q =
      let l = line_text_lem place_key 2 no_minus bs vs left q in
      let w = two_plain vs l.count l.good in
      let v = w.2 in
      same (sym (place_step bs o b w.0 w.1 left (q ∙ ap (λ (x : List ℤ). fields x left) v)) ∙ e)
      (record { text = l.text ∙ ap (λ (x : List ℤ). line_text place_key x ++ left) v; small = (w.3, w.4) })

  book_at : (n : Fields) → line_of offer_key 2 no_minus bs ≡ bad → line_of book_key 3 no_minus bs ≡ n → Spelled bs st rest
  book_at bad o q = place_at (line_of place_key 2 no_minus bs) o q refl
  book_at (fields vs left) o q =
      let l = line_text_lem book_key 3 no_minus bs vs left q in
      let w = three_plain vs l.count l.good in
      let v = w.3 in
      same (sym (book_step bs o w.0 w.1 w.2 left (q ∙ ap (λ (x : List ℤ). fields x left) v)) ∙ e)
      (record { text = l.text ∙ ap (λ (x : List ℤ). line_text book_key x ++ left) v; small = (w.4, w.5, w.6) })

  offer_at : (n : Fields) → line_of offer_key 2 no_minus bs ≡ n → Spelled bs st rest
  offer_at bad q = book_at (line_of book_key 3 no_minus bs) q refl
  offer_at (fields vs left) q =
      let l = line_text_lem offer_key 2 no_minus bs vs left q in
      let w = two_plain vs l.count l.good in
      let v = w.2 in
      same (sym (offer_step bs w.0 w.1 left (q ∙ ap (λ (x : List ℤ). fields x left) v)) ∙ e)
      (record { text = l.text ∙ ap (λ (x : List ℤ). line_text offer_key x ++ left) v; small = (w.3, w.4) })

  pub step_text : Spelled bs st rest
  step_text = offer_at (line_of offer_key 2 no_minus bs) refl

-- ---- so a step takes bytes

some_bytes : (st : Step) → 0 < length (line_text_of (step_line st))
unfolding line_text
some_bytes (Offer i t) = omega arith
some_bytes (Book i t u) = omega arith
some_bytes (Place i t) = omega arith

pub shorter : (bs : List ℕ) (st : Step) (rest : List ℕ) → step_of bs ≡ read st rest → length rest < length bs
shorter bs st rest e =
    let t = ap length (step_text bs st rest e).text in
    omega (arith, t, length-append (line_text_of (step_line st)) rest, some_bytes st)

-- ---- the lines of steps read as those steps

reads_from : (k : ℕ) (done sts : List Step) → length sts ≤ k → AllSmall sts
    → steps_from k done (lines_text (step_lines sts)) ≡ steps (done ++ sts)
unfolding lines_text
reads_from k done [] h s = steps_end done k ∙ ap steps (sym (append-nil done))
reads_from zero done (st ∷ sts) h s = absurd (omega arith)
reads_from (suc k) done (st ∷ sts) h s =
    let rest = lines_text (step_lines sts) in
    steps_more done k _ st rest
    (omega (arith, some_bytes st, length-append (line_text_of (step_line st)) rest)) (reads_step st rest s.0)
    ∙ reads_from k (done ++ (st ∷ [])) sts (omega arith) s.1 ∙ ap steps (append_assoc done (st ∷ []) sts)

pub reads_script : (sts : List Step) → length sts ≤ most_steps → AllSmall sts
    → script_of (lines_text (step_lines sts)) ≡ steps sts
reads_script sts h s = reads_from most_steps [] sts h s

-- ---- bytes that read as steps are their lines

record Script (done : List Step) (bs : List ℕ) (all : List Step) : Type 0 where
  more : List Step
  whole : all ≡ done ++ more
  text : bs ≡ lines_text (step_lines more)
  small : AllSmall more

module _ (all : List Step) where
  script_end : (k : ℕ) (done : List Step) → steps_from k done [] ≡ steps all → Script done [] all
  unfolding lines_text
  script_end k done e =
      let q : steps done ≡ steps all = sym (steps_end done k) ∙ e in
      record { more = []; whole = cc (append-nil done); text = refl; small = tt }

  -- the first line, at its case
  script_at : (k : ℕ) (done : List Step) (bs : List ℕ) (r : StepRead) → 0 < length bs → step_of bs ≡ r
      → ((st : Step) (rest : List ℕ) → steps_from k (done ++ (st ∷ [])) rest ≡ steps all
      → Script (done ++ (st ∷ [])) rest all)
      → steps_from (suc k) done bs ≡ steps all → Script done bs all
  unfolding lines_text
  script_at k done bs malformed h e ih f = absurd (no_fault (sym f ∙ steps_bad done (suc k) bs h e))
  script_at k done bs (read st rest) h e ih f =
      let r = ih st rest (sym (steps_more done k bs st rest h e) ∙ f) in
      let t = step_text bs st rest e in
      record {
        more = st ∷ r.more;
        whole = r.whole ∙ append_assoc done (st ∷ []) r.more;
        text = t.text ∙ ap (λ (x : List ℕ). line_text_of (step_line st) ++ x) r.text;
        small = (t.small, r.small);
      }

  script_from : (k : ℕ) (done : List Step) (bs : List ℕ) → steps_from k done bs ≡ steps all → Script done bs all
  script_from zero done [] e = script_end zero done e
  script_from zero done (b ∷ bs) e = absurd (no_fault (sym e ∙ steps_over done (b ∷ bs) (omega arith)))
  script_from (suc k) done [] e = script_end (suc k) done e
  script_from (suc k) done (b ∷ bs) e =
      script_at k done (b ∷ bs) (step_of (b ∷ bs)) (omega arith) refl
      (λ st rest f. script_from k (done ++ (st ∷ [])) rest f) e

  pub script_text : (bs : List ℕ) → script_of bs ≡ steps all → (bs ≡ lines_text (step_lines all)) × AllSmall all
  script_text bs e =
      let r = script_from most_steps [] bs e in
      let q : all ≡ r.more = r.whole in
      (r.text ∙ ap (λ (x : List Step). lines_text (step_lines x)) (sym q), subst AllSmall (sym q) r.small)
