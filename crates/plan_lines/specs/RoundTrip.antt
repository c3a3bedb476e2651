-- Reading a plan's lines undoes printing them, and bytes that read as a plan are the lines printed for it.
-- Assumes nothing.
use Rattle.std.specs.Prelude.{◌≡◌, eqb, ℤ, length}
use Rattle.std.proofs.Math.Path.{refl, sym, ap}
use Rattle.std.proofs.Common.{ap₂, subst, ◌∙◌, eqb-true}
use mathlib.Core.List.{List, [], ◌∷◌, ◌++◌, append_assoc, append-nil}
use Prim.Native.Nat.{ℕ, zero, suc, ◌≤◌, ◌<◌}
use native.Mathlib.Omega.{arith}
use Rattle.std.proofs.Math.IntN.{pos}
use Rattle.std.proofs.lemmas.Bool.{eqb-false}
use Rattle.sizes.specs.Sizes.{most_operations}
use Rattle.laws.specs.Tests.{by_test}
use Rattle.text.specs.Keys.{answer_key, interval_key, at_key}
use Rattle.text.specs.Lines.{lines_text}
use Rattle.text.specs.Sizes.{four_digits}
use Rattle.text.specs.Text.{line_text}
use Rattle.text.specs.Answers.{interval_line}
use Rattle.scan.specs.Line.{Fields, fields, bad, no_minus, line_of}
use Rattle.scan.specs.RoundTrip.{reads_line, line_text_lem}
use Rattle.scan.specs.PlainLaws.{one_plain, two_plain}
use Rattle.plan_lines.specs.Lines.{given, places_from, plan_of}
use Rattle.plan_lines.specs.Steps.{no_plan, places_end, places_over, places_bad, places_more}
use Rattle.plan_lines.specs.Steps.{no_answer, another_answer, no_interval, places}
use Rattle.plan_lines.specs.Text.{at_lines, lines_for, Small, Showable}

-- ---- what is printed reads back

reads_places : (k L : ℕ) (ts us ps qs : List ℕ) → length qs ≡ length ps → length ps ≤ k → Small ps → Small qs
    → places_from k L ts us (lines_text (at_lines ps qs)) ≡ given L (ts ++ ps) (us ++ qs)
unfolding lines_text at_lines line_text
reads_places k L ts us [] [] e h a b = places_end L ts us k ∙ ap₂ (given L) (sym (append-nil ts)) (sym (append-nil us))
reads_places k L ts us [] (q ∷ qs) e h a b = absurd (omega arith)
reads_places k L ts us (p ∷ ps) [] e h a b = absurd (omega arith)
reads_places zero L ts us (p ∷ ps) (q ∷ qs) e h a b = absurd (omega arith)
reads_places (suc k) L ts us (p ∷ ps) (q ∷ qs) e h a b =
    let rest = lines_text (at_lines ps qs) in
    let l = reads_line at_key no_minus (pos p ∷ pos q ∷ []) rest (a 0, refl, (b 0, refl, tt)) in
    places_more L ts us k _ p q rest (omega arith) l
    ∙ reads_places k L (ts ++ (p ∷ [])) (us ++ (q ∷ [])) ps qs (omega arith) (omega arith)
    (λ i. a (suc i)) (λ i. b (suc i))
    ∙ ap₂ (given L) (append_assoc ts (p ∷ []) ps) (append_assoc us (q ∷ []) qs)

-- the lines that leastplan prints for a plan read as that plan
pub reads_back : (L : ℕ) (ts us : List ℕ) → Showable L ts us → plan_of (lines_text (lines_for L ts us)) ≡ given L ts us
unfolding lines_text
reads_back L ts us w =
    let rest = lines_text (interval_line L ∷ at_lines ts us) in
    let a = reads_line answer_key no_minus (pos 0 ∷ []) rest (omega arith, refl, tt) in
    let l = reads_line interval_key no_minus (pos L ∷ []) (lines_text (at_lines ts us)) (w.interval, refl, tt) in
    places _ 0 _ a refl L _ l
    ∙ reads_places most_operations L [] [] ts us w.paired w.few w.starts w.instances

-- ---- what reads as a plan is printed for it

-- what lines `at=t,u` that were read, after ts and us, say of their bytes
record Spelled (k L : ℕ) (ts us bs : List ℕ) (L' : ℕ) (ts' us' : List ℕ) : Type 0 where
  ps : List ℕ
  qs : List ℕ
  interval : L' ≡ L
  starts : ts' ≡ ts ++ ps
  instances : us' ≡ us ++ qs
  text : bs ≡ lines_text (at_lines ps qs)
  paired : length qs ≡ length ps
  few : length ps ≤ k
  small : Small ps × Small qs

small_cons : (p : ℕ) (ps : List ℕ) → p ≤ four_digits → Small ps → Small (p ∷ ps)
small_cons p ps h a zero = h
small_cons p ps h a (suc i) = a i

module _ (k L : ℕ) (ts us bs : List ℕ) (L' : ℕ) (ts' us' : List ℕ) where
  spelled_none : places_from k L ts us [] ≡ given L' ts' us' → Spelled k L ts us [] L' ts' us'
  unfolding lines_text at_lines
  spelled_none e =
      let q : given L ts us ≡ given L' ts' us' = sym (places_end L ts us k) ∙ e in
      record {
        ps = [];
        qs = [];
        interval = cc;
        starts = cc (append-nil ts);
        instances = cc (append-nil us);
        text = refl;
        paired = refl;
        few = omega arith;
        small = (λ i. omega arith, λ i. omega arith);
      }

  spelled_more : (t u : ℕ) (rest : List ℕ) → t ≤ four_digits → u ≤ four_digits
      → bs ≡ line_text at_key (pos t ∷ pos u ∷ []) ++ rest
      → Spelled k L (ts ++ (t ∷ [])) (us ++ (u ∷ [])) rest L' ts' us' → Spelled (suc k) L ts us bs L' ts' us'
  unfolding lines_text at_lines
  spelled_more t u rest a b e r = record {
    ps = t ∷ r.ps;
    qs = u ∷ r.qs;
    interval = r.interval;
    starts = r.starts ∙ append_assoc ts (t ∷ []) r.ps;
    instances = r.instances ∙ append_assoc us (u ∷ []) r.qs;
    text = e ∙ ap (λ (x : List ℕ). line_text at_key (pos t ∷ pos u ∷ []) ++ x) r.text;
    paired = ap suc r.paired;
    few = omega (arith, r.few);
    small = (small_cons t r.ps a r.small.0, small_cons u r.qs b r.small.1);
  }

  -- the first line, at its case
  spelled_at : (n : Fields) → 0 < length bs → line_of at_key 2 no_minus bs ≡ n
      → ((t u : ℕ) (rest : List ℕ) → places_from k L (ts ++ (t ∷ [])) (us ++ (u ∷ [])) rest ≡ given L' ts' us'
      → Spelled k L (ts ++ (t ∷ [])) (us ++ (u ∷ [])) rest L' ts' us')
      → places_from (suc k) L ts us bs ≡ given L' ts' us' → Spelled (suc k) L ts us bs L' ts' us'
  spelled_at bad h e ih f = absurd (no_plan (sym f ∙ places_bad L ts us k bs h e))
  spelled_at (fields vs rest) h e ih f =
      let l = line_text_lem at_key 2 no_minus bs vs rest e in
      let w = two_plain vs l.count l.good in
      let q = e ∙ ap (λ (x : List ℤ). fields x rest) w.2 in
      spelled_more w.0 w.1 rest w.3 w.4 (l.text ∙ ap (λ (x : List ℤ). line_text at_key x ++ rest) w.2)
      (ih w.0 w.1 rest (sym (places_more L ts us k bs w.0 w.1 rest h q) ∙ f))

spelled : (k L : ℕ) (ts us bs : List ℕ) (L' : ℕ) (ts' us' : List ℕ) → places_from k L ts us bs ≡ given L' ts' us'
    → Spelled k L ts us bs L' ts' us'
spelled zero L ts us [] L' ts' us' e = spelled_none 0 L ts us [] L' ts' us' e
spelled zero L ts us (b ∷ bs) L' ts' us' e = absurd (no_plan (sym e ∙ places_over L ts us (b ∷ bs) (omega arith)))
spelled (suc k) L ts us [] L' ts' us' e = spelled_none (suc k) L ts us [] L' ts' us' e
spelled (suc k) L ts us (b ∷ bs) L' ts' us' e =
    spelled_at k L ts us (b ∷ bs) L' ts' us' (line_of at_key 2 no_minus (b ∷ bs)) (omega arith) refl
    (λ t u rest f. spelled k L (ts ++ (t ∷ [])) (us ++ (u ∷ [])) rest L' ts' us' f) e

module _ {L : ℕ} {bs : List ℕ} {L' : ℕ} {ts us : List ℕ} (r : Spelled most_operations L [] [] bs L' ts us) where
  at_text : bs ≡ lines_text (at_lines ts us)
  at_text = r.text ∙ sym (ap₂ (λ (x y : List ℕ). lines_text (at_lines x y)) r.starts r.instances)

  printable : L ≤ four_digits → Showable L' ts us
  printable h = record {
    paired = ap length r.instances ∙ r.paired ∙ sym (ap length r.starts);
    few = omega (arith, r.few, ap length r.starts);
    interval = omega (arith, r.interval);
    starts = subst Small (sym r.starts) r.small.0;
    instances = subst Small (sym r.instances) r.small.1;
  }

module _ (bs : List ℕ) (L : ℕ) (ts us : List ℕ) (plan : plan_of bs ≡ given L ts us) where
  -- the line `interval=` and the rest, at its case, after the answer 0
  interval_at : (b₁ : List ℕ) (n : Fields) → line_of answer_key 1 no_minus bs ≡ fields (pos 0 ∷ []) b₁
      → line_of interval_key 1 no_minus b₁ ≡ n
      → (b₁ ≡ lines_text (interval_line L ∷ at_lines ts us)) × Showable L ts us
  unfolding lines_text
  interval_at b₁ bad e₁ e = absurd (no_plan (sym plan ∙ no_interval bs 0 b₁ e₁ refl e))
  interval_at b₁ (fields vs b₂) e₁ e =
      let l = line_text_lem interval_key 1 no_minus b₁ vs b₂ e in
      let w = one_plain vs l.count l.good in
      let q = e ∙ ap (λ (x : List ℤ). fields x b₂) w.1 in
      let r = spelled most_operations w.0 [] [] b₂ L ts us (sym (places bs 0 b₁ e₁ refl w.0 b₂ q) ∙ plan) in
      let v : vs ≡ pos L ∷ [] = w.1 ∙ ap (λ (n : ℕ). pos n ∷ []) (sym r.interval) in
      (l.text ∙ (λ i. line_text interval_key (v i) ++ at_text r i), printable r w.2)

  zero_answer : (a : ℕ) (b₁ : List ℕ) → line_of answer_key 1 no_minus bs ≡ fields (pos a ∷ []) b₁ → a ≡ 0
  zero_answer a b₁ e =
      by_test (eqb a 0) (eqb-true a 0)
      (λ t. absurd (no_plan (sym plan ∙ another_answer bs a b₁ e (eqb-false a 0 t))))

  answer_at : (n : Fields) → line_of answer_key 1 no_minus bs ≡ n
      → (bs ≡ lines_text (lines_for L ts us)) × Showable L ts us
  unfolding lines_text
  answer_at bad e = absurd (no_plan (sym plan ∙ no_answer bs e))
  answer_at (fields vs b₁) e =
      let l = line_text_lem answer_key 1 no_minus bs vs b₁ e in
      let w = one_plain vs l.count l.good in
      let z = zero_answer w.0 b₁ (e ∙ ap (λ (x : List ℤ). fields x b₁) w.1) in
      let q : vs ≡ pos 0 ∷ [] = w.1 ∙ ap (λ (n : ℕ). pos n ∷ []) z in
      let r = interval_at b₁ (line_of interval_key 1 no_minus b₁) (e ∙ ap (λ (x : List ℤ). fields x b₁) q) refl in
      (l.text ∙ (λ i. line_text answer_key (q i) ++ r.0 i), r.1)

  -- bytes that read as a plan are the lines that leastplan prints for it, which can show it
  pub plan_text_lem : (bs ≡ lines_text (lines_for L ts us)) × Showable L ts us
  plan_text_lem = answer_at (line_of answer_key 1 no_minus bs) refl
