-- One line, several lines, a section: the text of entries in range is read as those entries, and only that text is.
-- Assumes nothing.
use Rattle.std.proofs.Math.Path.{◌≡◌, sym, ap, subst}
use Rattle.std.specs.Prelude.{refl, ℤ}
use Rattle.std.proofs.Common.{◌∙◌}
use mathlib.Core.List.{List, [], ◌∷◌, ◌++◌, map, append_assoc, append-nil}
use Prim.Native.Nat.{ℕ, zero, suc}
use Rattle.std.proofs.Math.ListN.{length}
use Rattle.text.specs.Text.{line_text}
use Rattle.scan.specs.Line.{Fields, fields, bad, line_of}
use Rattle.scan.specs.RoundTrip.{reads_line, line_text_lem}
use Rattle.text.specs.Lines.{Line, lines_text}
use Rattle.sheet_lines.specs.Found.{Found, found, refused, Kind, line_from, lines_from, section_from}
use Rattle.sheet_lines.specs.Steps.{line_in_lem, line_inside, judged_found, no_found}
use Rattle.round_trip.specs.All.{All}
use Rattle.round_trip.specs.Lawful.{Lawful}

-- the line of an entry
abbrev pub entry_line : {A : Type 0} → Kind A → A → Line
entry_line k a = record { key = k.key; values = k.values a }

-- the text of that line
abbrev pub entry_text : {A : Type 0} → Kind A → A → List ℕ
entry_text k a = line_text k.key (k.values a)

-- the texts of the lines of several entries, one after the other
abbrev pub entries_text : {A : Type 0} → Kind A → List A → List ℕ
entries_text k es = lines_text (map (entry_line k) es)

-- each entry answers 0
abbrev pub AllInside : {A : Type 0} → Kind A → List A → Type 0
AllInside k es = All (λ a. k.answer a ≡ 0) es

module _ {A : Type 0} (k : Kind A) (law : Lawful k) where
  -- ---- one line

  line_fields : (a : A) (rest : List ℕ) → k.answer a ≡ 0 → line_of k.key k.count k.minus (entry_text k a ++ rest) ≡ fields (k.values a) rest
  line_fields a rest h =
      ap (λ (n : ℕ). line_of k.key n k.minus (entry_text k a ++ rest)) (sym (law.size a)) ∙ reads_line k.key k.minus (k.values a) rest (law.writable a h)

  pub reads_entry : (a : A) (rest : List ℕ) → k.answer a ≡ 0 → line_from k (entry_text k a ++ rest) ≡ found a rest
  reads_entry a rest h =
      line_in_lem k (entry_text k a ++ rest) (k.values a) rest (line_fields a rest h) (ap k.answer (law.back a) ∙ h) ∙ ap (λ (x : A). found x rest) (law.back a)

  entry_at : (bs : List ℕ) (n : Fields) (a : A) (rest : List ℕ) → line_of k.key k.count k.minus bs ≡ n → line_from k bs ≡ found a rest → bs ≡ entry_text k a ++ rest
  unfolding line_from
  entry_at bs bad a rest e f = absurd (no_found (simp e at f))
  entry_at bs (fields vs left) a rest e f =
      let g : ◌≡◌ {A = Found A} (found (k.make vs) left) (found a rest) = (judged_found (k.answer (k.make vs)) (k.make vs) bs left (simp e at f)).1 in
      let q : k.make vs ≡ a = cc in
      let l : left ≡ rest = cc in
      let r = line_text_lem k.key k.count k.minus bs vs left e in
      r.text ∙ ap (λ (ws : List ℤ). line_text k.key ws ++ left) (sym (law.forth vs r.count r.good) ∙ ap k.values q) ∙ ap (λ (x : List ℕ). entry_text k a ++ x) l

  pub entry_text_lem : (bs : List ℕ) (a : A) (rest : List ℕ) → line_from k bs ≡ found a rest → bs ≡ entry_text k a ++ rest
  entry_text_lem bs a rest e = entry_at bs (line_of k.key k.count k.minus bs) a rest refl e

  -- ---- several lines

  snoc : (acc : List A) (a : A) (es : List A) → (acc ++ (a ∷ [])) ++ es ≡ acc ++ (a ∷ es)
  snoc acc a es = append_assoc acc (a ∷ []) es

  pub reads_entries : (es acc : List A) (rest : List ℕ) → AllInside k es → lines_from k (length es) acc (entries_text k es ++ rest) ≡ found (acc ++ es) rest
  unfolding lines_from lines_text
  reads_entries [] acc rest h = ap (λ (l : List A). found l rest) (sym (append-nil acc))
  reads_entries (a ∷ es) acc rest h =
      rw (append_assoc (entry_text k a) (entries_text k es) rest, reads_entry a (entries_text k es ++ rest) h.0)
      (reads_entries es (acc ++ (a ∷ [])) rest h.1 ∙ ap (λ (l : List A). found l rest) (snoc acc a es))

  record Read (n : ℕ) (acc : List A) (bs : List ℕ) (us : List A) (rest : List ℕ) : Type 0 where
    es : List A
    all : us ≡ acc ++ es
    text : bs ≡ entries_text k es ++ rest
    count : length es ≡ n
    good : AllInside k es

  -- the first line, at its case
  entries_at : (n : ℕ) (acc : List A) (bs : List ℕ) (f : Found A) (us : List A) (rest : List ℕ) → line_from k bs ≡ f
      → ((a : A) (left : List ℕ) → lines_from k n (acc ++ (a ∷ [])) left ≡ found us rest → Read n (acc ++ (a ∷ [])) left us rest)
      → lines_from k (suc n) acc bs ≡ found us rest → Read (suc n) acc bs us rest
  unfolding lines_from lines_text
  entries_at n acc bs (refused m b) us rest e ih g = absurd (no_found (simp e at g))
  entries_at n acc bs (found a left) us rest e ih g =
      let r = ih a left (simp e at g) in
      record {
        es = a ∷ r.es;
        all = r.all ∙ snoc acc a r.es;
        text = entry_text_lem bs a left e ∙ ap (λ (x : List ℕ). entry_text k a ++ x) r.text ∙ sym (append_assoc (entry_text k a) (entries_text k r.es) rest);
        count = ap suc r.count;
        good = (line_inside k bs a left e, r.good);
      }

  entries_none : (acc : List A) (bs : List ℕ) (us : List A) (rest : List ℕ) → lines_from k zero acc bs ≡ found us rest → Read zero acc bs us rest
  unfolding lines_from lines_text
  entries_none acc bs us rest e =
      let q : bs ≡ rest = cc in
      record { es = []; all = cc (append-nil acc); text = q; count = refl; good = tt }

  entries_text_lem : (n : ℕ) (acc : List A) (bs : List ℕ) (us : List A) (rest : List ℕ) → lines_from k n acc bs ≡ found us rest → Read n acc bs us rest
  entries_text_lem zero acc bs us rest e = entries_none acc bs us rest e
  entries_text_lem (suc n) acc bs us rest e =
      entries_at n acc bs (line_from k bs) us rest refl (λ a left f. entries_text_lem n (acc ++ (a ∷ [])) left us rest f) e

-- ---- a section

-- what a section that was read says of its bytes
pub record SectionRead {A : Type 0} (counts : Kind ℕ) (k : Kind A) (bs : List ℕ) (es : List A) (rest : List ℕ) : Type 0 where
  pub text : bs ≡ entry_text counts (length es) ++ (entries_text k es ++ rest)
  pub count : counts.answer (length es) ≡ 0
  pub good : AllInside k es

module _ {A : Type 0} (counts : Kind ℕ) (counted : Lawful counts) (k : Kind A) (law : Lawful k) where
  pub reads_section : (es : List A) (rest : List ℕ) → counts.answer (length es) ≡ 0 → AllInside k es
      → section_from counts k (entry_text counts (length es) ++ (entries_text k es ++ rest)) ≡ found es rest
  unfolding section_from
  reads_section es rest c h = rw (reads_entry counts counted (length es) (entries_text k es ++ rest) c) (reads_entries k law es [] rest h)

  section_at : (bs : List ℕ) (f : Found ℕ) (es : List A) (rest : List ℕ) → line_from counts bs ≡ f → section_from counts k bs ≡ found es rest → SectionRead counts k bs es rest
  unfolding section_from
  section_at bs (refused m b) es rest e g = absurd (no_found (simp e at g))
  section_at bs (found n left) es rest e g =
      let r = entries_text_lem k law n [] left es rest (simp e at g) in
      let w : es ≡ r.es = r.all in
      let q : n ≡ length es = sym (ap length w ∙ r.count) in
      record {
        text = entry_text_lem counts counted bs n left e ∙ ap (λ (m : ℕ). entry_text counts m ++ left) q
            ∙ ap (λ (x : List ℕ). entry_text counts (length es) ++ x) (r.text ∙ ap (λ (l : List A). entries_text k l ++ rest) (sym w));
        count = ap counts.answer (sym q) ∙ line_inside counts bs n left e;
        good = subst (AllInside k) (sym w) r.good;
      }

  pub section_text : (bs : List ℕ) (es : List A) (rest : List ℕ) → section_from counts k bs ≡ found es rest → SectionRead counts k bs es rest
  section_text bs es rest e = section_at bs (line_from counts bs) es rest refl e
