-- Reading, as the code meets it: one law for each way that a line, a turn of a loop or a section can go.
-- Assumes nothing.
use Rattle.std.specs.Prelude.{◌≡◌, refl, List, [], ◌∷◌, ◌++◌, ℕ, zero, suc, ◌+◌, ◌-◌, ◌≤◌, ◌<◌, T, ℤ, pos, nat_abs, length, drop, take, get_or, set, replicate}
use Rattle.std.proofs.Common.{sym, ap, subst, ◌∙◌, append_assoc, add-one, length-append, length-set, take-suc-set, length-take-le, Fits}
use Rattle.std.proofs.Math.Nat.{sub-zero}
use native.Mathlib.Omega.{arith}
use Rattle.std.proofs.lemmas.List.{length-replicate}
use Rattle.std.proofs.Math.Seq.{set-append_seam}
use Rattle.std.specs.Int.Signed.{non_neg}
use Rattle.std.specs.Int.{w64}
use Rattle.scan.specs.declared.Line.{Line}
use Rattle.scan.specs.Line.{Fields, fields, bad, line_of, LineFits}
use Rattle.scan.specs.Values as values
use Rattle.scan.specs.Values.{bits, bits_at}
use Rattle.sheet.specs.Ranges.{Inside}
use Rattle.sheet.specs.AnswerLaws.{number_judged}
use Rattle.sheet_lines.specs.Kinds.{number_kind}
use Rattle.sheet_lines.specs.Found.{Found, found, refused, judged, Kind, line_from, lines_from, section_from}
use Rattle.sheet_lines.specs.Seen.{seen, Reads, Filled, Refuses, Entries}

-- ---- one line

judged_no : {A : Type 0} (n : ℕ) (a : A) (bs rest : List ℕ) → (n ≡ 0 → ⊥) → judged n a bs rest ≡ refused n bs
judged_no zero a bs rest h = absurd (h refl)
judged_no (suc n) a bs rest h = refl

pub seen_zero : {A : Type 0} (s : List ℕ) (a : A) (next : ℕ) → seen s 0 a next ≡ found a (drop next s)
unfolding seen
seen_zero s a next = refl

pub seen_other : {A : Type 0} (s : List ℕ) (answer : ℕ) (a : A) (next : ℕ) → (answer ≡ 0 → ⊥) → seen s answer a next ≡ refused answer (drop next s)
unfolding seen
seen_other s answer a next n = judged_no answer a (drop next s) (drop next s) n

line_bad : {A : Type 0} (k : Kind A) (bs : List ℕ) → line_of k.key k.count k.minus bs ≡ bad → line_from k bs ≡ refused 2 bs
unfolding line_from
line_bad k bs e = rw e

pub line_out : {A : Type 0} (k : Kind A) (bs : List ℕ) (vs : List ℤ) (rest : List ℕ) → line_of k.key k.count k.minus bs ≡ fields vs rest → (k.answer (k.make vs) ≡ 0 → ⊥)
    → line_from k bs ≡ refused (k.answer (k.make vs)) bs
unfolding line_from
line_out k bs vs rest e f = rw e (judged_no (k.answer (k.make vs)) (k.make vs) bs rest f)

pub line_in_lem : {A : Type 0} (k : Kind A) (bs : List ℕ) (vs : List ℤ) (rest : List ℕ) → line_of k.key k.count k.minus bs ≡ fields vs rest → k.answer (k.make vs) ≡ 0 → line_from k bs ≡ found (k.make vs) rest
unfolding line_from
line_in_lem k bs vs rest e f = rw (e, f)

-- no line at a place
pub malformed : {A : Type 0} (k : Kind A) (s : List ℕ) (at : ℕ) → bad ≡ line_of k.key k.count k.minus (drop at s) → at ≤ length s → (none : A) → Reads s 2 none at (line_from k (drop at s))
malformed k s at e h none = record {
  same = seen_other s 2 none at (λ z. absurd (omega arith)) ∙ sym (line_bad k (drop at s) (sym e));
  within = h;
}

-- a line that `scan` has read at a place, and its entry
module _ {A : Type 0} (k : Kind A) (s : List ℕ) (at : ℕ) (l : Line) (e₀ : fields (take k.count l.values) (drop l.next s) ≡ line_of k.key k.count k.minus (drop at s)) (fits : LineFits s k.count l) where
  -- a number is read back from its bits
  pub value_at_lem : (i : ℕ) → i < k.count → bits l i ≡ get_or (take k.count l.values) i (pos 0)
  value_at_lem i h = bits_at fits i h

  -- its cast to an unsigned number
  pub cast_at : (i : ℕ) → (i ≡ k.minus → ⊥) → T (non_neg (bits l i)) × Fits w64 (nat_abs (bits l i))
  cast_at i n = values.cast_at k.key k.count k.minus (drop at s) s l e₀ fits i n

  module _ (a : A) (made : a ≡ k.make (take k.count l.values)) where
    pub refuses : {answer : ℕ} → at ≤ length s → (none : A) → answer ≡ k.answer a → (answer ≡ 0 → ⊥) → Reads s answer none at (line_from k (drop at s))
    refuses {answer} h none e n =
        let q : answer ≡ k.answer (k.make (take k.count l.values)) = e ∙ ap k.answer made in
        record {
          same = seen_other s answer none at n ∙ ap (λ (m : ℕ). refused m (drop at s)) q ∙ sym (line_out k (drop at s) _ _ (sym e₀) (λ z. n (q ∙ z)));
          within = h;
        }

    pub entry : {answer : ℕ} → answer ≡ k.answer a → answer ≡ 0 → Reads s 0 a l.next (line_from k (drop at s))
    entry e z = record {
      same = seen_zero s a l.next ∙ ap (λ (x : A). found x (drop l.next s)) made ∙ sym (line_in_lem k (drop at s) _ _ (sym e₀) (ap k.answer (sym made) ∙ sym e ∙ z));
      within = fits.next;
    }

-- ---- what was found

pub no_found : {A : Type 0} {n : ℕ} {bs : List ℕ} {a : A} {rest : List ℕ} → refused n bs ≡ found a rest → ⊥
no_found e = let z : ◌≡◌ {A = ℕ} 0 1 = cc in omega arith

pub judged_found : {A : Type 0} (n : ℕ) (a : A) (bs rest : List ℕ) {b : A} {left : List ℕ} → judged n a bs rest ≡ found b left → (n ≡ 0) × (◌≡◌ {A = Found A} (found a rest) (found b left))
judged_found zero a bs rest e = (refl, e)
judged_found (suc n) a bs rest e = absurd (no_found e)

inside_at : {A : Type 0} (k : Kind A) (bs : List ℕ) (n : Fields) (a : A) (rest : List ℕ) → line_of k.key k.count k.minus bs ≡ n → line_from k bs ≡ found a rest → k.answer a ≡ 0
unfolding line_from
inside_at k bs bad a rest e f = absurd (no_found (simp e at f))
inside_at {A} k bs (fields vs left) a rest e f =
    let j = judged_found (k.answer (k.make vs)) (k.make vs) bs left (simp e at f) in
    let g : ◌≡◌ {A = Found A} (found (k.make vs) left) (found a rest) = j.1 in
    let q : k.make vs ≡ a = cc in
    ap k.answer (sym q) ∙ j.0

-- an entry that was found answers 0
pub line_inside : {A : Type 0} (k : Kind A) (bs : List ℕ) (a : A) (rest : List ℕ) → line_from k bs ≡ found a rest → k.answer a ≡ 0
line_inside k bs a rest e = inside_at k bs (line_of k.key k.count k.minus bs) a rest refl e

module _ {A : Type 0} {s : List ℕ} {answer : ℕ} {a : A} {next : ℕ} {want : Found A} (r : Reads s answer a next want) where
  pub is_found : answer ≡ 0 → want ≡ found a (drop next s)
  is_found z = sym r.same ∙ ap (λ (n : ℕ). seen s n a next) z ∙ seen_zero s a next

  pub is_refused : (answer ≡ 0 → ⊥) → want ≡ refused answer (drop next s)
  is_refused n = sym r.same ∙ seen_other s answer a next n

-- a refusal is handed on
hands_on : {A : Type 0} {n at size : ℕ} {d : A} {answer count : ℕ} {array : List A} {next : ℕ} (s : List ℕ) {want : Found (List A)}
    → Refuses n at size d answer count array next → at ≤ length s → (n ≡ 0 → ⊥) → want ≡ refused n (drop at s) → Entries size d s answer count array next want
hands_on {answer = answer} {count = count} {array = array} {next = next} s r l h w = (
  record {
    same = seen_other s answer (take count array) next (λ q. h (sym r.answered ∙ q)) ∙ (λ i. refused (r.answered i) (drop (r.there i) s)) ∙ sym w;
    within = omega (arith, r.there);
  },
  r.empty,
)

-- ---- a loop over lines

-- what holds before the line i: the entries so far are in the array, and what is to come is the rest of what was asked
pub record Turn {A : Type 0} (k : Kind A) (size : ℕ) (d : A) (s : List ℕ) (at count : ℕ) (es : List A) (p i : ℕ) : Type 0 where
  pub upto : i ≤ count
  pub within : p ≤ length s
  pub filled : Filled size d i es
  pub same : lines_from k (count - i) (take i es) (drop p s) ≡ lines_from k count [] (drop at s)

pub start : {A : Type 0} (k : Kind A) (size : ℕ) (d : A) (s : List ℕ) (at count : ℕ) → at ≤ length s → Turn k size d s at count (replicate size d) at 0
start k size d s at count h = record {
  upto = omega arith;
  within = h;
  filled = record { long = length-replicate size d; few = omega arith; rest = ap (λ (m : ℕ). replicate m d) (sym (sub-zero size)) };
  same = rw (sub-zero count);
}

module _ {A : Type 0} {k : Kind A} {size : ℕ} {d : A} {s : List ℕ} {at count : ℕ} {es : List A} {p i : ℕ} (t : Turn k size d s at count es p i) where
  module _ (h : i < count) where
    left : count - i ≡ suc (count - (i + 1))
    left = omega arith

    lines_stop : (n : ℕ) (bs : List ℕ) → line_from k (drop p s) ≡ refused n bs → lines_from k (count - i) (take i es) (drop p s) ≡ refused n bs
    unfolding lines_from
    lines_stop n bs e = rw (left, e)

    lines_more : (a : A) (rest : List ℕ) → line_from k (drop p s) ≡ found a rest → lines_from k (count - i) (take i es) (drop p s) ≡ lines_from k (count - (i + 1)) (take i es ++ (a ∷ [])) rest
    unfolding lines_from
    lines_more a rest e = rw (left, e)

    -- an array with one entry more
    filled_more : (a : A) → i < size → Filled size d (i + 1) (set es i a)
    filled_more a l =
        let n : length es ≡ size = t.filled.long in
        let b : length (take i es) ≡ i = length-take-le i es (omega arith) in
        let z : size - length (take i es) ≡ suc (size - (i + 1)) = omega arith in
        let w : es ≡ take i es ++ (d ∷ replicate (size - (i + 1)) d) = t.filled.rest ∙ ap (λ (m : ℕ). take i es ++ replicate m d) z in
        let q : set es i a ≡ take i es ++ (a ∷ replicate (size - (i + 1)) d) =
        ap (λ (l : List A). set l i a) w ∙ ap (λ (m : ℕ). set (take i es ++ (d ∷ replicate (size - (i + 1)) d)) m a) (sym b) ∙ set-append_seam (take i es) d (replicate (size - (i + 1)) d) a in
        let r : take (i + 1) (set es i a) ≡ take i es ++ (a ∷ []) = rw add-one (take-suc-set es i a (omega arith)) in
        let m : size - length (take i es ++ (a ∷ [])) ≡ size - (i + 1) = simp length-append (omega arith) in
        record {
          long = length-set es i a ∙ n;
          few = omega arith;
          rest = q ∙ sym (append_assoc (take i es) (a ∷ []) (replicate (size - (i + 1)) d)) ∙ ap (λ (j : ℕ). (take i es ++ (a ∷ [])) ++ replicate j d) (sym m)
              ∙ ap (λ (l : List A). l ++ replicate (size - length l) d) (sym r);
        }

    module _ {answer : ℕ} {a : A} {next : ℕ} (r : Reads s answer a next (line_from k (drop p s))) where
      pub stops : {refusal count' : ℕ} {array : List A} {next' : ℕ} → (answer ≡ 0 → ⊥) → Refuses answer next size d refusal count' array next'
          → Entries size d s refusal count' array next' (lines_from k count [] (drop at s))
      stops n f = hands_on s f r.within n (sym t.same ∙ lines_stop answer (drop next s) (is_refused r n))

      pub turn : count ≤ size → answer ≡ 0 → Turn k size d s at count (set es i a) next (i + 1)
      turn c z =
          let n : length es ≡ size = t.filled.long in
          let q : take (i + 1) (set es i a) ≡ take i es ++ (a ∷ []) = rw add-one (take-suc-set es i a (omega arith)) in
          record {
            upto = omega arith;
            within = r.within;
            filled = filled_more a (omega arith);
            same = rw q (sym (lines_more a (drop next s) (is_found r z)) ∙ t.same);
          }

  lines_end : i ≡ count → lines_from k (count - i) (take i es) (drop p s) ≡ found (take count es) (drop p s)
  unfolding lines_from
  lines_end h =
      let q : count - i ≡ 0 = omega arith in
      rw (q, h)

  pub done : count ≤ i → Entries size d s 0 count es p (lines_from k count [] (drop at s))
  done h =
      let n : i ≡ count = omega (arith, t.upto) in (
        record { same = seen_zero s (take count es) p ∙ sym (lines_end n) ∙ t.same; within = t.within },
        subst (λ (m : ℕ). Filled size d m es) n t.filled,
      )

-- ---- a section: its count, then its lines

section_refused : {A : Type 0} (counts : Kind ℕ) (k : Kind A) (bs : List ℕ) (n : ℕ) (rest : List ℕ) → line_from counts bs ≡ refused n rest → section_from counts k bs ≡ refused n rest
unfolding section_from
section_refused counts k bs n rest e = rw e

section_lines : {A : Type 0} (counts : Kind ℕ) (k : Kind A) (bs : List ℕ) (n : ℕ) (rest : List ℕ) → line_from counts bs ≡ found n rest → section_from counts k bs ≡ lines_from k n [] rest
unfolding section_from
section_lines counts k bs n rest e = rw e

module _ {A : Type 0} {size : ℕ} {d : A} (counts : Kind ℕ) (k : Kind A) {s : List ℕ} (bs : List ℕ) {answer n next : ℕ} (r : Reads s answer n next (line_from counts bs)) where
  pub count_refused : {refusal count : ℕ} {array : List A} {next' : ℕ} → (answer ≡ 0 → ⊥) → Refuses answer next size d refusal count array next'
      → Entries size d s refusal count array next' (section_from counts k bs)
  count_refused h f = hands_on s f r.within h (section_refused counts k bs answer (drop next s) (is_refused r h))

  pub section_read : {answer' count : ℕ} {array : List A} {next' : ℕ} → answer ≡ 0 → Entries size d s answer' count array next' (lines_from k n [] (drop next s))
      → Entries size d s answer' count array next' (section_from counts k bs)
  section_read {answer'} {count} {array} {next'} z e = (
    subst (Reads s answer' (take count array) next') (sym (section_lines counts k bs n (drop next s) (is_found r z))) e.0,
    e.1,
  )

-- a count that was read is in the range of its field
pub count_inside : (key : List ℕ) (field : ℕ) {s : List ℕ} (bs : List ℕ) {answer n next : ℕ} → Reads s answer n next (line_from (number_kind key field) bs) → answer ≡ 0 → Inside field (pos n)
count_inside key field bs {n = n} r z = (number_judged field n).accepted (line_inside (number_kind key field) bs n _ (is_found r z))
