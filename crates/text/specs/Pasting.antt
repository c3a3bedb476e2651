-- Texts that go one after the other into a lent buffer, from a place on.
-- Assumes nothing.
use Rattle.std.specs.Prelude.{ℕ, ◌+◌, ◌-◌, ◌≤◌, ◌≡◌, refl, List, [], ◌++◌, length, take, drop}
use Rattle.std.proofs.Common.{arith, sym, ap, subst, ◌∙◌, append-nil, length-append, length-drop, length-take-le}
use Rattle.text.specs.declared.Written.{Written}
use Rattle.text.specs.Text.{over}
use Rattle.text.specs.Line.{written_of}
use Rattle.text.specs.Writing.{pasted, paste_more, pasted_over, part_back, front_kept, length_over, answer_0}

-- the buffer new is old with the text from the place at on, and the text ends before the place end
pub record Pasted (at : ℕ) (text old new : List ℕ) (end : ℕ) : Type 0 where
  pub ends : end ≡ at + length text
  pub buffer : new ≡ pasted at text old
  pub size : length new ≡ length old

pasted_size : (at : ℕ) (text old : List ℕ) → at + length text ≤ length old → length (pasted at text old) ≡ length old
unfolding pasted
pasted_size at text old h =
    let d = length-drop at old in
    length-append (take at old) (over text (drop at old)) ∙ omega (arith, length-take-le at old (omega arith), length_over text (drop at old) (omega arith))

pasted_made : {at end : ℕ} {text old new : List ℕ} → at + length text ≤ length old → end ≡ at + length text → new ≡ pasted at text old → Pasted at text old new end
pasted_made {at} {text = text} {old} h e f = record { ends = e; buffer = f; size = ap length f ∙ pasted_size at text old h }

pub pasted_none : (old : List ℕ) (at : ℕ) → at ≤ length old → Pasted at [] old old at
pasted_none old at h = record {
  ends = omega arith;
  buffer = sym (pasted_over [] old at h ∙ ap (λ (x : List ℕ). over x old) (append-nil (take at old)) ∙ front_kept old at h);
  size = refl;
}

-- a part that was lent from the place at to the end, and came back with the text at its front
pub pasted_part : (text out : List ℕ) (at : ℕ) {n : ℕ} {last : List ℕ} → at + length text ≤ length out → n ≡ length text
    → last ≡ over text (take (length out - at) (drop at out)) → Pasted at text out (take at out ++ (last ++ drop (length out - at) (drop at out))) (at + n)
pasted_part text out at {n} {last} h e f = pasted_made h (ap (λ (k : ℕ). at + k) e) (part_back text out at last (omega arith) f)

-- one text and then another
pub pasted_then : {at j k : ℕ} {a b old mid new : List ℕ} → at ≤ length old → Pasted at a old mid j → Pasted j b mid new k → Pasted at (a ++ b) old new k
pasted_then {at} {j} {k} {a} {b} {old} h p q =
    let n = length-append a b in
    record {
      ends = omega (arith, p.ends, q.ends);
      buffer = q.buffer ∙ ap (pasted j b) p.buffer ∙ paste_more a b old at j h p.ends;
      size = q.size ∙ p.size;
    }

-- the same text in other words
pub pasted_as : {at end : ℕ} {a b old new : List ℕ} → a ≡ b → Pasted at a old new end → Pasted at b old new end
pasted_as {at} {end} {old = old} {new} e p = subst (λ (x : List ℕ). Pasted at x old new end) e p

-- at the front of the buffer
pub pasted_front : {text old new : List ℕ} {end : ℕ} → Pasted 0 text old new end → (end ≡ length text) × (new ≡ over text old)
pasted_front {text} {old} p = (omega (arith, p.ends), p.buffer ∙ pasted_over text old 0 (omega arith))

-- a text that fits is counted whole
pub whole_count : (text old : List ℕ) → length text ≤ length old → {w : Written} → w ≡ written_of text old → w.count ≡ length text
whole_count text old h e = ap (λ (x : Written). x.count) (e ∙ sym (answer_0 text old (over text old) (length text) h refl refl).0)
