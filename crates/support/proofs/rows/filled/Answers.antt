-- The front is a list of one number, and the rest is as it was.
use Rattle.std.proofs.Common.{◌≡◌, ℕ, ◌-◌, List, length, get_or, take, drop, replicate, sym, ap, ◌∙◌, arith, rules}
use Rattle.std.proofs.lemmas.List.{length-take-le, get_or_append_left, get_or-append_right, get_or-replicate, get_or-drop}
use Rattle.support.proofs.rows.filled.Goals as goal

pub slice_bounds-fill-end : goal.slice_bounds-fill-end
slice_bounds-fill-end c = sym (length-take-le 128 c.args.next (search rules))

pub returns : goal.returns
returns c =
    let v = c.args.first in
    let next = c.args.next in
    let front : length (take 128 next) ≡ 128 = length-take-le 128 next (search rules) in
    let same : c.fill.new.self ≡ replicate 128 v = c.fill.ensures.after (λ y e. e) ∙ ap (λ (n : ℕ). replicate n v) front in
    let len : length c.fill.new.self ≡ 128 = c.fill.ensures.len ∙ front in
    record {
      low = λ k h. get_or_append_left c.fill.new.self (drop 128 next) 0 k (omega arith) ∙ ap (λ (l : List ℕ). get_or l k 0) same ∙ get_or-replicate 128 k v 0 h;
      high = λ k h. get_or-append_right c.fill.new.self (drop 128 next) 128 k 0 len h ∙ get_or-drop 128 next (k - 128) 0 ∙ ap (λ (j : ℕ). get_or next j 0) (omega arith);
    }
