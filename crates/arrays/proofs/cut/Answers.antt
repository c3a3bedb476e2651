use Rattle.std.proofs.Common.{◌≡◌, List, ℕ, ◌+◌, ◌-◌, ◌≤◌, ◌++◌, length, drop, subst, ◌∙◌, arith, get_or-append-add, get_or-drop}
use Rattle.std.proofs.lemmas.Grind.{common_steps}
use Rattle.sizes.specs.Sizes.{most_operations}
use Rattle.laws.specs.Entry.{vec, zeros}
use Rattle.laws.specs.Store.{all_zero}
use Rattle.arrays.proofs.cut.Goals as goal

-- past e numbers stands 0
past : (ys : List ℕ) (e i : ℕ) → length ys ≡ e → e ≤ i → vec (ys ++ drop e zeros) i ≡ 0
past ys e i l h =
    let there : length ys + (i - e) ≡ i = omega (arith, l, h) in
    subst (λ (k : ℕ). vec (ys ++ drop e zeros) k ≡ 0) there
    (get_or-append-add ys (drop e zeros) (i - e) 0 ∙ get_or-drop e zeros (i - e) 0 ∙ all_zero most_operations (e + (i - e)))

-- past the first n, which are copied, stands 0
pub returns : goal.returns
returns c =
    let end = c.min-end.result in
    let long : length c.copy_from_slice.new.self ≡ end = grind (arith, common_steps) in record {
      back = record {
        rest = λ i h. past c.copy_from_slice.new.self end i long (omega (arith, c.min-end.ensures, h));
        whole = grind (arith, common_steps);
      };
      front = λ i h. grind (arith, common_steps);
    }
