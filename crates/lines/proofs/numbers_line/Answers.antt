-- From the law of a list that is another one, number by number.
use Rattle.std.proofs.Common.{rules, ◌≡◌, pos, length}
use Rattle.sizes.specs.Sizes.{most_operations}
use Rattle.lines.specs.Numbers.{numbers_text}
use Rattle.lines.proofs.numbers_line.Goals as goal

pub returns : goal.returns
returns c =
    let a = c.args in
    let m = c.map.ensures.items in
    let n : length a.numbers ≡ most_operations = search rules in
    numbers_text a.key a.count a.numbers c.map.result n m.long (λ k h. let r = m.at k 0 (pos 0) h in search rules)
