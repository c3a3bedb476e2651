use Rattle.std.proofs.Common.{◌≡◌, rules, arith, pos, to_z, of_z}
use Rattle.std.specs.Int.{w32}
use Rattle.laws.specs.Entry.{at}
use Rattle.laws.specs.Store.{store_more}
use Rattle.walks.specs.Rounds.{relaxed_z}
use Rattle.walks.proofs.table.relaxed_row.Goals as goal

pub loop-v-preserved : goal.loop-v-preserved
loop-v-preserved c =
    let a = c.args in
    let v = c.loop-v.v in
    let x = to_z w32 (of_z w32 c.relaxed.result) in
    let t = to_z w32 (of_z w32 a.weight) in
    let here : x ≡ relaxed_z (at a.row v) (at a.by v) t = search rules in
    (search rules, store_more (λ k z. z ≡ relaxed_z (at a.row k) (at a.by k) t) c.loop-v.place-items v x (pos 0) (omega arith) here c.loop-v.invariant.1)
