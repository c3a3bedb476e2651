use Rattle.std.proofs.Common.{◌≡◌, arith}
use Rattle.std.proofs.lemmas.Grind.{common_steps}
use Rattle.laws.specs.Entry.{vec}
use Rattle.instances.proofs.merge.Goals as goal
use Rattle.instances.proofs.merge.Goals.{then-ops-i, else-ops-i}

-- an entry is put in where the operation is of the type
pub loop-i-preserved : goal.loop-i-preserved
loop-i-preserved c =
    elim c.if-ops-i.branch [
      | then-ops-i w ↦
          let of_type : vec c.args.ops.resource.now c.loop-i.i ≡ c.args.kind = w.if-ops-i.true in
          rw w.out-is (grind (arith, common_steps))
      | else-ops-i w ↦ rw w.out-is (grind (arith, common_steps))
    ]
