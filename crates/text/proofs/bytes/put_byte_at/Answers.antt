use Rattle.std.proofs.Common.{rules, refl}
use Rattle.text.specs.Writing.{byte_pasted}
use Rattle.text.proofs.bytes.put_byte_at.Goals as goal

pub returns : goal.returns
returns c = (refl, byte_pasted _ _ _ (search rules))
