-- Once more after the first time is twice or more.
use Rattle.std.proofs.Common.{◌≡◌, refl}
use Rattle.words.specs.Arguments.{once_more}
use Rattle.words.specs.declared.Times.{Times}
use Rattle.words.specs.declared.Times.TheVariants.{Never, Once, Again}
use Rattle.words.proofs.once_more.Goals as goal

again : (t : Times) → (t ≡ Never → ⊥) → Again ≡ once_more t
again Never n = absurd (n refl)
again Once n = refl
again Again n = refl

pub returns-in_default : goal.returns-in_default
returns-in_default c = again _ c.in_default.not-Never
