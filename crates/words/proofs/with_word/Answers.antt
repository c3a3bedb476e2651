-- A word that is neither argument is strange.
use Rattle.std.proofs.Common.{sym}
use Rattle.words.specs.Laws.{other_word}
use Rattle.words.proofs.with_word.Goals as goal

pub returns : goal.returns
returns c = sym (other_word c.args.given _ (sym c.in_default.ensures) (sym c.in_default-number_after.ensures))
