use Rattle.network.proofs.Same.{same_one}
use Rattle.network.proofs.same_meaning_is_one.Goals as goal

pub returns : goal.returns
returns c = same_one
