use Rattle.notices.proofs.Planning.{down_takes}
use Rattle.notices.proofs.laws.down_takes_one_closure.Goals as goal

pub returns : goal.returns
returns c = down_takes
