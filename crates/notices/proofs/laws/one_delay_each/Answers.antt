use Rattle.notices.proofs.Planning.{one_each}
use Rattle.notices.proofs.laws.one_delay_each.Goals as goal

pub returns : goal.returns
returns c = one_each
