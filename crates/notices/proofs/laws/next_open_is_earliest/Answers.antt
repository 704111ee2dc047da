use Rattle.notices.proofs.Planning.{next_earliest}
use Rattle.notices.proofs.laws.next_open_is_earliest.Goals as goal

pub returns : goal.returns
returns c = next_earliest
