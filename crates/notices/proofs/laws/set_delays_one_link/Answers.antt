use Rattle.notices.proofs.Planning.{set_one}
use Rattle.notices.proofs.laws.set_delays_one_link.Goals as goal

pub returns : goal.returns
returns c = set_one
