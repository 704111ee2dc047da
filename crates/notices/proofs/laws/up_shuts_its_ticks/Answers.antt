use Rattle.notices.proofs.Planning.{up_shuts}
use Rattle.notices.proofs.laws.up_shuts_its_ticks.Goals as goal

pub returns : goal.returns
returns c = up_shuts
