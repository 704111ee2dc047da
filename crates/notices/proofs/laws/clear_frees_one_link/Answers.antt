use Rattle.notices.proofs.Planning.{clear_one}
use Rattle.notices.proofs.laws.clear_frees_one_link.Goals as goal

pub returns : goal.returns
returns c = clear_one
