use Rattle.notices.proofs.Planning.{none_twice}
use Rattle.notices.proofs.laws.no_closure_twice.Goals as goal

pub returns : goal.returns
returns c = none_twice
