use Rattle.marks.proofs.Estimating.{marks_fit}
use Rattle.marks.proofs.marks_are_fit.Goals as goal

pub returns : goal.returns
returns c = marks_fit
