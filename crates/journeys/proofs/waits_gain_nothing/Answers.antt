-- The proof that waits gain nothing.
use Rattle.std.proofs.Common.{arith}
use Rattle.journeys.proofs.Rides.{no_wait}
use Rattle.journeys.proofs.waits_gain_nothing.Goals as goal

pub returns : goal.returns
returns c net law s t v a roads j = no_wait net law s t v a t roads j (omega arith)
