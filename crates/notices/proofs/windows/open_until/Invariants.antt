use Rattle.std.proofs.Common.{◌≡◌}
use Rattle.notices.specs.Closures.{last_open}
use Rattle.notices.proofs.windows.open_until.Given as goal

abbrev pub invariant-loop-closure : goal.invariant-loop-closure
invariant-loop-closure l = last_open l.closures l.link l.t ≡ last_open l.closures l.link l.tick

abbrev pub decreases-loop-closure : goal.decreases-loop-closure
decreases-loop-closure l = l.t
