use Rattle.std.proofs.Common.{◌≡◌, suc, ◌-◌}
use Rattle.notices.specs.Closures.{next_open}
use Rattle.notices.proofs.windows.open_from.Given as goal

abbrev pub invariant-loop-t : goal.invariant-loop-t
invariant-loop-t l = next_open l.closures l.link l.t l.last ≡ next_open l.closures l.link l.tick l.last

abbrev pub decreases-loop-t : goal.decreases-loop-t
decreases-loop-t l = suc l.last - l.t
