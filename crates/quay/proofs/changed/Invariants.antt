use Rattle.std.proofs.Common.{◌≡◌, drop}
use Rattle.quay.specs.Changes.{changed}
use Rattle.quay.proofs.changed.Given as goal

abbrev pub invariant-loop-at : goal.invariant-loop-at
invariant-loop-at l = changed l.changed.items (drop l.at-index l.changes) ≡ changed l.words l.changes
