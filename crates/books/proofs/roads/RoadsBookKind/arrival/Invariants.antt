use Rattle.std.proofs.Common.{◌≡◌}
use Rattle.records.specs.Contents.{unnumbered}
use Rattle.records.specs.Reading.{to_come}
use Rattle.records.specs.Rules.{Rising}
use Rattle.books.specs.Roads.{along, road, DepartsBefore}
use Rattle.books.proofs.roads.RoadsBookKind.arrival.Given as goal

abbrev pub invariant-loop-point : goal.invariant-loop-point
invariant-loop-point l =
    (goal.iterator-loop-point).can_next l.point-iterator × (goal.iterator-loop-point).is_finite l.point-iterator
    × DepartsBefore l.before l.tick
    × Rising l.before (unnumbered (to_come l.point-iterator))
    × (along l.before (unnumbered (to_come l.point-iterator)) l.tick ≡ road (unnumbered (to_come l.fn.points)) l.tick)
