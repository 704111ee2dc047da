use Rattle.std.proofs.Common.{◌≡◌}
use Rattle.records.specs.Contents.{unnumbered}
use Rattle.records.specs.Reading.{to_come}
use Rattle.records.specs.Rules.{Rising}
use Rattle.books.specs.Roads.{back_along, road_back, ArrivesBy}
use Rattle.books.proofs.roads.RoadsBookKind.latest_departure.Given as goal

abbrev pub invariant-loop-point : goal.invariant-loop-point
invariant-loop-point l =
    (goal.iterator-loop-point).can_next l.point-iterator × (goal.iterator-loop-point).is_finite l.point-iterator
    × ArrivesBy l.before l.tick
    × Rising l.before (unnumbered (to_come l.point-iterator))
    × (back_along l.before (unnumbered (to_come l.point-iterator)) l.tick ≡ road_back (unnumbered (to_come l.fn.points)) l.tick)
