use Rattle.std.proofs.Common.{◌≡◌}
use Rattle.records.specs.Reading.{book_of, to_come}
use Rattle.records.specs.Faults.{walk_fault, times_fault}
use Rattle.records.proofs.records.Records.times_fault.Given as goal

abbrev pub invariant-loop-at : goal.invariant-loop-at
invariant-loop-at l =
    (goal.iterator-loop-at).can_next l.at-iterator × (goal.iterator-loop-at).is_finite l.at-iterator
    × (walk_fault (book_of l.self) l.number l.before (to_come l.at-iterator) ≡ times_fault (book_of l.self) l.number)
