use Rattle.records.specs.Faults.{fault_by}
use Rattle.records.specs.Reading.{book_of}
use Rattle.records.proofs.Firsts.{CleanBelow}
use Rattle.records.proofs.records.Records.first.Given as goal

abbrev pub invariant-loop-number : goal.invariant-loop-number
invariant-loop-number l = CleanBelow (fault_by (book_of l.self) l.check) l.count l.number
