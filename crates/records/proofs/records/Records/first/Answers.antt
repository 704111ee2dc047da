use Rattle.std.proofs.Common.{sym, ◌∙◌}
use Rattle.records.specs.Faults.{fault_by}
use Rattle.records.specs.Reading.{book_of}
use Rattle.records.proofs.Firsts.{clean_more}
use Rattle.records.proofs.records.Records.first.Goals as goal

pub loop-number-preserved : goal.loop-number-preserved
loop-number-preserved c = clean_more (fault_by (book_of c.args.self.now) c.args.check) c.count-count.result c.loop-number.number c.loop-number-test.true c.loop-number.invariant (sym c.fault.ensures ∙ c.in_default.is)
