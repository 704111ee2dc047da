use Rattle.marks.proofs.Offering.{padded_is}
use Rattle.marks.proofs.columns.padded.Goals as goal

pub returns : goal.returns
returns c = padded_is c.args.column.now c.copy_from_slice.new.self c.copy_from_slice.ensures.after
