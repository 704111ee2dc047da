use Rattle.std.proofs.Common.{refl, arith, replicate}
use Rattle.std.proofs.lemmas.List.Elements.{All-replicate}
use Rattle.marks.specs.Columns.{IsSmall}
use Rattle.marks.proofs.Offering.{small_zeros}
use Rattle.marks.proofs.marks.Marks.new.Goals as goal

pub invariant_of-result : goal.invariant_of-result
invariant_of-result c = (omega arith, refl, All-replicate IsSmall 4 (replicate 1024 0) (small_zeros 1024))
