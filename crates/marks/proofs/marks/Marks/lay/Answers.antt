use Rattle.std.proofs.Common.{length, sym, ap, subst, arith, length-set}
use Rattle.std.proofs.lemmas.List.{length-take-le}
use Rattle.std.proofs.lemmas.List.Elements.{All-set}
use Rattle.marks.specs.Columns.{IsSmall}
use Rattle.marks.proofs.Offering.{small_kept}
use Rattle.marks.proofs.marks.Marks.lay.Goals as goal

pub invariant_of-self : goal.invariant_of-self
invariant_of-self c =
    let m = c.self.inside in
    let held = length-take-le m.count m.columns (omega (arith, c.self.invariant.0, c.self.invariant.1)) in
    let small = subst IsSmall (sym c.padded.ensures) (small_kept c.args.column.now c.requires.small) in
    (omega (arith, held, ap length c.self.view_is, c.requires.room), simp length-set (c.self.invariant.1), All-set IsSmall m.columns m.count c.padded.result small c.self.invariant.2)
