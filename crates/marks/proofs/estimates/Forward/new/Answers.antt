use Rattle.std.proofs.lemmas.List.Elements.{All-take}
use Rattle.marks.specs.Columns.{IsSmall}
use Rattle.marks.proofs.Estimating.{lead_small}
use Rattle.marks.proofs.estimates.Forward.new.Goals as goal

pub invariant_of-result : goal.invariant_of-result
invariant_of-result c = record { small = λ v. rw (← c.marks.view_is) (lead_small _ (All-take IsSmall c.marks.inside.count c.marks.inside.columns c.marks.invariant.2) _ _) }
