use Rattle.std.proofs.Common.{◌∙◌, arith}
use Rattle.std.proofs.lemmas.List.{set-get_or}
use Rattle.search.proofs.RoadWalks.{writing_stuck, writing_more, writing_all}
use Rattle.search.proofs.roads.write_roads.Goals as goal

pub returns-in_default : goal.returns-in_default
returns-in_default g c = λ back b e.
    set-get_or c.loop-cell.list c.loop-cell.cell-index 0 ∙ writing_stuck _ _ _ _ _ c.loop-cell.invariant (omega arith) _ c.in_default.is c.next.ensures.steps back b (omega arith)

pub loop-cell-preserved : goal.loop-cell-preserved
loop-cell-preserved g c = writing_more _ _ _ _ _ c.loop-cell.invariant (omega arith) _ c.in-Some.ensures.steps

pub returns : goal.returns
returns g c = λ back b e. writing_all _ _ _ _ _ c.loop-cell.invariant (omega arith) back b (omega arith)
