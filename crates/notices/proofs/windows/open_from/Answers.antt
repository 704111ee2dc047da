use Rattle.std.proofs.Common.{◌∙◌, arith}
use Rattle.notices.proofs.Shutting.{next_after, next_here}
use Rattle.notices.proofs.windows.open_from.Goals as goal

pub returns-in-None : goal.returns-in-None
returns-in-None c = next_here c.args.closures.now c.args.link c.loop-t.t c.args.last (omega arith) c.in-None.ensures ∙ c.loop-t.invariant

pub loop-t-smaller : goal.loop-t-smaller
loop-t-smaller c = omega (arith, (next_after c.args.closures.now c.args.link c.loop-t.t c.in-Some.closure c.args.last c.in-Some.ensures).0)

pub loop-t-preserved : goal.loop-t-preserved
loop-t-preserved c = (next_after c.args.closures.now c.args.link c.loop-t.t c.in-Some.closure c.args.last c.in-Some.ensures).1 ∙ c.loop-t.invariant
