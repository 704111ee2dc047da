use Rattle.std.proofs.Common.{suc, ap, ◌∙◌, arith}
use Rattle.notices.specs.Closures.{shut, open_below}
use Rattle.notices.proofs.Shutting.{last_before, last_here}
use Rattle.notices.proofs.windows.open_until.Goals as goal

pub returns-in_err-t : goal.returns-in_err-t
returns-in_err-t c =
    let before = last_before c.args.closures.now c.args.link c.loop-closure.t c.in-Some.closure c.in-Some.ensures in
    c.from_residual.ensures ∙ ap (open_below (shut c.args.closures.now c.args.link)) {x = 0} (omega (arith, c.in_err-t.ensures)) ∙ before.1 ∙ c.loop-closure.invariant

pub loop-closure-smaller : goal.loop-closure-smaller
loop-closure-smaller c = omega (arith, c.in_ok-t.ensures, (last_before c.args.closures.now c.args.link c.loop-closure.t c.in-Some.closure c.in-Some.ensures).0)

pub loop-closure-preserved : goal.loop-closure-preserved
loop-closure-preserved c =
    let before = last_before c.args.closures.now c.args.link c.loop-closure.t c.in-Some.closure c.in-Some.ensures in
    ap (open_below (shut c.args.closures.now c.args.link)) {x = suc c.in_ok-t.t} (omega (arith, c.in_ok-t.ensures)) ∙ before.1 ∙ c.loop-closure.invariant

pub returns : goal.returns
returns c = last_here c.args.closures.now c.args.link c.loop-closure.t c.in_default.ensures ∙ c.loop-closure.invariant
