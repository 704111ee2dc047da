use Rattle.std.proofs.Common.{sym, ap, ◌∙◌, subst, arith}
use Rattle.search.specs.Labels.{Found}
use Rattle.search.proofs.Turns.{sound_early, turn_falls, turn_state, past_settled, empty_settled, found}
use Rattle.search.proofs.work.Search.run.Goals as goal
use Rattle.search.proofs.work.Search.run.Goals.{in-Some+then-is_past, in_default}

pub relax_out-requires-clause-early : goal.relax_out-requires-clause-early
relax_out-requires-clause-early g c =
    let was = c.loop-key.invariant.state in
    let keyed = was.keyed _ _ c.in-Some.ensures.taken.best.there in
    rw c.loop-key.invariant.stays.0 (omega (arith, sound_early (g.met.N.Network.lawful c.args.self.now.net.now) _ c.requires.tick was.sound _ keyed.place.high))

pub loop-key-smaller : goal.loop-key-smaller
loop-key-smaller g c =
    let s = c.loop-key.invariant.stays in
    turn_falls c.loop-key.invariant.state c.in-Some.ensures.taken (rw (s.0, s.1) at c.relax_out.ensures.walk)

pub loop-key-preserved : goal.loop-key-preserved
loop-key-preserved g c =
    let was = c.loop-key.invariant.stays in
    let now = c.relax_out.ensures.stays in
    record {
      stays = (now.0 ∙ was.0, now.1 ∙ was.1, now.2 ∙ was.2, now.3 ∙ was.3, now.4 ∙ (c.in-Some.ensures.capacity ∙ was.4));
      state = turn_state c.loop-key.invariant.state c.in-Some.ensures.taken (rw (was.0, was.1) at c.relax_out.ensures.walk);
    }

pub returns-clause-found : goal.returns-clause-found
returns-clause-found g c even =
    let laws = g.met.N.Network.lawful c.args.self.now.net.now in
    let was = c.loop-key.invariant.state in
    elim c.match-take.branch [
      | in-Some+then-is_past w ↦ subst (Found (g.N.Network.meaning c.args.self.now.net.now) (g.E.Estimate.ahead c.args.self.now.estimate.now) c.args.start c.args.tick c.args.goal) (sym (ap (λ s. s.1.1.1.1.0.now) w.self-is))
          (found laws _ was (past_settled was w.in-Some.ensures.taken.best _ (w.is_past.ensures.yes w.if-is_past.true)) even)
      | in_default w ↦ subst (Found (g.N.Network.meaning c.args.self.now.net.now) (g.E.Estimate.ahead c.args.self.now.estimate.now) c.args.start c.args.tick c.args.goal) (sym (ap (λ s. s.1.1.1.1.0.now) w.self-is))
          (found laws _ was (empty_settled was w.in_default.ensures.taken.0 _) even)
    ]
