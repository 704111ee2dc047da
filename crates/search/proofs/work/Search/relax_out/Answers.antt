use Rattle.std.proofs.Common.{Some, sym, refl, ap, ◌∙◌}
use Rattle.search.specs.declared.links.Side.TheVariants.{Out}
use Rattle.search.proofs.Tables.{arrival_some, label_time}
use Rattle.search.proofs.Walks.{comes}
use Rattle.search.proofs.Relaxing.{walk_start, walk_more}
use Rattle.search.proofs.work.Search.relax_out.Goals as goal

pub loop-link-init : goal.loop-link-init
loop-link-init g c =
    let same = c.into_iter-link-iterator.ensures.into_iter_gives in
    let links = c.new-link-items.ensures in
    record {
      over = ap (λ l. g.N.Network.meaning l.net.now) same ∙ ap (λ r. g.N.Network.meaning r.now) links.network;
      out = ap (λ l. l.side) same ∙ links.side;
      stays = (refl, refl, refl, refl, refl);
      walking = walk_start (ap (λ l. l.next) same ∙ links.first) c.requires.place (arrival_some _ _ (sym c.arrival.ensures ∙ c.in-Some.is)) c.requires.taken;
    }

pub loop-link-preserved : goal.loop-link-preserved
loop-link-preserved g c =
    let laws = g.met.N.Network.lawful c.args.self.now.net.now in
    let in_time = label_time c.args.self.now.labels.now c.args.place (sym c.arrival.ensures ∙ c.in-Some.is) c.requires.early in
    let was = c.loop-link.invariant in
    let step = c.in-Some-link.ensures.steps in
    let come = comes g.N.Network.meaning Out _ _ (Some c.in-Some-link.link) was.over was.out step in
    let now = c.relax.ensures.stays in
    record {
      over = ap (λ r. g.N.Network.meaning r.now) step.0 ∙ was.over;
      out = step.1 ∙ was.out;
      stays = (now.0 ∙ was.stays.0, now.1 ∙ was.stays.1, now.2 ∙ was.stays.2, now.3 ∙ was.stays.3, now.4 ∙ was.stays.4);
      walking = walk_more laws in_time was.walking come.0 come.1 (rw (was.stays.0, was.stays.1) at c.relax.ensures.step) come.2;
    }
