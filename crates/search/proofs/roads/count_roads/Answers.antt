use Rattle.std.proofs.Common.{refl}
use Rattle.std.proofs.lemmas.Iterator.Consumers.{count_from_yields_List}
use Rattle.search.proofs.RoadWalks.{begun, YieldsList-from_back}
use Rattle.search.proofs.roads.count_roads.Goals as goal

pub returns : goal.returns
returns g c = λ back b.
    count_from_yields_List c.new.result _ c.count.ensures.ran
    (YieldsList-from_back _ _ _ _ _ b c.new.result (begun _ _ (g.met.N.Network.lawful c.args.net.now) c.args.labels.now c.args.start c.requires.labelled.there c.new.ensures refl refl))
