-- Free flow: every link takes its floor at every tick.
use Rattle.std.specs.Prelude.{cond, None}
use Rattle.network.specs.Meaning.{Meaning, among}
use Rattle.layers.specs.Retimed.{Arrivals, later}

abbrev pub free_flow : Meaning → Arrivals
free_flow net k t = cond (among k net.links) (later net.last (net.floor k) t) None
