-- What a search leaves as it is.
use Rattle.std.specs.Prelude.{◌≡◌}
use Rattle.network.specs.declared.Network.{Ghosts as NetworkGhosts}
use Rattle.queues.specs.declared.Queue.{Ghosts as QueueGhosts}
use Rattle.search.specs.declared.work.Search.{Search}

-- It works on the same network, estimate, queue and labels, and the queue's capacity stays.
abbrev pub Stays : {N E Q : Type 0} {network : NetworkGhosts N} {holds : QueueGhosts Q} → Search N E Q network holds → Search N E Q network holds → Type 0
Stays {holds = holds} s t = (t.net ≡ s.net) × (t.estimate ≡ s.estimate) × (t.queue.ghost_name ≡ s.queue.ghost_name) × (t.labels.ghost_name ≡ s.labels.ghost_name) × (holds.capacity t.queue.now ≡ holds.capacity s.queue.now)
