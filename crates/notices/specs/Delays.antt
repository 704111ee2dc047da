-- Links whose arrivals are later.
use Rattle.std.specs.Prelude.{ℕ, Bool, List, Some, None, Option, unwrap_or, option_map, ◌==◌}
use Rattle.network.specs.Meaning.{Meaning}
use Rattle.layers.specs.Retimed.{Arrivals, later}
use Rattle.notices.specs.declared.notice.Delay.{Delay}
use Rattle.std.specs.List.{find}

-- whether a delay is on link k
abbrev pub on_link : ℕ → Delay → Bool
on_link k d = d.link == k

-- the ticks of a delay, 0 where there is none
abbrev pub ticks_of : Option Delay → ℕ
ticks_of delay = unwrap_or (option_map (λ d. d.ticks) delay) 0

-- the ticks of the delay on link k
abbrev pub delay_on : ℕ → List Delay → ℕ
delay_on k ds = ticks_of (find (on_link k) ds)

-- an arrival that comes `by` ticks later, none above the last tick
abbrev pub late : ℕ → ℕ → Option ℕ → Option ℕ
late last by None = None
late last by (Some a) = later last by a

-- the arrivals under delays
abbrev pub delayed : List Delay → Meaning → Arrivals
delayed ds net k t = late net.last (delay_on k ds) (net.arrival k t)
