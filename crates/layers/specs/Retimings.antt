-- A network with other arrivals keeps the laws if its arrivals do.
use Rattle.network.specs.Meaning.{Meaning}
use Rattle.network.specs.Laws.{Laws}
use Rattle.layers.specs.Retimed.{Arrivals, over, LawfulArrivals}

pub over_laws : (net : Meaning) → Laws net → (retiming : Meaning → Arrivals) → LawfulArrivals net (retiming net) → Laws (over retiming net)
over_laws net law retiming timed = record {
  places = law.places;
  links = law.links;
  last = law.last;
  tail = law.tail;
  head = law.head;
  floor = law.floor;
  arrival = timed.arrival;
  fifo = timed.fifo;
  no_link = λ k n. let gone = law.no_link k n in record { tail = gone.tail; head = gone.head; floor = gone.floor; arrival = λ t. timed.no_link k t n };
  no_tick = timed.no_tick;
}
