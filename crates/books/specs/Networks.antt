-- What a book means as a network.
use Rattle.std.specs.Prelude.{ℕ, cond, List, None, Option, nat_le}
use Rattle.network.specs.Meaning.{Meaning}
use Rattle.records.specs.declared.kind.Kind.{Kind}
use Rattle.records.specs.declared.kind.Kind.TheVariants.{Road, Timetable}
use Rattle.records.specs.declared.layout.Point.{Point}
use Rattle.records.specs.Contents.{Contents, points_of}
use Rattle.books.specs.Roads.{road, road_back}
use Rattle.books.specs.Sailings.{sailing, sailing_back}

-- the arrival for a tick over a chain of points
abbrev pub arrival_by : Kind → List Point → ℕ → Option ℕ
arrival_by Road = road
arrival_by Timetable = sailing

-- the latest departure along a chain, as it is computed; that it is the latest is proved
abbrev pub back_by : Kind → List Point → ℕ → Option ℕ
back_by Road = road_back
back_by Timetable = sailing_back

abbrev pub book_network : Contents → Meaning
book_network b =
    record {
      places = b.header.places;
      links = b.header.links;
      last = b.header.last;
      tail = λ k. (b.link k).tail;
      head = λ k. (b.link k).head;
      floor = λ k. (b.link k).floor;
      arrival = λ k t. cond (nat_le t b.header.last) (arrival_by b.kind (points_of b k) t) None;
    }
