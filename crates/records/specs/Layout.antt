-- How a book lies in its words: a header of five, then two words a place, six a link and three a point.
use Rattle.std.specs.Prelude.{ℕ, ◌+◌, ◌-◌, ◌*◌, ◌≤◌, Bool, cond, ◌&&◌, List, nat_le, slice_index}
use Rattle.network.specs.Meaning.{Among, among}
use Rattle.records.specs.declared.kind.Kind.{Kind}
use Rattle.records.specs.declared.kind.Kind.TheVariants.{Road, Timetable}
use Rattle.records.specs.declared.layout.Header.{Header}
use Rattle.records.specs.declared.layout.Place.{Place}
use Rattle.records.specs.declared.layout.Link.{Link}
use Rattle.records.specs.declared.layout.Point.{Point}

-- the first word of a book of each kind
abbrev pub kind_number : Kind → ℕ
kind_number Road = 1
kind_number Timetable = 2

-- The header's five words: the kind, the numbers of places, links and points, and the last tick.
abbrev pub kind_in : List ℕ → ℕ
kind_in words = slice_index words 0

abbrev pub header_in : List ℕ → Header
header_in words = record { places = slice_index words 1; links = slice_index words 2; points = slice_index words 3; last = slice_index words 4 }

-- a header's numbers lie within the limits
pub record Within (h : Header) : Type 0 where
  pub places : Among h.places 1024
  pub links : h.links ≤ 4096
  pub points : h.points ≤ 16384
  pub last : Among h.last 604800

-- the same as a test
abbrev pub within : Header → Bool
within h = among h.places 1024 && nat_le h.links 4096 && nat_le h.points 16384 && among h.last 604800

-- how many words a book with this header has
abbrev pub size : Header → ℕ
size h = 5 + 2 * h.places + 6 * h.links + 3 * h.points

-- where the record with a number begins
abbrev pub place_start : ℕ → ℕ
place_start v = 5 + 2 * (v - 1)

abbrev pub link_start : Header → ℕ → ℕ
link_start h k = 5 + 2 * h.places + 6 * (k - 1)

abbrev pub point_start : Header → ℕ → ℕ
point_start h i = 5 + 2 * h.places + 6 * h.links + 3 * (i - 1)

-- A record that isn't there is all zero.
abbrev pub no_place : Place
no_place = record { first_out = 0; first_in = 0 }

abbrev pub no_link : Link
no_link = record { tail = 0; head = 0; next_out = 0; next_in = 0; floor = 0; first_point = 0 }

abbrev pub no_point : Point
no_point = record { departure = 0; arrival = 0; next = 0 }

unfoldable pub place_at : Header → List ℕ → ℕ → Place
place_at h words v =
    cond (among v h.places)
    (record { first_out = slice_index words (place_start v); first_in = slice_index words (place_start v + 1) })
    no_place

unfoldable pub link_at : Header → List ℕ → ℕ → Link
link_at h words k =
    cond (among k h.links)
    (record {
      tail = slice_index words (link_start h k);
      head = slice_index words (link_start h k + 1);
      next_out = slice_index words (link_start h k + 2);
      next_in = slice_index words (link_start h k + 3);
      floor = slice_index words (link_start h k + 4);
      first_point = slice_index words (link_start h k + 5);
    })
    no_link

unfoldable pub point_at : Header → List ℕ → ℕ → Point
point_at h words i =
    cond (among i h.points)
    (record { departure = slice_index words (point_start h i); arrival = slice_index words (point_start h i + 1); next = slice_index words (point_start h i + 2) })
    no_point
