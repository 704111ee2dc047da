-- Which fault of a book is named: the first in the order of the checks.
use Rattle.std.specs.Prelude.{ℕ, zero, suc, ◌+◌, Bool, true, cond, ◌&&◌, ◌||◌, List, [], ◌∷◌, length, Some, None, Option, ◌==◌, nat_le, nat_lt}
use Rattle.network.specs.Meaning.{among}
use Rattle.records.specs.declared.kind.Kind.{Kind as BookKind}
use Rattle.records.specs.declared.kind.Kind.TheVariants.{Road, Timetable}
use Rattle.records.specs.declared.layout.Header.{Header}
use Rattle.records.specs.declared.layout.Link.{Link}
use Rattle.records.specs.declared.layout.Point.{Point}
use Rattle.records.specs.declared.layout.End.TheVariants.{Tail, Head}
use Rattle.refusals.specs.declared.fault.Cause.{Cause}
use Rattle.refusals.specs.declared.fault.Cause.TheVariants.{Length, Kind, Limits, Chain, Ends, Floor, PointIndex, Time, Order}
use Rattle.refusals.specs.declared.fault.Record.{Record}
use Rattle.refusals.specs.declared.fault.Record.TheVariants.{Header as of_header, Place as of_place, Link as of_link, Point as of_point}
use Rattle.refusals.specs.declared.fault.Fault.{Fault}
use Rattle.records.specs.declared.checks.Check.{Check}
use Rattle.records.specs.declared.checks.Check.TheVariants.{Links, Points, PlaceChains, LinkChains, Times}
use Rattle.records.specs.Layout.{kind_number, kind_in, header_in, within, size}
use Rattle.records.specs.Contents.{Contents, book_in, chain_of, lowest_after}

-- this fault, unless the test holds; then what comes after
abbrev pub unless : Bool → Cause → Record → Option Fault → Option Fault
unless holds cause at after = cond holds after (Some (record { cause = cause; at = at }))

-- the first fault of two
abbrev pub or_else : Option Fault → Option Fault → Option Fault
or_else None after = after
or_else (Some f) after = Some f

-- the first fault of `count` records, the first of which has number k
abbrev pub first_from : (ℕ → Option Fault) → ℕ → ℕ → Option Fault
first_from fault k zero = None
first_from fault k (suc count) = or_else (fault k) (first_from fault (suc k) count)

-- the first fault of the records 1 to n
abbrev pub first_of : (ℕ → Option Fault) → ℕ → Option Fault
first_of fault n = first_from fault 1 n

-- the header's five words
unfoldable pub header_fault : BookKind → List ℕ → Option Fault
header_fault kind words =
    unless (nat_le 5 (length words)) Length of_header
    (unless (kind_in words == kind_number kind) Kind of_header
    (unless (within (header_in words)) Limits of_header None))

-- the number of all words
unfoldable pub size_fault : List ℕ → Option Fault
size_fault words = unless (length words == size (header_in words)) Length of_header None

-- a link by itself: its ends, its floor, its first point
abbrev pub link_fault : Header → ℕ → Link → Option Fault
link_fault h k link =
    unless (among link.tail h.places && among link.head h.places) Ends (of_link k)
    (unless (among link.floor h.last) Floor (of_link k)
    (unless (among link.first_point h.points) PointIndex (of_link k) None))

-- a point by itself: its next point is zero, or above its own number and at most the number of points
abbrev pub point_fault : Header → ℕ → Point → Option Fault
point_fault h i p = unless ((p.next == 0 || nat_lt i p.next) && nat_le p.next h.points) PointIndex (of_point i) None

-- the first links out of a place and into it
abbrev pub place_chain_fault : Contents → ℕ → Option Fault
place_chain_fault b v = unless ((b.place v).first_out == lowest_after b Tail v 0 && (b.place v).first_in == lowest_after b Head v 0) Chain (of_place v) None

-- the next links with the same tail and with the same head
abbrev pub link_chain_fault : Contents → ℕ → Option Fault
link_chain_fault b k = unless ((b.link k).next_out == lowest_after b Tail (b.link k).tail k && (b.link k).next_in == lowest_after b Head (b.link k).head k) Chain (of_link k) None

-- a point's times suit the floor and the last tick
abbrev pub timely : ℕ → ℕ → Point → Bool
timely floor last p = nat_le p.departure last && nat_le p.arrival last && nat_le (p.departure + floor) p.arrival

-- on a road a point departs after the one before, if there is one, and arrives no earlier; a sailing may follow any other
abbrev pub follows : BookKind → Option Point → Point → Bool
follows Road None q = true
follows Road (Some p) q = nat_lt p.departure q.departure && nat_le p.arrival q.arrival
follows Timetable before q = true

-- at each point of link k's chain in turn, its times and then its order
abbrev pub walk_fault : Contents → ℕ → Option Point → List (ℕ × Point) → Option Fault
walk_fault b k before [] = None
walk_fault b k before ((i, p) ∷ rest) =
    unless (timely (b.link k).floor b.header.last p) (Time k) (of_point i)
    (unless (follows b.kind before p) (Order k) (of_point i)
    (walk_fault b k (Some p) rest))

abbrev pub times_fault : Contents → ℕ → Option Fault
times_fault b k = walk_fault b k None (chain_of b k)

-- what one check says of the record with a number
unfoldable pub fault_by : Contents → Check → ℕ → Option Fault
fault_by b Links k = link_fault b.header k (b.link k)
fault_by b Points i = point_fault b.header i (b.point i)
fault_by b PlaceChains v = place_chain_fault b v
fault_by b LinkChains k = link_chain_fault b k
fault_by b Times k = times_fault b k

-- how many records it looks at
abbrev pub count_for : Header → Check → ℕ
count_for h Links = h.links
count_for h Points = h.points
count_for h PlaceChains = h.places
count_for h LinkChains = h.links
count_for h Times = h.links

-- the first fault by these checks, one after the other
abbrev pub first_by : Contents → List Check → Option Fault
first_by b [] = None
first_by b (c ∷ cs) = or_else (first_of (fault_by b c) (count_for b.header c)) (first_by b cs)

-- the order of the checks of a book's records
abbrev pub all_checks : List Check
all_checks = Links ∷ Points ∷ PlaceChains ∷ LinkChains ∷ Times ∷ []

-- The first fault of words read as a book of this kind.
unfoldable pub first_fault : BookKind → List ℕ → Option Fault
first_fault kind words = or_else (header_fault kind words) (or_else (size_fault words) (first_by (book_in kind words) all_checks))
