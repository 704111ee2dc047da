-- The Quay book: three places, four links, nine points, last tick 100; and what its definitions say of it.
use Rattle.std.specs.Prelude.{◌≡◌, ℕ, List, [], ◌∷◌, ◌++◌, map, Some, None}
use Rattle.network.specs.Meaning.{Meaning}
use Rattle.network.specs.Latest.{latest}
use Rattle.journeys.specs.Earliest.{earliest}
use Rattle.journeys.specs.Roads.{road_list}
use Rattle.journeys.specs.Turned.{turned, latest_start}
use Rattle.records.specs.declared.kind.Kind.TheVariants.{Road}
use Rattle.records.specs.Contents.{book_in}
use Rattle.books.specs.Networks.{book_network}
use Rattle.layers.specs.Retimed.{over}
use Rattle.notices.specs.Closures.{closed}
use Rattle.notices.specs.Delays.{delayed}
use Rattle.records.specs.Faults.{first_fault}
use Rattle.quay.specs.Ferry.{ferry, ferry_fault}

abbrev header : List ℕ
header = 1 ∷ 3 ∷ 4 ∷ 9 ∷ 100 ∷ []

-- first out-link, first in-link
abbrev places : List ℕ
places = (1 ∷ 0 ∷ []) ++ (2 ∷ 1 ∷ []) ++ (0 ∷ 2 ∷ [])

-- tail, head, next out-link, next in-link, floor, first point
abbrev links : List ℕ
links = (1 ∷ 2 ∷ 3 ∷ 0 ∷ 5 ∷ 1 ∷ []) ++ (2 ∷ 3 ∷ 0 ∷ 3 ∷ 5 ∷ 4 ∷ []) ++ (1 ∷ 3 ∷ 4 ∷ 4 ∷ 20 ∷ 6 ∷ []) ++ (1 ∷ 3 ∷ 0 ∷ 0 ∷ 20 ∷ 8 ∷ [])

-- departure, arrival, next point
abbrev points : List ℕ
points =
    (0 ∷ 10 ∷ 2 ∷ []) ++ (10 ∷ 15 ∷ 3 ∷ []) ++ (20 ∷ 40 ∷ 0 ∷ [])
    ++ (0 ∷ 20 ∷ 5 ∷ []) ++ (30 ∷ 40 ∷ 0 ∷ [])
    ++ (0 ∷ 30 ∷ 7 ∷ []) ++ (40 ∷ 60 ∷ 0 ∷ [])
    ++ (0 ∷ 26 ∷ 9 ∷ []) ++ (40 ∷ 60 ∷ 0 ∷ [])

abbrev pub quay_words : List ℕ
quay_words = header ++ places ++ links ++ points

abbrev pub quay : Meaning
quay = book_network (book_in Road quay_words)

-- the Quay network with link 1 shut from 0 to 5
abbrev pub quay_shut : Meaning
quay_shut = over (closed (record { link = 1; from = 0; until = 5 } ∷ [])) quay

-- the Quay network with a delay of 7 on link 2
abbrev pub quay_delayed : Meaning
quay_delayed = over (delayed (record { link = 2; ticks = 7 } ∷ [])) quay

-- The rows of the worked example.
pub record Rows : Type 0 where
  pub accepted : first_fault Road quay_words ≡ None
  pub link_1 : map (quay.arrival 1) (0 ∷ 9 ∷ 13 ∷ 20 ∷ 21 ∷ []) ≡ Some 10 ∷ Some 14 ∷ Some 22 ∷ Some 40 ∷ None ∷ []
  pub latest_1 : map (latest quay 1) (9 ∷ 10 ∷ 14 ∷ 15 ∷ 39 ∷ 40 ∷ []) ≡ None ∷ Some 1 ∷ Some 9 ∷ Some 10 ∷ Some 19 ∷ Some 20 ∷ []
  pub turned_1 : map ((turned quay).arrival 1) (60 ∷ 86 ∷ 90 ∷ 91 ∷ []) ≡ Some 80 ∷ Some 91 ∷ Some 99 ∷ None ∷ []
  -- from place 1 to place 3: the earliest arrivals for departures at these ticks, and the road lists
  pub arrivals : map (λ t. earliest quay 1 t 3) (0 ∷ 20 ∷ 24 ∷ 40 ∷ 41 ∷ []) ≡ Some 26 ∷ Some 43 ∷ Some 46 ∷ Some 60 ∷ None ∷ []
  pub roads : map (λ t. road_list quay 1 t 3) (0 ∷ 20 ∷ 24 ∷ 40 ∷ []) ≡ (1 ∷ 2 ∷ []) ∷ (4 ∷ []) ∷ (4 ∷ []) ∷ (3 ∷ []) ∷ []
  -- the latest departure from place 1 to be at place 3 by 45
  pub departure : latest_start quay 1 3 45 ≡ Some 23
  -- who is there already
  pub at_home : earliest quay 1 100 1 ≡ Some 100
  -- with link 1 shut from 0 to 5
  pub shut : quay_shut.arrival 1 0 ≡ Some 12
  pub shut_latest : latest quay_shut 1 10 ≡ None
  -- with a delay of 7 on link 2, from place 1 at 0 to place 3
  pub delayed : earliest quay_delayed 1 0 3 ≡ Some 26
  pub delayed_roads : road_list quay_delayed 1 0 3 ≡ 4 ∷ []
  -- the ferry
  pub ferry_accepted : ferry_fault ≡ None
  pub sailings : map (ferry.arrival 1) (0 ∷ 21 ∷ 51 ∷ []) ≡ Some 30 ∷ Some 70 ∷ None ∷ []
  pub latest_sailings : map (latest ferry 1) (29 ∷ 40 ∷ []) ≡ None ∷ Some 20 ∷ []
