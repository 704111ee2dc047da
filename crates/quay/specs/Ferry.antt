-- A ferry's timetable that can be joined to the Quay book.
use Rattle.std.specs.Prelude.{ℕ, List, [], ◌∷◌, ◌++◌, Option}
use Rattle.network.specs.Meaning.{Meaning}
use Rattle.refusals.specs.declared.fault.Fault.{Fault}
use Rattle.records.specs.declared.kind.Kind.TheVariants.{Timetable}
use Rattle.records.specs.Contents.{book_in}
use Rattle.records.specs.Faults.{first_fault}
use Rattle.books.specs.Networks.{book_network}

-- A ferry from place 2 to place 3, which never takes less than 10 ticks, with three sailings.
abbrev ferry_header : List ℕ
ferry_header = 2 ∷ 3 ∷ 1 ∷ 3 ∷ 100 ∷ []

abbrev ferry_places : List ℕ
ferry_places = (0 ∷ 0 ∷ []) ++ (1 ∷ 0 ∷ []) ++ (0 ∷ 1 ∷ [])

abbrev ferry_links : List ℕ
ferry_links = 2 ∷ 3 ∷ 0 ∷ 0 ∷ 10 ∷ 1 ∷ []

abbrev ferry_points : List ℕ
ferry_points = (10 ∷ 40 ∷ 2 ∷ []) ++ (20 ∷ 30 ∷ 3 ∷ []) ++ (50 ∷ 70 ∷ 0 ∷ [])

abbrev pub ferry_words : List ℕ
ferry_words = ferry_header ++ ferry_places ++ ferry_links ++ ferry_points

abbrev pub ferry : Meaning
ferry = book_network (book_in Timetable ferry_words)

-- the first fault of its words, or none
abbrev pub ferry_fault : Option Fault
ferry_fault = first_fault Timetable ferry_words
