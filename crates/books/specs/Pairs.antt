-- What opening a road book and a timetable as one gives.
use Rattle.std.specs.Prelude.{◌≡◌, ℕ, true, ◌↔◌, List, is_ok, IfOk, Some, None, Ok, Err, vec_items, Option, Result, Vec}
use Rattle.std.specs.declared.alloc.Global.{Global}
use Rattle.refusals.specs.declared.fault.Fault.{Fault}
use Rattle.refusals.specs.declared.joining.Misfit.{Misfit}
use Rattle.joined.specs.declared.Joined.{Joined}
use Rattle.joined.specs.Joined.{misfit}
use Rattle.records.specs.declared.kind.Kind.{Kind}
use Rattle.records.specs.declared.kind.Kind.TheVariants.{Road, Timetable}
use Rattle.records.specs.Contents.{book_in}
use Rattle.records.specs.Rules.{Obeys}
use Rattle.records.specs.Faults.{first_fault}
use Rattle.books.specs.declared.kinds.BookKind.{Ghosts}
use Rattle.books.specs.declared.book.Book.{Book}
use Rattle.books.specs.declared.pair.PairFault.{PairFault}
use Rattle.books.specs.declared.pair.PairFault.TheVariants.{Half, Joining}
use Rattle.books.specs.declared.pair.RefusedPair.{RefusedPair}
use Rattle.books.specs.Networks.{book_network}
use Rattle.books.specs.Opened.{open_book}

-- a fault of one half, else what comes after
abbrev pub half_fault : Kind → Option Fault → Option PairFault → Option PairFault
half_fault half None after = after
half_fault half (Some fault) after = Some (Half half fault)

abbrev pub joining_fault : Option Misfit → Option PairFault
joining_fault None = None
joining_fault (Some m) = Some (Joining m)

-- why the two networks that the words describe can't be joined, or none
abbrev pub words_misfit : List ℕ → List ℕ → Option Misfit
words_misfit roads ferries = misfit (book_network (book_in Road roads)) (book_network (book_in Timetable ferries))

-- the first fault: of the road book, of the timetable, of the joining
abbrev pub pair_fault : List ℕ → List ℕ → Option PairFault
pair_fault roads ferries =
    half_fault Road (first_fault Road roads)
    (half_fault Timetable (first_fault Timetable ferries)
    (joining_fault (words_misfit roads ferries)))

abbrev pub pair_fault_named : {K L : Type 0} {k : Ghosts K} {l : Ghosts L} → Result (Joined (Book K k) (Book L l)) RefusedPair → Option PairFault
pair_fault_named (Ok both) = None
pair_fault_named (Err refused) = Some refused.fault

-- the words of both, in the open books or handed back
abbrev pub pair_words_held : {K L : Type 0} {k : Ghosts K} {l : Ghosts L} → Result (Joined (Book K k) (Book L l)) RefusedPair → Vec ℕ Global × Vec ℕ Global
pair_words_held (Ok both) = (both.first.records.words, both.second.records.words)
pair_words_held (Err refused) = (refused.roads, refused.ferries)

pub record OpenedBoth {K L : Type 0} {k : Ghosts K} {l : Ghosts L} (roads ferries : Vec ℕ Global) (r : Result (Joined (Book K k) (Book L l)) RefusedPair) : Type 0 where
  pub accepted : (is_ok r ≡ true) ↔ (Obeys Road (vec_items roads) × Obeys Timetable (vec_items ferries) × (words_misfit (vec_items roads) (vec_items ferries) ≡ None))
  pub books : IfOk r (λ both. (open_book both.first ≡ book_in Road (vec_items roads)) × (open_book both.second ≡ book_in Timetable (vec_items ferries)))
  pub fault : pair_fault_named r ≡ pair_fault (vec_items roads) (vec_items ferries)
  pub words : pair_words_held r ≡ (roads, ferries)
