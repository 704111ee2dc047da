-- What opening a book gives.
use Rattle.std.specs.Prelude.{ℕ, Some, None, Ok, Err, Option, Result, Vec}
use Rattle.std.specs.declared.alloc.Global.{Global}
use Rattle.refusals.specs.declared.fault.Fault.{Fault}
use Rattle.records.specs.declared.refused.Refused.{Refused}
use Rattle.books.specs.declared.kinds.BookKind.{Ghosts}
use Rattle.books.specs.declared.book.Book.{Book}
use Rattle.records.specs.Contents.{Contents}
use Rattle.records.specs.Reading.{book_of}

-- the book that is open
abbrev pub open_book : {K : Type 0} {kind : Ghosts K} → Book K kind → Contents
open_book b = book_of b.records

-- the fault that is named, or none
abbrev pub fault_named : {K : Type 0} {kind : Ghosts K} → Result (Book K kind) Refused → Option Fault
fault_named (Ok b) = None
fault_named (Err e) = Some e.fault

-- the words, in the open book or handed back
abbrev pub words_held : {K : Type 0} {kind : Ghosts K} → Result (Book K kind) Refused → Vec ℕ Global
words_held (Ok b) = b.records.words
words_held (Err e) = e.words
