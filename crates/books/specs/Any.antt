-- What a book of either kind is, once it is open.
use Rattle.std.specs.Prelude.{ℕ, Some, None, Ok, Err, Option, Result, Vec}
use Rattle.std.specs.declared.alloc.Global.{Global}
use Rattle.network.specs.Laws.{Laws}
use Rattle.refusals.specs.declared.fault.Fault.{Fault}
use Rattle.records.specs.declared.refused.Refused.{Refused}
use Rattle.records.specs.Contents.{Contents}
use Rattle.books.specs.declared.any.AnyBook.{AnyBook}
use Rattle.books.specs.declared.any.AnyBook.TheVariants.{Roads, Sailings}
use Rattle.books.specs.Networks.{book_network}
use Rattle.books.specs.Opened.{open_book}
use Rattle.books.specs.Sound.{sound, laws}

-- the book that is open
abbrev pub any_open : AnyBook → Contents
any_open (Roads b) = open_book b
any_open (Sailings b) = open_book b

-- the fault that is named, or none
abbrev pub any_fault_named : Result AnyBook Refused → Option Fault
any_fault_named (Ok b) = None
any_fault_named (Err e) = Some e.fault

-- the words, in the open book or handed back
abbrev pub any_words_held : Result AnyBook Refused → Vec ℕ Global
any_words_held (Ok (Roads b)) = b.records.words
any_words_held (Ok (Sailings b)) = b.records.words
any_words_held (Err e) = e.words

pub any_lawful : (b : AnyBook) → Laws (book_network (any_open b))
any_lawful (Roads b) = laws (open_book b) (sound b)
any_lawful (Sailings b) = laws (open_book b) (sound b)
