use Rattle.std.proofs.Common.{ap, ◌∙◌}
use Rattle.records.specs.declared.layout.Place.{Place}
use Rattle.books.specs.Opened.{open_book}
use Rattle.books.specs.Sound.{sound, in_first}
use Rattle.books.proofs.net.BookNetwork.first_in.Goals as goal

pub returns : goal.returns
returns g c = ap (λ (x : Place). x.first_in) c.place.ensures ∙ in_first (open_book c.args.self.now) (sound c.args.self.now) c.args.place
