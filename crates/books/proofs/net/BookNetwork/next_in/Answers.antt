use Rattle.std.proofs.Common.{ap, ◌∙◌}
use Rattle.records.specs.declared.layout.Link.{Link}
use Rattle.books.specs.Opened.{open_book}
use Rattle.books.specs.Sound.{sound, in_next}
use Rattle.books.proofs.net.BookNetwork.next_in.Goals as goal

pub returns : goal.returns
returns g c = ap (λ (x : Link). x.next_in) c.link.ensures ∙ in_next (open_book c.args.self.now) (sound c.args.self.now) c.args.link
