use Rattle.std.proofs.Common.{ap, ◌∙◌}
use Rattle.records.specs.declared.layout.Link.{Link}
use Rattle.books.specs.Opened.{open_book}
use Rattle.books.specs.Sound.{sound, out_next}
use Rattle.books.proofs.net.BookNetwork.next_out.Goals as goal

pub returns : goal.returns
returns g c = ap (λ (x : Link). x.next_out) c.link.ensures ∙ out_next (open_book c.args.self.now) (sound c.args.self.now) c.args.link
