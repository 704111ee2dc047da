use Rattle.std.proofs.Common.{sym, ap, ◌∙◌}
use Rattle.records.specs.declared.kind.Kind.{Kind}
use Rattle.records.specs.Contents.{unnumbered, points_of}
use Rattle.books.specs.Networks.{back_by}
use Rattle.books.specs.Opened.{open_book}
use Rattle.books.specs.Sound.{sound, latest_back}
use Rattle.books.proofs.net.BookNetwork.latest_departure.Goals as goal

pub returns : goal.returns
returns g c =
    let b = open_book c.args.self.now in
    c.latest_departure.ensures
    ∙ (ap (λ ps. back_by g.K.BookKind.kind ps c.args.tick) (ap unnumbered c.chain.ensures)
    ∙ (ap (λ (kind : Kind). back_by kind (points_of b c.args.link) c.args.tick) (sym c.args.self.now.of_kind)
    ∙ latest_back b (sound c.args.self.now) c.args.link c.args.tick c.if-tick-self.false))
