use Rattle.std.proofs.Common.{◌≡◌, ◌∙◌, fold, rules}
use Rattle.marks.proofs.Leads.{more, fold_is_lead}
use Rattle.marks.proofs.marks.Marks.lead.Goals as goal

pub returns : goal.returns
returns c =
    let most : c.fold.result ≡ fold (more c.args.to c.args.from) 0 c.args.self.now = search rules in
    most ∙ fold_is_lead c.args.to c.args.from c.args.self.now
