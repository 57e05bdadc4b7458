use Rattle.std.proofs.Common.{◌∙◌}
use Rattle.lot_text.proofs.NameLemmas.{spelled_is}
use Rattle.lot_text.proofs.names.Name.text.Goals as goal

pub returns : goal.returns
returns c = spelled_is c.self.inside.bytes c.len_of_name.result c.len_of_name.ensures.within
    c.len_of_name.ensures.before c.len_of_name.ensures.found ∙ c.self.view_is
