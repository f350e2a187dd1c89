use Rattle.bac_link.proofs.Delivers.{each_once}
use Rattle.bac_link.proofs.laws.delivers_each_once.Goals as goal

pub returns : goal.returns
returns c = each_once
