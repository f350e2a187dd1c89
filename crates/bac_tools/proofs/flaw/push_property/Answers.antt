use Rattle.std.proofs.Common.{sym}
use Rattle.bac_tools.specs.Flaws.{reply_text}
use Rattle.bac_tools.proofs.flaw.push_property.Goals as goal

pub returns : goal.returns
unfolding reply_text
returns c = rw (sym c.from.ensures) c.push_around.ensures
