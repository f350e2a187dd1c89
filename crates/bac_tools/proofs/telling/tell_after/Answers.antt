use Rattle.std.proofs.Common.{inr}
use Rattle.bac_tools.specs.Texts.{fault_text}
use Rattle.bac_tools.proofs.telling.tell_after.Goals as goal

pub returns-in-Err : goal.returns-in-Err
unfolding fault_text
returns-in-Err g c = inr (c.status.ensures, c.say-in-Err.ensures)
