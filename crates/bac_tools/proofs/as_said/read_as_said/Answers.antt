use Rattle.std.proofs.Common.{inr}
use Rattle.bac_tools.proofs.as_said.read_as_said.Goals as goal

pub returns : goal.returns
returns g c = inr (rw (c.in_ok-object.ensures.ok, c.reals.ensures) at c.rp.ensures)
