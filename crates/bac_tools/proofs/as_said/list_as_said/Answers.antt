use Rattle.std.proofs.Common.{inr}
use Rattle.bac_tools.proofs.as_said.list_as_said.Goals as goal

pub returns : goal.returns
returns g c =
    inr (rw (c.deref.ensures.value, c.in_ok-named.ensures.ok, c.as_slice.ensures) at c.logs.ensures)
