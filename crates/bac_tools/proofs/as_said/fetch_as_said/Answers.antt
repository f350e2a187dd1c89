use Rattle.std.proofs.Common.{inr}
use Rattle.bac_tools.proofs.as_said.fetch_as_said.Goals as goal

pub returns-clause-fetches : goal.returns-clause-fetches
returns-clause-fetches g c =
    inr (rw (c.in_ok-walk.ensures.ok) at c.log.ensures.fetches)
