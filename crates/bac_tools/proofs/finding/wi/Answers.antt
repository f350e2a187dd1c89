use Rattle.std.proofs.Common.{Ok}
use Rattle.bac_tools.proofs.finding.wi.Goals as goal

pub returns-in-Ok : goal.returns-in-Ok
returns-in-Ok g c =
    rw c.in-Input.is (Ok c.in-Ok.addresses, c.in-Ok.ensures, rw c.search_of-search.ensures at c.search_for-in-Ok.ensures)
