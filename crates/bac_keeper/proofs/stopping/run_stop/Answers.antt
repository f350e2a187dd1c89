use Rattle.std.proofs.Common.{inr, sym}
use Rattle.bac_keeper.proofs.stopping.run_stop.Goals as goal

pub returns-in-Ok : goal.returns-in-Ok
returns-in-Ok g c = inr (c.in-Ok.named.items, c.in-Ok.ensures, rw (sym c.as_str.ensures) c.stop_all.ensures)
