use Rattle.std.proofs.Common.{inr}
use Rattle.bac_keeper.proofs.stopping.stop_all.Goals as goal

pub returns-in-Ok : goal.returns-in-Ok
returns-in-Ok g c = inr (c.in-Ok.place, c.in-Ok.ensures.placed, c.place_of.new.files, c.in-Ok.ensures.untouched, c.stop_placed.ensures)
