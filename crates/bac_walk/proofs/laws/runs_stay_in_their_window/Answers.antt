use Rattle.bac_walk.proofs.Window.{stays_in_window}
use Rattle.bac_walk.proofs.laws.runs_stay_in_their_window.Goals as goal

pub returns : goal.returns
returns c = stays_in_window
