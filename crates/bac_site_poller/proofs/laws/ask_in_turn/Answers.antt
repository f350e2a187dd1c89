use Rattle.bac_site_poller.proofs.InTurn.{ask_in_turn}
use Rattle.bac_site_poller.proofs.laws.ask_in_turn.Goals as goal

pub returns : goal.returns
returns c = ask_in_turn
