use Rattle.bac_socket_notes.proofs.Events.{strays}
use Rattle.bac_socket_notes.proofs.laws.strays_came.Goals as goal

pub returns : goal.returns
returns c = strays
