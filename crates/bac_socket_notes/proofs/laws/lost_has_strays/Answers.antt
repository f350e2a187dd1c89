use Rattle.bac_socket_notes.proofs.Lost.{lost_strays}
use Rattle.bac_socket_notes.proofs.laws.lost_has_strays.Goals as goal

pub returns : goal.returns
returns g c = lost_strays _ _ _
