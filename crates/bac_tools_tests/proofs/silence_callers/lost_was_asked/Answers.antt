use Rattle.bac_ports.specs.Sockets.{socket_rules}
use Rattle.bac_tools_tests.proofs.Silence.{lost}
use Rattle.bac_tools_tests.proofs.silence_callers.lost_was_asked.Goals as goal

pub returns : goal.returns
returns g c = lost (socket_rules g.S.Sockets.opens g.S.Sockets.closes g.S.Socket.Port.sends g.S.Socket.Port.receives g.S.Socket.Port.receives_within) g.C.Clock.tells
