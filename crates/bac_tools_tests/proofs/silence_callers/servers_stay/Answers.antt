use Rattle.bac_ports.specs.Sockets.{socket_rules}
use Rattle.bac_tools_tests.proofs.Silence.{stays}
use Rattle.bac_tools_tests.proofs.silence_callers.servers_stay.Goals as goal

pub returns : goal.returns
returns g c = λ served fault old new. stays (socket_rules g.S.Sockets.opens g.S.Sockets.closes g.S.Socket.Port.sends g.S.Socket.Port.receives g.S.Socket.Port.receives_within) g.C.Clock.tells served fault old new
