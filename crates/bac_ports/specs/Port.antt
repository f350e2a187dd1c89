-- What sockets and ports answer.
use Rattle.std.specs.Prelude.{Result}
use Rattle.bac_ports.specs.declared.port.Heard.{Heard}
use Rattle.bac_ports.specs.declared.port.OpenFault.{OpenFault}
use Rattle.bac_ports.specs.declared.port.SocketFault.{SocketFault}

-- to an open
abbrev pub Opening : Type 0 → Type 0
Opening P = Result P OpenFault

-- to a send
abbrev pub Sending : Type 0
Sending = Result (Unit {0}) SocketFault

-- to a receive
abbrev pub Receiving : Type 0
Receiving = Result Heard SocketFault
