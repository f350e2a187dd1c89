use Rattle.std.proofs.Common.{refl}
use Rattle.bac_laws.proofs.each_tool.sockets_can_be_captured.Goals as goal

pub returns : goal.returns
returns c = (
  record {
    sockets = λ sockets. sockets;
    port = λ port. port;
    opens = λ old new address wait answer is. is;
    sends = λ old new octets to answer is. is;
    receives = λ old new answer is. is;
    waits = λ old new ms answer is. is;
    closes = λ old new last is. is;
    traced = λ old new on is. is;
  },
  λ sockets. refl,
)
