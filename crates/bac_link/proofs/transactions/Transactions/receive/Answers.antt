use Rattle.std.proofs.Common.{refl}
use Rattle.bac_link.proofs.Datagrams.{not_awaited}
use Rattle.bac_link.proofs.transactions.Transactions.receive.Goals as goal

pub returns-in-None : goal.returns-in-None
returns-in-None c = (not_awaited c.args.self.now.pending c.args.datagram.now c.in-None.ensures, refl)
