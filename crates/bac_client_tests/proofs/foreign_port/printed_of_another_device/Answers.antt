use Rattle.std.proofs.Common.{ap}
use Rattle.bac_link.specs.declared.transactions.Transactions.{Transactions}
use Rattle.bac_ports.specs.declared.udp_link.UdpLink.{UdpLink}
use Rattle.bac_client_tests.proofs.ForeignPort.{PortAsks, port_is_honest, prints_held}
use Rattle.bac_client_tests.specs.ForeignPort.{moments_at}
use Rattle.bac_client_tests.specs.declared.foreign_port.ForeignPort.{ForeignPort}
use Rattle.bac_client_tests.proofs.foreign_port.printed_of_another_device.Goals as goal

pub returns : goal.returns
returns g c =
    prints_held (λ old octets answer new. PortAsks (λ (port : ForeignPort). port.question) old octets answer new) (λ (link : UdpLink ForeignPort). moments_at link.peer) c.new-link.result c.fetch_log_ahead.new.link c.new-transactions.result c.fetch_log_ahead.new.transactions
    c.in_ok-walk.walk c.args.log c.args.steps c.fetch_log_ahead.result (g.W.Write.contents c.args.out.now) (g.W.Write.contents c.fetch_log_ahead.new.out)
    (c.honest_is_delivered.ensures.told (λ (link : UdpLink ForeignPort). moments_at link.peer)) c.transacted_is_brought.ensures (λ low. port_is_honest (λ (port : ForeignPort). port.question) low)
    (ap moments_at c.new-link.ensures.peer) (ap (λ (t : Transactions). t.route) c.new-transactions.ensures) c.in_ok-walk.ensures.some c.fetch_log_ahead.ensures.came
