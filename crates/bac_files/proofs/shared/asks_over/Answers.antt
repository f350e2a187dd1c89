use Rattle.std.proofs.Common.{◌+◌, ◌≤◌}
use Rattle.bac_ports.specs.Sockets.{socket_rules}
use Rattle.bac_files.specs.declared.shared.Database.{Database}
use Rattle.bac_files.proofs.WaitLemmas.{asks_bounded}
use Rattle.bac_files.proofs.shared.asks_over.Goals as goal

pub returns : goal.returns
returns g c =
    asks_bounded (λ old answer new. new.asked ≤ old.asked + 1)
    (socket_rules g.S.Sockets.opens g.S.Sockets.closes g.S.Socket.Port.sends g.S.Socket.Port.receives g.S.Socket.Port.receives_within)
    (λ (file : Database). file.asked) (λ old answer new it. it) c.args.seconds
    c.args.file.now c.args.sockets.now c.stays_in_use.result c.stays_in_use.new.file c.stays_in_use.new.sockets c.stays_in_use.ensures
