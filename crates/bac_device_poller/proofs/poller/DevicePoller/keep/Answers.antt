use Rattle.std.proofs.Common.{subst}
use Rattle.bac_device_poll.specs.Turns.{Turned, turned}
use Rattle.bac_device_poller.specs.Poller.{PollerAs, Settles}
use Rattle.bac_device_poller.proofs.poller.DevicePoller.keep.Goals as goal

pub returns : goal.returns
returns c =
    let t : Turned = turned c.take.new.self.poll c.in_ok-turn.turn in
    let S : PollerAs → Type 0 = λ p. Settles t p c.in_ok-puts.puts.items c.settle.new.self in
    (t, c.in_ok-turn.ensures.comes, subst S c.in_ok-turn.ensures.rest c.in_ok-puts.ensures)
