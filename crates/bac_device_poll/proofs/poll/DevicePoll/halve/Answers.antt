use Rattle.bac_device_poll.proofs.Asked.{asked}
use Rattle.bac_device_poll.proofs.poll.DevicePoll.halve.Goals as goal

pub returns : goal.returns
returns c =
    rw (← c.self.view_is, c.count-self-inside.ensures, c.too_many.ensures)
    (asked _ _ _ (c.asks.ensures _) c.none.ensures)
