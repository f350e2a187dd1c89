use Rattle.bac_memory_link.proofs.Ahead.{ahead_new}
use Rattle.bac_memory_link.proofs.direct_link.DirectLink.new.Goals as goal

pub returns-clause-ours : goal.returns-clause-ours
returns-clause-ours c = λ n rounds there. ahead_new rounds c.args.device.now c.args.events.now n c.clock-clock.ensures.sound there
