use Rattle.std.proofs.Common.{Option, Some, subst}
use Rattle.bac_poll.specs.Turns.{turned}
use Rattle.bac_device_poller.specs.Entries.{RowsAs, without}
use Rattle.bac_device_poller.specs.Rows.{LogAs}
use Rattle.bac_device_poller.specs.Turns.{TakesOf}
use Rattle.bac_device_poller.proofs.rows.Rows.turn_of.Goals as goal

pub returns-in_ok-take_turn-in-Some : goal.returns-in_ok-take_turn-in-Some
returns-in_ok-take_turn-in-Some c =
    let polled = c.args.polled.now in
    let t = turned polled.poll c.args.turn.now in
    subst (λ (o : Option LogAs). TakesOf o polled.left (without polled.log c.args.self.now) t c.take_turn.new.self) c.in-Some.ensures.log
    (subst (λ (r : RowsAs). TakesOf (Some c.in-Some.held) polled.left r t c.take_turn.new.self) c.in-Some.ensures.others c.in_ok-take_turn-in-Some.ensures)
