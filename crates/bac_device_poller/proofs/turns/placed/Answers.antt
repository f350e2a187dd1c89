use Rattle.std.proofs.Common.{Option, Some, map, option_map, subst, sym}
use Rattle.bac_row_ids.specs.declared.place.Place.{Place}
use Rattle.bac_poll.specs.Turns.{turned}
use Rattle.bac_device_poller.specs.Puts.{place_as, put_as}
use Rattle.bac_device_poller.specs.Turns.{IsPlaced}
use Rattle.bac_device_poller.proofs.turns.placed.Goals as goal

pub returns-in-Ok : goal.returns-in-Ok
returns-in-Ok c = λ p.
    subst (λ (o : Option Place). IsPlaced (option_map place_as o) (turned p c.args.turn.now) (Some (place_as c.in-Ok.behind)) (map put_as c.in-Ok.puts.items))
    (sym c.in-Some.is) (c.in-Ok.ensures p)
