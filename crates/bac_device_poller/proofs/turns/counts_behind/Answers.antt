use Rattle.std.proofs.Common.{◌∙◌, Option, ap, sym, option_map}
use Rattle.bac_row_ids.specs.declared.place.Place.{Place}
use Rattle.bac_poll.specs.Turns.{turned}
use Rattle.bac_device_poller.specs.Puts.{place_as}
use Rattle.bac_device_poller.specs.Turns.{counts_behind}
use Rattle.bac_device_poller.proofs.turns.counts_behind.Goals as goal

pub returns-in-Some : goal.returns-in-Some
returns-in-Some c = λ p.
    c.with_turn.ensures p
    ∙ sym (ap (λ (o : Option Place). counts_behind (option_map place_as o) (turned p c.args.turn.now) c.args.kept) c.in-Some.is)
